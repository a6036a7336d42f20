-- `taking::store` meets its contract. Assumes nothing.
use borrow.Author.Rules.{rules}
use mir.Syntax.{w16}
use mir.ValLaws.{to_z-of_z}
use Rattle.taking.proofs.Accepted.{taken}
use Rattle.taking.proofs.store.Goals as goal

pub returns : goal.returns
returns c =
    taken c.add_sample.ensures c.step_windows.ensures c.append_speed.ensures c.keep_altitude.ensures
    c.set_number.ensures (to_z-of_z w16 _ (search rules))
