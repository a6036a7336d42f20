-- `ordered::insert` meets its contract: the hole after the last value goes down to z's place. Assumes nothing.
use native.Mathlib.Omega.{arith}
use mir.Syntax.{w32}
use mir.ValLaws.{to_z-of_z}
use Rattle.laws.specs.Signed.{widened_is}
use Rattle.search.specs.Place.{placed_front}
use Rattle.ordered.proofs.Change.{inserted}
use Rattle.ordered.proofs.insert.Goals as goal

pub returns : goal.returns
returns c =
    let z = c.args.z in
    let at = placed_front _ _ _ _ (omega arith) (rw (c.from.ensures, widened_is z c.ranges.z) at c.place-p.ensures) in
    inserted _ _ _ z at _ c.move_hole.auto.store _ c.requires c.move_hole.ensures
    (rw (to_z-of_z w32 z c.ranges.z) at c.put.ensures)
