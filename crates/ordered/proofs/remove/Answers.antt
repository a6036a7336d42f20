-- `ordered::remove` meets its contract: the hole at the place of a z that is there goes up to the end. Assumes nothing.
use native.Mathlib.Omega.{arith}
use mir.Syntax.{w64}
use mir.ValLaws.{to_z-of_z}
use Rattle.search.specs.Place.{placed_front}
use Rattle.ordered.proofs.Change.{removed, present}
use Rattle.ordered.proofs.remove.Goals as goal

pub returns-then-p-m : goal.returns-then-p-m
returns-then-p-m c =
    let moved = c.move_hole in
    let at = placed_front _ _ _ _ c.requires.0 (rw (to_z-of_z w64 c.args.z c.ranges.z) at c.place-p.ensures) in
    removed _ _ _ _ at _ moved.auto.store c.requires.0 c.if-p-m.true moved.ensures

pub returns-else-p-m : goal.returns-else-p-m
returns-else-p-m c =
    let at = placed_front _ _ _ _ c.requires.0 (rw (to_z-of_z w64 c.args.z c.ranges.z) at c.place-p.ensures) in
    λ w i. absurd (omega (arith, present _ _ _ _ at w i))
