-- `slots::put_count_sum` meets its contract. Assumes nothing.
use native.Mathlib.Omega.{arith}
use mir.Syntax.{w64}
use mir.ValLaws.{to_z-of_z}
use Rattle.slots.specs.Effects.{totalled}
use Rattle.slots.proofs.put_count_sum.Goals as goal

pub returns : goal.returns
returns c =
    totalled _ _ _ _ _ _ c.told-part c.args.k.within (omega arith) c.ranges.sum c.put.ensures
    (rw (to_z-of_z w64 c.args.sum c.ranges.sum) at c.put-2.ensures)
