-- `slots::put_le` meets its contract. Assumes nothing.
use native.Mathlib.Omega.{arith}
use Rattle.slots.specs.Effects.{written_le}
use Rattle.slots.proofs.put_le.Goals as goal

pub returns : goal.returns
returns c =
    written_le _ _ _ _ _ _ (omega arith) (rw c.place.ensures at c.put_le.ensures)
