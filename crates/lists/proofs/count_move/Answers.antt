-- `lists::count_move` meets its contract. Assumes nothing.
use native.Mathlib.Omega.{arith}
use Rattle.lists.specs.Effects.{recounted}
use Rattle.lists.proofs.count_move.Goals as goal

pub returns : goal.returns
returns c =
    recounted _ _ _ _ c.told-part (omega arith) c.put.ensures (omega arith)
