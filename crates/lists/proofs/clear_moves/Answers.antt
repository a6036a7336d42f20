-- `lists::clear_moves` meets its contract. Assumes nothing.
use mathlib.Core.Path.{refl}
use native.Mathlib.Omega.{arith}
use Rattle.lists.specs.Effects.{recounted}
use Rattle.lists.proofs.clear_moves.Goals as goal

pub returns : goal.returns
returns c =
    recounted _ _ _ _ c.told-part (omega arith) c.put.ensures refl
