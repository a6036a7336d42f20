-- `acceleration::bound_of` meets its contract. Assumes nothing.
use native.Mathlib.Omega.{arith}
use mathlib.Core.Path.{refl}
use Rattle.acceleration.specs.Bound.{bound_none, bound_read}
use Rattle.acceleration.proofs.bound_of.Goals as goal

pub returns-then-limit-eq0 : goal.returns-then-limit-eq0
returns-then-limit-eq0 c =
    bound_none c.args.limit _ c.if-limit-eq0.true refl

pub returns : goal.returns
returns c =
    bound_read c.args.limit _ (omega arith) c.try_from.result c.try_from.ensures c.unwrap_or.ensures
