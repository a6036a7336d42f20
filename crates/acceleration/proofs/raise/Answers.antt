-- `acceleration::raise` meets its contract, class by class. Assumes nothing.
use Prim.Native.Nat.{◌+◌}
use Rattle.std.proofs.Common.{of_calls}
use Rattle.model.specs.Numbers.{bit}
use Rattle.model.specs.PerClass.{value_in, per_class_is}
use Rattle.acceleration.specs.Sample.{raised}
use Rattle.acceleration.proofs.raise.Goals as goal

pub returns : goal.returns
unfolding raised
returns g c t e =
    per_class_is c.of.result (λ k. value_in c.args.k k + bit (t k)) (λ k. search (of_calls, c.of.ensures k, e k))
