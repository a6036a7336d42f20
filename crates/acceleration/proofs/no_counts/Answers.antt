-- `acceleration::no_counts` meets its contract. Assumes nothing.
use Rattle.std.proofs.Common.{of_calls, refl}
use Rattle.model.specs.PerClass.{per_class_is}
use Rattle.acceleration.proofs.no_counts.Goals as goal

pub returns : goal.returns
returns c =
    rw (per_class_is c.of-none.result (λ _. 0) (λ k. search (of_calls, c.of-none.ensures k))) refl
