-- `rule::distance_rules` meets its contract. Assumes nothing.
use Rattle.std.proofs.Common.{of_calls}
use Rattle.model.specs.PerClass.{value_in, per_class_is}
use Rattle.rule.specs.TallyRules.{distance_rule}
use Rattle.rule.proofs.distance_rules.Goals as goal

pub returns : goal.returns
returns c =
    let short = per_class_is c.of-short.result (λ k. distance_rule (value_in c.args.t.classes k)) (λ k. search (of_calls, c.of-short.ensures k)) in
    rw short at c.bits.ensures
