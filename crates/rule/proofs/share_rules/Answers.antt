-- `rule::share_rules` meets its contract. Assumes nothing.
use Rattle.std.proofs.Common.{of_calls}
use Rattle.model.specs.PerClass.{value_in, per_class_is}
use Rattle.rule.specs.TallyRules.{share_rule, distance_of}
use Rattle.rule.proofs.share_rules.Goals as goal

pub returns : goal.returns
returns c =
    let t = c.args.t.tally in
    let outside = per_class_is c.of-outside.result (λ k. share_rule k (value_in t.classes k) (distance_of t)) (λ k. search (of_calls, c.of-outside.ensures k)) in
    rw outside at c.bits.ensures
