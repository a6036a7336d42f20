-- `co2_curve::curve` meets its contract. Assumes nothing.
use Rattle.std.proofs.Common.{arith, ◌∙◌}
use Rattle.co2_curve.specs.Sound.{sound_facts}
use Rattle.co2_curve.proofs.Tests.{curve_low, curve_high}
use Rattle.co2_curve.proofs.curve.Goals as goal

pub line-requires : goal.line-requires
line-requires c =
    let p = sound_facts _ c.args.r.sound in
    (c.requires, (p.low, (p.middle, omega arith)))

pub returns-then-w-from : goal.returns-then-w-from
returns-then-w-from c = (c.line.ensures.0 ∙ curve_low c.args.r.reference c.args.w (rw c.from.ensures at c.if-w-from.true), c.line.ensures.1)

pub line-requires-2 : goal.line-requires-2
line-requires-2 c =
    let p = sound_facts _ c.args.r.sound in
    (c.requires, (p.middle, (p.high, omega arith)))

pub returns : goal.returns
returns c = (c.line-2.ensures.0 ∙ curve_high c.args.r.reference c.args.w (rw c.from.ensures at c.if-w-from.false), c.line-2.ensures.1)
