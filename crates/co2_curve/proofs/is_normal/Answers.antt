-- `co2_curve::is_normal` meets its contract. Assumes nothing.
use Rattle.co2_curve.proofs.Tests.{normal_low}
use Rattle.co2_curve.proofs.is_normal.Goals as goal

pub returns-then-curve : goal.returns-then-curve
returns-then-curve c = normal_low c.args.r.reference c.args.w c.curve-curve.result c.curve-curve.ensures.0 c.args.w.co2 c.if-curve.true
