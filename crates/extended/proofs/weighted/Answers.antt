-- `extended::weighted` meets its contract: nothing wraps. Assumes nothing.
use native.Mathlib.Omega.{arith}
use Rattle.std.proofs.lemmas.Int.{ints}
use Rattle.model.specs.Verdicts.{weighted}
use Rattle.extended.proofs.weighted.Goals as goal

pub returns : goal.returns
unfolding weighted
returns c = (omega (arith, ints), omega (arith, ints))
