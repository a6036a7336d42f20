-- `power::count_samples` meets its contract: after i turns the counts are those of the first i seconds. Assumes nothing.
use Rattle.power.specs.Speeds.{speeds_of}
use Rattle.power.specs.Counts.{CountedTo}
use Rattle.power.proofs.count_samples.Given as goal

abbrev pub invariant-loop-i : goal.invariant-loop-i
invariant-loop-i l = CountedTo l.b (speeds_of l.speeds.bytes.now l.speeds.n) l.i l.k
