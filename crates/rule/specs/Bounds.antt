-- A sound tally is within the bounds that the rules ask for. Assumes nothing.
use Rattle.std.specs.Prelude.{◌≤◌}
use Rattle.std.proofs.Common.{arith}
use Rattle.model.specs.declared.Tally.{Tally}
use Rattle.model.specs.Records.{max_samples}
use Rattle.model.specs.Tallies.{samples_of}
use Rattle.limits.specs.Bounds.{BoundedTally}
use Rattle.tally.specs.Sound.{Sound, sound_sums}

pub tally_bounded : (t : Tally) → Sound t → BoundedTally t
unfolding samples_of
tally_bounded t f =
    let n : samples_of t ≤ max_samples = f.samples in
    let u = f.urban in
    let r = f.rural in
    let m = f.motorway in
    let stops : t.stops ≤ samples_of t = f.stops in
    let over145 : t.over145 ≤ samples_of t = f.over145 in
    let sums = sound_sums t f in
    record {
      urban = record { samples = omega arith; distance = omega arith };
      rural = record { samples = omega arith; distance = omega arith };
      motorway = record { samples = omega arith; distance = omega arith };
      distance = omega arith;
      stops = omega arith;
      over145 = omega arith;
      nox = omega (arith, sums.0);
      extended = omega (arith, sums.1);
    }
