-- What keeps every product of the rules within its type: a class's tally and a tally. Assumes nothing.
use Rattle.std.specs.Prelude.{ℕ, ◌+◌, ◌*◌, ◌≤◌, nat_abs}
use Rattle.model.specs.declared.ClassTally.{ClassTally}
use Rattle.model.specs.declared.Tally.{Tally}
use Rattle.model.specs.Records.{max_samples, max_channel, units}
use Rattle.limits.specs.Table.{most_distance}

-- the most that U of a trip can be, or extended U, either way
abbrev pub most_nox : ℕ
most_nox = max_channel * max_samples

-- the tally of a class of a trip
pub record BoundedClass (t : ClassTally) : Type 0 where
  pub samples : t.samples ≤ max_samples
  pub distance : units t.distance ≤ most_distance

-- the tally of a trip
pub record BoundedTally (t : Tally) : Type 0 where
  pub urban : BoundedClass t.classes.urban
  pub rural : BoundedClass t.classes.rural
  pub motorway : BoundedClass t.classes.motorway
  pub distance : units t.classes.urban.distance + units t.classes.rural.distance + units t.classes.motorway.distance ≤ most_distance
  pub stops : t.stops ≤ max_samples
  pub over145 : t.over145 ≤ max_samples
  pub nox : nat_abs t.nox ≤ most_nox
  pub extended : nat_abs t.extended ≤ most_nox
