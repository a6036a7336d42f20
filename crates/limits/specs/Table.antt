-- The figures of a class, in the order of the table's rows: the upper speed, the least and the most share in percent, and of each of the two
-- percentile lines factor, slope and intercept; and the largest of them, with the longest distance of a trip. Assumes nothing.
use Rattle.std.specs.Prelude.{◌≡◌, refl, [], ◌∷◌, ℕ, ◌*◌, ◌≤◌}
use Rattle.std.proofs.Common.{arith}
use Rattle.model.specs.declared.SpeedClass.{SpeedClass}
use Rattle.model.specs.declared.SpeedClass.TheVariants.{Urban, Rural, Motorway}
use Rattle.model.specs.Records.{max_samples, tenths}
use Rattle.limits.specs.declared.Line.{Line}
use Rattle.limits.specs.declared.Line.TheVariants.{Slow, Fast}
use Rattle.limits.specs.declared.Coefficients.{Coefficients}
use Rattle.limits.specs.declared.Row.{Row}

-- no class goes beyond 300 km/h
abbrev pub most_speed : ℕ
most_speed = 3000

-- the longest distance of a trip
abbrev pub most_distance : ℕ
most_distance = max_samples * most_speed

-- the largest coefficients of a percentile line
abbrev pub most_factor : ℕ
most_factor = 100000

abbrev pub most_slope : ℕ
most_slope = 742

abbrev pub most_intercept : ℕ
most_intercept = 1896600

-- a line of a class: its factor, slope and intercept, the same for each class
abbrev pub line_figures : Line → Coefficients
line_figures Slow = record { factor = 10000; slope = 136; intercept = 144400 }
line_figures Fast = record { factor = most_factor; slope = most_slope; intercept = most_intercept }

-- a class's row: the upper speed, the least and the most share, and the two lines
abbrev row : ℕ → ℕ → ℕ → Row
row upper low high = record {
  upper = record { 0 = upper };
  share = record { low = low; high = high };
  lines = line_figures Slow ∷ line_figures Fast ∷ [];
}

unfoldable pub row_of : SpeedClass → Row
row_of Urban = row 600 29 44
row_of Rural = row 900 23 43
row_of Motorway = row most_speed 23 43

pub row_lines : (c : SpeedClass) → (row_of c).lines ≡ line_figures Slow ∷ line_figures Fast ∷ []
unfolding row_of
row_lines Urban = refl
row_lines Rural = refl
row_lines Motorway = refl

abbrev pub upper : SpeedClass → ℕ
upper c = tenths (row_of c).upper

abbrev pub share_low : SpeedClass → ℕ
share_low c = (row_of c).share.low

abbrev pub share_high : SpeedClass → ℕ
share_high c = (row_of c).share.high

unfoldable pub coefficients_of : SpeedClass → Line → Coefficients
coefficients_of c line = line_figures line

-- none is above the largest
pub record Most (k : Coefficients) : Type 0 where
  pub factor : k.factor ≤ most_factor
  pub slope : k.slope ≤ most_slope
  pub intercept : k.intercept ≤ most_intercept

pub upper_most : (c : SpeedClass) → upper c ≤ most_speed
unfolding row_of
upper_most Urban = omega arith
upper_most Rural = omega arith
upper_most Motorway = omega arith

-- a share is a percentage
pub share_most : (c : SpeedClass) → (share_low c ≤ 100) × (share_high c ≤ 100)
unfolding row_of
share_most Urban = (omega arith, omega arith)
share_most Rural = (omega arith, omega arith)
share_most Motorway = (omega arith, omega arith)
