-- Which of the two percentile lines holds, that the two sides of rules 18 to 20 are those of document 01, and how large they get. Assumes nothing.
use Rattle.std.specs.Prelude.{◌≡◌, refl, Bool, true, false, cond, ℕ, ◌+◌, ◌*◌, ◌^◌, ◌≤◌, ◌<◌}
use Rattle.std.proofs.Common.{ap₂, mul-le-mul, arith, le-leb}
use Rattle.std.proofs.lemmas.Bool.{lt-leb}
use Rattle.model.specs.declared.ClassTally.{ClassTally}
use Rattle.model.specs.declared.SpeedClass.{SpeedClass}
use Rattle.model.specs.Records.{max_samples, units}
use Rattle.model.specs.Rules.{slow, power_factor, limit_side}
use Rattle.limits.specs.declared.PowerLimit.{PowerLimit}
use Rattle.limits.specs.declared.Line.{Line}
use Rattle.limits.specs.declared.Line.TheVariants.{Slow, Fast}
use Rattle.limits.specs.declared.Coefficients.{Coefficients}
use Rattle.limits.specs.Table.{most_distance, most_slope, most_intercept, coefficients_of, Most}

unfoldable pub line_of : ℕ → ℕ → Line
line_of n s = cond (slow n s) Slow Fast

pub line_low : (n s : ℕ) → s ≤ 746 * n → Slow ≡ line_of n s
unfolding line_of slow
line_low n s h = rw (le-leb s (746 * n) h)

pub line_high : (n s : ℕ) → 746 * n < s → Fast ≡ line_of n s
unfolding line_of slow
line_high n s h = rw (lt-leb s (746 * n) h)

-- what P95 × N × factor may not be above, on a line
abbrev line_side : Coefficients → ℕ → ℕ → ℕ
line_side k n s = 2592 * (k.slope * s + k.intercept * n)

pub power_factor_lem : (c : SpeedClass) (n s : ℕ) → (coefficients_of c (line_of n s)).factor ≡ power_factor n s
unfolding line_of power_factor coefficients_of
power_factor_lem c n s = by (slow n s)
  where
    by : (b : Bool) → (coefficients_of c (cond b Slow Fast)).factor ≡ cond b 10000 100000
    by true = refl
    by false = refl

pub limit_side_lem : (c : SpeedClass) (n s : ℕ) → line_side (coefficients_of c (line_of n s)) n s ≡ limit_side n s
unfolding line_of limit_side coefficients_of
limit_side_lem c n s = by (slow n s)
  where
    by : (b : Bool) → line_side (coefficients_of c (cond b Slow Fast)) n s
        ≡ cond b (2592 * (136 * s + 144400 * n)) (2592 * (742 * s + 1896600 * n))
    by true = refl
    by false = refl

-- the limit of a class with N samples and distance S: the right side of rules 18 to 20, and the left side's factor of P95, N with it
unfoldable pub limit_of : ClassTally → PowerLimit
limit_of t = record {
  side = limit_side t.samples (units t.distance);
  factor = power_factor t.samples (units t.distance) * t.samples;
}

pub limit_is : (t : ClassTally) (side factor : ℕ)
    → side ≡ limit_side t.samples (units t.distance) → factor ≡ power_factor t.samples (units t.distance) → record { side = side; factor = factor * t.samples } ≡ limit_of t
unfolding limit_of
limit_is t side factor e f = ap₂ (λ (s f : ℕ). record { side = s; factor = f * t.samples }) e f

-- the largest coefficients
pub most : (c : SpeedClass) (line : Line) → Most (coefficients_of c line)
unfolding coefficients_of
most c Slow = record { factor = omega arith; slope = omega arith; intercept = omega arith }
most c Fast = record { factor = omega arith; slope = omega arith; intercept = omega arith }

-- no side of a limit is larger
abbrev pub most_side : ℕ
most_side = 2 ^ 47

pub side_most : {a b n s : ℕ} → a ≤ most_slope → b ≤ most_intercept → (n ≤ max_samples) × (s ≤ most_distance) → 2592 * (a * s + b * n) < most_side
side_most h k w = omega (arith, mul-le-mul h w.1, mul-le-mul k w.0)
