-- The code's fraction is the curve, and its tests of a window are those of the definition. Assumes nothing.
use Rattle.std.specs.Prelude.{◌≡◌, refl, Bool, true, false, cond, ◌&&◌, ℕ, ◌+◌, ◌-◌, ◌*◌, ◌≤◌, ◌<◌, leb, pos, ◌-ℤ◌}
use Rattle.std.proofs.Common.{mul-le-mul, arith}
use Rattle.std.proofs.lemmas.Int.{ints}
use Rattle.std.proofs.Math.Bool.{and-true, and-false}
use Rattle.std.specs.Int.Signed.{lt_z}
use borrow.Author.Tests.{le-leb, lt-leb, lt-ltb}
use Rattle.model.specs.declared.Reference.{Reference}
use Rattle.model.specs.Numbers.{all, withinℤ}
use Rattle.model.specs.Records.{units}
use Rattle.model.specs.Co2Windows.{v1, v2, v3, line, up_to_v2, curve_numerator, curve_denominator, normal_by}
use Rattle.laws.specs.Signed.{times_minus}
use Rattle.co2_curve.specs.declared.Sums.{Sums}
use Rattle.co2_curve.specs.declared.CurveAt.{CurveAt}
use Rattle.co2_curve.specs.Lines.{line_of, low_point, middle_point, high_point, curve_of}

-- a product is at most the product of bounds
pub ruleset products = (mul-le-mul)

-- the line that holds
pub curve_low : (r : Reference) (w : Sums) → units w.distance ≤ v2 * w.samples → line_of (low_point r) (middle_point r) w ≡ curve_of r w
unfolding up_to_v2
curve_low r w h = rw (le-leb (units w.distance) (v2 * w.samples) h)

pub curve_high : (r : Reference) (w : Sums) → v2 * w.samples < units w.distance → line_of (middle_point r) (high_point r) w ≡ curve_of r w
unfolding up_to_v2
curve_high r w h = rw (lt-leb (units w.distance) (v2 * w.samples) h)

-- The numerator as the difference of two natural numbers.

line_is : (a p b q n d : ℕ) → line a p b q n d ≡ pos (p * (b * n) + q * d) -ℤ pos (p * d + q * (a * n))
unfolding line
line_is a p b q n d = rw (times_minus p (pos (b * n)) (pos d), times_minus q (pos d) (pos (a * n))) (omega (arith, ints))

module _ (r : Reference) (w : Sums) (c : CurveAt) (is : c ≡ curve_of r w) where
  numerator_is : curve_numerator r w.samples (units w.distance) ≡ pos c.above -ℤ pos c.below
  unfolding curve_numerator
  numerator_is = rw is (by (up_to_v2 w.samples (units w.distance)))
    where
      by : (b : Bool) → cond b (line v1 r.c1 v2 r.c2 w.samples (units w.distance)) (line v2 r.c2 v3 r.c3 w.samples (units w.distance))
          ≡ pos (cond b (line_of (low_point r) (middle_point r) w) (line_of (middle_point r) (high_point r) w)).above
          -ℤ pos (cond b (line_of (low_point r) (middle_point r) w) (line_of (middle_point r) (high_point r) w)).below
      by true = line_is v1 r.c1 v2 r.c2 w.samples (units w.distance)
      by false = line_is v2 r.c2 v3 r.c3 w.samples (units w.distance)

  denominator_is : curve_denominator w.samples (units w.distance) ≡ c.denominator
  unfolding curve_denominator
  denominator_is = rw is (by (up_to_v2 w.samples (units w.distance)))
    where
      by : (b : Bool) → cond b ((v2 - v1) * w.samples) ((v3 - v2) * w.samples)
          ≡ (cond b (line_of (low_point r) (middle_point r) w) (line_of (middle_point r) (high_point r) w)).denominator
      by true = refl
      by false = refl

  pub normal_still : (m : ℕ) → units w.distance ≡ 0 → false ≡ normal_by r w.samples (units w.distance) m
  unfolding normal_by all
  normal_still m e = rw e

  pub normal_low : (m : ℕ) → c.above ≤ c.below → false ≡ normal_by r w.samples (units w.distance) m
  unfolding normal_by all
  normal_low m h =
      let z : lt_z (pos 0) (pos c.above -ℤ pos c.below) ≡ false = grind (arith, ints) in
      rw (numerator_is, z, and-false)

  pub normal_is : (m : ℕ) → (units w.distance ≡ 0 → ⊥) → c.below < c.above
      → (leb (3 * units w.distance * (c.above - c.below)) (4 * 36 * m * c.denominator) && leb (4 * 36 * m * c.denominator) (5 * units w.distance * (c.above - c.below)))
      ≡ normal_by r w.samples (units w.distance) m
  unfolding normal_by all withinℤ
  normal_is m d h =
      let k : pos c.above -ℤ pos c.below ≡ pos (c.above - c.below) = omega (arith, ints) in
      rw (numerator_is, k, denominator_is, lt-ltb 0 (units w.distance) (omega arith), lt-ltb 0 (c.above - c.below) (omega arith), and-true)

pub ruleset normal_ways = (mul-le-mul, normal_still, normal_low, normal_is)
