-- The curve goes through its three points: at mean speeds of 19.0, 56.6 and 92.3 km/h it is c1, c2 and c3, however many samples a window has; and the two
-- lines meet. Assumes nothing.
use Rattle.std.specs.Prelude.{◌≡◌, ℕ, ◌+◌, ◌-◌, ◌*◌, ◌≤◌, pos, ◌-ℤ◌}
use Rattle.std.proofs.Common.{ap, ◌∙◌, arith, add-mul}
use Rattle.std.proofs.lemmas.Bool.{lt-leb}
use Rattle.std.proofs.lemmas.Int.{ints}
use borrow.Author.Tests.{le-leb}
use Rattle.model.specs.declared.Reference.{Reference}
use Rattle.model.specs.Co2Windows.{v1, v2, v3, line, up_to_v2, curve_numerator, curve_denominator}

module _ (a p b q n : ℕ) (h : a ≤ b) where
  apart : pos (b * n) -ℤ pos (a * n) ≡ pos ((b - a) * n)
  apart =
      let whole : b ≡ a + (b - a) = omega arith in
      let sum : b * n ≡ a * n + (b - a) * n = ap (λ (k : ℕ). k * n) whole ∙ add-mul a (b - a) n in
      omega (arith, ints)

  -- a line at its two points
  pub line_first : line a p b q n (a * n) ≡ pos (p * ((b - a) * n))
  unfolding line
  line_first = let none : pos (a * n) -ℤ pos (a * n) ≡ pos 0 = omega (arith, ints) in rw (apart, none) (omega (arith, ints))

  pub line_second : line a p b q n (b * n) ≡ pos (q * ((b - a) * n))
  unfolding line
  line_second = let none : pos (b * n) -ℤ pos (b * n) ≡ pos 0 = omega (arith, ints) in rw (apart, none) (omega (arith, ints))

module _ (r : Reference) (n : ℕ) where
  pub at_v1 : curve_numerator r n (v1 * n) ≡ pos (r.c1 * curve_denominator n (v1 * n))
  unfolding curve_numerator curve_denominator up_to_v2
  at_v1 = rw (le-leb (v1 * n) (v2 * n) (omega arith)) (line_first v1 r.c1 v2 r.c2 n (omega arith))

  pub at_v2 : curve_numerator r n (v2 * n) ≡ pos (r.c2 * curve_denominator n (v2 * n))
  unfolding curve_numerator curve_denominator up_to_v2
  at_v2 = rw (le-leb (v2 * n) (v2 * n) (omega arith)) (line_second v1 r.c1 v2 r.c2 n (omega arith))

  pub at_v3 : 1 ≤ n → curve_numerator r n (v3 * n) ≡ pos (r.c3 * curve_denominator n (v3 * n))
  unfolding curve_numerator curve_denominator up_to_v2
  at_v3 h = rw (lt-leb (v3 * n) (v2 * n) (omega arith)) (line_second v2 r.c2 v3 r.c3 n (omega arith))

  -- the second line begins where the first ends
  pub lines_meet : line v2 r.c2 v3 r.c3 n (v2 * n) ≡ pos (r.c2 * ((v3 - v2) * n))
  lines_meet = line_first v2 r.c2 v3 r.c3 n (omega arith)
