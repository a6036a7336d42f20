-- What floor division leaves, and rounding to the nearest, as code makes them.
--     floor_euclid                            the floor as std makes it
--     rest, rest_euclid                       what the floor leaves, also as std makes it
--     rest_is, rest_less                      it is the model's `floor_mod`, and below the count
--     half_fits, even_is                      the test for an odd number
--     doubled, round_is                       rounding to the nearest by one comparison
--     next_fits                               the number above the floor fits where it is the nearest
-- Assumes nothing.
use Rattle.std.specs.Prelude.{Bool, not, ◌≡◌, eqb, ℤ, negsuc, neg_ℤ, nat_abs, ◌+ℤ◌, ◌-ℤ◌, ◌*ℤ◌}
use Rattle.std.proofs.Math.Bool.{true, false, cond}
use Rattle.std.proofs.Math.Path.{refl}
use Rattle.std.proofs.Common.{sym, ap, le_refl, mul-le-mul, arith, SFits, of_z}
use Prim.Native.Nat.{ℕ, zero, suc, ◌+◌, ◌-◌, ◌*◌, ◌/◌, ◌%◌, ◌≤◌, ◌<◌}
use Rattle.std.proofs.Math.Nat.{mod-lt, div-add-mod, mul-suc}
use borrow.Author.Tests.{ltb-true, ltb-false, le-ltb, lt-ltb}
use Rattle.std.proofs.Math.Dec.{ltb}
use Rattle.std.proofs.Math.IntN.{pos, neg_ℤ-neg_ℤ, sub_ℕ}
use Rattle.std.specs.Int.{int_div_euclid, int_rem_euclid}
use Rattle.std.specs.Int.Signed.{quot_z, rem_z}
use mir.Syntax.{w64}
use Rattle.model.specs.Numbers.{bit, floor_div, floor_mod, even, round_half_even}
use Rattle.laws.specs.Signed.{small, abs_mag, abs_add}

-- std's quotient whose remainder is not negative, by a count
pub floor_euclid : (z : ℤ) (n : ℕ) → int_div_euclid z (pos n) ≡ floor_div z n
unfolding floor_div
floor_euclid (pos a) n = refl
floor_euclid (negsuc a) n = refl

-- what the floor leaves, as a number; std makes the same
abbrev pub rest : ℤ → ℕ → ℕ
rest (pos a) n = a % n
rest (negsuc a) n = n - suc (a % n)

pub rest_euclid : (z : ℤ) (n : ℕ) → int_rem_euclid z (pos n) ≡ pos (rest z n)
rest_euclid (pos a) n = refl
rest_euclid (negsuc a) n = ap pos (omega arith)

-- a − b from zero on
sub_is : (a b c : ℕ) → a ≡ b + c → sub_ℕ a b ≡ pos c
sub_is a b c e = rw (le-ltb a b (omega arith)) (ap pos (omega arith))

pos_sub : (a b c : ℕ) → a ≡ b + c → pos a -ℤ pos b ≡ pos c
pos_sub a zero c e = ap pos (omega arith)
pos_sub a (suc b) c e = sub_is a (suc b) c e

-- the test for an odd number: the quotient that goes with its remainder fits, and what it computes
pub half_fits : (z : ℤ) → SFits w64 z → SFits w64 (quot_z z (pos 2))
half_fits (pos a) f = record { sfits = omega (arith, f.sfits) }
half_fits (negsuc a) f = by (suc a / 2) (omega arith)
  where
    by : (m : ℕ) → m ≤ suc a → SFits w64 (neg_ℤ (pos m))
    by zero h = record { sfits = omega arith }
    by (suc m) h = record { sfits = omega (arith, f.sfits) }

pub even_is : (z : ℤ) → eqb (of_z w64 (rem_z z (pos 2))) 0 ≡ even z
unfolding even
even_is (pos a) = refl
even_is (negsuc a) = by (suc a % 2) (mod-lt (suc a) (omega arith))
  where
    by : (m : ℕ) → m < 2 → eqb (of_z w64 (neg_ℤ (pos m))) 0 ≡ eqb m 0
    by zero h = refl
    by (suc zero) h = refl
    by (suc (suc m)) h = absurd (omega arith)

-- twice what the floor leaves, and one for an odd floor, which decides at a half
abbrev pub doubled : ℤ → ℕ → ℕ
doubled z n = 2 * rest z n + bit (not (even (floor_div z n)))

module _ (z : ℤ) (n : ℕ) (counted : 0 < n) where
  pub rest_less : rest z n < n
  rest_less = by z
    where
      by : (z : ℤ) → rest z n < n
      by (pos a) = mod-lt a counted
      by (negsuc a) = omega (arith, mod-lt a counted)

  pub rest_is : floor_mod z n ≡ pos (rest z n)
  unfolding floor_mod floor_div
  rest_is = by z
    where
      by : (z : ℤ) → z -ℤ pos n *ℤ floor_div z n ≡ pos (rest z n)
      by (pos a) = pos_sub a (n * (a / n)) (a % n) (sym (div-add-mod a n))
      by (negsuc a) =
          rw (neg_ℤ-neg_ℤ (pos (n * suc (a / n))))
          (sub_is (n * suc (a / n)) (suc a) (n - suc (a % n)) (omega (arith, mod-lt a counted, div-add-mod a n, mul-suc n (a / n))))

  pub round_is : round_half_even z n ≡ cond (ltb n (doubled z n)) (floor_div z n +ℤ pos 1) (floor_div z n)
  unfolding round_half_even
  round_is = rw rest_is (by (even (floor_div z n)) (ltb (2 * rest z n) n) (ltb n (2 * rest z n)) refl refl)
    where
      by : (e below above : Bool) → ltb (2 * rest z n) n ≡ below → ltb n (2 * rest z n) ≡ above
          → cond below (floor_div z n) (cond above (floor_div z n +ℤ pos 1) (cond e (floor_div z n) (floor_div z n +ℤ pos 1)))
          ≡ cond (ltb n (2 * rest z n + bit (not e))) (floor_div z n +ℤ pos 1) (floor_div z n)
      by e true above h k = rw (le-ltb n (2 * rest z n + bit (not e)) (least e)) refl
        where
          least : (e : Bool) → 2 * rest z n + bit (not e) ≤ n
          least true = omega (arith, ltb-true (2 * rest z n) n h)
          least false = omega (arith, ltb-true (2 * rest z n) n h)
      by e false true h k = rw (lt-ltb n (2 * rest z n + bit (not e)) (omega (arith, ltb-true n (2 * rest z n) k))) refl
      by true false false h k = rw (le-ltb n (2 * rest z n + 0) (omega (arith, ltb-false n (2 * rest z n) k))) refl
      by false false false h k = rw (lt-ltb n (2 * rest z n + 1) (omega (arith, ltb-false (2 * rest z n) n h))) refl

  pub next_fits : SFits w64 z → n < doubled z n → SFits w64 (floor_div z n +ℤ pos 1)
  unfolding floor_div
  next_fits f h = small w64 (floor_div z n +ℤ pos 1) (omega (arith, abs_add (floor_div z n) (pos 1), half z (two (not (even (floor_div z n))) h), abs_mag z, f.sfits))
    where
      two : (odd : Bool) → n < 2 * rest z n + bit odd → 2 ≤ n
      two true h = omega (arith, rest_less)
      two false h = omega (arith, rest_less)

      half : (z : ℤ) → 2 ≤ n → 2 * nat_abs (floor_div z n) ≤ suc (nat_abs z)
      half (pos a) t = omega (arith, mul-le-mul t (le_refl (a / n)), div-add-mod a n)
      half (negsuc a) t = omega (arith, mul-le-mul t (le_refl (a / n)), div-add-mod a n)
