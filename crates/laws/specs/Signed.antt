-- Signed numbers: bounds on their size, sums and products that fit a width.
--     small                            a number that is small either way fits a width
--     abs_mag                          the size of a number is at most one more than its `mag`, which is what `SFits` bounds
--     abs_add, abs_sub, abs_mul        the size of a sum, a difference and a product
--     swap                             of three terms the last two change places
--     times_neg, times_minus           a product of a number with the other sign, and of a difference
--     plus, difference, product        what the code's sum, difference and product of small numbers is, and that it fits
--     less_fits, rolled_fits           a sum from which one value goes and to which one comes
--     scaled                           the order is kept by a factor from zero on
--     cast_fits, cast_is               a number of one width as one of another
--     widened_fits, widened_is         an i32 as an i64
--     within_abs, zero_within          a number from minus a bound to another, and zero; within_plus: the sum of two
-- Assumes nothing.
use Rattle.std.specs.Prelude.{Bool, true, false, cond, ◌≡◌, refl, ℕ, zero, suc, ◌+◌, ◌-◌, ◌*◌, ◌^◌, ◌≤◌, ◌<◌, ltb, ℤ, pos, negsuc, neg_ℤ, nat_abs, ◌+ℤ◌, ◌-ℤ◌, ◌*ℤ◌}
use Rattle.std.proofs.lemmas.Bool.{false≢true}
use Rattle.std.proofs.Common.{sym, ap, ◌∙◌, zero-mul, mul-le-mul, mul-le-mul_left, arith, leb-true, le-leb, ltb-true}
use Rattle.std.proofs.Math.IntN.{sub_ℕ, suc_ℤ, pred_ℤ, neg_ℤ-neg_ℤ, suc_ℤ-+ℤ, pred_ℤ-+ℤ, +ℤ_idl, +ℤ_assoc, +ℤ_comm, zero-*ℤ, suc_ℤ-*ℤ, pred_ℤ-*ℤ, *ℤ_comm}
use Rattle.std.specs.Int.Signed.{le_z, mag}
use Rattle.std.specs.Int.{Width, w32, w64}
use mir.Val.{SFits, of_z, to_z, hbits}
use Rattle.std.proofs.lemmas.Int.{ints, to_z-of_z, to_z_pos}
use Rattle.model.specs.Numbers.{minus, withinℤ}
use Rattle.laws.specs.Tests.{both, and_both}

-- a number that is small either way fits a width
pub small : (w : Width) (z : ℤ) → nat_abs z < 2 ^ hbits w → SFits w z
small w (pos k) h = record { sfits = h }
small w (negsuc k) h = record { sfits = omega arith }

pub abs_mag : (z : ℤ) → nat_abs z ≤ suc (mag z)
abs_mag (pos n) = omega arith
abs_mag (negsuc n) = omega arith

-- The size of a sum, a difference and a product.

sub_abs : (a b : ℕ) → nat_abs (sub_ℕ a b) ≤ a + b
sub_abs a b = by (ltb a b) refl
  where
    by : (t : Bool) → ltb a b ≡ t → nat_abs (cond t (negsuc (b - suc a)) (pos (a - b))) ≤ a + b
    by true e = omega (arith, ltb-true a b e)
    by false e = omega arith

pub abs_add : (a b : ℤ) → nat_abs (a +ℤ b) ≤ nat_abs a + nat_abs b
abs_add (pos a) (pos b) = omega arith
abs_add (pos a) (negsuc b) = sub_abs a (suc b)
abs_add (negsuc a) (pos b) = omega (arith, sub_abs b (suc a))
abs_add (negsuc a) (negsuc b) = omega arith

pub abs_neg : (a : ℤ) → nat_abs (neg_ℤ a) ≡ nat_abs a
abs_neg (pos zero) = refl
abs_neg (pos (suc n)) = refl
abs_neg (negsuc n) = refl

pub abs_sub : (a b : ℤ) → nat_abs (a -ℤ b) ≤ nat_abs a + nat_abs b
abs_sub a b = omega (arith, abs_add a (neg_ℤ b), abs_neg b)

abs_mul : (a b : ℤ) → nat_abs (a *ℤ b) ≡ nat_abs a * nat_abs b
abs_mul (pos a) (pos b) = refl
abs_mul (pos a) (negsuc b) = abs_neg (pos (a * suc b))
abs_mul (negsuc a) (pos b) = abs_neg (pos (suc a * b))
abs_mul (negsuc a) (negsuc b) = refl

pub product_most : (a b : ℤ) {m n : ℕ} → nat_abs a ≤ m → nat_abs b ≤ n → nat_abs (a *ℤ b) ≤ m * n
product_most a b h k = rw (abs_mul a b) (mul-le-mul h k)

-- Products of sums, term by term.

pub swap : (x y c : ℤ) → (x +ℤ y) +ℤ c ≡ (x +ℤ c) +ℤ y
swap x y c = +ℤ_assoc x y c ∙ ap (λ t. x +ℤ t) (+ℤ_comm y c) ∙ sym (+ℤ_assoc x c y)

module _ (b c : ℤ) where
  next : (a : ℤ) → (a +ℤ b) *ℤ c ≡ a *ℤ c +ℤ b *ℤ c → (suc_ℤ a +ℤ b) *ℤ c ≡ suc_ℤ a *ℤ c +ℤ b *ℤ c
  next a e = rw (suc_ℤ-+ℤ a b, suc_ℤ-*ℤ (a +ℤ b) c, e, suc_ℤ-*ℤ a c) (swap (a *ℤ c) (b *ℤ c) c)

  previous : (a : ℤ) → (a +ℤ b) *ℤ c ≡ a *ℤ c +ℤ b *ℤ c → (pred_ℤ a +ℤ b) *ℤ c ≡ pred_ℤ a *ℤ c +ℤ b *ℤ c
  previous a e = rw (pred_ℤ-+ℤ a b, pred_ℤ-*ℤ (a +ℤ b) c, e, pred_ℤ-*ℤ a c) (swap (a *ℤ c) (b *ℤ c) (neg_ℤ c))

  none : (pos zero +ℤ b) *ℤ c ≡ pos zero *ℤ c +ℤ b *ℤ c
  none = rw (+ℤ_idl b, zero-*ℤ c, +ℤ_idl (b *ℤ c)) refl

  times_plus : (a : ℤ) → (a +ℤ b) *ℤ c ≡ a *ℤ c +ℤ b *ℤ c
  times_plus (pos zero) = none
  times_plus (pos (suc m)) = next (pos m) (times_plus (pos m))
  times_plus (negsuc zero) = previous (pos zero) none
  times_plus (negsuc (suc m)) = previous (negsuc m) (times_plus (negsuc m))

pub times_neg : (k : ℤ) (n : ℕ) → neg_ℤ k *ℤ pos n ≡ neg_ℤ (k *ℤ pos n)
times_neg (pos zero) n = rw (zero-mul n) refl
times_neg (pos (suc m)) n = refl
times_neg (negsuc m) n = sym (neg_ℤ-neg_ℤ (pos (suc m * n)))

pub times_minus : (n : ℕ) (a b : ℤ) → pos n *ℤ (a -ℤ b) ≡ pos n *ℤ a -ℤ pos n *ℤ b
times_minus n a b =
    rw (*ℤ_comm (pos n) (a -ℤ b), *ℤ_comm (pos n) a, *ℤ_comm (pos n) b)
    (times_plus (neg_ℤ b) (pos n) a ∙ ap (λ t. a *ℤ pos n +ℤ t) (times_neg b n))

-- What code makes of small numbers.

pub back : (a : ℤ) → nat_abs a < 2 ^ 63 → to_z w64 (of_z w64 a) ≡ a
back a h = to_z-of_z w64 a (small w64 a h)

-- the sum
module _ (a b : ℤ) (h : nat_abs a < 2 ^ 62) (k : nat_abs b < 2 ^ 62) where
  plus : to_z w64 (of_z w64 a) +ℤ to_z w64 (of_z w64 b) ≡ a +ℤ b
  plus = rw (back a (omega arith), back b (omega arith))

  pub plus_fits : SFits w64 (to_z w64 (of_z w64 a) +ℤ to_z w64 (of_z w64 b))
  plus_fits = rw plus (small w64 (a +ℤ b) (omega (arith, abs_add a b)))

  pub plus_is : to_z w64 (of_z w64 (to_z w64 (of_z w64 a) +ℤ to_z w64 (of_z w64 b))) ≡ a +ℤ b
  plus_is = to_z-of_z w64 _ plus_fits ∙ plus

-- the difference of two unsigned numbers
module _ (a b : ℕ) (h : a < 2 ^ 16) (k : b < 2 ^ 16) where
  difference : to_z w64 a -ℤ to_z w64 b ≡ pos a -ℤ pos b
  difference = rw (to_z_pos w64 a (omega arith), to_z_pos w64 b (omega arith))

  difference_small : SFits w64 (pos a -ℤ pos b)
  difference_small = small w64 (pos a -ℤ pos b) (omega (arith, abs_sub (pos a) (pos b)))

  pub difference_fits : SFits w64 (to_z w64 a -ℤ to_z w64 b)
  difference_fits = rw difference difference_small

  pub difference_is : to_z w64 (of_z w64 (to_z w64 a -ℤ to_z w64 b)) ≡ pos a -ℤ pos b
  difference_is = rw difference (to_z-of_z w64 (pos a -ℤ pos b) difference_small)

-- the product, and where it is small
module _ (a b : ℤ) (h : nat_abs a < 2 ^ 63) (k : nat_abs b < 2 ^ 63) where
  abbrev product : ℤ
  product = to_z w64 (of_z w64 a) *ℤ to_z w64 (of_z w64 b)

  pub product_exact : product ≡ a *ℤ b
  product_exact = rw (back a h, back b k)

  module _ (m : nat_abs (a *ℤ b) < 2 ^ 63) where
    pub product_fits : SFits w64 product
    product_fits = rw product_exact (small w64 (a *ℤ b) m)

    pub product_is : to_z w64 (of_z w64 product) ≡ a *ℤ b
    product_is = rw product_exact (back (a *ℤ b) m)

-- a sum from which one value goes and to which one comes
module _ (z a : ℤ) {m : ℕ} (hz : nat_abs z ≤ m) (fits : m < 2 ^ 62) (ha : nat_abs a < 2 ^ 32) where
  pub less_fits : SFits w64 (z -ℤ a)
  less_fits = small w64 (z -ℤ a) (omega (arith, abs_sub z a))

  pub rolled_fits : (b : ℤ) → nat_abs b < 2 ^ 32 → SFits w64 ((z -ℤ a) +ℤ b)
  rolled_fits b hb = small w64 ((z -ℤ a) +ℤ b) (omega (arith, abs_sub z a, abs_add (z -ℤ a) b))

-- The order is kept by a factor from zero on.

neg_pos : (x y : ℕ) → le_z (neg_ℤ (pos x)) (pos y) ≡ true
neg_pos zero y = le-leb 0 y (omega arith)
neg_pos (suc x) y = refl

neg_neg : (x y : ℕ) → y ≤ x → le_z (neg_ℤ (pos x)) (neg_ℤ (pos y)) ≡ true
neg_neg zero zero h = refl
neg_neg zero (suc y) h = absurd (omega arith)
neg_neg (suc x) zero h = refl
neg_neg (suc x) (suc y) h = le-leb y x (omega arith)

pub scaled : (k : ℕ) (a b : ℤ) → le_z a b ≡ true → le_z (pos k *ℤ a) (pos k *ℤ b) ≡ true
scaled k (pos a) (pos b) h = le-leb (k * a) (k * b) (mul-le-mul_left k (leb-true a b h))
scaled k (pos a) (negsuc b) h = absurd (false≢true h)
scaled k (negsuc a) (pos b) h = neg_pos (k * suc a) (k * b)
scaled k (negsuc a) (negsuc b) h = neg_neg (k * suc a) (k * suc b) (mul-le-mul_left k (omega (arith, leb-true b a h)))

-- A number of one width as one of another, which it fits too.

module _ (v w : Width) (z : ℤ) (f : SFits v z) (g : SFits w z) where
  pub cast_fits : SFits w (to_z v (of_z v z))
  cast_fits = rw (to_z-of_z v z f) g

  pub cast_is : to_z w (of_z w (to_z v (of_z v z))) ≡ z
  cast_is = rw (to_z-of_z v z f) (to_z-of_z w z g)

-- An i32 as an i64.

module _ (z : ℤ) (f : SFits w32 z) where
  wide : SFits w64 z
  wide = record { sfits = omega (arith, f.sfits) }

  pub widened_fits : SFits w64 (to_z w32 (of_z w32 z))
  widened_fits = cast_fits w32 w64 z f wide

  pub widened_is : to_z w64 (of_z w64 (to_z w32 (of_z w32 z))) ≡ z
  widened_is = cast_is w32 w64 z f wide

-- A number from minus a bound to another.

pub within_abs : (z : ℤ) (m n : ℕ) → m ≤ n → withinℤ (minus m) (pos n) z ≡ true → nat_abs z ≤ n
unfolding withinℤ
within_abs z m n h e = let f = both (le_z (minus m) z) (le_z z (pos n)) e in omega (arith, ints, f.0, f.1)

-- zero is such a number
pub zero_within : (m n : ℕ) → withinℤ (minus m) (pos n) (pos 0) ≡ true
unfolding withinℤ
zero_within m n = grind (arith, ints)

-- and the sum of two of them is one, of the bounds' sums
pub within_plus : (a b : ℤ) (k l m n : ℕ) → withinℤ (minus k) (pos m) a ≡ true → withinℤ (minus l) (pos n) b ≡ true
    → withinℤ (minus (k + l)) (pos (m + n)) (a +ℤ b) ≡ true
unfolding withinℤ
within_plus a b k l m n h g =
    let x = both (le_z (minus k) a) (le_z a (pos m)) h in
    let y = both (le_z (minus l) b) (le_z b (pos n)) g in
    let low : le_z (minus (k + l)) (a +ℤ b) ≡ true = grind (arith, ints, x.0, y.0) in
    let high : le_z (a +ℤ b) (pos (m + n)) ≡ true = grind (arith, ints, x.1, y.1) in
    and_both low high
