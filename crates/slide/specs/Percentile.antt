-- The rank of the 95th percentile, and what passes a test in a list in order.
--     rank_pass, rank_fail                   what stands at k passes exactly when more than k do
--     percentile_empty, percentile_some      there is none exactly where there is no value
-- Assumes nothing.
use Rattle.std.specs.Prelude.{◌≡◌, Bool}
use Rattle.std.proofs.Math.Path.{refl, sym}
use Rattle.std.proofs.Common.{◌∙◌}
use mathlib.Core.List.{List, [], ◌∷◌}
use Rattle.std.specs.Prelude.{Option, None, Some}
use Rattle.std.proofs.Math.Bool.{true, false}
use Rattle.std.proofs.lemmas.Bool.{false≢true}
use Prim.Native.Nat.{ℕ, zero, suc, ◌+◌, ◌-◌, ◌*◌, ◌/◌, ◌≤◌, ◌<◌}
use native.Mathlib.Omega.{arith}
use Rattle.std.proofs.Math.IntN.{ℤ}
use Rattle.std.proofs.Math.ListN.{length, get_or}
use Rattle.std.specs.Int.Signed.{le_z}
use Rattle.model.specs.Numbers.{bit, filter, count}
use Rattle.model.specs.Windows.{smallest, percentile}
use Rattle.laws.specs.Lists.{All, all_at}
use Rattle.laws.specs.Order.{le_z_trans}
use Rattle.slide.specs.Ordered.{Least, Sorted}

-- where the percentile of m values stands in their order
abbrev pub rank : ℕ → ℕ
rank m = (95 * m + 99) / 100 - 1

-- where a value passes the test, so does every smaller one
abbrev pub Downward : (ℤ → Bool) → Type 0
Downward p = (a b : ℤ) → le_z a b ≡ true → p b ≡ true → p a ≡ true

-- where a value passes the test, so does every larger one
abbrev pub Upward : (ℤ → Bool) → Type 0
Upward p = (a b : ℤ) → le_z a b ≡ true → p a ≡ true → p b ≡ true

pub upto_downward : (t : ℤ) → Downward (λ z. le_z z t)
upto_downward t a b h k = le_z_trans a b t h k

-- in a list in order, what stands at k passes exactly when more than k do
module _ (p : ℤ → Bool) (down : Downward p) (d : ℤ) where
  pub rank_pass : (xs : List ℤ) (k : ℕ) → Sorted xs → k < length xs → p (get_or xs k d) ≡ true → k < count p xs
  unfolding count Sorted
  rank_pass [] k w h e = absurd (omega arith)
  rank_pass (x ∷ xs) zero w h e = rw e (omega arith)
  rank_pass (x ∷ xs) (suc k) w h e =
      let b : k < length xs = omega arith in
      rw (down x (get_or xs k d) (all_at _ d xs k b w.0) e) (omega (arith, rank_pass xs k w.1 b e))

  none_pass : (x : ℤ) (xs : List ℤ) → p x ≡ false → Least x xs → count p xs ≡ 0
  unfolding count All
  none_pass x [] e w = refl
  none_pass x (y ∷ xs) e w = by (p y) refl (none_pass x xs e w.1)
    where
      by : (b : Bool) → p y ≡ b → count p xs ≡ 0 → bit b + count p xs ≡ 0
      by true f r = absurd (false≢true (sym e ∙ down x y w.0 f))
      by false f r = omega arith

  pub rank_fail : (xs : List ℤ) (k : ℕ) → Sorted xs → k < length xs → p (get_or xs k d) ≡ false → count p xs ≤ k
  unfolding count Sorted
  rank_fail [] k w h e = absurd (omega arith)
  rank_fail (x ∷ xs) zero w h e = rw e (omega (arith, none_pass x xs e w.0))
  rank_fail (x ∷ xs) (suc k) w h e = by (p x) (rank_fail xs k w.1 (omega arith) e)
    where
      by : (b : Bool) → count p xs ≤ k → bit b + count p xs ≤ suc k
      by true i = omega arith
      by false i = omega arith

pub percentile_empty : percentile [] ≡ None
unfolding percentile filter smallest
percentile_empty = refl

pub percentile_some : (zs : List ℤ) (v : ℤ) → percentile zs ≡ Some v → 0 < length zs
percentile_some [] v e = let z : ◌≡◌ {A = ℕ} 0 1 = cc percentile_empty in omega arith
percentile_some (z ∷ zs) v e = omega arith

-- a test of what may be missing
abbrev pub passes : (ℤ → Bool) → Option ℤ → Bool
passes p None = false
passes p (Some v) = p v
