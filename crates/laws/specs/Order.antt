-- The order of the integers by its tests, and the first of a list by an order.
--     le_z_refl, le_z_total, le_z_trans, le_z_anti     the laws of `le_z`
--     lt_z_le_z, lt_z_true, lt_z_false                 `lt_z` by it
--     Order, upwards, downwards                    so that the smallest and the largest are one law
--     best, best_is                                the first by an order is the one of the list that comes before each
-- Assumes nothing.
use Rattle.std.specs.Prelude.{◌≡◌, Bool, cond, not, ℕ, leb, ltb, ℤ, pos, negsuc}
use Rattle.std.proofs.Math.Path.{refl, ap}
use Rattle.std.proofs.Common.{sym, ◌∙◌, true≢false, arith, leb-true, leb-false, le-leb, le-ltb, lt-ltb}
use mathlib.Core.List.{List, [], ◌∷◌}
use Rattle.std.proofs.Math.Logic.{inl, inr}
use Rattle.std.specs.Prelude.{Option, None, Some}
use Rattle.std.proofs.Math.Bool.{true, false}
use Rattle.std.proofs.lemmas.Bool.{false≢true}
use Rattle.std.specs.Int.Signed.{le_z, lt_z}
use Rattle.model.specs.Windows.{fold, smallest, largest}
use Rattle.laws.specs.Lists.{In, All}

leb_total : (a b : ℕ) → leb a b ≡ false → leb b a ≡ true
leb_total a b h = le-leb b a (omega (arith, leb-false a b h))

leb_trans : (a b c : ℕ) → leb a b ≡ true → leb b c ≡ true → leb a c ≡ true
leb_trans a b c h k = le-leb a c (omega (arith, leb-true a b h, leb-true b c k))

leb_anti : (a b : ℕ) → leb a b ≡ true → leb b a ≡ true → a ≡ b
leb_anti a b h k = omega (arith, leb-true a b h, leb-true b a k)

pub ltb_leb : (a b : ℕ) → ltb a b ≡ not (leb b a)
ltb_leb a b = by (leb b a) refl
  where
    by : (t : Bool) → leb b a ≡ t → ltb a b ≡ not t
    by true e = le-ltb a b (leb-true b a e)
    by false e = lt-ltb a b (leb-false b a e)

pub le_z_total : (a b : ℤ) → le_z a b ≡ false → le_z b a ≡ true
le_z_total (pos a) (pos b) h = leb_total a b h
le_z_total (pos a) (negsuc b) h = refl
le_z_total (negsuc a) (pos b) h = absurd (true≢false h)
le_z_total (negsuc a) (negsuc b) h = leb_total b a h

pub le_z_trans : (a b c : ℤ) → le_z a b ≡ true → le_z b c ≡ true → le_z a c ≡ true
le_z_trans (pos a) (pos b) (pos c) h k = leb_trans a b c h k
le_z_trans (pos a) (pos b) (negsuc c) h k = k
le_z_trans (pos a) (negsuc b) c h k = absurd (false≢true h)
le_z_trans (negsuc a) b (pos c) h k = refl
le_z_trans (negsuc a) (pos b) (negsuc c) h k = absurd (false≢true k)
le_z_trans (negsuc a) (negsuc b) (negsuc c) h k = leb_trans c b a k h

pub le_z_anti : (a b : ℤ) → le_z a b ≡ true → le_z b a ≡ true → a ≡ b
le_z_anti (pos a) (pos b) h k = ap pos (leb_anti a b h k)
le_z_anti (pos a) (negsuc b) h k = absurd (false≢true h)
le_z_anti (negsuc a) (pos b) h k = absurd (false≢true k)
le_z_anti (negsuc a) (negsuc b) h k = ap negsuc (leb_anti a b k h)

pub lt_z_le_z : (a b : ℤ) → lt_z a b ≡ not (le_z b a)
lt_z_le_z (pos a) (pos b) = ltb_leb a b
lt_z_le_z (pos a) (negsuc b) = refl
lt_z_le_z (negsuc a) (pos b) = refl
lt_z_le_z (negsuc a) (negsuc b) = ltb_leb b a

pub lt_z_true : (a b : ℤ) → lt_z a b ≡ true → le_z b a ≡ false
lt_z_true a b h = by (le_z b a) (sym (lt_z_le_z a b) ∙ h)
  where
    by : (t : Bool) → not t ≡ true → t ≡ false
    by true e = absurd (false≢true e)
    by false e = refl

pub lt_z_false : (a b : ℤ) → lt_z a b ≡ false → le_z b a ≡ true
lt_z_false a b h = by (le_z b a) (sym (lt_z_le_z a b) ∙ h)
  where
    by : (t : Bool) → not t ≡ false → t ≡ true
    by true e = refl
    by false e = absurd (true≢false e)

-- the smallest and the largest are one law, over the order
pub record Order (le : ℤ → ℤ → Bool) : Type 0 where
  pub total : (a b : ℤ) → le a b ≡ false → le b a ≡ true
  pub trans : (a b c : ℤ) → le a b ≡ true → le b c ≡ true → le a c ≡ true
  pub anti : (a b : ℤ) → le a b ≡ true → le b a ≡ true → a ≡ b

pub upwards : Order le_z
upwards = record { total = le_z_total; trans = le_z_trans; anti = le_z_anti }

pub downwards : Order (λ a b. le_z b a)
downwards = record { total = λ a b. le_z_total b a; trans = λ a b c h k. le_z_trans c b a k h; anti = λ a b h k. le_z_anti a b k h }

-- the first of a list by an order
unfoldable pub best : (ℤ → ℤ → Bool) → List ℤ → Option ℤ
best le [] = None
best le (z ∷ zs) = Some (fold (λ a b. cond (le a b) a b) z zs)

pub smallest_best : (zs : List ℤ) → smallest zs ≡ best le_z zs
unfolding smallest best
smallest_best [] = refl
smallest_best (z ∷ zs) = refl

pub largest_best : (zs : List ℤ) → largest zs ≡ best (λ a b. le_z b a) zs
unfolding largest best
largest_best [] = refl
largest_best (z ∷ zs) = refl

module _ (le : ℤ → ℤ → Bool) (order : Order le) where
  pub order_refl : (a : ℤ) → le a a ≡ true
  order_refl a = by (le a a) refl
    where
      by : (t : Bool) → le a a ≡ t → t ≡ true
      by true e = refl
      by false e = sym e ∙ order.total a a e

  fold_is : (v a : ℤ) (zs : List ℤ) → In v (a ∷ zs) → All (λ z. le v z ≡ true) (a ∷ zs) → fold (λ a b. cond (le a b) a b) a zs ≡ v
  unfolding In All fold
  fold_is v a [] (inl e) h = e
  fold_is v a [] (inr i) h = absurd i
  fold_is v a (z ∷ zs) i h = fold_is v (cond (le a z) a z) zs (first (le a z) refl i) (rest (le a z))
    where
      first : (b : Bool) → le a z ≡ b → In v (a ∷ z ∷ zs) → In v (cond b a z ∷ zs)
      first true f (inl e) = inl e
      first true f (inr (inl e)) = inl (order.anti a v (ap (le a) (sym e) ∙ f) h.0)
      first true f (inr (inr i)) = inr i
      first false f (inl e) = absurd (false≢true (sym f ∙ ap (λ (x : ℤ). le x z) e ∙ h.1.0))
      first false f (inr i) = i

      rest : (b : Bool) → All (λ z. le v z ≡ true) (cond b a z ∷ zs)
      rest true = (h.0, h.1.1)
      rest false = h.1

  pub best_is : (v : ℤ) (zs : List ℤ) → In v zs → All (λ z. le v z ≡ true) zs → best le zs ≡ Some v
  unfolding best In
  best_is v [] i h = absurd i
  best_is v (z ∷ zs) i h = ap Some (fold_is v z zs i h)

pub le_z_refl : (a : ℤ) → le_z a a ≡ true
le_z_refl = order_refl le_z upwards
