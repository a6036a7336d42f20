-- How far probes at steps of q cells narrow the places of which one is looked for. Assumes nothing.
use mathlib.Core.Path.{◌≡◌, refl, sym, ap, ◌∙◌}
use mathlib.Core.List.{List}
use mathlib.Core.Bool.{Bool, true, false}
use mathlib.Core.Logic.{◌⊎◌, inl, inr, ⊎_elim}
use Prim.Native.Nat.{ℕ, ◌+◌, ◌-◌, ◌*◌, ◌≤◌, ◌<◌}
use native.Mathlib.Nat.{mul-add, mul-le-mul_left}
use native.Mathlib.Omega.{arith}
use borrow.Author.Tests.{leb-true, leb-false}
use lib.Dec.{leb}
use lib.IntN.{ℤ, pos}
use lib.Signed.{le_z}
use Rattle.model.specs.Numbers.{bit}
use Rattle.slide.specs.Ordered.{Sorted}
use Rattle.cells.specs.Store.{values_of, values_length, values_at}
use Rattle.search.specs.Place.{place_of, not_less, Placed, Spanned, place_within, place_probe}

-- after probes at steps of q cells up to a: the place p is at l or later, and before l + q unless each probe was passed
record Reach (p q a l : ℕ) : Type 0 where
  low : l ≤ p
  most : l ≤ a
  near : (l ≡ a) ⊎ (p < l + q)

reach_start : (p q l : ℕ) → l ≤ p → Reach p q l l
reach_start p q l h = record { low = h; most = omega arith; near = inl refl }

reach_on : (p q a l j : ℕ) {b : ℕ} → b ≡ bit (leb p j) → j + 1 ≡ a + q → Reach p q a l → Reach p q (j + 1) (l + q - q * b)
reach_on p q a l j s e r = rw s (by (leb p j) refl r.near)
  where
    by : (b : Bool) → leb p j ≡ b → (l ≡ a) ⊎ (p < l + q) → Reach p q (j + 1) (l + q - q * bit b)
    by true f (inl n) = record { low = omega (arith, r.low); most = omega (arith, r.most); near = inr (omega (arith, leb-true p j f)) }
    by true f (inr n) = record { low = omega (arith, r.low); most = omega (arith, r.most); near = inr (omega arith) }
    by false f (inl n) = record { low = omega (arith, leb-false p j f); most = omega arith; near = inl (omega arith) }
    by false f (inr n) = absurd (omega (arith, leb-false p j f, r.most))

reach_end : (p q lo len n l : ℕ) → n ≤ len → n + q ≤ len + 1 → p ≤ lo + len → Reach p q (lo + n) l → p ≤ l + (len - n)
reach_end p q lo len n l h k f r = ⊎_elim (λ e. omega arith) (λ e. omega arith) r.near

module _ (v : ℤ) (s : List ℕ) (m : ℕ) where
  abbrev here : ℕ
  here = place_of v (values_of s m)

  pub span_all : Spanned v s m 0 m
  span_all = record { within = omega arith; from = λ w. omega arith; to = λ w. omega (arith, place_within v (values_of s m), values_length s m) }

  pub span_one : (lo len : ℕ) → Spanned v s m lo len → len ≡ 0 → Placed v s m lo
  span_one lo len h e = record { within = omega (arith, h.within); place = λ w. omega (arith, h.from w, h.to w) }

  module _ (lo len q : ℕ) (h : Spanned v s m lo len) (z : 0 < q) where
    probe : (a l j : ℕ) {b : ℕ} → Sorted (values_of s m) → j < m → b ≡ not_less v s j → j + 1 ≡ a + q → Reach here q a l
        → Reach here q (j + 1) (l + q - q * b)
    probe a l j w k e f r =
        reach_on here q a l j (e ∙ ap bit (ap (le_z v) (sym (values_at s m j (pos 0) k)) ∙ place_probe v (values_of s m) j w (rw values_length k))) f r

    -- the probes have left n places less
    fewer : (n a l : ℕ) → n ≤ len → n + q ≤ len + 1 → a ≡ lo + n → l ≤ a → (Sorted (values_of s m) → Reach here q a l) → Spanned v s m l (len - n)
    fewer n a l k f e g r = record {
      within = omega (arith, h.within);
      from = λ w. (r w).low;
      to = λ w. reach_end here q lo len n l k f (h.to w) (rw e at (r w));
    }

    first : (b : ℕ) → b ≡ not_less v s (lo + q - 1) → q ≤ len → Sorted (values_of s m) → Reach here q (lo + q - 1 + 1) (lo + q - q * b)
    first b e l w = probe lo lo (lo + q - 1) w (omega (arith, h.within)) e (omega arith) (reach_start here q lo (h.from w))

    -- one probe
    pub halved : (b : ℕ) → b ≡ not_less v s (lo + q - 1) → 2 * q ≤ len + 1 → Spanned v s m (lo + q - q * b) (len - q)
    halved b e l = fewer q _ _ (omega arith) (omega arith) (omega arith) (omega arith) (first b e (omega arith))

    -- three at once
    module _ (a b c : ℕ) (ha : a ≤ 1) (hb : b ≤ 1) (hc : c ≤ 1) where
      sum : lo + 3 * q - q * (a + b + c) ≡ lo + q - q * a + q - q * b + q - q * c
      sum = rw (mul-add q (a + b) c, mul-add q a b) (omega (arith, mul-le-mul_left q ha, mul-le-mul_left q hb, mul-le-mul_left q hc))

      pub quartered : a ≡ not_less v s (lo + q - 1) → b ≡ not_less v s (lo + 2 * q - 1) → c ≡ not_less v s (lo + 3 * q - 1) → 4 * q ≤ len
          → Spanned v s m (lo + 3 * q - q * (a + b + c)) (len - 3 * q)
      quartered e f g l =
          let inside = h.within in
          rw sum
          (fewer (3 * q) _ _ (omega arith) (omega arith) (omega arith) (omega arith)
          (λ w.
          let second = probe _ _ (lo + 2 * q - 1) w (omega arith) f (omega arith) (first a e (omega arith) w) in
          probe _ _ (lo + 3 * q - 1) w (omega arith) g (omega arith) second))
