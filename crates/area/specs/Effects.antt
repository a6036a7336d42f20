-- What the functions on the area's parts do: one part is new, the others are as they were.
--     Changed, changed     part k is new, and what is promised of it
--     Numbered             a number of the head is new
-- lent_changed, numbered and number_is are in proofs/Effects.
-- Assumes nothing.
use Rattle.std.specs.Prelude.{List, ◌++◌, ◌≡◌, refl, ℕ, zero, suc, ◌+◌, ◌-◌, ◌*◌, ◌<◌, length, get_or, take, drop, replicate}
use Rattle.std.proofs.Common.{sym, ap, subst, ◌∙◌, eq-eqb}
use native.Mathlib.Omega.{arith}
use Rattle.model.specs.Numbers.{le_val}
use Rattle.field.specs.Part.{part}
use Rattle.area.specs.Layout.{area_len, number_len, before, place, size, Parts, parts_of, with}

-- part k is new, R says how it came of the old one, and the others are as they were
pub record Changed (k : ℕ) (R : List ℕ → List ℕ → Type 0) (p q : Parts) : Type 0 where
  pub is : q ≡ with k (q k) p
  pub by : R (p k) (q k)

-- part k of the parts of which it is new
pub with_here : (k : ℕ) (ys : List ℕ) (p : Parts) → with k ys p k ≡ ys
unfolding with
with_here k ys p = rw (eq-eqb k k refl)

pub changed : (k : ℕ) (R : List ℕ → List ℕ → Type 0) (ys : List ℕ) (p q : Parts) → q ≡ with k ys p → R (p k) ys → Changed k R p q
changed k R ys p q e r =
    let here : q k ≡ ys = ap (λ (z : Parts). z k) e ∙ with_here k ys p in
    record { is = e ∙ ap (λ (l : List ℕ). with k l p) (sym here); by = subst (R (p k)) (sym here) r }

-- part k was lent, from its place a up to its end e, and came back as ys
module _ (xs : List ℕ) (whole : length xs ≡ area_len) (k : ℕ) (a e : ℕ) (start : a ≡ place k) (end : e ≡ place k + size k) where
  pub lent_part : take (e - a) (drop a xs) ≡ parts_of xs k
  unfolding parts_of part
  lent_part = let n : e - a ≡ size k = omega arith in rw (n, start)

-- the numbers of the head stand in front, one behind the other
pub in_front : (n : ℕ) (ls : List ℕ) (k : ℕ) → k < n → (before (replicate n number_len ++ ls) k ≡ number_len * k) × (get_or (replicate n number_len ++ ls) k 0 ≡ number_len)
unfolding before
in_front zero ls k h = absurd (omega arith)
in_front (suc n) ls zero h = (refl, refl)
in_front (suc n) ls (suc k) h = let f = in_front n ls k (omega arith) in (omega (arith, f.0), f.1)

-- number k of the head is n, and nothing else is written
pub record Numbered (k n : ℕ) (p q : Parts) : Type 0 where
  pub is : q ≡ with k (q k) p
  pub value : le_val (q k) ≡ n
