-- A circular store of 600 places, read as a list: n entries from place f. `f` need not be below 600: a place is taken modulo 600.
--     circ_length, circ_at     how many, and the i-th
--     circ_push                an entry written behind the last
--     circ_back, circ_front    without the last, without the first
-- Assumes nothing.
use Rattle.std.specs.Prelude.{◌≡◌, refl, List, [], ◌∷◌, ◌++◌, ℕ, zero, suc, ◌+◌, ◌-◌, ◌%◌, ◌≤◌, ◌<◌, length, get_or}
use Rattle.std.proofs.Common.{ap, add-zero, add-one, sub-one, arith}
use Rattle.slots.specs.Layout.{list_capacity}

unfoldable pub circ : (ℕ → ℕ) → ℕ → ℕ → List ℕ
circ g f zero = []
circ g f (suc n) = g (f % list_capacity) ∷ circ g (suc f) n

pub circ_length : (g : ℕ → ℕ) (f n : ℕ) → length (circ g f n) ≡ n
unfolding circ
circ_length g f zero = refl
circ_length g f (suc n) = ap suc (circ_length g (suc f) n)

circ_mod : (g : ℕ → ℕ) (f f' n : ℕ) → f % list_capacity ≡ f' % list_capacity → circ g f n ≡ circ g f' n
unfolding circ
circ_mod g f f' zero e = refl
circ_mod g f f' (suc n) e = rw (e, circ_mod g (suc f) (suc f') n (omega arith))

pub circ_same : (g h : ℕ → ℕ) (f n : ℕ) → ((i : ℕ) → f ≤ i → i < f + n → g (i % list_capacity) ≡ h (i % list_capacity)) → circ g f n ≡ circ h f n
unfolding circ
circ_same g h f zero e = refl
circ_same g h f (suc n) e =
    rw (e f (omega arith) (omega arith), circ_same g h (suc f) n (λ i a b. e i (omega arith) (omega arith)))

circ_snoc : (g : ℕ → ℕ) (f n : ℕ) → circ g f (suc n) ≡ circ g f n ++ (g ((f + n) % list_capacity) ∷ [])
unfolding circ
circ_snoc g f zero = rw add-zero
circ_snoc g f (suc n) =
    let e : suc f + n ≡ f + suc n = omega arith in
    ap (λ (l : List ℕ). g (f % list_capacity) ∷ l) (rw e at (circ_snoc g (suc f) n))

-- an entry v written at the place behind the last
pub circ_push : (g h : ℕ → ℕ) (f n v : ℕ) → n < list_capacity → h ((f + n) % list_capacity) ≡ v → ((i : ℕ) → (i ≡ (f + n) % list_capacity → ⊥) → h i ≡ g i)
    → circ h f (n + 1) ≡ circ g f n ++ (v ∷ [])
circ_push g h f n v k s o =
    rw (add-one n, circ_snoc h f n, s, circ_same h g f n (λ i a b. o (i % list_capacity) (λ e. omega arith)))

-- without the last, and without the first
pub circ_back : (g : ℕ → ℕ) (f n : ℕ) → 0 < n → circ g f n ≡ circ g f (n - 1) ++ (g ((f + (n - 1)) % list_capacity) ∷ [])
circ_back g f zero h = absurd (omega arith)
circ_back g f (suc n) h = rw sub-one (circ_snoc g f n)

pub circ_front : (g : ℕ → ℕ) (f n : ℕ) → 0 < n → circ g f n ≡ g (f % list_capacity) ∷ circ g ((f + 1) % list_capacity) (n - 1)
unfolding circ
circ_front g f zero h = absurd (omega arith)
circ_front g f (suc n) h = rw (sub-one, circ_mod g ((f + 1) % list_capacity) (suc f) n (omega arith))

pub circ_at : (g : ℕ → ℕ) (f n i : ℕ) → i < n → get_or (circ g f n) i 0 ≡ g ((f + i) % list_capacity)
unfolding circ
circ_at g f zero i h = absurd (omega arith)
circ_at g f (suc n) zero h = rw add-zero
circ_at g f (suc n) (suc i) h =
    let e : suc f + i ≡ f + suc i = omega arith in
    rw e at (circ_at g (suc f) n i (omega arith))
