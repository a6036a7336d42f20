-- The place of a value in a list: before the first that is not less.
--     place_of                       how many come before it
--     Sought, sought_by, not_less     what a search of a store looks for, how code hands it on, and what it asks of a cell
--     Placed, Spanned               what it finds: the place; places of which it is one
--     placed_front                  the place among the values of the first cells
--     place_probe                   in a list in order each value tells on which side of it the place is
--     place_insert                  there the value goes in
--     place_found, place_remove     where the value is one of the list, it stands there, and goes from there
--     place_without                 the place once the value at k has gone; sorted_without: what is left is in order
-- Assumes nothing.
use Rattle.std.specs.Prelude.{◌≡◌, ◌⊎◌, Bool, cond, ltb, ℤ, pos, nat_abs, ◌-ℤ◌, get_or, take, drop}
use Rattle.std.proofs.Math.Path.{refl, sym}
use Rattle.std.proofs.Common.{◌∙◌, inl, inr, true≢false, le-leb, le-ltb, lt-ltb}
use mathlib.Core.List.{List, [], ◌∷◌, ◌++◌}
use Rattle.std.proofs.Math.Bool.{true, false}
use Prim.Native.Nat.{ℕ, zero, suc, ◌+◌, ◌*◌, ◌/◌, ◌^◌, ◌≤◌, ◌<◌}
use native.Mathlib.Omega.{arith}
use Rattle.std.proofs.lemmas.Bool.{lt-leb}
use Rattle.std.proofs.Math.Dec.{leb, leb-suc-suc}
use Rattle.std.proofs.Math.ListN.{length}
use Rattle.std.specs.Int.Signed.{le_z, nat_abs-le}
use Rattle.model.specs.Numbers.{bit}
use Rattle.laws.specs.Lists.{In, All, all_map, all_at, without}
use Rattle.laws.specs.Order.{le_z_total, le_z_trans, le_z_anti, le_z_refl}
use Rattle.slide.specs.Ordered.{Least, Sorted, insert, remove_one, insert_at, remove_at}
use Rattle.cells.specs.Store.{Storable, value_at, values_of, values_alone}

-- how many come before, where n of the later ones do
abbrev before : Bool → ℕ → ℕ
before b n = cond b 0 (suc n)

-- how many values come before the first that is not less than v
unfoldable pub place_of : ℤ → List ℤ → ℕ
place_of v [] = 0
place_of v (x ∷ xs) = before (le_z v x) (place_of v xs)

-- what may be looked for: the values of any record's channels, also those that no cell holds
abbrev pub Sought : ℤ → Type 0
Sought z = nat_abs z < 2 ^ 32

pub sought : (z : ℤ) → Storable z → Sought z
sought z h = omega (arith, nat_abs-le z h)

-- more than any of them differs from one in a cell
abbrev pub offset : ℕ
offset = 2 ^ 40

-- the value z that is looked for, where code has c = offset - z
abbrev pub sought_by : ℤ → ℤ
sought_by c = pos offset -ℤ c

-- 1 where the value in cell i is not less than v
abbrev pub not_less : ℤ → List ℕ → ℕ → ℕ
not_less v s i = bit (le_z v (value_at s i))

-- p is the place of v among the first m values
pub record Placed (v : ℤ) (s : List ℕ) (m p : ℕ) : Type 0 where
  pub within : p ≤ m
  pub place : Sorted (values_of s m) → p ≡ place_of v (values_of s m)

-- the place among the values of the first m cells, read alone
pub placed_front : (v : ℤ) (s : List ℕ) (m p : ℕ) → 4 * m ≤ length s → Placed v (take (4 * m) s) (length (take (4 * m) s) / 4) p → Placed v s m p
placed_front v s m p h r =
    let e = values_alone s m h in
    record { within = omega (arith, r.within, e.0); place = λ w. rw e.1 at (r.place (rw e.1 w)) }

-- the place of v among the first m values is one of lo to lo + len
pub record Spanned (v : ℤ) (s : List ℕ) (m lo len : ℕ) : Type 0 where
  pub within : lo + len ≤ m
  pub from : Sorted (values_of s m) → lo ≤ place_of v (values_of s m)
  pub to : Sorted (values_of s m) → place_of v (values_of s m) ≤ lo + len

module _ (v : ℤ) where
  pub place_within : (xs : List ℤ) → place_of v xs ≤ length xs
  unfolding place_of
  place_within [] = omega arith
  place_within (x ∷ xs) = by (le_z v x) (place_within xs)
    where
      by : (b : Bool) → place_of v xs ≤ length xs → before b (place_of v xs) ≤ suc (length xs)
      by true h = omega arith
      by false h = omega arith

  pub place_probe : (xs : List ℤ) (j : ℕ) → Sorted xs → j < length xs → le_z v (get_or xs j (pos 0)) ≡ leb (place_of v xs) j
  unfolding place_of Sorted
  place_probe [] j w h = absurd (omega arith)
  place_probe (x ∷ xs) zero w h = by (le_z v x)
    where
      by : (b : Bool) → b ≡ leb (before b (place_of v xs)) 0
      by true = sym (le-leb 0 0 (omega arith))
      by false = sym (lt-leb (suc (place_of v xs)) 0 (omega arith))
  place_probe (x ∷ xs) (suc j) w h = by (le_z v x) refl (place_probe xs j w.1 (omega arith))
    where
      by : (b : Bool) → le_z v x ≡ b → le_z v (get_or xs j (pos 0)) ≡ leb (place_of v xs) j
          → le_z v (get_or xs j (pos 0)) ≡ leb (before b (place_of v xs)) (suc j)
      by true e r = le_z_trans v x _ e (all_at _ (pos 0) xs j (omega arith) w.0) ∙ sym (le-leb 0 (suc j) (omega arith))
      by false e r = r ∙ sym (leb-suc-suc (place_of v xs) j)

  pub place_insert : (xs : List ℤ) → Sorted xs → insert v xs ≡ take (place_of v xs) xs ++ (v ∷ drop (place_of v xs) xs)
  place_insert xs w =
      let p = place_of v xs in
      let within = place_within xs in
      insert_at (pos 0) v xs p w within (λ j e. le_z_total v (get_or xs j (pos 0)) (place_probe xs j w (omega arith) ∙ lt-leb p j (omega arith)))
      (λ l. place_probe xs p w l ∙ le-leb p p (omega arith))

  all_in : (P : ℤ → Type 0) (xs : List ℤ) → All P xs → In v xs → P v
  unfolding All In
  all_in P [] h i = absurd i
  all_in P (x ∷ xs) h (inl e) = rw (← e) h.0
  all_in P (x ∷ xs) h (inr i) = all_in P xs h.1 i

  pub place_found : (xs : List ℤ) → Sorted xs → In v xs → (place_of v xs < length xs) × (get_or xs (place_of v xs) (pos 0) ≡ v)
  unfolding place_of Sorted In
  place_found [] w i = absurd i
  place_found (x ∷ xs) w i = by (le_z v x) refl i (place_found xs w.1)
    where
      by : (b : Bool) → le_z v x ≡ b → (x ≡ v) ⊎ In v xs → (In v xs → (place_of v xs < length xs) × (get_or xs (place_of v xs) (pos 0) ≡ v))
          → (before b (place_of v xs) < suc (length xs)) × (get_or (x ∷ xs) (before b (place_of v xs)) (pos 0) ≡ v)
      by true e (inl q) r = (omega arith, q)
      by true e (inr j) r = (omega arith, le_z_anti x v (all_in _ xs w.0 j) e)
      by false e (inl q) r = absurd (true≢false (sym (le_z_refl v) ∙ rw q at e))
      by false e (inr j) r = let f = r j in (omega (arith, f.0), f.1)

  pub place_remove : (xs : List ℤ) → Sorted xs → In v xs → remove_one v xs ≡ without (place_of v xs) xs
  place_remove xs w i = let f = place_found xs w i in remove_at (pos 0) v xs (place_of v xs) w f.0 f.1

  place_least : (xs : List ℤ) → Least v xs → place_of v xs ≡ 0
  unfolding place_of All
  place_least [] h = refl
  place_least (x ∷ xs) h = rw h.0 refl

  pub place_without : (xs : List ℤ) (k : ℕ) → Sorted xs → place_of v xs ≡ place_of v (without k xs) + bit (ltb k (place_of v xs))
  unfolding place_of without Sorted
  place_without [] k w = rw (le-ltb k 0 (omega arith)) refl
  place_without (x ∷ xs) zero w = by (le_z v x) refl
    where
      by : (b : Bool) → le_z v x ≡ b → before b (place_of v xs) ≡ place_of v xs + bit (ltb 0 (before b (place_of v xs)))
      by true e = rw (place_least xs (all_map (λ y h. le_z_trans v x y e h) xs w.0)) refl
      by false e = rw (lt-ltb 0 (suc (place_of v xs)) (omega arith)) (omega arith)
  place_without (x ∷ xs) (suc k) w = by (le_z v x) (place_without xs k w.1)
    where
      by : (b : Bool) → place_of v xs ≡ place_of v (without k xs) + bit (ltb k (place_of v xs))
          → before b (place_of v xs) ≡ before b (place_of v (without k xs)) + bit (ltb (suc k) (before b (place_of v xs)))
      by true r = rw (le-ltb (suc k) 0 (omega arith)) refl
      by false r = rw (leb-suc-suc (suc k) (place_of v xs)) (omega arith)

all_without : (P : ℤ → Type 0) (xs : List ℤ) (k : ℕ) → All P xs → All P (without k xs)
unfolding All without
all_without P [] k h = tt
all_without P (x ∷ xs) zero h = h.1
all_without P (x ∷ xs) (suc k) h = (h.0, all_without P xs k h.1)

pub sorted_without : (xs : List ℤ) (k : ℕ) → Sorted xs → Sorted (without k xs)
unfolding Sorted without
sorted_without [] k w = tt
sorted_without (x ∷ xs) zero w = w.1
sorted_without (x ∷ xs) (suc k) w = (all_without _ xs k w.0, sorted_without xs k w.1)
