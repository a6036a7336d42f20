-- What the store holds once a value has gone in at its place, once one has gone from it, and once one has come for another. Assumes nothing.
use mathlib.Core.Path.{◌≡◌, refl, sym, ap, ◌∙◌}
use mathlib.Core.List.{List, [], ◌∷◌, ◌++◌}
use Prim.Native.Nat.{ℕ, zero, suc, ◌+◌, ◌-◌, ◌*◌, ◌≤◌, ◌<◌}
use native.Mathlib.Numerals.{add-one}
use native.Mathlib.Omega.{arith}
use lib.Dec.{ltb}
use lib.IntN.{ℤ}
use lib.ListN.{length, set, take, drop}
use Rattle.model.specs.Numbers.{bit}
use Rattle.laws.specs.Lists.{In, without}
use Rattle.slide.specs.Ordered.{Sorted, insert, remove_one}
use Rattle.cells.specs.Store.{Moved, Put, values_of, values_length}
use Rattle.cells.proofs.Store.{hole_last}
use Rattle.search.specs.Place.{place_of, Placed, place_insert, place_found, place_remove, place_without, sorted_without}
use Rattle.ordered.specs.Kept.{Inserted, Removed, Replaced}

set_hole : (xs : List ℤ) (i : ℕ) (v : ℤ) → i < length xs → set xs i v ≡ take i (without i xs) ++ (v ∷ drop i (without i xs))
unfolding without
set_hole [] i v h = absurd (omega arith)
set_hole (x ∷ xs) zero v h = refl
set_hole (x ∷ xs) (suc i) v h = ap (λ (l : List ℤ). x ∷ l) (set_hole xs i v (omega arith))

-- z goes into the hole at i, which is its place among the other values
filled : (t u : List ℕ) (m i : ℕ) (z : ℤ) (ys : List ℤ) → i < m → 4 * m ≤ length t → Put i z t u → without i (values_of t m) ≡ ys → Sorted ys
    → i ≡ place_of z ys → values_of u m ≡ insert z ys
filled t u m i z ys h l w e sorted p =
    w m h l ∙ set_hole (values_of t m) i z (rw values_length h) ∙ rw (e, p) (sym (place_insert z ys sorted))

module _ (s : List ℕ) (m p : ℕ) (z : ℤ) (at : Placed z s m p) where
  -- where the place is past the last, z is not there
  pub present : Sorted (values_of s m) → In z (values_of s m) → p < m
  present w i = omega (arith, at.place w, values_length s m, (place_found z (values_of s m) w i).0)

  gone : Sorted (values_of s m) → In z (values_of s m) → remove_one z (values_of s m) ≡ without p (values_of s m)
  gone w i = rw (at.place w) (place_remove z (values_of s m) w i)

  -- s has become t by moving the hole
  module _ (t : List ℕ) (size : length t ≡ length s) where
    pub inserted : (u : List ℕ) → 4 * m + 4 ≤ length s → Moved m p s t → Put p z t u → Inserted z m s u
    inserted u l h w sorted =
        let within = at.within in
        rw (add-one m)
        (filled t u (suc m) p z (values_of s m) (omega arith) (omega arith) w
        (h (suc m) (omega arith) (omega arith) (omega arith) ∙ hole_last s m) sorted (at.place sorted))

    module _ (l : 4 * m ≤ length s) where
      pub removed : p < m → Moved p (m - 1) s t → Removed z m s t
      removed some h sorted there =
          let last : suc (m - 1) ≡ m = omega arith in
          sym (hole_last t (m - 1)) ∙ ap (λ (n : ℕ). without (m - 1) (values_of t n)) last ∙ h m some (omega arith) l ∙ sym (gone sorted there)

      -- new's place was q, and is r once z has gone
      pub replaced : (u : List ℕ) (q r : ℕ) (new : ℤ) → Placed new s m q → q ≡ r + bit (ltb p q) → r < m → Moved p r s t → Put r new t u → Replaced z new m s u
      replaced u q r new to e room h w sorted there =
          let xs = values_of s m in
          let here : r ≡ place_of new (without p xs) = omega (arith, rw (← to.place sorted) at (place_without new xs p sorted)) in
          rw (gone sorted there)
          (filled t u m r new (without p xs) room (omega arith) w (h m (present sorted there) room l) (sorted_without xs p sorted) here)
