-- A cell written, and a hole that moves through the cells, a turn at a time, over the values. Assumes nothing.
use mathlib.Core.Path.{◌≡◌, refl, sym, ap, ◌∙◌}
use mathlib.Core.List.{List, [], ◌∷◌}
use Prim.Native.Nat.{ℕ, zero, suc, ◌+◌, ◌*◌, ◌≤◌, ◌<◌, max}
use native.Mathlib.Omega.{arith}
use lib.IntN.{ℤ, pos}
use lib.ListN.{length, get_or, set}
use Rattle.model.specs.Numbers.{unsigned}
use Rattle.field.specs.Le.{put_le}
use Rattle.field.specs.Twos.{unsigned_below, signed_unsigned}
use Rattle.laws.specs.Lists.{without}
use Rattle.cells.specs.Store.{Storable, Moved, Put, value_at, values_of, values_length, values_at, values_set}

pub written : (s t : List ℕ) (i : ℕ) (z : ℤ) → Storable z → t ≡ put_le 4 s (4 * i) (unsigned 4 z) → Put i z s t
written s t i z f w m h l =
    rw (w, values_set s m i (unsigned 4 z) h l (unsigned_below 4 (omega arith) z f), signed_unsigned 4 (omega arith) z f) refl

-- the hole at i goes to its neighbour j, whose value goes to i
gap_step : (d : ℤ) (s : List ℤ) (i j : ℕ) → i < length s → j < length s → i ≤ j + 1 → j ≤ i + 1 → without j (set s i (get_or s j d)) ≡ without i s
unfolding without
gap_step d [] i j h k l m = refl
gap_step d (x ∷ s) zero zero h k l m = refl
gap_step d (x ∷ []) zero (suc j) h k l m = absurd (omega arith)
gap_step d (x ∷ y ∷ s) zero (suc zero) h k l m = refl
gap_step d (x ∷ y ∷ s) zero (suc (suc j)) h k l m = absurd (omega arith)
gap_step d (x ∷ []) (suc i) zero h k l m = absurd (omega arith)
gap_step d (x ∷ y ∷ s) (suc zero) zero h k l m = refl
gap_step d (x ∷ y ∷ s) (suc (suc i)) zero h k l m = absurd (omega arith)
gap_step d (x ∷ s) (suc i) (suc j) h k l m = ap (λ (r : List ℤ). x ∷ r) (gap_step d s i j (omega arith) (omega arith) (omega arith) (omega arith))

-- from s₀, whose hole was at p: in s it is at i, in t at i's neighbour j, whose value z has gone to i
pub moved_on : (s₀ s t : List ℕ) (p i j : ℕ) (z : ℤ) → i ≤ j + 1 → j ≤ i + 1 → i ≤ max p j → length s ≡ length s₀ → z ≡ value_at s j → Put i z s t → Moved p i s₀ s
    → Moved p j s₀ t
moved_on s₀ s t p i j z l r b n e w h m hp hj size =
    let hi : i < m = omega arith in
    let v : z ≡ get_or (values_of s m) j (pos 0) = e ∙ sym (values_at s m j (pos 0) hj) in
    rw (w m hi (omega arith), v)
    (gap_step (pos 0) (values_of s m) i j (rw values_length hi) (rw values_length hj) l r ∙ h m hp hi size)
