-- An array of n cells of w bytes each, from the start of a list: `cells w f xs n` is the list of f of each cell's bytes, for any f. Numbers of w bytes
-- are `cells w le_val`, records `cells record_length f`. Each law once, over w and f. Assumes nothing.
use Rattle.std.specs.Prelude.{◌≡◌, ◌≢◌, length, set}
use Rattle.std.proofs.Math.Path.{refl, ap}
use Rattle.std.proofs.Common.{sym, ◌∙◌, mul-le-mul_left, add-one, length-append, length-set, ext_get_or, get_or-set_same, get_or-set_other}
use mathlib.Core.List.{List, [], ◌∷◌, ◌++◌}
use Prim.Native.Nat.{ℕ, zero, suc, ◌+◌, ◌*◌, ◌^◌, ◌≤◌, ◌<◌}
use Rattle.std.proofs.Math.Nat.{mul-suc}
use Rattle.std.proofs.Math.Decide.{dec_lt, ℕ_discrete}
use native.Mathlib.Omega.{arith}
use Rattle.std.proofs.Math.ListN.{get_or, get_or-append}
use Rattle.std.proofs.Math.Seq.{get_or_at}
use Rattle.model.specs.Numbers.{le_at, le_val, le_bytes}
use Rattle.field.specs.Le.{put_le, bytes_length_lem, val_bytes}
use Rattle.field.specs.Part.{part, put, Apart, part_same, part_before, part_other}

unfoldable pub cells : {A : Type 0} → ℕ → (List ℕ → A) → List ℕ → ℕ → List A
cells w f xs zero = []
cells w f xs (suc n) = cells w f xs n ++ (f (part xs (w * n) w) ∷ [])

-- cells do not overlap
row : (w i j : ℕ) → i < j → w * i + w ≤ w * j
row w i j h = rw mul-suc at (mul-le-mul_left w h)

module _ {A : Type 0} (w : ℕ) (f : List ℕ → A) where
  -- how many there are
  pub cells_length : (xs : List ℕ) (n : ℕ) → length (cells w f xs n) ≡ n
  unfolding cells
  cells_length xs zero = refl
  cells_length xs (suc n) = rw (length-append, cells_length xs n) (add-one n)

  -- the i-th
  pub cells_at : (xs : List ℕ) (n i : ℕ) (d : A) → i < n → get_or (cells w f xs n) i d ≡ f (part xs (w * i) w)
  unfolding cells
  cells_at xs zero i d h = absurd (omega arith)
  cells_at xs (suc n) i d h = by (λ k. cells_at xs n i d k) (dec_lt i n)
    where
      by : (i < n → get_or (cells w f xs n) i d ≡ f (part xs (w * i) w)) → Dec (i < n)
          → get_or (cells w f xs n ++ (f (part xs (w * n) w) ∷ [])) i d ≡ f (part xs (w * i) w)
      by r (yes k) = get_or-append (cells w f xs n) _ d i (rw cells_length k) ∙ r k
      by r (no k) =
          let e : n ≡ i = omega arith in
          get_or_at (cells w f xs n) _ [] d i (cells_length xs n ∙ e) ∙ ap (λ (m : ℕ). f (part xs (w * m) w)) e

  -- a write past them leaves them
  pub cells_other : (xs : List ℕ) (n a : ℕ) (ys : List ℕ) → w * n ≤ a → cells w f (put xs a ys) n ≡ cells w f xs n
  unfolding cells
  cells_other xs zero a ys h = refl
  cells_other xs (suc n) a ys h =
      let r : w * n + w ≤ a = rw mul-suc at h in
      rw (cells_other xs n a ys (omega arith), part_before xs a ys (w * n) w r)

  -- a cell written after the n-th
  pub cells_push : (xs : List ℕ) (n : ℕ) (ys : List ℕ) → w * n + w ≤ length xs → length ys ≡ w
      → cells w f (put xs (w * n) ys) (n + 1) ≡ cells w f xs n ++ (f ys ∷ [])
  unfolding cells
  cells_push xs n ys h l =
      let s : part (put xs (w * n) ys) (w * n) w ≡ ys = rw l at (part_same xs (w * n) ys (omega arith)) in
      rw (add-one n, cells_other xs n (w * n) ys (omega arith), s)

  -- a cell written among them
  pub cells_set : (xs : List ℕ) (n i : ℕ) (ys : List ℕ) → i < n → w * n ≤ length xs → length ys ≡ w
      → cells w f (put xs (w * i) ys) n ≡ set (cells w f xs n) i (f ys)
  cells_set xs n i ys h r l =
      ext_get_or (f ys) _ _ (cells_length (put xs (w * i) ys) n ∙ sym (length-set (cells w f xs n) i (f ys) ∙ cells_length xs n)) each
    where
      inside : w * i + length ys ≤ length xs
      inside = omega (arith, row w i n h)

      other : (j : ℕ) → j ≢ i → part (put xs (w * i) ys) (w * j) w ≡ part xs (w * j) w
      other j d = part_other xs (w * i) ys (w * j) w (by (dec_lt i j))
        where
          by : Dec (i < j) → Apart (w * i) (length ys) (w * j) w
          by (yes k) = λ p q. omega (arith, row w i j k)
          by (no k) = λ p q. omega (arith, row w j i (omega arith))

      each : (j : ℕ) → j < length (cells w f (put xs (w * i) ys) n)
          → get_or (cells w f (put xs (w * i) ys) n) j (f ys) ≡ get_or (set (cells w f xs n) i (f ys)) j (f ys)
      each j k = cells_at (put xs (w * i) ys) n j (f ys) k' ∙ by (ℕ_discrete j i)
        where
          k' : j < n
          k' = rw cells_length at k

          by : Dec (j ≡ i) → f (part (put xs (w * i) ys) (w * j) w) ≡ get_or (set (cells w f xs n) i (f ys)) j (f ys)
          by (yes e) =
              let s : part (put xs (w * i) ys) (w * i) w ≡ ys = rw l at (part_same xs (w * i) ys inside) in
              rw e (ap f s ∙ sym (get_or-set_same (cells w f xs n) i (f ys) (f ys) (rw cells_length h)))
          by (no d) = ap f (other j d) ∙ sym (get_or-set_other (cells w f xs n) i j (f ys) (f ys) d ∙ cells_at xs n j (f ys) k')

-- a number of w bytes written after the n-th
pub numbers_push : (w : ℕ) (xs : List ℕ) (n v : ℕ) → w * n + w ≤ length xs → v < 256 ^ w
    → cells w le_val (put_le w xs (w * n) v) (n + 1) ≡ cells w le_val xs n ++ (v ∷ [])
unfolding put_le
numbers_push w xs n v h k = cells_push w le_val xs n (le_bytes w v) h (bytes_length_lem w v) ∙ ap (λ (z : ℕ). cells w le_val xs n ++ (z ∷ [])) (val_bytes w v k)

-- a number of w bytes among n
pub numbers_at : (w : ℕ) (xs : List ℕ) (n i : ℕ) → i < n → le_at w xs (w * i) ≡ get_or (cells w le_val xs n) i 0
unfolding le_at part
numbers_at w xs n i h = sym (cells_at w le_val xs n i 0 h)
