-- One turn of the loops that read and write a field. Assumes nothing.
use mathlib.Core.Path.{◌≡◌, refl, sym, ◌∙◌}
use mathlib.Core.List.{List, [], ◌∷◌, ◌++◌}
use Prim.Native.Nat.{ℕ, zero, suc, ◌+◌, ◌-◌, ◌*◌, ◌/◌, ◌%◌, ◌^◌, ◌≤◌, ◌<◌}
use native.Mathlib.Nat.{pow-suc, sub_self, sub-zero, lt_of_lt_of_le, pow-le-pow_right}
use native.Mathlib.Numerals.{add-one, sub-one}
use native.Mathlib.Omega.{arith}
use lib.Dec.{lit<}
use lib.ListN.{length, set, take, drop}
use Rattle.std.proofs.Common.{length-take, length-drop}
use Rattle.std.proofs.lemmas.List.{length_push}
use Rattle.model.specs.Numbers.{le_val, le_at, le_bytes}
use Rattle.field.specs.Part.{part, put, part_length, put_whole, lent}
use Rattle.field.specs.Le.{put_le, bytes_length_lem}

-- from the highest byte down: a number of n bytes, of which `rest` are still to be read and v is the number of the others
pub record Reading (n number : ℕ) (rest : List ℕ) (v : ℕ) : Type 0 where
  pub left : length rest ≤ n
  pub so_far : le_val rest + 256 ^ length rest * v ≡ number
  pub below : v < 256 ^ (n - length rest)

le_val_push : (rest : List ℕ) (b : ℕ) → le_val (rest ++ (b ∷ [])) ≡ le_val rest + 256 ^ length rest * b
unfolding le_val
le_val_push [] b = omega arith
le_val_push (x ∷ rest) b = rw (le_val_push rest b, pow-suc) (omega arith)

-- at the start all bytes are left, at the end none
pub reading_start : (n m : ℕ) (xs : List ℕ) (a : ℕ) → m ≡ n → a + n ≤ length xs → Reading n (le_at n xs a) (take m (drop a xs)) 0
unfolding le_at
reading_start n m xs a e h =
    let l : length (take n (drop a xs)) ≡ n = simp (length-take, length-drop) (omega arith) in
    rw e (record { left = omega arith; so_far = omega arith; below = rw (l, sub_self) (omega arith) })

pub reading_end : (n number : ℕ) (rest : List ℕ) (v : ℕ) → Reading n number rest v → length rest ≡ 0 → (v ≡ number) × (v < 256 ^ n)
unfolding le_val
reading_end n number [] v r e = (omega (arith, r.so_far), rw sub-zero at r.below)
reading_end n number (x ∷ rest) v r e = absurd (omega arith)

module _ (n number : ℕ) (rest : List ℕ) (v b : ℕ) (r : Reading n number (rest ++ (b ∷ [])) v) where
  -- seven bytes leave room for one more in a u64
  pub reading_room : n ≤ 8 → v < 2 ^ 56
  reading_room h =
      let left = rw length_push at r.left in
      let k : n - (length rest + 1) ≤ 7 = omega arith in
      lt_of_lt_of_le (rw length_push at r.below) (pow-le-pow_right (lit< tt) k)

  -- a byte is read
  pub reading_more : b < 256 → Reading n number rest (v * 256 + b)
  reading_more h =
      let left = rw length_push at r.left in
      let below = rw length_push at r.below in
      let so_far = rw (le_val_push rest b, length_push, add-one, pow-suc) at r.so_far in
      let more : n - length rest ≡ suc (n - (length rest + 1)) = omega arith in
      record {
        left = omega arith;
        so_far = omega arith;
        below = rw (more, pow-suc) (omega arith);
      }

-- from the lowest byte up: a byte written, and the rest still to be written
put_le_up : (n : ℕ) (xs : List ℕ) (a v : ℕ) → 0 < n → put_le (n - 1) (set xs a (v % 256)) (a + 1) (v / 256) ≡ put_le n xs a v
unfolding put_le le_bytes put
put_le_up zero xs a v h = absurd (omega arith)
put_le_up (suc n) xs a v h = rw (add-one, sub-one)

put_le_zero : (xs : List ℕ) (a v : ℕ) → put_le 0 xs a v ≡ xs
unfolding put_le le_bytes put
put_le_zero xs a v = refl

-- a part of n bytes, of which i are written and the number of the others is `rest`
pub record Writing (n v : ℕ) (before part : List ℕ) (i rest : ℕ) : Type 0 where
  pub to_come : put_le (n - i) part i rest ≡ put_le n before 0 v

pub writing_start : (n v : ℕ) (before : List ℕ) → Writing n v before before 0 v
writing_start n v before = record { to_come = rw sub-zero refl }

-- a byte is written
pub writing_more : (n v : ℕ) (before part : List ℕ) (i rest : ℕ) → Writing n v before part i rest → i < n → Writing n v before (set part i (rest % 256)) (i + 1) (rest / 256)
writing_more n v before part i rest w h =
    let k : n - (i + 1) ≡ n - i - 1 = omega arith in
    let up = put_le_up (n - i) part i rest (omega arith) in
    record { to_come = rw k (up ∙ w.to_come) }

-- the whole, where a part was lent that came back written
pub written : (n m : ℕ) (xs : List ℕ) (a v i rest : ℕ) (ys : List ℕ) → m ≡ n → a + n ≤ length xs → Writing n v (take m (drop a xs)) ys i rest → length (take m (drop a xs)) ≤ i
    → take a xs ++ (ys ++ drop m (drop a xs)) ≡ put_le n xs a v
unfolding part put_le
written n m xs a v i rest ys e h w k = rw e (by (rw e at w) (rw e at k))
  where
    by : Writing n v (part xs a n) ys i rest → length (part xs a n) ≤ i → take a xs ++ (ys ++ drop n (drop a xs)) ≡ put_le n xs a v
    by w k =
        let l = part_length xs a n h in
        let z : n - i ≡ 0 = omega arith in
        let done : ys ≡ put_le n (part xs a n) 0 v = sym (put_le_zero ys i rest) ∙ (rw z at w.to_come) in
        let whole = put_whole (part xs a n) (le_bytes n v) (bytes_length_lem n v ∙ sym l) in
        rw (done, whole) (lent xs a n (le_bytes n v) h (bytes_length_lem n v))
