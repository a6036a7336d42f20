-- A store: values in cells of four bytes from the start of a list of bytes, each as an i32, little-endian.
--     Storable                      the values that a cell can hold
--     value_at, values_of             the value in a cell; the values in the first m cells
--     values_at, values_more        the value in a cell is that of the list; one cell more
--     values_set, values_alone      a cell is written; the first m values are those of the bytes of m cells
--     Put, Moved                    what `put` and `move_hole` do to a store, however many cells are read; hole_last is in proofs/Store
-- Assumes nothing.
use Rattle.std.specs.Prelude.{◌≡◌, refl, List, [], ◌∷◌, ◌++◌, ℕ, zero, suc, ◌+◌, ◌*◌, ◌/◌, ◌^◌, ◌≤◌, ◌<◌, ℤ, length, get_or, set, take}
use Rattle.std.proofs.Common.{ap, ◌∙◌, arith, zero-add, length-take-le}
use Rattle.std.specs.Int.Signed.{mag}
use Rattle.model.specs.Numbers.{le_val, le_at, le_bytes, signed}
use Rattle.field.specs.Part.{part, part_part}
use Rattle.field.specs.Le.{put_le, bytes_length_lem, val_bytes}
use Rattle.field.specs.Cells.{cells, cells_length, cells_at, cells_set}
use Rattle.laws.specs.Lists.{without}

-- the values that a cell can hold: those of an i32
abbrev pub Storable : ℤ → Type 0
Storable z = mag z < 2 ^ 31

unfoldable pub value_at : List ℕ → ℕ → ℤ
value_at s i = signed 4 (le_at 4 s (4 * i))

unfoldable pub values_of : List ℕ → ℕ → List ℤ
values_of s m = cells 4 (λ b. signed 4 (le_val b)) s m

pub values_length : (s : List ℕ) (m : ℕ) → length (values_of s m) ≡ m
unfolding values_of
values_length s m = cells_length 4 _ s m

pub values_at : (s : List ℕ) (m i : ℕ) (d : ℤ) → i < m → get_or (values_of s m) i d ≡ value_at s i
unfolding values_of value_at le_at part
values_at s m i d h = cells_at 4 _ s m i d h

pub values_more : (s : List ℕ) (m : ℕ) → values_of s (suc m) ≡ values_of s m ++ (value_at s m ∷ [])
unfolding values_of value_at le_at part cells
values_more s m = refl

pub values_set : (s : List ℕ) (m i k : ℕ) → i < m → 4 * m ≤ length s → k < 2 ^ 32 → values_of (put_le 4 s (4 * i) k) m ≡ set (values_of s m) i (signed 4 k)
unfolding values_of put_le
values_set s m i k h l b =
    cells_set 4 (λ b. signed 4 (le_val b)) s m i (le_bytes 4 k) h l (bytes_length_lem 4 k) ∙ ap (λ (n : ℕ). set (values_of s m) i (signed 4 n)) (val_bytes 4 k b)

-- the values of the first cells stand in the first bytes
part_front : (s : List ℕ) (a b n : ℕ) → b + n ≤ a → part (take a s) b n ≡ part s b n
unfolding part
part_front s a b n h = rw zero-add at (part_part s 0 a b n h)

values_front : (s : List ℕ) (m a : ℕ) → 4 * m ≤ a → values_of (take a s) m ≡ values_of s m
unfolding values_of cells
values_front s zero a h = refl
values_front s (suc m) a h = rw (values_front s m a (omega arith), part_front s a (4 * m) 4 (omega arith)) refl

-- so the bytes of m cells, with the number of cells by their length, have the first m values
pub values_alone : (s : List ℕ) (m : ℕ) → 4 * m ≤ length s
    → (length (take (4 * m) s) / 4 ≡ m) × (values_of (take (4 * m) s) (length (take (4 * m) s) / 4) ≡ values_of s m)
values_alone s m h =
    let n : length (take (4 * m) s) / 4 ≡ m = omega (arith, length-take-le (4 * m) s h) in
    (n, rw n (values_front s m (4 * m) (omega arith)))

-- from the store s to t: z has gone into cell i
abbrev pub Put : ℕ → ℤ → List ℕ → List ℕ → Type 0
Put i z s t = (m : ℕ) → i < m → 4 * m ≤ length s → values_of t m ≡ set (values_of s m) i z

-- from the store s with a hole at p to t with a hole at q: the other values are the same
abbrev pub Moved : ℕ → ℕ → List ℕ → List ℕ → Type 0
Moved p q s t = (m : ℕ) → p < m → q < m → 4 * m ≤ length s → without q (values_of t m) ≡ without p (values_of s m)
