-- Little-endian fields of a list of bytes, each law once over the width n in bytes. `le_at n xs a`, the number in the n bytes of xs from a, is the
-- model's; `put_le n xs a v` is xs with the n lowest bytes of v from a. Assumes nothing.
use Rattle.std.specs.Prelude.{◌≡◌, refl, List, ℕ, zero, suc, ◌+◌, ◌*◌, ◌/◌, ◌^◌, ◌≤◌, ◌<◌, length, get_or}
use Rattle.std.proofs.Common.{ap, ◌∙◌, add-zero, zero-add, suc-add, pow-suc, arith, drop-cons}
use Rattle.model.specs.Numbers.{le_val, le_bytes, le_at}
use Rattle.field.specs.Part.{part, put, put_length, part_same, part_other, part_part, Apart}

unfoldable pub put_le : ℕ → List ℕ → ℕ → ℕ → List ℕ
put_le n xs a v = put xs a (le_bytes n v)

-- a number as n bytes is n bytes long
pub bytes_length_lem : (n v : ℕ) → length (le_bytes n v) ≡ n
unfolding le_bytes
bytes_length_lem zero v = refl
bytes_length_lem (suc n) v = ap suc (bytes_length_lem n (v / 256))

-- the bytes of a number that fits mean the number
pub val_bytes : (n v : ℕ) → v < 256 ^ n → le_val (le_bytes n v) ≡ v
unfolding le_val le_bytes
val_bytes zero v h = omega arith
val_bytes (suc n) v h =
    let h' : v < 256 ^ n * 256 = rw pow-suc at h in
    let e : le_val (le_bytes n (v / 256)) ≡ v / 256 = val_bytes n (v / 256) (omega arith) in
    omega arith

-- a write keeps the length
pub put_le_length : (n : ℕ) (xs : List ℕ) (a v : ℕ) → length (put_le n xs a v) ≡ length xs
unfolding put_le
put_le_length n xs a v = put_length xs a (le_bytes n v)

-- what was written is read back
pub le_same : (n : ℕ) (xs : List ℕ) (a v : ℕ) → a + n ≤ length xs → v < 256 ^ n → le_at n (put_le n xs a v) a ≡ v
unfolding le_at put_le part
le_same n xs a v h k =
    let l : length (le_bytes n v) ≡ n = bytes_length_lem n v in
    let e : part (put xs a (le_bytes n v)) a (length (le_bytes n v)) ≡ le_bytes n v = part_same xs a (le_bytes n v) (omega arith) in
    ap le_val (rw l at e) ∙ val_bytes n v k

-- a part, after a field apart from it was written
pub part_le : (n : ℕ) (xs : List ℕ) (a v b m : ℕ) → Apart a n b m → part (put_le n xs a v) b m ≡ part xs b m
unfolding put_le
part_le n xs a v b m o = part_other xs a (le_bytes n v) b m (rw bytes_length_lem o)

-- a field, after a field apart from it was written
pub le_other : (n : ℕ) (xs : List ℕ) (a v m b : ℕ) → Apart a n b m → le_at m (put_le n xs a v) b ≡ le_at m xs b
unfolding le_at part
le_other n xs a v m b o = ap le_val (part_le n xs a v b m o)

-- the first of two fields that were written apart
pub le_under : (m : ℕ) (xs : List ℕ) (a v n b w : ℕ) → a + m ≤ length xs → v < 256 ^ m → Apart b n a m → le_at m (put_le n (put_le m xs a v) b w) a ≡ v
le_under m xs a v n b w h k o = le_other n (put_le m xs a v) b w m a o ∙ le_same m xs a v h k

-- a field, after bytes apart from it were put
pub le_put : (xs : List ℕ) (a : ℕ) (ys : List ℕ) (m b : ℕ) → Apart a (length ys) b m → le_at m (put xs a ys) b ≡ le_at m xs b
unfolding le_at part
le_put xs a ys m b o = ap le_val (part_other xs a ys b m o)

-- a field of a part is a field of the whole
pub le_part : (xs : List ℕ) (a n m b : ℕ) → b + m ≤ n → le_at m (part xs a n) b ≡ le_at m xs (a + b)
unfolding le_at part
le_part xs a n m b h = ap le_val (part_part xs a n b m h)

-- a field of no bytes, and of one byte more
pub le_zero : (xs : List ℕ) (a : ℕ) → le_at 0 xs a ≡ 0
unfolding le_at le_val
le_zero xs a = refl

pub le_suc : (n : ℕ) (xs : List ℕ) (a : ℕ) → a < length xs → le_at (suc n) xs a ≡ get_or xs a 0 + 256 * le_at n xs (suc a)
unfolding le_at le_val
le_suc n xs a h = rw (drop-cons xs a 0)

-- a field of one byte is the byte
pub le_one : (xs : List ℕ) (a : ℕ) → a < length xs → le_at 1 xs a ≡ get_or xs a 0
le_one xs a h = le_suc 0 xs a h ∙ rw (le_zero xs (suc a)) (omega arith)

-- a field as two, one behind the other
pub le_join : (m n : ℕ) (xs : List ℕ) (a : ℕ) → a + m ≤ length xs → le_at (m + n) xs a ≡ le_at m xs a + 256 ^ m * le_at n xs (a + m)
le_join zero n xs a h = rw (zero-add, add-zero, le_zero xs a) (omega arith)
le_join (suc m) n xs a h =
    let next : suc a + m ≡ a + suc m = omega arith in
    let rest : le_at (m + n) xs (suc a) ≡ le_at m xs (suc a) + 256 ^ m * le_at n xs (a + suc m) = rw next at (le_join m n xs (suc a) (omega arith)) in
    rw (suc-add, le_suc (m + n) xs a (omega arith), le_suc m xs a (omega arith), rest, pow-suc) (omega arith)
