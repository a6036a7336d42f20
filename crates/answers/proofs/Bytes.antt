-- The bytes of an answer, written field after field. Assumes nothing.
use mathlib.Core.Bool.{Bool, true, false}
use mathlib.Core.List.{List, [], ◌∷◌, ◌++◌}
use mathlib.Core.Path.{◌≡◌}
use Prim.Native.Nat.{ℕ, ◌+◌, ◌%◌, ◌<◌}
use native.Mathlib.Omega.{arith}
use lib.ListN.{length}
use Rattle.field.specs.Le.{put_le, bytes_length_lem}
use Rattle.field.specs.Part.{put, put_append}
use Rattle.model.specs.Numbers.{bit, le_bytes}

-- one byte, then a field
pub byte_field : (o : List ℕ) (a t n v : ℕ) → t < 256 → put_le n (put_le 1 o a t) (a + 1) v ≡ put o a (t ∷ le_bytes n v)
unfolding put_le le_bytes
byte_field o a t n v h =
    let e : t % 256 ≡ t = omega arith in
    rw e (put_append o a (t ∷ []) (le_bytes n v))

-- one byte and a field, twice
pub byte_fields : (o : List ℕ) (a b e f : ℕ) → e < 256
    → put_le 3 (put_le 1 (put_le 4 (put_le 1 o a 2) (a + 1) b) (a + 5) e) (a + 6) f ≡ put o a (2 ∷ (le_bytes 4 b ++ (e ∷ le_bytes 3 f)))
byte_fields o a b e f h =
    let l : a + 5 ≡ a + length (2 ∷ le_bytes 4 b) = omega (arith, bytes_length_lem 4 b) in
    let six : a + 6 ≡ a + 5 + 1 = omega arith in
    rw (six, byte_field _ (a + 5) e 3 f h, byte_field o a 2 4 b (omega arith), l) (put_append o a (2 ∷ le_bytes 4 b) (e ∷ le_bytes 3 f))

pub bit_below : (b : Bool) → bit b < 256
bit_below true = omega arith
bit_below false = omega arith
