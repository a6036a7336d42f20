-- Signed fields. `signed n v`, what n bytes mean in two's complement, and `unsigned n z`, the number whose n bytes mean z, are the model's.
--     complement                the bits of a number
--     complement_unsigned       the bits of n bytes
--     unsigned_below, signed_unsigned, signed_same     of a number that fits: its bits, what they mean, what was written is read back
-- Assumes nothing.
use Rattle.std.specs.Prelude.{◌≡◌, List, ℤ, pos, length}
use Rattle.std.proofs.Math.Path.{refl}
use Rattle.std.proofs.Common.{ap, ◌∙◌, pow-suc, arith, lt-ltb, le-ltb}
use Prim.Native.Nat.{ℕ, zero, suc, ◌+◌, ◌-◌, ◌*◌, ◌^◌, ◌≤◌, ◌<◌}
use Rattle.std.proofs.Math.IntN.{negsuc}
use Rattle.std.specs.Int.Signed.{mag}
use Rattle.model.specs.Numbers.{le_at, signed, unsigned}
use Rattle.field.specs.Le.{put_le, le_same}

-- the bits of a number, of which `most` has all set
abbrev pub complement : ℕ → ℤ → ℕ
complement most (pos k) = k
complement most (negsuc k) = most - k

pub complement_unsigned : (n : ℕ) (z : ℤ) → complement (2 ^ (8 * n) - 1) z ≡ unsigned n z
complement_unsigned n (pos k) = refl
complement_unsigned n (negsuc k) = omega arith

-- n bytes are 8 × n bits, the highest of which is the sign
bytes_bits : (n : ℕ) → 256 ^ n ≡ 2 ^ (8 * n)
bytes_bits zero = refl
bytes_bits (suc n) =
    let e : 8 * suc n ≡ suc (suc (suc (suc (suc (suc (suc (suc (8 * n)))))))) = omega arith in
    rw (pow-suc 256 n, bytes_bits n, e) (simp pow-suc (omega arith))

sign_bit : (n : ℕ) → 0 < n → 2 ^ (8 * n) ≡ 2 * 2 ^ (8 * n - 1)
sign_bit zero h = absurd (omega arith)
sign_bit (suc n) h =
    let e : 8 * suc n - 1 ≡ 8 * n + 7 = omega arith in
    let f : 8 * suc n ≡ suc (8 * n + 7) = omega arith in
    rw (e, f, pow-suc) (omega arith)

-- a number that fits n bytes, and its bits
module _ (n : ℕ) (p : 0 < n) (z : ℤ) (f : mag z < 2 ^ (8 * n - 1)) where
  pub unsigned_below : unsigned n z < 256 ^ n
  unsigned_below = rw (bytes_bits n) (by z f)
    where
      by : (z : ℤ) → mag z < 2 ^ (8 * n - 1) → unsigned n z < 2 ^ (8 * n)
      by (pos k) f = omega (arith, sign_bit n p)
      by (negsuc k) f = omega (arith, sign_bit n p)

  pub signed_unsigned : signed n (unsigned n z) ≡ z
  unfolding signed
  signed_unsigned = by z f
    where
      by : (z : ℤ) → mag z < 2 ^ (8 * n - 1) → signed n (unsigned n z) ≡ z
      by (pos k) f = rw (lt-ltb k (2 ^ (8 * n - 1)) f) refl
      by (negsuc k) f =
          let e = sign_bit n p in
          rw (le-ltb (2 ^ (8 * n) - suc k) (2 ^ (8 * n - 1)) (omega arith)) (ap negsuc (omega arith))

  -- what was written is read back
  pub signed_same : (xs : List ℕ) (a : ℕ) → a + n ≤ length xs → signed n (le_at n (put_le n xs a (unsigned n z)) a) ≡ z
  signed_same xs a h = ap (signed n) (le_same n xs a (unsigned n z) h unsigned_below) ∙ signed_unsigned
