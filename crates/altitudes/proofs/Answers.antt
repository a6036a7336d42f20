-- What `altitudes::keep` makes of the part, one law for each way out. Assumes nothing.
use mathlib.Core.List.{List}
use mathlib.Core.Path.{◌≡◌, refl, ap}
use Prim.Native.Nat.{ℕ, zero, suc, ◌+◌, ◌^◌, ◌≤◌, ◌<◌}
use native.Mathlib.Omega.{arith}
use lib.IntN.{ℤ}
use lib.ListN.{length}
use lib.Signed.{mag}
use Rattle.model.specs.Numbers.{le_at, signed, unsigned}
use Rattle.field.specs.Le.{put_le, put_le_length, le_other}
use Rattle.field.specs.Part.{Apart}
use Rattle.field.specs.Twos.{signed_same}
use Rattle.altitudes.specs.Ends.{altitude_len, ends_len, ends_from, with_altitude}

-- an altitude that is written as the last, and of second 0 as the first too
module _ (xs : List ℕ) (size : length xs ≡ ends_len) (z : ℤ) (f : mag z < 2 ^ 31) where
  abbrev put_at : ℕ → List ℕ → List ℕ
  put_at a ys = put_le altitude_len ys a (unsigned altitude_len z)

  abbrev value_at_lem : ℕ → List ℕ → ℤ
  value_at_lem a ys = signed altitude_len (le_at altitude_len ys a)

  -- what is written at a place is there, and what stands apart stays
  here : (a : ℕ) (ys : List ℕ) → a + altitude_len ≤ length ys → value_at_lem a (put_at a ys) ≡ z
  here a ys h = signed_same altitude_len (omega arith) z f ys a h

  elsewhere : (a b : ℕ) (ys : List ℕ) → Apart a altitude_len b altitude_len → value_at_lem b (put_at a ys) ≡ value_at_lem b ys
  elsewhere a b ys o = ap (signed altitude_len) (le_other altitude_len ys a (unsigned altitude_len z) altitude_len b o)

  abbrev later : List ℕ
  later = put_at altitude_len xs

  pub kept_later : (n : ℕ) → (n ≡ 0 → ⊥) → ends_from later ≡ with_altitude n z (ends_from xs)
  unfolding ends_from with_altitude
  kept_later zero h = absurd (h refl)
  kept_later (suc n) h = rw (here altitude_len xs (omega arith), elsewhere altitude_len 0 xs (λ x y. omega arith)) refl

  pub kept_first : (n : ℕ) → n ≡ 0 → ends_from (put_at 0 later) ≡ with_altitude n z (ends_from xs)
  unfolding ends_from with_altitude
  kept_first n h =
      let l : length later ≡ length xs = put_le_length altitude_len xs altitude_len (unsigned altitude_len z) in
      rw (h, here 0 later (omega (arith, l)), elsewhere 0 altitude_len later (λ x y. omega arith), here altitude_len xs (omega arith)) refl
