-- What the code reads of the part, as its numbers come, is what the definitions say. Assumes nothing.
use mathlib.Core.Path.{◌≡◌, refl, ◌∙◌}
use mathlib.Core.Bool.{◌&&◌}
use mathlib.Core.List.{List}
use Prim.Native.Nat.{ℕ}
use native.Mathlib.Omega.{arith}
use lib.IntN.{ℤ}
use lib.Signed.{le_z}
use mir.Syntax.{Width, w32, w64}
use mir.Val.{SFits, to_z, of_z}
use mir.ValLaws.{to_z-of_z}
use Rattle.model.specs.Numbers.{withinℤ}
use Rattle.model.specs.Records.{sample_of, channel}
use Rattle.laws.specs.Signed.{widened_is}
use Rattle.slide.specs.Conditions.{qualifies_is}
use Rattle.slots.specs.Layout.{slot_of, record_of, condition_in, low_in, high_in, window_in}
use Rattle.slots.specs.Layout.{ring_samples, ring_sample, window_low, window_high, window_condition, qualifies_in}

-- a signed number by way of its bits
abbrev pub via_bits : Width → ℤ → ℤ
via_bits w z = to_z w (of_z w z)

module _ (p : List ℕ) (k s : ℕ) where
  -- the condition of the slot's window, by the slot's bytes and the ring's record
  qualifies_ring : qualifies_in p k s ≡ withinℤ (low_in (slot_of p k)) (high_in (slot_of p k)) (channel (condition_in (slot_of p k)) (sample_of (record_of p s)))
  unfolding qualifies_in
  qualifies_ring =
      let w = slot_of p k in
      qualifies_is (window_in w) (ring_samples p s) s ∙ rw (window_low w, window_high w, window_condition w, ring_sample p s s (omega arith)) refl

  pub qualified : (c : ℕ) (z low high : ℤ) → c ≡ condition_in (slot_of p k) → z ≡ channel c (sample_of (record_of p s))
      → low ≡ low_in (slot_of p k) → high ≡ high_in (slot_of p k)
      → SFits w64 z → SFits w32 low → SFits w32 high
      → (le_z (via_bits w64 (via_bits w32 low)) (via_bits w64 z) && le_z (via_bits w64 z) (via_bits w64 (via_bits w32 high))) ≡ qualifies_in p k s
  unfolding withinℤ
  qualified c z low high ec ez el eh f fl fh =
      rw (qualifies_ring, to_z-of_z w64 z f, widened_is low fl, widened_is high fh, ez, el, eh, ec) refl
