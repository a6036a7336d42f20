-- A sample added to the tally that stands in bytes, in place.
--     distances_place ..                    where its numbers stand
--     raised, raised_length, raised_at     numbers read by their low four bytes, with others added
--     raised_sum                            a sum with another number added
--     low_class, class_numbers               the class tallies by low bytes, and with the sample
--     Added                                the sample added to the tally of the bytes, where that is sound
-- Assumes nothing.
use Rattle.std.specs.Prelude.{List, [], ◌∷◌, ◌≡◌, refl, ℕ, zero, suc, ◌+◌, ◌*◌, ◌<◌, ℤ, ◌+ℤ◌, length, get_or}
use Rattle.std.specs.Int.{w64, int_wrap}
use Rattle.std.proofs.Common.{ap, ◌∙◌, arith}
use Rattle.model.specs.declared.ClassTally.{ClassTally}
use Rattle.model.specs.declared.Sample.{Sample}
use Rattle.model.specs.declared.SpeedClass.{SpeedClass}
use Rattle.model.specs.PerClass.{per_class}
use Rattle.model.specs.Numbers.{le_at, signed}
use Rattle.model.specs.Tallies.{tally_bytes, tally_from}
use Rattle.class_tally.specs.Add.{added_class}
use Rattle.tally_bytes.specs.Bytes as bytes
use Rattle.tally_bytes.specs.Bytes.{class_place}
use Rattle.tally.specs.Add.{added}
use Rattle.tally.specs.Sound.{Sound}

-- where the distances of the classes, the counts, U and extended U stand
abbrev pub distances_place : ℕ
distances_place = 8 * 3

abbrev pub counts_place : ℕ
counts_place = 8 * 6

abbrev pub nox_place : ℕ
nox_place = 8 * 12

abbrev pub extended_place : ℕ
extended_place = nox_place + 8

-- the numbers of eight bytes from place a of xs on, of each its low four bytes, with those of the list added
unfoldable pub raised : List ℕ → ℕ → List ℕ → List ℕ
raised xs a [] = []
raised xs a (n ∷ ns) = (le_at 4 xs a + n) ∷ raised xs (a + 8) ns

-- the sum at place a of xs with z added, as eight bytes hold it: of a sound tally it does not wrap
unfoldable pub raised_sum : List ℕ → ℕ → ℤ → ℤ
raised_sum xs a z = int_wrap w64 (signed 8 (le_at 8 xs a) +ℤ z)

-- the tally of a class of the tally whose bytes are p, by its low bytes
abbrev pub low_class : List ℕ → SpeedClass → ClassTally
low_class p c = record { samples = le_at 4 p (8 * class_place c); distance = record { 0 = le_at 4 p (distances_place + 8 * class_place c) } }

-- the numbers of the three class tallies with the sample s
unfoldable pub class_numbers : List ℕ → Sample → List ℕ
class_numbers p s = bytes.class_numbers (per_class (λ c. added_class c (low_class p c) s))

-- the sample s added to the tally whose bytes are p
abbrev pub Added : Sample → List ℕ → List ℕ → Type 0
Added s p q = Sound (tally_from p) → q ≡ tally_bytes (added (tally_from p) s)

pub raised_length : (xs : List ℕ) (a : ℕ) (ns : List ℕ) → length (raised xs a ns) ≡ length ns
unfolding raised
raised_length xs a [] = refl
raised_length xs a (n ∷ ns) = ap suc (raised_length xs (a + 8) ns)

-- the i-th of them
pub raised_at : (xs : List ℕ) (a : ℕ) (ns : List ℕ) (i : ℕ) → i < length ns → get_or (raised xs a ns) i 0 ≡ le_at 4 xs (a + 8 * i) + get_or ns i 0
unfolding raised
raised_at xs a [] i h = absurd (omega arith)
raised_at xs a (n ∷ ns) zero h = let e : a ≡ a + 8 * 0 = omega arith in ap (λ (p : ℕ). le_at 4 xs p + n) e
raised_at xs a (n ∷ ns) (suc i) h =
    let e : a + 8 + 8 * i ≡ a + 8 * suc i = omega arith in
    raised_at xs (a + 8) ns i (omega arith) ∙ ap (λ (p : ℕ). le_at 4 xs p + get_or ns i 0) e
