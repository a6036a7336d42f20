-- The windows' part of the state area: room for stream expressions, the ring of the last 610 sample records, the move count, and 16 slots, one for each
-- window. Each place is built from the lengths in front of it.
--     front_of, record_of     the expressions and the ring, which stand under one equation, and the record in the place of a second
--     moves_of               the move count
--     slot_of                the bytes of a slot; `..In` is a field of a slot's bytes
--     window_in              the window of the slot's record, and its fields
--     ring_samples           the samples that the ring shows up to a second
--     value_in, qualifies_in  what a slot's window reads of the ring
-- Assumes nothing.
use Rattle.std.specs.Prelude.{◌≡◌, refl, Bool, List, [], map, ℕ, zero, suc, ◌+◌, ◌*◌, ◌%◌, ◌≤◌, ◌<◌, ℤ, length, get_or}
use Rattle.std.proofs.Common.{sym, ap, ◌∙◌, zero-add, arith}
use Rattle.model.specs.declared.Function.TheVariants.{Count}
use Rattle.model.specs.declared.Sample.{Sample}
use Rattle.model.specs.Numbers.{le_at, signed, range}
use Rattle.model.specs.Records.{record_length, max_windows, max_width, sample_of, channel, functions, window_of, Window}
use Rattle.model.specs.Windows.{sample_at, qualifies}
use Rattle.field.specs.Part.{part, part_length, part_part}
use Rattle.field.specs.Le.{le_part}
use Rattle.slide.specs.Conditions.{condition_reach}

-- The part.

-- room for stream expressions
abbrev pub expressions_len : ℕ
expressions_len = 264

-- the ring has the last sample records, by second % ring_seconds: those of the widest window, those that a condition looks back to, and the new one
abbrev pub ring_seconds : ℕ
ring_seconds = max_width + condition_reach + 1

abbrev pub ring_place : ℕ
ring_place = expressions_len

abbrev pub ring_len : ℕ
ring_len = record_length * ring_seconds

-- what stands in front of the move count
abbrev pub front_len : ℕ
front_len = expressions_len + ring_len

abbrev pub moves_place : ℕ
moves_place = front_len

abbrev pub slots_place : ℕ
slots_place = moves_place + 8

-- A slot: the window record, the fields behind it, and a store of seconds or of values.

abbrev pub count_place : ℕ
count_place = record_length

abbrev pub sum_place : ℕ
sum_place = count_place + 4

abbrev pub first_place : ℕ
first_place = sum_place + 8

abbrev pub number_place : ℕ
number_place = first_place + 2

abbrev pub store_place : ℕ
store_place = number_place + 2

-- the range of count and sum
abbrev pub totals_len : ℕ
totals_len = 4 + 8

-- a value of 4 bytes for each second of the widest window
abbrev pub store_len : ℕ
store_len = 4 * max_width

abbrev pub slot_len : ℕ
slot_len = store_place + store_len

-- the range of a slot's list: first and number, then seconds of 2 bytes
abbrev pub list_capacity : ℕ
list_capacity = max_width

abbrev pub ends_len : ℕ
ends_len = 2 + 2

abbrev pub list_len : ℕ
list_len = ends_len + 2 * list_capacity

abbrev pub part_len : ℕ
part_len = slots_place + slot_len * max_windows

abbrev pub expressions_of : List ℕ → List ℕ
expressions_of p = part p 0 expressions_len

abbrev pub front_of : List ℕ → List ℕ
front_of p = part p 0 front_len

abbrev pub record_place : ℕ → ℕ
record_place s = ring_place + record_length * (s % ring_seconds)

abbrev pub record_of : List ℕ → ℕ → List ℕ
record_of p s = part p (record_place s) record_length

abbrev pub moves_of : List ℕ → ℕ
moves_of p = le_at 8 p moves_place

abbrev pub slot_of : List ℕ → ℕ → List ℕ
slot_of p k = part p (slots_place + slot_len * k) slot_len

-- the fields of a slot's bytes: of the window record, and those behind it
abbrev pub code_in : List ℕ → ℕ
code_in s = le_at 1 s 0

abbrev pub channel_in : List ℕ → ℕ
channel_in s = le_at 1 s 1

abbrev pub condition_in : List ℕ → ℕ
condition_in s = le_at 1 s 2

abbrev pub width_in : List ℕ → ℕ
width_in s = le_at 2 s 4

abbrev pub low_in : List ℕ → ℤ
low_in s = signed 4 (le_at 4 s 8)

abbrev pub high_in : List ℕ → ℤ
high_in s = signed 4 (le_at 4 s 12)

abbrev pub count_in : List ℕ → ℕ
count_in s = le_at 4 s count_place

abbrev pub sum_in : List ℕ → ℤ
sum_in s = signed 8 (le_at 8 s sum_place)

abbrev pub first_in : List ℕ → ℕ
first_in s = le_at 2 s first_place

abbrev pub number_in : List ℕ → ℕ
number_in s = le_at 2 s number_place

abbrev pub store_in : List ℕ → List ℕ
store_in s = part s store_place store_len

abbrev pub record_in : List ℕ → List ℕ
record_in s = part s 0 record_length

abbrev pub window_in : List ℕ → Window
window_in s = window_of (record_in s)

abbrev pub first_of : List ℕ → ℕ → ℕ
first_of p k = first_in (slot_of p k)

abbrev pub number_of : List ℕ → ℕ → ℕ
number_of p k = number_in (slot_of p k)

-- the samples of seconds 0 to s as the ring shows them
unfoldable pub ring_samples : List ℕ → ℕ → List Sample
ring_samples p s = map (λ i. sample_of (record_of p i)) (range 0 (suc s))

-- the value that slot k's window reads of a second's record in the ring, and whether that second qualifies by the ring
unfoldable pub value_in : List ℕ → ℕ → ℕ → ℤ
value_in p k s = channel (channel_in (slot_of p k)) (sample_of (record_of p s))

unfoldable pub qualifies_in : List ℕ → ℕ → ℕ → Bool
qualifies_in p k s = qualifies (window_in (slot_of p k)) (ring_samples p s) s

pub slot_length : (p : List ℕ) (k : ℕ) → length p ≡ part_len → k < max_windows → length (slot_of p k) ≡ slot_len
slot_length p k e h = part_length p (slots_place + slot_len * k) slot_len (omega arith)

-- a field of slot k is a field of the whole
pub slot_le : (n : ℕ) (p : List ℕ) (k o : ℕ) → o + n ≤ slot_len → le_at n p (slots_place + slot_len * k + o) ≡ le_at n (slot_of p k) o
slot_le n p k o h = sym (le_part p (slots_place + slot_len * k) slot_len n o h)

-- a record of the ring is a part of the front
pub record_front : (p : List ℕ) (s : ℕ) → part (front_of p) (record_place s) record_length ≡ record_of p s
record_front p s = rw zero-add at (part_part p 0 front_len (record_place s) record_length (omega arith))

-- the sample of a second up to the last
pub ring_sample : (p : List ℕ) (s i : ℕ) → i ≤ s → sample_at (ring_samples p s) i ≡ sample_of (record_of p i)
unfolding sample_at ring_samples range
ring_sample p s i h = by 0 (suc s) i (omega arith) ∙ ap (λ (j : ℕ). sample_of (record_of p j)) (zero-add i)
  where
    by : (a m i : ℕ) → i < m → get_or (map (λ j. sample_of (record_of p j)) (range a m)) i (sample_of []) ≡ sample_of (record_of p (a + i))
    by a zero i l = absurd (omega arith)
    by a (suc m) zero l = ap (λ (j : ℕ). sample_of (record_of p j)) (omega arith)
    by a (suc m) (suc i) l = by (suc a) m i (omega arith) ∙ ap (λ (j : ℕ). sample_of (record_of p j)) (omega arith)

-- the fields of a slot's window are the fields of its bytes
pub window_function : (s : List ℕ) → (window_in s).function ≡ get_or functions (code_in s) Count
unfolding window_of
window_function s = ap (λ (c : ℕ). get_or functions c Count) (le_part s 0 record_length 1 0 (omega arith))

pub window_channel : (s : List ℕ) → (window_in s).channel ≡ channel_in s
unfolding window_of
window_channel s = le_part s 0 record_length 1 1 (omega arith)

pub window_condition : (s : List ℕ) → (window_in s).condition ≡ condition_in s
unfolding window_of
window_condition s = le_part s 0 record_length 1 2 (omega arith)

pub window_width : (s : List ℕ) → (window_in s).width ≡ width_in s
unfolding window_of
window_width s = le_part s 0 record_length 2 4 (omega arith)

pub window_low : (s : List ℕ) → (window_in s).low ≡ low_in s
unfolding window_of
window_low s = ap (signed 4) (le_part s 0 record_length 4 8 (omega arith))

pub window_high : (s : List ℕ) → (window_in s).high ≡ high_in s
unfolding window_of
window_high s = ap (signed 4) (le_part s 0 record_length 4 12 (omega arith))

-- what is read of the ring, by the slot's window
pub value_window : (p : List ℕ) (k s : ℕ) → value_in p k s ≡ channel (window_in (slot_of p k)).channel (sample_of (record_of p s))
unfolding value_in
value_window p k s = rw (window_channel (slot_of p k)) refl
