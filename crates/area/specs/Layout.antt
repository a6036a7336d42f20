-- The state area is its parts, one behind the other. `lengths` is the one list of them: a part's place is what stands before it.
--     samples_part ..            the parts by number
--     Parts, parts_of            what the area holds, part by part
--     with                      the parts with one of them new
--     part_inside               a part lies within the area; part_put and part_lent, of a part that is written or lent, are in proofs/Apart
-- Assumes nothing.
use Rattle.std.specs.Prelude.{List, [], ◌∷◌, ◌≡◌, ℕ, zero, suc, ◌+◌, ◌*◌, ◌≤◌, ◌<◌, get_or}
use Rattle.std.proofs.Math.Bool.{cond}
use Rattle.std.proofs.Math.Path.{refl}
use Rattle.std.proofs.Common.{arith}
use Rattle.std.proofs.Math.Dec.{eqb}
use Rattle.model.specs.Numbers.{le_val}
use Rattle.model.specs.Records.{max_samples}
use Rattle.model.specs.Tallies.{tally_length}
use Rattle.field.specs.Part.{part}
use Rattle.slots.specs.Layout.{part_len}
use Rattle.altitudes.specs.Ends.{ends_len}

-- bytes of a number of the head, and of the speeds: a u16 for each sample, and one spare
abbrev pub number_len : ℕ
number_len = 4

abbrev pub speeds_len : ℕ
speeds_len = 2 * (max_samples + 1)

-- the parts in their order, with their lengths in bytes
unfoldable pub lengths : List ℕ
lengths =
    -- number of samples
    number_len
    -- closed mark: 0 where the trip is open
    ∷ number_len
    -- number of windows
    ∷ number_len
    -- format mark
    ∷ number_len
    -- reserved
    ∷ 48
    -- tally
    ∷ tally_length
    -- altitudes of the first and of the latest sample (crate altitudes)
    ∷ ends_len
    -- speeds, u16 by second
    ∷ speeds_len
    -- the windows: room for stream expressions, the ring of the last records, the move count, the slots (crate slots)
    ∷ part_len
    ∷ []

-- the first of them are the numbers of the head
abbrev pub head_numbers : ℕ
head_numbers = 4

abbrev pub samples_part : ℕ
samples_part = 0

abbrev pub mark_part : ℕ
mark_part = 1

abbrev pub windows_part : ℕ
windows_part = 2

abbrev pub format_part : ℕ
format_part = 3

abbrev pub tally_part : ℕ
tally_part = 5

abbrev pub altitudes_part : ℕ
altitudes_part = 6

abbrev pub speeds_part : ℕ
speeds_part = 7

abbrev pub slots_part : ℕ
slots_part = 8

-- what stands before the k-th of a list of lengths, and all of them together
unfoldable pub before : List ℕ → ℕ → ℕ
before [] k = 0
before (n ∷ ns) zero = 0
before (n ∷ ns) (suc k) = n + before ns k

unfoldable pub together : List ℕ → ℕ
together [] = 0
together (n ∷ ns) = n + together ns

-- the place and the length of part k
unfoldable pub place : ℕ → ℕ
place k = before lengths k

unfoldable pub size : ℕ → ℕ
size k = get_or lengths k 0

-- the mark of an area of this format: the bytes "RDE3"; it changes with the layout and with what the bytes mean
abbrev pub format_number : ℕ
format_number = 860177490

-- the length of the area
abbrev pub area_len : ℕ
area_len = 63532

area_whole : together lengths ≡ area_len
unfolding together lengths
area_whole = refl

-- what the area holds, part by part
abbrev pub Parts : Type 0
Parts = ℕ → List ℕ

unfoldable pub parts_of : List ℕ → Parts
parts_of area k = part area (place k) (size k)

-- the parts of which part k is new
unfoldable pub with : ℕ → List ℕ → Parts → Parts
with k ys p j = cond (eqb j k) ys (p j)

-- the numbers of the head, and the parts that hold bytes
abbrev pub sample_count : Parts → ℕ
sample_count p = le_val (p samples_part)

abbrev pub closed_mark : Parts → ℕ
closed_mark p = le_val (p mark_part)

abbrev pub window_count : Parts → ℕ
window_count p = le_val (p windows_part)

abbrev pub format_mark : Parts → ℕ
format_mark p = le_val (p format_part)

abbrev pub tally_in : Parts → List ℕ
tally_in p = p tally_part

abbrev pub altitudes_in : Parts → List ℕ
altitudes_in p = p altitudes_part

abbrev pub speeds_in : Parts → List ℕ
speeds_in p = p speeds_part

abbrev pub slots_in : Parts → List ℕ
slots_in p = p slots_part

-- parts lie within the area, and apart from each other
inside : (ns : List ℕ) (k : ℕ) → before ns k + get_or ns k 0 ≤ together ns
unfolding before together
inside [] k = omega arith
inside (n ∷ ns) zero = omega arith
inside (n ∷ ns) (suc k) = omega (arith, inside ns k)

pub behind : (ns : List ℕ) (j k : ℕ) → j < k → before ns j + get_or ns j 0 ≤ before ns k
unfolding before
behind [] j k h = omega arith
behind (n ∷ ns) j zero h = absurd (omega arith)
behind (n ∷ ns) zero (suc k) h = omega arith
behind (n ∷ ns) (suc j) (suc k) h = omega (arith, behind ns j k (omega arith))

pub part_inside : (k : ℕ) → place k + size k ≤ area_len
unfolding place size
part_inside k = omega (arith, inside lengths k, area_whole)
