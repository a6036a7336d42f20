-- The rules of a trip (document 01, "The rules"; document 02, R-1, and R-2 for the bounds that it shares; Regulation (EU) 2017/1151, Annex IIIA). A rule is a test of the samples: true where it is broken.
use Rattle.std.specs.Prelude.{Bool, false, cond, ◌&&◌, List, [], ◌∷◌, map, ℕ, zero, suc, ◌+◌, ◌*◌, leb, ltb, ℤ, pos, nat_abs, ◌-ℤ◌, ◌*ℤ◌, length}
use Rattle.std.specs.Prelude.{Option, None, Some}
use Rattle.std.specs.Int.Signed.{le_z, lt_z}
use Rattle.model.specs.declared.Distance.{Distance}
use Rattle.model.specs.declared.Sample.{Sample}
use Rattle.model.specs.declared.SpeedClass.{SpeedClass}
use Rattle.model.specs.declared.SpeedClass.TheVariants.{Urban, Rural, Motorway}
use Rattle.model.specs.Numbers.{outside, range, filter, count, total}
use Rattle.model.specs.Records.{tenths, units, travelled}
use Rattle.model.specs.Windows.{sample_at, percentile}

abbrev pub speed : Sample → ℕ
speed s = tenths s.speed

-- "Class u: V ≤ 600; r: 600 < V ≤ 900; m: V > 900."
unfoldable pub in_class : SpeedClass → Sample → Bool
in_class Urban s = leb (speed s) 600
in_class Rural s = ltb 600 (speed s) && leb (speed s) 900
in_class Motorway s = ltb 900 (speed s)

-- N: the samples of a class
unfoldable pub samples_in : SpeedClass → List Sample → ℕ
samples_in c ss = count (in_class c) ss

-- S: the sum of their speeds, which is the distance that they cover
unfoldable pub distance_in : SpeedClass → List Sample → Distance
distance_in c ss = record { 0 = total (λ s. units (travelled s.speed)) (filter (in_class c) ss) }

-- D: "the three S together"
unfoldable pub distance : List Sample → Distance
distance ss = record { 0 = units (distance_in Urban ss) + units (distance_in Rural ss) + units (distance_in Motorway ss) }

-- the counts: samples with V < 10, V > 1000, 1450 < V ≤ 1600, V > 1600
unfoldable pub stopped : Sample → Bool
stopped s = ltb (speed s) 10

unfoldable pub above100 : Sample → Bool
above100 s = ltb 1000 (speed s)

unfoldable pub above145 : Sample → Bool
above145 s = ltb 1450 (speed s) && leb (speed s) 1600

unfoldable pub above160 : Sample → Bool
above160 s = ltb 1600 (speed s)

-- the bounds of rules 13 and 14, which are those of extended conditions (R-2): tenths of kelvin, metres
abbrev pub lowest_temperature : ℕ
lowest_temperature = 2660

abbrev pub highest_temperature : ℕ
highest_temperature = 3080

abbrev pub highest_altitude : ℕ
highest_altitude = 1300

-- a temperature outside 2660 to 3080, an altitude above 1300
unfoldable pub temperature_fault : Sample → Bool
temperature_fault s = outside lowest_temperature highest_temperature s.temperature

unfoldable pub altitude_fault : Sample → Bool
altitude_fault s = lt_z (pos highest_altitude) s.altitude

-- "A = next speed − previous speed, a missing neighbour being 0": the speed at a second, 0 past the last
unfoldable pub speed_at : List Sample → ℕ → ℕ
speed_at [] i = 0
speed_at (s ∷ ss) zero = speed s
speed_at (s ∷ ss) (suc i) = speed_at ss i

unfoldable pub speed_before : List Sample → ℕ → ℕ
speed_before ss zero = 0
speed_before ss (suc i) = speed_at ss i

unfoldable pub acceleration : List Sample → ℕ → ℤ
acceleration ss i = pos (speed_at ss (suc i)) -ℤ pos (speed_before ss i)

-- "A sample is lively if A ≥ 8": accelerating at 0.1 m/s² or more
unfoldable pub accelerating : List Sample → ℕ → Bool
accelerating ss i = le_z (pos 8) (acceleration ss i)

-- "P = V × A"
unfoldable pub power : List Sample → ℕ → ℤ
power ss i = pos (speed_at ss i) *ℤ acceleration ss i

-- the seconds of a class's accelerating samples
unfoldable pub accelerating_in : SpeedClass → List Sample → List ℕ
accelerating_in c ss = filter (λ i. in_class c (sample_at ss i) && accelerating ss i) (range 0 (length ss))

-- "P95 is the percentile of P over a class's lively samples"; none where no sample is lively
unfoldable pub p95 : SpeedClass → List Sample → Option ℤ
p95 c ss = percentile (map (power ss) (accelerating_in c ss))

-- rule 0: "n < 5400", rule 1: "n > 7200"
unfoldable pub too_short : List Sample → Bool
too_short ss = ltb (length ss) 5400

unfoldable pub too_long : List Sample → Bool
too_long ss = ltb 7200 (length ss)

-- rules 2, 3, 4: "100 × S outside" low × D to high × D
unfoldable pub share_outside : SpeedClass → ℕ → ℕ → List Sample → Bool
share_outside c low high ss = outside (low * units (distance ss)) (high * units (distance ss)) (100 * units (distance_in c ss))

-- rules 5, 6, 7: "S < 576000", 16 km
unfoldable pub too_near : SpeedClass → List Sample → Bool
too_near c ss = ltb (units (distance_in c ss)) 576000

-- rule 8: "100 × (samples with V < 10) outside 6 × N to 30 × N (u)"
unfoldable pub stops_outside : List Sample → Bool
stops_outside ss = outside (6 * samples_in Urban ss) (30 * samples_in Urban ss) (100 * count stopped ss)

-- rule 9: "S outside 150 × N to 400 × N (u)", a mean of 15 to 40 km/h
unfoldable pub urban_mean_outside : List Sample → Bool
urban_mean_outside ss = outside (150 * samples_in Urban ss) (400 * samples_in Urban ss) (units (distance_in Urban ss))

-- rule 10: "fewer than 300 samples with V > 1000"
unfoldable pub too_few_above100 : List Sample → Bool
too_few_above100 ss = ltb (count above100 ss) 300

-- rule 11: "some V > 1600"
unfoldable pub some_above160 : List Sample → Bool
some_above160 ss = ltb 0 (count above160 ss)

-- rule 12: "100 × (samples with 1450 < V ≤ 1600) > 3 × N (m)"
unfoldable pub too_many_above145 : List Sample → Bool
too_many_above145 ss = ltb (3 * samples_in Motorway ss) (100 * count above145 ss)

-- rule 13: "some temperature outside 2660 to 3080", rule 14: "some altitude > 1300"
unfoldable pub some_temperature_fault : List Sample → Bool
some_temperature_fault ss = ltb 0 (count temperature_fault ss)

unfoldable pub some_altitude_fault : List Sample → Bool
some_altitude_fault ss = ltb 0 (count altitude_fault ss)

-- rules 15, 16, 17: "fewer than 150 lively samples"
unfoldable pub too_few_accelerating : SpeedClass → List Sample → Bool
too_few_accelerating c ss = ltb (length (accelerating_in c ss)) 150

-- rules 18, 19, 20: which line holds, "where S ≤ 746 × N" the first, else the second
unfoldable pub slow : ℕ → ℕ → Bool
slow n s = leb s (746 * n)

-- the factor of P95 × N on the left side
unfoldable pub power_factor : ℕ → ℕ → ℕ
power_factor n s = cond (slow n s) 10000 100000

-- the right side
unfoldable pub limit_side : ℕ → ℕ → ℕ
limit_side n s = cond (slow n s) (2592 * (136 * s + 144400 * n)) (2592 * (742 * s + 1896600 * n))

-- a P beyond the line of a class with N samples and distance S
unfoldable pub beyond_limit : ℕ → ℕ → ℤ → Bool
beyond_limit n s p = lt_z (pos (limit_side n s)) (pos (power_factor n s * n) *ℤ p)

-- "kept if no sample is lively"
unfoldable pub some_beyond : ℕ → ℕ → Option ℤ → Bool
some_beyond n s None = false
some_beyond n s (Some p) = beyond_limit n s p

unfoldable pub power_beyond : SpeedClass → List Sample → Bool
power_beyond c ss = some_beyond (samples_in c ss) (units (distance_in c ss)) (p95 c ss)

-- two altitudes that differ by "101 m or more, in either sense" (R-1)
unfoldable pub apart : ℤ → ℤ → Bool
apart a b = leb 101 (nat_abs (b -ℤ a))

-- the last of a trip's samples, by its first and those after it
unfoldable pub last_of : Sample → List Sample → Sample
last_of s [] = s
last_of s (x ∷ ss) = last_of x ss

-- rule 21 (R-1): "the height difference between the first and last sample", whatever lies between; "an empty trip keeps it", and one of one sample, which is both
unfoldable pub ends_apart : List Sample → Bool
ends_apart [] = false
ends_apart (s ∷ ss) = apart s.altitude (last_of s ss).altitude

-- rule k stands at place k
unfoldable pub rules : List (List Sample → Bool)
rules =
    too_short
    ∷ too_long
    ∷ share_outside Urban 29 44
    ∷ share_outside Rural 23 43
    ∷ share_outside Motorway 23 43
    ∷ too_near Urban
    ∷ too_near Rural
    ∷ too_near Motorway
    ∷ stops_outside
    ∷ urban_mean_outside
    ∷ too_few_above100
    ∷ some_above160
    ∷ too_many_above145
    ∷ some_temperature_fault
    ∷ some_altitude_fault
    ∷ too_few_accelerating Urban
    ∷ too_few_accelerating Rural
    ∷ too_few_accelerating Motorway
    ∷ power_beyond Urban
    ∷ power_beyond Rural
    ∷ power_beyond Motorway
    ∷ ends_apart
    ∷ []
