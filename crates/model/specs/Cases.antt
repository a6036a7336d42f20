-- The marked cases of document 01 ("Contracts and proved cases", (a) to (i)) and averages by R-4: what the definitions give, what the documents state, and one theorem.
use Rattle.std.specs.Prelude.{Bool, true, false, List, [], ◌∷◌, ◌++◌, map, ◌≡◌, refl, ℕ, ◌-◌, ℤ, pos, replicate}
use Rattle.std.specs.Prelude.{Option, Some}
use Rattle.model.specs.declared.Sample.{Sample}
use Rattle.model.specs.Numbers.{le_val, le_at, le_bytes, signed, within, withinℤ, outside, floor_div, floor_mod, even, round_half_even, all, range, sumℤ, filter, count, any, total, minus}
use Rattle.model.specs.Records.{sample_of, in_range, channels, channel, window_of, fields_kept, layout_kept, record_at}
use Rattle.model.specs.Windows.{sample_at, looked_at, qualifies, qualifying, value_at, values, fold, smallest, largest, average, enough, percentile, figure, reading, keeps_entries, entries, displaces, undisplaced, held, moves}
use Rattle.model.specs.Rules.{in_class, samples_in, distance_in, distance, stopped, above100, above145, above160, temperature_fault, altitude_fault, speed_at, speed_before, acceleration, accelerating, power, accelerating_in, p95, too_short, too_long, share_outside, too_near, stops_outside, urban_mean_outside, too_few_above100, some_above160, too_many_above145, some_temperature_fault, some_altitude_fault, too_few_accelerating, slow, power_factor, limit_side, beyond_limit, some_beyond, power_beyond, apart, last_of, ends_apart, rules}
use Rattle.model.specs.Verdicts.{broken, mask, nox_sum, extended_temperature, extended_altitude, is_extended, extended_sum, weighted, exceeds_limit, exceeded, finding, verdict_of}
use Rattle.model.specs.Refusals.{unless, sample_refusals, declare_refusals, close_refusals, read_refusals}
use Rattle.model.specs.Trip.{Call, declare, sample, read, Answer, number, with_sample, with_window, window_at, told, outcome, said, left, answers, empty}
use Rattle.model.specs.Report.{ascii, digits, decimal, hex_digit, hexadecimal, finding_text, accepted_text, refused_text, pieces, on_outcome, report_from, report}

-- a sample record: second, speed, altitude as two bytes, the temperature 2931, flow, NOx, no CO2
abbrev pub sample_record : ℕ → ℕ → ℕ → ℕ → ℕ → List ℕ
sample_record second speed altitude flow nox =
    le_bytes 2 second ++ le_bytes 2 speed ++ le_bytes 2 altitude ++ le_bytes 2 2931 ++ le_bytes 2 flow ++ le_bytes 2 nox ++ le_bytes 4 0

-- an altitude below zero as two bytes
abbrev below : ℕ → ℕ
below metres = 65536 - metres

-- a sample at a speed and an altitude of 0 or 1 m, and a window of width w on channel c over the samples at 0 m or below
abbrev at : ℕ → ℕ → ℕ → Call
at second speed altitude = sample (sample_record second speed altitude 0 0)

abbrev window : ℕ → ℕ → ℕ → Call
window function channel width =
    declare (function ∷ channel ∷ 1 ∷ 0 ∷ le_bytes 2 width ++ le_bytes 2 0 ++ le_bytes 4 (4294967296 - 500) ++ le_bytes 4 0)

-- samples at these speeds, of no NOx
abbrev drive : List ℕ → List Sample
drive vs = map (λ v. sample_of (sample_record 0 v 100 0 0)) vs

-- 100 urban samples, of which so many stand still
abbrev stops : ℕ → List Sample
stops k = drive (replicate k 0 ++ replicate (100 - k) 300)

-- one sample of 50 km/h, 50 kg/h and this NOx
abbrev emitting : ℕ → List Sample
emitting nox = sample_of (sample_record 0 500 100 500 nox) ∷ []

pub record Table : Type 0 where
  -- Figure 1: values 4, 1, 3, 2, the second and fourth unqualified, w 3: the sums
  pub a : List Answer
  -- largest, w 3, values 5, 3, 3, 7: the moves
  pub b : List Answer
  -- percentile of 1..20 and of 1..21
  pub c : List (Option ℤ)
  -- both reports, whole
  pub d : List (List ℕ)
  -- V 500, flow 500, NOx 50 and 51, not extended: exceeded
  pub e : List Bool
  -- N 100 in u, 5, 6, 30 and 31 stops: rule 8 broken
  pub f : List Bool
  -- mean 30 km/h, P95 48003 and 48004: the limit broken
  pub g : List Bool
  -- A of 7 and 8: accelerating
  pub h : List Bool
  -- the average of −3 and −4
  pub i : List Answer
  -- R-4: the averages of −3 and −4, of −2 and −3, and of 1 and 2; and one beside a half, by "nearest", of −3, −3 and −4
  pub j : List (Option ℤ)

-- what the definitions give
unfoldable pub computed : Table
computed = record {
  a = answers empty (window 1 0 3 ∷ at 0 4 0 ∷ read 0 ∷ at 1 1 1 ∷ read 0 ∷ at 2 3 0 ∷ read 0 ∷ at 3 2 1 ∷ read 0 ∷ []);
  b = answers empty (window 3 0 3 ∷ at 0 5 0 ∷ at 1 3 0 ∷ at 2 3 0 ∷ at 3 7 0 ∷ []);
  c = percentile (map pos (range 1 20)) ∷ percentile (map pos (range 1 21)) ∷ [];
  d = report [] ∷ report (sample_record 0 1700 100 0 0) ∷ [];
  e = exceeded (emitting 50) ∷ exceeded (emitting 51) ∷ [];
  f = stops_outside (stops 5) ∷ stops_outside (stops 6) ∷ stops_outside (stops 30) ∷ stops_outside (stops 31) ∷ [];
  g = beyond_limit 100 30000 (pos 48003) ∷ beyond_limit 100 30000 (pos 48004) ∷ [];
  h = accelerating (drive (100 ∷ 100 ∷ 107 ∷ [])) 1 ∷ accelerating (drive (100 ∷ 100 ∷ 108 ∷ [])) 1 ∷ [];
  i = answers empty (window 4 1 2 ∷ at 0 0 (below 3) ∷ at 1 0 (below 4) ∷ read 0 ∷ []);
  j = map average ((minus 3 ∷ minus 4 ∷ []) ∷ (minus 2 ∷ minus 3 ∷ []) ∷ (pos 1 ∷ pos 2 ∷ []) ∷ (minus 3 ∷ minus 3 ∷ minus 4 ∷ []) ∷ []);
}

abbrev numbers : List ℕ → List Answer
numbers ns = map (λ n. number (pos n)) ns

-- what the documents state, and for the last of j what "nearest" says; in a, b and i the answers of the other calls stand between: the window's number and the moves
unfoldable pub stated : Table
stated = record {
  a = numbers (0 ∷ 0 ∷ 4 ∷ 0 ∷ 4 ∷ 0 ∷ 7 ∷ 0 ∷ 3 ∷ []);
  b = numbers (0 ∷ 1 ∷ 2 ∷ 4 ∷ 7 ∷ []);
  c = Some (pos 19) ∷ Some (pos 20) ∷ [];
  d = ascii "samples 0\nbroken 000384e1\nverdict rule 0\n" ∷ ascii "samples 1\nbroken 00038cfd\nverdict rule 0\n" ∷ [];
  e = false ∷ true ∷ [];
  f = true ∷ false ∷ false ∷ true ∷ [];
  g = false ∷ true ∷ [];
  h = false ∷ true ∷ [];
  i = numbers (0 ∷ 0 ∷ 0 ∷ []) ++ (number (minus 4) ∷ []);
  j = Some (minus 4) ∷ Some (minus 2) ∷ Some (pos 2) ∷ Some (minus 3) ∷ [];
}

pub marked_cases : computed ≡ stated
unfolding
    le_val le_at le_bytes signed within withinℤ outside floor_div floor_mod even round_half_even all range sumℤ filter count any total
    sample_of in_range channels channel window_of fields_kept layout_kept
    sample_at looked_at qualifies qualifying value_at values fold smallest largest average enough percentile figure reading
    keeps_entries entries displaces undisplaced held moves
    in_class samples_in distance_in distance stopped above100 above145 above160 temperature_fault altitude_fault
    speed_at speed_before acceleration accelerating power accelerating_in p95
    too_short too_long share_outside too_near stops_outside urban_mean_outside too_few_above100 some_above160 too_many_above145
    some_temperature_fault some_altitude_fault too_few_accelerating slow power_factor limit_side beyond_limit some_beyond power_beyond apart last_of ends_apart rules
    broken mask nox_sum extended_temperature extended_altitude is_extended extended_sum weighted exceeds_limit exceeded finding verdict_of
    unless sample_refusals declare_refusals close_refusals read_refusals with_sample with_window window_at told outcome said left answers
    record_at ascii digits decimal hex_digit hexadecimal finding_text accepted_text refused_text pieces on_outcome report_from report
    computed stated
marked_cases = refl
