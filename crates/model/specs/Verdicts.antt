-- The verdict on a list of samples (document 01, "The rules", last paragraph; document 02, R-2 and R-6).
use Rattle.std.specs.Prelude.{Bool, cond, ◌&&◌, ◌||◌, List, [], ◌∷◌, map, ℕ, suc, ◌+◌, ◌*◌, ltb, ℤ, pos, ◌+ℤ◌, ◌-ℤ◌, ◌*ℤ◌}
use Rattle.std.specs.Int.Signed.{le_z, lt_z}
use Rattle.model.specs.declared.Sample.{Sample}
use Rattle.model.specs.declared.Verdict.{Verdict}
use Rattle.model.specs.declared.Finding.{Finding}
use Rattle.model.specs.declared.Finding.TheVariants.{Rule, Exceeded, Clean}
use Rattle.model.specs.Numbers.{bit, within, sumℤ, filter}
use Rattle.model.specs.Records.{channel, units}
use Rattle.model.specs.Rules.{rules, distance, lowest_temperature, highest_temperature, highest_altitude}

-- which rules the samples break, in the rules' order
unfoldable pub broken : List Sample → List Bool
broken ss = map (λ rule. rule ss) rules

-- "a 32-bit mask, bit k for rule k"
unfoldable pub mask : List Bool → ℕ
mask [] = 0
mask (b ∷ bs) = bit b + 2 * mask bs

-- "U is the sum of channel 6", and signed as that is (R-6).
unfoldable pub nox_sum : List Sample → ℤ
nox_sum ss = sumℤ (map (channel 6) ss)

-- R-2: a temperature "at 2660 to 2729, at 3031 to 3080"
unfoldable pub extended_temperature : ℕ → Bool
extended_temperature t = within lowest_temperature 2729 t || within 3031 highest_temperature t

-- R-2: an altitude "above 700 m up to 1300 m"
unfoldable pub extended_altitude : ℤ → Bool
extended_altitude a = lt_z (pos 700) a && le_z a (pos highest_altitude)

-- R-2: "A sample is extended" by its temperature or by its altitude; either is enough, whatever the other value is
unfoldable pub is_extended : Sample → Bool
is_extended s = extended_temperature s.temperature || extended_altitude s.altitude

-- R-2: extended U, the sum of channel 6 over the extended samples, each once
unfoldable pub extended_sum : List Sample → ℤ
extended_sum ss = nox_sum (filter is_extended ss)

-- R-2: "8 × other U + 5 × extended U"; u is U, e is extended U, and "other U is U less extended U"
unfoldable pub weighted : ℤ → ℤ → ℤ
weighted u e = (pos 8 *ℤ (u -ℤ e)) +ℤ (pos 5 *ℤ e)

-- "1586 is the device's gas factor in millionths"
abbrev pub gas_factor : ℕ
gas_factor = 1586

-- R-2: document 01's limit, 80000 for 80 mg/km, eight times, since the weights are eighths
abbrev pub nox_limit : ℕ
nox_limit = 640000

-- R-2: "Exceeded becomes 1586 × (8 × other U + 5 × extended U) > 640000 × D, with D > 0"
unfoldable pub exceeds_limit : ℤ → ℤ → ℕ → Bool
exceeds_limit u e d = lt_z (pos (nox_limit * d)) (pos gas_factor *ℤ weighted u e) && ltb 0 d

unfoldable pub exceeded : List Sample → Bool
exceeded ss = exceeds_limit (nox_sum ss) (extended_sum ss) (units (distance ss))

-- "rule k with the lowest broken k; else exceeded; else clean": k is the number of the first rule of the list
unfoldable pub finding : ℕ → List Bool → Bool → Finding
finding k [] over = cond over Exceeded Clean
finding k (b ∷ bs) over = cond b (Rule k) (finding (suc k) bs over)

unfoldable pub verdict_of : List Sample → Verdict
verdict_of ss = record {
  broken = mask (broken ss);
  exceeded = exceeded ss;
  finding = finding 0 (broken ss) (exceeded ss);
}
