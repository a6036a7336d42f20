-- The rules that the number of samples and their tally decide, in the rules' order, and the NOx limit by a tally.
--     tally_rules_lem      rules 0 to 14 of the samples whose number and tally these are
--     exceeded_is      and whether their NOx exceeds the limit
-- Assumes nothing.
use Rattle.std.specs.Prelude.{◌≡◌, Bool, true, false, ◌&&◌, List, [], ◌∷◌, ◌++◌, ℕ, zero, suc, ◌+◌, ◌*◌, ◌<◌, ltb, ℤ, pos, ◌*ℤ◌, length, take}
use Rattle.std.proofs.Math.Path.{refl}
use Rattle.std.proofs.Common.{arith, lt-ltb}
use Rattle.std.specs.Int.Signed.{lt_z}
use Rattle.model.specs.declared.ClassTally.{ClassTally}
use Rattle.model.specs.declared.Distance.{Distance}
use Rattle.model.specs.declared.Sample.{Sample}
use Rattle.model.specs.declared.SpeedClass.{SpeedClass}
use Rattle.model.specs.declared.SpeedClass.TheVariants.{Urban, Rural, Motorway}
use Rattle.model.specs.declared.Tally.{Tally}
use Rattle.model.specs.Numbers.{outside}
use Rattle.model.specs.Records.{units}
use Rattle.model.specs.Rules.{rules, distance, too_short, too_long, share_outside, too_near, stops_outside, urban_mean_outside, too_few_above100}
use Rattle.model.specs.Rules.{some_above160, too_many_above145, some_temperature_fault, some_altitude_fault}
use Rattle.model.specs.Tallies.{class_tally, tally_of}
use Rattle.model.specs.Verdicts.{broken, mask, weighted, gas_factor, nox_limit, exceeded, exceeds_limit}
use Rattle.limits.specs.Table.{row_of, share_low, share_high}

-- D of a tally
abbrev pub distance_of : Tally → Distance
distance_of t = record { 0 = units t.classes.urban.distance + units t.classes.rural.distance + units t.classes.motorway.distance }

-- NOx above the limit
abbrev pub exceeded_by : Tally → Bool
exceeded_by t = exceeds_limit t.nox t.extended (units (distance_of t))

-- the share of a class in the distance
abbrev pub share_rule : SpeedClass → ClassTally → Distance → Bool
share_rule c t d = outside (share_low c * units d) (share_high c * units d) (100 * units t.distance)

-- the distance of a class, 16 km at least
abbrev pub distance_rule : ClassTally → Bool
distance_rule t = ltb (units t.distance) 576000

-- rules 0 and 1
abbrev pub length_rules : ℕ → List Bool
length_rules n = ltb n 5400 ∷ ltb 7200 n ∷ []

-- rules 2 to 4
abbrev pub share_rules : Tally → List Bool
share_rules t =
    share_rule Urban t.classes.urban (distance_of t)
    ∷ share_rule Rural t.classes.rural (distance_of t)
    ∷ share_rule Motorway t.classes.motorway (distance_of t)
    ∷ []

-- rules 5 to 7
abbrev pub distance_rules : Tally → List Bool
distance_rules t = distance_rule t.classes.urban ∷ distance_rule t.classes.rural ∷ distance_rule t.classes.motorway ∷ []

-- rules 8 to 10
abbrev pub urban_rules : Tally → List Bool
urban_rules t =
    outside (6 * t.classes.urban.samples) (30 * t.classes.urban.samples) (100 * t.stops)
    ∷ outside (150 * t.classes.urban.samples) (400 * t.classes.urban.samples) (units t.classes.urban.distance)
    ∷ ltb t.over100 300
    ∷ []

-- rules 11 to 14
abbrev pub count_rules : Tally → List Bool
count_rules t = ltb 0 t.over160 ∷ ltb (3 * t.classes.motorway.samples) (100 * t.over145) ∷ ltb 0 t.temperature ∷ ltb 0 t.altitude ∷ []

-- how many they are
abbrev pub tally_rule_count : ℕ
tally_rule_count = 15

-- rules 0 to 14
unfoldable pub tally_rules : ℕ → Tally → List Bool
tally_rules n t = length_rules n ++ share_rules t ++ distance_rules t ++ urban_rules t ++ count_rules t

-- they are the model's, where the number and the tally are those of the samples
module _ (ss : List Sample) where
  pub tally_rules_lem : tally_rules (length ss) (tally_of ss) ≡ take tally_rule_count (broken ss)
  unfolding tally_rules broken rules tally_of class_tally distance too_short too_long share_outside too_near stops_outside urban_mean_outside too_few_above100
      some_above160 too_many_above145 some_temperature_fault some_altitude_fault row_of
  tally_rules_lem = refl

  pub exceeded_is : exceeded_by (tally_of ss) ≡ exceeded ss
  unfolding exceeded tally_of class_tally distance
  exceeded_is = refl

-- three rules, each by an equation
pub three : {a b c : Bool} {a' b' c' : Bool} → a ≡ a' → b ≡ b' → c ≡ c' → mask (a ∷ b ∷ c ∷ []) ≡ mask (a' ∷ b' ∷ c' ∷ [])
three p q r = rw (p, q, r)

-- without distance nothing is exceeded, with it the test is the product's
pub no_distance : (u e : ℤ) (d : ℕ) → d ≡ 0 → false ≡ exceeds_limit u e d
unfolding exceeds_limit
no_distance u e d h = rw h (by (lt_z (pos 0) (pos gas_factor *ℤ weighted u e)))
  where
    by : (b : Bool) → false ≡ b && false
    by true = refl
    by false = refl

pub some_distance : (u e : ℤ) (d : ℕ) → (d ≡ 0 → ⊥) → lt_z (pos (nox_limit * d)) (pos gas_factor *ℤ weighted u e) ≡ exceeds_limit u e d
unfolding exceeds_limit
some_distance u e d h = rw (lt-ltb 0 d (positive d h)) (by (lt_z (pos (nox_limit * d)) (pos gas_factor *ℤ weighted u e)))
  where
    positive : (d : ℕ) → (d ≡ 0 → ⊥) → 0 < d
    positive zero h = absurd (h refl)
    positive (suc d) h = omega arith

    by : (b : Bool) → b ≡ b && true
    by true = refl
    by false = refl
