-- Rules 15 to 20 from the counts of the walk, and that they are the model's rules of the samples whose speeds and tally these are.
--     counts, kept_counts     the counts of the walk are those of the model's accelerating samples
--     power_beyond_lem            rules 18 to 20: P95 is beyond the line exactly when too few of the samples are not
--     dynamics_rules_lem          rules 15 to 20 of the samples
-- Assumes nothing.
use Rattle.std.specs.Prelude.{◌≡◌, refl, true, false, cond, ◌&&◌, ltb, pos, ◌*ℤ◌, length, take, drop}
use Rattle.std.proofs.Math.Path.{sym, ap₂}
use Rattle.std.proofs.Common.{◌∙◌, true≢false, arith}
use Rattle.std.proofs.Math.Bool.{Bool, not}
use mathlib.Core.List.{List, [], ◌∷◌, ◌++◌, map}
use Rattle.std.specs.Prelude.{Option, None, Some}
use Prim.Native.Nat.{ℕ, zero, suc, ◌+◌, ◌*◌}
use Rattle.std.proofs.Math.IntN.{ℤ}
use Rattle.std.proofs.Math.ListN.{length-map}
use Rattle.std.specs.Int.Signed.{le_z, lt_z}
use Rattle.model.specs.declared.Sample.{Sample}
use Rattle.model.specs.declared.SpeedClass.{SpeedClass}
use Rattle.model.specs.declared.SpeedClass.TheVariants.{Urban, Rural, Motorway}
use Rattle.model.specs.Numbers.{le_val, le_at, bit, range, filter, count}
use Rattle.model.specs.Records.{units, sample_of}
use Rattle.model.specs.Windows.{sample_at, percentile}
use Rattle.model.specs.Rules.{speed, in_class, accelerating, power, accelerating_in, samples_in, distance_in, too_few_accelerating, p95, rules}
use Rattle.model.specs.Rules.{power_factor, limit_side, beyond_limit, some_beyond, power_beyond}
use Rattle.model.specs.Tallies.{class_tally, tally_of}
use Rattle.model.specs.Verdicts.{broken}
use Rattle.laws.specs.Order.{le_z_trans, lt_z_le_z, lt_z_true}
use Rattle.laws.specs.Signed.{scaled}
use Rattle.limits.specs.Class.{in_class_lem}
use Rattle.limits.specs.Line.{limit_of}
use Rattle.slide.specs.Percentile.{Upward, passes}
use Rattle.slide.proofs.Percentile.{percentile_passes}
use Rattle.limits.specs.declared.PowerLimit.{PowerLimit}
use Rattle.model.specs.declared.per_class.PerClass.{PerClass}
use Rattle.acceleration.specs.declared.Counts.{Counts}
use Rattle.acceleration.specs.Bound.{beyond}
use Rattle.acceleration.specs.Sample.{power_of, accelerates_in, within_in}
use Rattle.power.specs.Speeds.{speed_in, acceleration_in, speed_at_lem, acceleration_is}
use Rattle.power.specs.Counts.{limits_of, accelerates_at, within_at, counts_of}

-- the two rules of a class: too few accelerating samples, and P95 beyond the line, since too few of them are not
abbrev pub few_rule : ℕ → Bool
few_rule accelerating = ltb accelerating 150

abbrev pub power_rule : ℕ → ℕ → Bool
power_rule accelerating within = ltb (100 * within) (95 * accelerating)

-- they stand three places apart
abbrev pub class_mask : ℕ → ℕ → ℕ
class_mask accelerating within = bit (few_rule accelerating) + 8 * bit (power_rule accelerating within)

-- rules 15 to 17, and rules 18 to 20
abbrev pub accelerating_rules : PerClass ℕ → List Bool
accelerating_rules a = few_rule a.urban ∷ few_rule a.rural ∷ few_rule a.motorway ∷ []

abbrev pub power_rules : PerClass ℕ → PerClass ℕ → List Bool
power_rules a w = power_rule a.urban w.urban ∷ power_rule a.rural w.rural ∷ power_rule a.motorway w.motorway ∷ []

unfoldable pub dynamics_rules : Counts → List Bool
dynamics_rules k = accelerating_rules k.accelerating ++ power_rules k.accelerating k.within

-- Counting over a list: those that pass, and of those the ones whose value passes another test.
length_filter : {A : Type 0} (p q : A → Bool) → ((x : A) → p x ≡ q x) → (xs : List A) → length (filter p xs) ≡ count q xs
unfolding filter count
length_filter p q e [] = refl
length_filter p q e (x ∷ xs) = rw (e x) (by (q x) (length_filter p q e xs))
  where
    by : (b : Bool) → length (filter p xs) ≡ count q xs → length (cond b (x ∷ filter p xs) (filter p xs)) ≡ bit b + count q xs
    by true h = omega arith
    by false h = omega arith

count_kept : {A B : Type 0} (f : A → B) (r : B → Bool) (p q : A → Bool) → ((x : A) → p x && r (f x) ≡ q x)
    → (xs : List A) → count r (map f (filter p xs)) ≡ count q xs
unfolding filter count
count_kept f r p q e [] = refl
count_kept f r p q e (x ∷ xs) = rw (← e x) (by (p x) (count_kept f r p q e xs))
  where
    by : (b : Bool) → count r (map f (filter p xs)) ≡ count q xs
        → count r (map f (cond b (x ∷ filter p xs) (filter p xs))) ≡ bit (b && r (f x)) + count q xs
    by true h = omega arith
    by false h = omega arith

sample_speed : (ss : List Sample) (i : ℕ) → (sample_at ss i).speed ≡ speed_in (map speed ss) i
unfolding sample_at speed_in sample_of le_at le_val
sample_speed [] i = refl
sample_speed (s ∷ ss) zero = refl
sample_speed (s ∷ ss) (suc i) = sample_speed ss i

-- the tests of the walk are the model's, second by second
module _ (ss : List Sample) (c : SpeedClass) where
  accelerates : (i : ℕ) → in_class c (sample_at ss i) && accelerating ss i ≡ accelerates_at c (map speed ss) i
  unfolding accelerating accelerates_in
  accelerates i = rw (in_class_lem c (sample_at ss i), sample_speed ss i, acceleration_is ss i)

  power_is : (i : ℕ) → power ss i ≡ power_of (speed_in (map speed ss) i) (acceleration_in (map speed ss) i)
  unfolding power
  power_is i = rw (speed_at_lem ss i, acceleration_is ss i)

  -- the limit of the class, its counts, and the model's test of a power against its line
  abbrev limit : PowerLimit
  limit = limit_of (class_tally c ss)

  abbrev accelerating_count : ℕ
  accelerating_count = count (accelerates_at c (map speed ss)) (range 0 (length ss))

  abbrev within_count : ℕ
  within_count = count (within_at c limit (map speed ss)) (range 0 (length ss))

  abbrev past_line : ℤ → Bool
  past_line = beyond_limit (samples_in c ss) (units (distance_in c ss))

  -- accelerating samples of a class, and those of them whose power is not beyond the line
  counts : accelerating_count ≡ length (accelerating_in c ss)
  unfolding accelerating_in
  counts = sym (length_filter _ _ accelerates (range 0 (length ss)))

  kept_counts : within_count ≡ count (λ z. not (past_line z)) (map (power ss) (accelerating_in c ss))
  unfolding accelerating_in within_in beyond limit_of beyond_limit class_tally
  kept_counts =
      let kept : Bool → ℤ → Bool = λ a z. a && not (past_line z) in
      sym (count_kept (power ss) _ _ _ (λ i. ap₂ kept (accelerates i) (power_is i)) (range 0 (length ss)))

-- a larger power is beyond the line where a smaller one is
above : (t x y : ℤ) → lt_z t x ≡ true → le_z x y ≡ true → lt_z t y ≡ true
above t x y h k = lt_z_le_z t y ∙ by (le_z y t) refl
  where
    by : (b : Bool) → le_z y t ≡ b → not b ≡ true
    by true e = absurd (true≢false (sym (le_z_trans x y t k e) ∙ lt_z_true t x h))
    by false e = refl

beyond_upward : (n s : ℕ) → Upward (beyond_limit n s)
unfolding beyond_limit
beyond_upward n s a b h k =
    let f : ℕ = power_factor n s * n in
    above (pos (limit_side n s)) (pos f *ℤ a) (pos f *ℤ b) k (scaled f a b h)

some_passes : (n s : ℕ) (o : Option ℤ) → some_beyond n s o ≡ passes (beyond_limit n s) o
unfolding some_beyond
some_passes n s None = refl
some_passes n s (Some p) = refl

module _ (ss : List Sample) (c : SpeedClass) where
  too_few : too_few_accelerating c ss ≡ few_rule (accelerating_count ss c)
  unfolding too_few_accelerating
  too_few = rw (counts ss c)

  power_beyond_lem : power_beyond c ss ≡ power_rule (accelerating_count ss c) (within_count ss c)
  unfolding power_beyond p95
  power_beyond_lem =
      let n : ℕ = samples_in c ss in
      let s : ℕ = units (distance_in c ss) in
      let zs : List ℤ = map (power ss) (accelerating_in c ss) in
      some_passes n s (percentile zs)
      ∙ percentile_passes (beyond_limit n s) (beyond_upward n s) zs
      ∙ rw (kept_counts ss c, counts ss c, length-map (accelerating_in c ss) (power ss))

-- the place of the first of them among the rules, and how many they are
abbrev pub first_dynamics : ℕ
first_dynamics = 15

abbrev pub dynamics_count : ℕ
dynamics_count = 6

-- rules 15 to 20 of the samples, by their speeds and their tally
pub dynamics_rules_lem : (ss : List Sample)
    → dynamics_rules (counts_of (limits_of (tally_of ss)) (map speed ss) (length ss)) ≡ take dynamics_count (drop first_dynamics (broken ss))
unfolding dynamics_rules counts_of limits_of tally_of broken rules
dynamics_rules_lem ss =
    rw (too_few ss Urban, too_few ss Rural, too_few ss Motorway, power_beyond_lem ss Urban, power_beyond_lem ss Rural, power_beyond_lem ss Motorway)
