-- What is worked out from a tally, the stored speeds and the first and last altitude is the verdict of the samples that they are of.
--     broken_by       all rules, from their three parts
--     first_rule, none_set     the lowest broken rule is the lowest bit set, and the mask is 0 where none is broken
--     verdict_is     the verdict
-- Assumes nothing.
use Rattle.std.specs.Prelude.{◌≡◌, Bool, true, false, cond, ℕ, zero, suc, ◌+◌, ◌*◌, ◌/◌, ◌%◌, ◌<◌, ◌≤◌, length, drop}
use Rattle.std.proofs.Math.Path.{refl, ap, ap₂}
use Rattle.std.proofs.Common.{◌∙◌, take-append-drop}
use mathlib.Core.List.{List, [], ◌∷◌, ◌++◌, map}
use native.Mathlib.Omega.{arith}
use Rattle.std.specs.Int.Count.{count_trailing_zeros}
use Rattle.std.proofs.lemmas.List.{length-map}
use Rattle.model.specs.declared.Finding.TheVariants.{Rule, Exceeded, Clean}
use Rattle.model.specs.declared.Sample.{Sample}
use Rattle.model.specs.declared.Tally.{Tally}
use Rattle.model.specs.declared.Verdict.{Verdict}
use Rattle.model.specs.Rules.{speed, ends_apart, rules}
use Rattle.model.specs.Tallies.{tally_of}
use Rattle.model.specs.Verdicts.{broken, mask, exceeded, finding, verdict_of}
use Rattle.power.specs.Counts.{limits_of, counts_of}
use Rattle.power.specs.Dynamics.{dynamics_rules, first_dynamics, dynamics_count, dynamics_rules_lem}
use Rattle.rule.specs.TallyRules.{exceeded_by, tally_rules, tally_rules_lem, exceeded_is}
use Rattle.altitudes.specs.declared.Ends.{Ends}
use Rattle.altitudes.specs.Ends.{EndsOf, ends_rule, ends_rule_lem}

-- "a 32-bit mask"
abbrev pub mask_bits : ℕ
mask_bits = 32

-- the rules that are broken, by a tally, the first n speeds and the altitudes of the first and the last sample
unfoldable pub broken_by : Tally → List ℕ → ℕ → Ends → List Bool
broken_by t vs n e = tally_rules n t ++ (dynamics_rules (counts_of (limits_of t) vs n) ++ (ends_rule n e ∷ []))

-- a number's lowest digit, and its half
odd : (m : ℕ) → (1 + 2 * m) % 2 ≡ 1
odd m = omega arith

even : (m : ℕ) → (0 + 2 * m) % 2 ≡ 0
even m = omega arith

half : (m : ℕ) → (0 + 2 * m) / 2 ≡ m
half m = omega arith

-- the lowest broken rule, and that there is none
first_set : (over : Bool) (n : ℕ) (bs : List Bool) (k : ℕ) → length bs ≤ n → 0 < mask bs
    → finding k bs over ≡ Rule (k + count_trailing_zeros n (mask bs))
unfolding mask finding count_trailing_zeros
first_set over n [] k l h = absurd (omega arith)
first_set over zero (b ∷ bs) k l h = absurd (omega arith)
first_set over (suc n) (true ∷ bs) k l h = rw (odd (mask bs)) (ap Rule (omega arith))
first_set over (suc n) (false ∷ bs) k l h =
    rw (even (mask bs), half (mask bs)) (first_set over n bs (suc k) (omega arith) (omega arith) ∙ ap Rule (omega arith))

pub first_rule : (over : Bool) (n : ℕ) (bs : List Bool) → length bs ≤ n → 0 < mask bs → finding 0 bs over ≡ Rule (count_trailing_zeros n (mask bs))
first_rule over n bs l h = first_set over n bs 0 l h ∙ ap Rule (omega arith)

pub none_set : (over : Bool) (bs : List Bool) (k : ℕ) → mask bs ≡ 0 → finding k bs over ≡ cond over Exceeded Clean
unfolding mask finding
none_set over [] k h = refl
none_set over (true ∷ bs) k h = absurd (omega arith)
none_set over (false ∷ bs) k h = none_set over bs (suc k) (omega arith)

-- the rule behind those of the walk
behind : (ss : List Sample) → drop dynamics_count (drop first_dynamics (broken ss)) ≡ ends_apart ss ∷ []
unfolding broken rules
behind ss = refl

-- the rules of the samples
broken_is : (ss : List Sample) (e : Ends) → EndsOf ss e → broken_by (tally_of ss) (map speed ss) (length ss) e ≡ broken ss
unfolding broken_by
broken_is ss e h =
    rw (tally_rules_lem ss, dynamics_rules_lem ss, ends_rule_lem ss e h, ← behind ss, take-append-drop dynamics_count (drop first_dynamics (broken ss)))
    (take-append-drop first_dynamics (broken ss))

-- the verdict, by what the code worked out
module _ (ss : List Sample) (t : Tally) (n : ℕ) (vs : List ℕ) (e : Ends) (a : t ≡ tally_of ss) (b : map speed ss ≡ vs) (c : length vs ≡ n) (d : EndsOf ss e) where
  rules_are : broken_by t vs n e ≡ broken ss
  rules_are = rw (← c, ← b, a, length-map) (broken_is ss e d)

  few : length (broken_by t vs n e) ≤ mask_bits
  unfolding broken_by tally_rules dynamics_rules
  few = omega arith

  pub verdict_is : (v : Verdict) → v.broken ≡ mask (broken_by t vs n e) → v.exceeded ≡ exceeded_by t
      → ((bs : List Bool) → length bs ≤ mask_bits → v.broken ≡ mask bs → v.finding ≡ finding 0 bs v.exceeded) → v ≡ verdict_of ss
  unfolding verdict_of
  verdict_is v m f g =
      let over : v.exceeded ≡ exceeded ss = f ∙ rw a (exceeded_is ss) in
      let first : v.finding ≡ finding 0 (broken ss) (exceeded ss) = g (broken_by t vs n e) few m ∙ ap₂ (finding 0) rules_are over in
      let bits : v.broken ≡ mask (broken ss) = m ∙ ap mask rules_are in
      rw (← first, ← over, ← bits)
