-- The altitudes of the first and of the last sample, as the part of the area holds them, and rule 21 by them.
--     EndsOf                    they are those of a list of samples
--     ends_with                 one sample more
--     ends_rule_lem                 the rule is the model's
-- Assumes nothing.
use Rattle.std.specs.Prelude.{Bool, false, List, [], ◌∷◌, ◌++◌, ◌≡◌, refl, ℕ, zero, suc, ◌*◌, ℤ, length}
use Rattle.model.specs.declared.Sample.{Sample}
use Rattle.model.specs.Numbers.{le_at, signed}
use Rattle.model.specs.Rules.{apart, last_of, ends_apart}
use Rattle.altitudes.specs.declared.Ends.{Ends}

-- bytes of an altitude, an i32, and of the part: first and last
abbrev pub altitude_len : ℕ
altitude_len = 4

abbrev pub ends_len : ℕ
ends_len = 2 * altitude_len

-- what the part holds
unfoldable pub ends_from : List ℕ → Ends
ends_from part = record { first = signed altitude_len (le_at altitude_len part 0); last = signed altitude_len (le_at altitude_len part altitude_len) }

-- they are the altitudes of the first and of the last of these samples; of no samples nothing is said
unfoldable pub EndsOf : List Sample → Ends → Type 0
EndsOf [] e = Unit {0}
EndsOf (s ∷ ss) e = (e.first ≡ s.altitude) × (e.last ≡ (last_of s ss).altitude)

-- with the altitude of second n, which is the last, and of second 0 also the first
unfoldable pub with_altitude : ℕ → ℤ → Ends → Ends
with_altitude zero z e = record { first = z; last = z }
with_altitude (suc n) z e = record { first = e.first; last = z }

-- what keeping it does to the part
abbrev pub Kept : ℕ → ℤ → List ℕ → List ℕ → Type 0
Kept n z before after = ends_from after ≡ with_altitude n z (ends_from before)

-- rule 21 of n samples
unfoldable pub ends_rule : ℕ → Ends → Bool
ends_rule zero e = false
ends_rule (suc n) e = apart e.first e.last

last_more : (s : Sample) (ss : List Sample) (x : Sample) → x.altitude ≡ (last_of s (ss ++ (x ∷ []))).altitude
unfolding last_of
last_more s [] x = refl
last_more s (t ∷ ss) x = last_more t ss x

pub ends_with : (ss : List Sample) (x : Sample) (e : Ends) → EndsOf ss e → EndsOf (ss ++ (x ∷ [])) (with_altitude (length ss) x.altitude e)
unfolding EndsOf with_altitude last_of
ends_with [] x e h = (refl, refl)
ends_with (s ∷ ss) x e h = (h.0, last_more s ss x)

pub ends_rule_lem : (ss : List Sample) (e : Ends) → EndsOf ss e → ends_rule (length ss) e ≡ ends_apart ss
unfolding EndsOf ends_rule ends_apart
ends_rule_lem [] e h = refl
ends_rule_lem (s ∷ ss) e h = rw (h.0, h.1) refl
