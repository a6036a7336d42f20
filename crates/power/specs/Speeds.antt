-- The stored speeds, a u16 for each second, and the accelerations that they give.
--     acceleration_is              the accelerations are the model's
-- Assumes nothing.
use Rattle.std.specs.Prelude.{◌≡◌, refl, List, [], ◌∷◌, ◌++◌, map, ℕ, zero, suc, ◌+◌, ◌-◌, ◌*◌, ◌≤◌, ℤ, pos, ◌-ℤ◌, length, get_or}
use Rattle.std.proofs.Common.{ap, ap₂, arith}
use Rattle.model.specs.declared.Sample.{Sample}
use Rattle.model.specs.declared.Speed.{Speed}
use Rattle.model.specs.Numbers.{le_val}
use Rattle.model.specs.Records.{tenths}
use Rattle.model.specs.Rules.{speed, speed_at, speed_before, acceleration}
use Rattle.field.specs.Le.{put_le}
use Rattle.field.specs.Cells.{cells}
use Rattle.acceleration.specs.Sample.{tenths_of, acceleration_of}

-- the first n speeds of the part
abbrev pub speeds_of : List ℕ → ℕ → List ℕ
speeds_of part n = cells 2 le_val part n

-- the first n speeds of the part are those of the samples
abbrev pub Stored : List ℕ → ℕ → List Sample → Type 0
Stored part n ss = map speed ss ≡ speeds_of part n

-- a speed is added after the first n, and nothing else changes
pub record Appended (n : ℕ) (v : Speed) (before after : List ℕ) : Type 0 where
  pub is : after ≡ put_le 2 before (2 * n) (tenths v)
  pub speeds : speeds_of after (n + 1) ≡ speeds_of before n ++ (tenths v ∷ [])

-- the speed of second i, and of the second before it: 0 past the last, and before the first
unfoldable pub speed_in : List ℕ → ℕ → Speed
speed_in vs i = tenths_of (get_or vs i 0)

unfoldable pub speed_before_in : List ℕ → ℕ → Speed
speed_before_in vs zero = tenths_of 0
speed_before_in vs (suc i) = speed_in vs i

pub before_first : (vs : List ℕ) → tenths_of 0 ≡ speed_before_in vs 0
unfolding speed_before_in
before_first vs = refl

pub before_later : (vs : List ℕ) (i : ℕ) → 1 ≤ i → speed_in vs (i - 1) ≡ speed_before_in vs i
unfolding speed_before_in
before_later vs zero h = absurd (omega arith)
before_later vs (suc i) h = ap (speed_in vs) (omega arith)

abbrev pub acceleration_in : List ℕ → ℕ → ℤ
acceleration_in vs i = acceleration_of (speed_in vs (suc i)) (speed_before_in vs i)

-- past the last speed
pub speed_past : (vs : List ℕ) (i : ℕ) → length vs ≤ i → get_or vs i 0 ≡ 0
speed_past [] i h = refl
speed_past (v ∷ vs) zero h = absurd (omega arith)
speed_past (v ∷ vs) (suc i) h = speed_past vs i (omega arith)

-- they are the model's, where these are the samples' speeds
pub speed_at_lem : (ss : List Sample) (i : ℕ) → speed_at ss i ≡ tenths (speed_in (map speed ss) i)
unfolding speed_at speed_in
speed_at_lem [] i = refl
speed_at_lem (s ∷ ss) zero = refl
speed_at_lem (s ∷ ss) (suc i) = speed_at_lem ss i

speed_before_lem : (ss : List Sample) (i : ℕ) → speed_before ss i ≡ tenths (speed_before_in (map speed ss) i)
unfolding speed_before speed_before_in
speed_before_lem ss zero = refl
speed_before_lem ss (suc i) = speed_at_lem ss i

pub acceleration_is : (ss : List Sample) (i : ℕ) → acceleration ss i ≡ acceleration_in (map speed ss) i
unfolding acceleration
acceleration_is ss i = ap₂ (λ (a b : ℕ). pos a -ℤ pos b) (speed_at_lem ss (suc i)) (speed_before_lem ss i)
