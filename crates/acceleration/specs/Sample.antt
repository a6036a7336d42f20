-- One sample of the walk over the speeds, by its speed V and its acceleration A, an integer: whether it is an accelerating one of a class, and whether its
-- power is within the class's limit. The code tells both by how much the speed rises, without a sign:
--     accelerates_is, within_is     its tests are those of A and of P
-- Assumes nothing.
use Rattle.std.specs.Prelude.{◌≡◌, Bool, ◌&&◌, ℕ, zero, suc, ◌+◌, ◌-◌, ◌*◌, ◌^◌, ◌≤◌, ◌<◌, ℤ, pos, ◌-ℤ◌, ◌*ℤ◌}
use Rattle.std.proofs.Math.Path.{refl, ap}
use Rattle.std.proofs.Common.{sym, ◌∙◌, mul-le-mul, arith, leb-true, le-ltb, lt-ltb}
use Rattle.std.proofs.Math.Bool.{true, false, not}
use Rattle.std.proofs.Math.Decide.{dec_lt}
use Rattle.std.proofs.lemmas.Bool.{lt-leb}
use Rattle.std.proofs.Math.Dec.{leb}
use Rattle.std.specs.Int.Signed.{le_z}
use Rattle.model.specs.declared.Speed.{Speed}
use Rattle.model.specs.declared.SpeedClass.{SpeedClass}
use Rattle.model.specs.declared.SpeedClass.TheVariants.{Urban, Rural, Motorway}
use Rattle.model.specs.Numbers.{bit}
use Rattle.model.specs.Records.{tenths}
use Rattle.laws.specs.Order.{ltb_leb}
use Rattle.laws.specs.Tests.{both, not_not}
use Rattle.limits.specs.declared.PowerLimit.{PowerLimit}
use Rattle.model.specs.declared.per_class.PerClass.{PerClass}
use Rattle.model.specs.PerClass.{value_in}
use Rattle.limits.specs.Class.{class_of, same_class}
use Rattle.acceleration.specs.declared.Rise.{Rise}
use Rattle.acceleration.specs.declared.Power.{Power}
use Rattle.acceleration.specs.declared.Counts.{Counts}
use Rattle.acceleration.specs.Bound.{beyond, BoundOf}

-- the largest speed of a u16
abbrev pub most_tenths : ℕ
most_tenths = 65535

-- from where on a sample is accelerating
abbrev pub least_rise : ℕ
least_rise = 8

abbrev pub tenths_of : ℕ → Speed
tenths_of v = record { 0 = v }

-- next speed − previous speed
abbrev pub acceleration_of : Speed → Speed → ℤ
acceleration_of next previous = pos (tenths next) -ℤ pos (tenths previous)

-- speed × acceleration
abbrev pub power_of : Speed → ℤ → ℤ
power_of v a = pos (tenths v) *ℤ a

-- a sample of this speed and acceleration is an accelerating one of the class
unfoldable pub accelerates_in : SpeedClass → Speed → ℤ → Bool
accelerates_in c v a = same_class c (class_of v) && le_z (pos least_rise) a

-- and its power is not beyond the limit
unfoldable pub within_in : SpeedClass → PowerLimit → Speed → ℤ → Bool
within_in c l v a = accelerates_in c v a && not (beyond l (power_of v a))

-- The same without a sign.

abbrev pub rise_of : Speed → Speed → Rise
rise_of next previous = record { 0 = tenths next - tenths previous }

unfoldable pub accelerates : SpeedClass → Speed → Rise → Bool
accelerates c v r = same_class c (class_of v) && leb least_rise r.0

unfoldable pub within : SpeedClass → Power → Speed → Rise → Bool
within c b v r = accelerates c v r && leb (tenths v * r.0) b.0

-- a difference of two numbers, and what is left of the first
pub difference_above : (x y : ℕ) → y ≤ x → pos x -ℤ pos y ≡ pos (x - y)
difference_above x zero h = ap pos (omega arith)
difference_above x (suc y) h = rw (le-ltb x (suc y) h)

least_below : (x y : ℕ) → x < y → le_z (pos least_rise) (pos x -ℤ pos y) ≡ false
least_below x zero h = absurd (omega arith)
least_below x (suc y) h = rw (lt-ltb x (suc y) h)

least_is : (x y : ℕ) → leb least_rise (x - y) ≡ le_z (pos least_rise) (pos x -ℤ pos y)
least_is x y = by (dec_lt x y)
  where
    by : Dec (x < y) → leb least_rise (x - y) ≡ le_z (pos least_rise) (pos x -ℤ pos y)
    by (yes h) = lt-leb least_rise (x - y) (omega arith) ∙ sym (least_below x y h)
    by (no h) = ap (le_z (pos least_rise)) (sym (difference_above x y (omega arith)))

-- before no speed none is accelerating
pub none_after : (c : SpeedClass) (v previous : Speed) → accelerates_in c v (acceleration_of (tenths_of 0) previous) ≡ false
unfolding accelerates_in
none_after c v previous =
    rw (← least_is 0 (tenths previous), lt-leb least_rise (0 - tenths previous) (omega arith)) (by (same_class c (class_of v)))
  where
    by : (t : Bool) → t && false ≡ false
    by true = refl
    by false = refl

module _ (c : SpeedClass) (v next previous : Speed) where
  abbrev rise : Rise
  rise = rise_of next previous

  abbrev a : ℤ
  a = acceleration_of next previous

  pub accelerates_is : accelerates c v rise ≡ accelerates_in c v a
  unfolding accelerates accelerates_in
  accelerates_is = ap (λ (t : Bool). same_class c (class_of v) && t) (least_is (tenths next) (tenths previous))

  rises : accelerates_in c v a ≡ true → le_z (pos least_rise) a ≡ true
  unfolding accelerates_in
  rises e = (both (same_class c (class_of v)) (le_z (pos least_rise) a) e).1

  module _ (l : PowerLimit) (b : Power) (bound : BoundOf l b) (hv : tenths v < 2 ^ 16) (hn : tenths next < 2 ^ 16) where
    -- where the speed rises by as much, the power is that of the rise
    test_is : le_z (pos least_rise) a ≡ true → leb (tenths v * rise.0) b.0 ≡ not (beyond l (power_of v a))
    test_is e =
        let r : least_rise ≤ rise.0 = leb-true least_rise rise.0 (least_is (tenths next) (tenths previous) ∙ e) in
        let p : ℕ = tenths v * rise.0 in
        let kv : tenths v ≤ most_tenths = omega arith in
        let kr : rise.0 ≤ most_tenths = omega arith in
        let most : p ≤ most_tenths * most_tenths = mul-le-mul kv kr in
        rw (difference_above (tenths next) (tenths previous) (omega arith), ← bound p (omega arith), ltb_leb b.0 p)
        (not_not (leb p b.0))

    pub within_is : within c b v rise ≡ within_in c l v a
    unfolding within within_in
    within_is = rw accelerates_is (by (accelerates_in c v a) refl)
      where
        by : (t : Bool) → accelerates_in c v a ≡ t → t && leb (tenths v * rise.0) b.0 ≡ t && not (beyond l (power_of v a))
        by true e = test_is (rises e)
        by false e = refl

-- Counts for each class.

-- none is above m
pub record Most (m : ℕ) (k : PerClass ℕ) : Type 0 where
  pub urban : k.urban ≤ m
  pub rural : k.rural ≤ m
  pub motorway : k.motorway ≤ m

pub record MostCounts (m : ℕ) (k : Counts) : Type 0 where
  pub accelerating : Most m k.accelerating
  pub within : Most m k.within

pub most_more : {m n : ℕ} (k : Counts) → m ≤ n → MostCounts m k → MostCounts n k
most_more {m} {n} k e h = record { accelerating = more h.accelerating; within = more h.within }
  where
    more : {k : PerClass ℕ} → Most m k → Most n k
    more h = record { urban = omega (arith, h.urban); rural = omega (arith, h.rural); motorway = omega (arith, h.motorway) }

-- one more in each class for which a test holds
unfoldable pub raised : PerClass ℕ → (SpeedClass → Bool) → PerClass ℕ
raised k t = record { urban = k.urban + bit (t Urban); rural = k.rural + bit (t Rural); motorway = k.motorway + bit (t Motorway) }

-- a sample counted
unfoldable pub counted : PerClass Power → Counts → Speed → Rise → Counts
counted b k v r = record {
  accelerating = raised k.accelerating (λ c. accelerates c v r);
  within = raised k.within (λ c. within c (value_in b c) v r);
}

abbrev pub no_counts : Counts
no_counts = record {
  accelerating = record { urban = 0; rural = 0; motorway = 0 };
  within = record { urban = 0; rural = 0; motorway = 0 };
}

pub bit_most : (b : Bool) → bit b ≤ 1
bit_most true = omega arith
bit_most false = omega arith

raised_most : (m : ℕ) (k : PerClass ℕ) (t : SpeedClass → Bool) → Most m k → Most (m + 1) (raised k t)
unfolding raised
raised_most m k t h = record {
  urban = omega (arith, h.urban, bit_most (t Urban));
  rural = omega (arith, h.rural, bit_most (t Rural));
  motorway = omega (arith, h.motorway, bit_most (t Motorway));
}

pub counted_most : (m : ℕ) (b : PerClass Power) (k : Counts) (v : Speed) (r : Rise) → MostCounts m k → MostCounts (m + 1) (counted b k v r)
unfolding counted
counted_most m b k v r h = record {
  accelerating = raised_most m k.accelerating _ h.accelerating;
  within = raised_most m k.within _ h.within;
}

-- the test alone decides
pub raised_by : (k : PerClass ℕ) (s t : SpeedClass → Bool) → ((c : SpeedClass) → s c ≡ t c) → raised k s ≡ raised k t
unfolding raised
raised_by k s t e = rw (e Urban, e Rural, e Motorway)
