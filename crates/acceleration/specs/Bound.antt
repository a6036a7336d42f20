-- A power against the limit of its class, and against the bound, the largest power that is not beyond it:
--     bound_none         in a class without samples no power is beyond it
--     bound_most         nor is one where the quotient of the two sides is past every power
--     bound_quotient     else the bound is that quotient
--     bound_read         both, by whether the quotient is a u32
-- Assumes nothing.
use Rattle.std.specs.Prelude.{◌≡◌, Bool, true, false, ℕ, ◌*◌, ◌/◌, ◌^◌, ◌≤◌, ◌<◌, ltb, ℤ, pos, ◌*ℤ◌, Result, Ok, Err, OkIff}
use Rattle.std.specs.Result.{result_unwrap_or}
use Rattle.std.proofs.Common.{sym, ◌∙◌, div-lt_iff_lt-mul, le-div_iff_mul-le, arith, le-ltb, lt-ltb}
use Rattle.std.proofs.Math.Decide.{dec_lt}
use Rattle.std.specs.Int.Signed.{lt_z}
use Rattle.model.specs.declared.SpeedClass.{SpeedClass}
use Rattle.limits.specs.declared.PowerLimit.{PowerLimit}
use Rattle.model.specs.declared.per_class.PerClass.{PerClass}
use Rattle.model.specs.PerClass.{value_in}
use Rattle.acceleration.specs.declared.Power.{Power}

-- a power beyond a limit
unfoldable pub beyond : PowerLimit → ℤ → Bool
beyond l p = lt_z (pos l.side) (pos l.factor *ℤ p)

-- the largest u32: no power is above it
abbrev pub most_power : ℕ
most_power = 4294967295

-- a power is beyond the limit exactly where it is above the bound
abbrev pub BoundOf : PowerLimit → Power → Type 0
BoundOf l b = (p : ℕ) → p ≤ most_power → ltb b.0 p ≡ beyond l (pos p)

abbrev pub BoundsOf : PerClass PowerLimit → PerClass Power → Type 0
BoundsOf l b = (c : SpeedClass) → BoundOf (value_in l c) (value_in b c)

-- by the test in whole numbers
within_limit : (l : PowerLimit) (p : ℕ) → p * l.factor ≤ l.side → beyond l (pos p) ≡ false
unfolding beyond
within_limit l p h = le-ltb l.side (l.factor * p) (omega (arith, h))

beyond_limit_lem : (l : PowerLimit) (p : ℕ) → l.side < p * l.factor → beyond l (pos p) ≡ true
unfolding beyond
beyond_limit_lem l p h = lt-ltb l.side (l.factor * p) (omega (arith, h))

module _ (l : PowerLimit) (b : Power) where
  pub bound_none : l.factor ≡ 0 → b.0 ≡ most_power → BoundOf l b
  bound_none e f p h = le-ltb b.0 p (omega arith) ∙ sym (within_limit l p (rw e (omega arith)))

  module _ (k : 0 < l.factor) where
    pub bound_most : b.0 < l.side / l.factor → b.0 ≡ most_power → BoundOf l b
    bound_most g f p h =
        le-ltb b.0 p (omega arith)
        ∙ sym (within_limit l p ((le-div_iff_mul-le {k = l.factor} {x = p} {y = l.side} k).0 (omega arith)))

    pub bound_quotient : b.0 ≡ l.side / l.factor → BoundOf l b
    bound_quotient e p h = by (dec_lt b.0 p)
      where
        by : Dec (b.0 < p) → ltb b.0 p ≡ beyond l (pos p)
        by (yes g) = lt-ltb b.0 p g ∙ sym (beyond_limit_lem l p ((div-lt_iff_lt-mul {k = l.factor} {x = l.side} {y = p} k).0 (rw e at g)))
        by (no g) =
            le-ltb b.0 p (omega arith)
            ∙ sym (within_limit l p ((le-div_iff_mul-le {k = l.factor} {x = p} {y = l.side} k).0 (rw (← e) (omega arith))))

    -- the quotient where it is a P, else the largest P
    pub bound_read : {E : Type 0} (r : Result ℕ E) → OkIff r (l.side / l.factor < 2 ^ 32) (l.side / l.factor) → b.0 ≡ result_unwrap_or r most_power
        → BoundOf l b
    bound_read (Ok x) o e = bound_quotient (e ∙ o.1)
    bound_read (Err x) o e = bound_most (omega (arith, e, o)) e
