-- The class of a speed: the one class that document 01's `in_class` holds of. Assumes nothing.
use Rattle.std.specs.Prelude.{◌≡◌, refl, Bool, true, false, cond, leb}
use Rattle.std.proofs.Common.{arith, leb-true, leb-false, le-ltb, lt-ltb}
use Rattle.model.specs.declared.Sample.{Sample}
use Rattle.model.specs.declared.Speed.{Speed}
use Rattle.model.specs.declared.SpeedClass.{SpeedClass}
use Rattle.model.specs.declared.SpeedClass.TheVariants.{Urban, Rural, Motorway}
use Rattle.model.specs.Records.{tenths}
use Rattle.model.specs.Rules.{in_class, speed}

unfoldable pub class_of : Speed → SpeedClass
class_of v = cond (leb (tenths v) 600) Urban (cond (leb (tenths v) 900) Rural Motorway)

unfoldable pub same_class : SpeedClass → SpeedClass → Bool
same_class Urban Urban = true
same_class Urban Rural = false
same_class Urban Motorway = false
same_class Rural Urban = false
same_class Rural Rural = true
same_class Rural Motorway = false
same_class Motorway Urban = false
same_class Motorway Rural = false
same_class Motorway Motorway = true

pub in_class_lem : (c : SpeedClass) (s : Sample) → in_class c s ≡ same_class c (class_of s.speed)
unfolding in_class class_of same_class
in_class_lem c s = by c (leb (speed s) 600) refl (leb (speed s) 900) refl
  where
    by : (c : SpeedClass) (a : Bool) → leb (speed s) 600 ≡ a → (b : Bool) → leb (speed s) 900 ≡ b
        → in_class c s ≡ same_class c (cond a Urban (cond b Rural Motorway))
    by Urban true e b f = e
    by Urban false e true f = e
    by Urban false e false f = e
    by Rural true e b f = rw (le-ltb 600 (speed s) (leb-true (speed s) 600 e))
    by Rural false e true f = rw (lt-ltb 600 (speed s) (leb-false (speed s) 600 e), f)
    by Rural false e false f = rw (lt-ltb 600 (speed s) (leb-false (speed s) 600 e), f)
    by Motorway true e b f = le-ltb 900 (speed s) (omega (arith, leb-true (speed s) 600 e))
    by Motorway false e true f = le-ltb 900 (speed s) (leb-true (speed s) 900 f)
    by Motorway false e false f = lt-ltb 900 (speed s) (leb-false (speed s) 900 f)
