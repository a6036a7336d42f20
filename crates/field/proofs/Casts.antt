-- The library's cast of a number's bits to a signed number, as the model's. Assumes nothing.
use Rattle.std.specs.Prelude.{◌≡◌, refl, Bool, true, false, cond, ltb, ℤ, pos}
use Prim.Native.Nat.{ℕ, suc, ◌-◌, ◌^◌}
use Rattle.std.proofs.Math.IntN.{negsuc}
use Rattle.std.specs.Int.{w16, w32, w64, cast_signed}
use mir.Val.{sel}
use Rattle.model.specs.Numbers.{signed}

picked : (b : Bool) (y z : ℤ) → sel b y z ≡ cond b y z
picked true y z = refl
picked false y z = refl

pub cast_16 : (x : ℕ) → cast_signed w16 x ≡ signed 2 x
unfolding signed
cast_16 x = picked (ltb x (2 ^ 15)) (pos x) (negsuc (2 ^ 16 - suc x))

pub cast_32 : (x : ℕ) → cast_signed w32 x ≡ signed 4 x
unfolding signed
cast_32 x = picked (ltb x (2 ^ 31)) (pos x) (negsuc (2 ^ 32 - suc x))

pub cast_64 : (x : ℕ) → cast_signed w64 x ≡ signed 8 x
unfolding signed
cast_64 x = picked (ltb x (2 ^ 63)) (pos x) (negsuc (2 ^ 64 - suc x))

pub ruleset casts = (cast_16, cast_32, cast_64)
