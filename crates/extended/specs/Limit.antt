-- R-6: "A drive whose weighted sum of U is 0 or less is never exceeded", whatever its distance is.
--     none_above_limit     the test of U, extended U and a distance, by their weighted sum
--     never_exceeded       a list of samples, by theirs
-- Assumes nothing.
use Rattle.std.specs.Prelude.{◌≡◌, true, false, List, ℕ, ◌*◌, ℤ, pos, ◌*ℤ◌}
use Rattle.std.proofs.Common.{arith}
use Rattle.std.proofs.lemmas.Int.{ints}
use Rattle.std.specs.Int.Signed.{le_z, lt_z}
use Rattle.model.specs.declared.Sample.{Sample}
use Rattle.model.specs.Records.{units}
use Rattle.model.specs.Rules.{distance}
use Rattle.model.specs.Verdicts.{nox_sum, extended_sum, weighted, gas_factor, nox_limit, exceeds_limit, exceeded}

none_above_limit : (u e : ℤ) (d : ℕ) → le_z (weighted u e) (pos 0) ≡ true → exceeds_limit u e d ≡ false
unfolding exceeds_limit
none_above_limit u e d h =
    let below : lt_z (pos (nox_limit * d)) (pos gas_factor *ℤ weighted u e) ≡ false = grind (arith, ints) in
    rw below

pub never_exceeded : (ss : List Sample) → le_z (weighted (nox_sum ss) (extended_sum ss)) (pos 0) ≡ true → exceeded ss ≡ false
unfolding exceeded
never_exceeded ss h = none_above_limit (nox_sum ss) (extended_sum ss) (units (distance ss)) h
