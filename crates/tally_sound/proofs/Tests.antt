-- The tests of the code are those of the definitions. Assumes nothing.
use mathlib.Core.Path.{◌≡◌, refl}
use mathlib.Core.Bool.{Bool, true, false, ◌&&◌, and-true}
use Prim.Native.Nat.{ℕ, ◌*◌, ◌^◌, ◌<◌}
use native.Mathlib.Omega.{arith}
use borrow.Author.Tests.{leb-true, le-leb}
use lib.Dec.{leb}
use lib.IntN.{ℤ, pos, ◌-ℤ◌, +ℤ_idl}
use lib.Signed.{le_z}
use mir.Syntax.{w64}
use mir.Val.{to_z, of_z}
use mir.ValLaws.{to_z_pos}
use Rattle.model.specs.declared.per_class.PerClass.{PerClass}
use Rattle.model.specs.declared.SpeedClass.{SpeedClass}
use Rattle.model.specs.declared.SpeedClass.TheVariants.{Urban, Rural, Motorway}
use Rattle.model.specs.declared.Tally.{Tally}
use Rattle.model.specs.Numbers.{all, minus, withinℤ}
use Rattle.model.specs.PerClass.{value_in}
use Rattle.model.specs.Records.{max_samples, max_channel, max_below, units}
use Rattle.model.specs.Tallies.{samples_of, nox_sound, sound}
use Rattle.laws.specs.Signed.{abs_neg, back}
use Rattle.laws.specs.Tests.{Each, all_each}
use Rattle.limits.specs.Table.{row_of, upper}
use Rattle.tally.specs.Sound.{sound_facts}
use Rattle.tally_sound.specs.Few.{few, Few, sound_few}

-- the tests of `is_sound` are those of `sound`
pub sound_tests : (t : Tally) (n : ℕ) (k : PerClass Bool)
    → n ≡ samples_of t
    → ((c : SpeedClass) → value_in k c ≡ leb (units (value_in t.classes c).distance) (upper c * (value_in t.classes c).samples))
    → (leb n max_samples
    && (k.urban && (k.rural && (k.motorway
    && (leb t.stops n && (leb t.over100 n && (leb t.over145 n && (leb t.over160 n
    && (leb t.temperature n && (leb t.altitude n && (nox_sound n t.nox && nox_sound n t.extended)))))))))))
    ≡ sound t
unfolding sound all row_of
sound_tests t n k e h = rw (h Urban, h Rural, h Motorway, e, and-true)

-- the first tests as facts
pub few_facts : (t : Tally) → few t ≡ true → Few t
unfolding few Each
few_facts t e = let h = all_each _ e in record { urban = leb-true _ _ h.0; rural = leb-true _ _ h.1.0; motorway = leb-true _ _ h.1.1.0 }

-- a sound tally passes those tests, so one that fails them is not sound
pub few_failed : (t : Tally) → few t ≡ false → sound t ≡ false
unfolding few all
few_failed t e = by (sound t) refl
  where
    passed : Few t → few t ≡ true
    passed h = rw (le-leb _ _ h.urban, le-leb _ _ h.rural, le-leb _ _ h.motorway)

    by : (b : Bool) → sound t ≡ b → sound t ≡ false
    by true p = let f : few t ≡ true = passed (sound_few t (sound_facts t p)) in cc
    by false p = p

-- the least U of n samples, as the code makes it
pub least_is : (k n : ℕ) → k * n < 2 ^ 63 → to_z w64 (of_z w64 (pos 0 -ℤ to_z w64 (k * n))) ≡ minus (k * n)
least_is k n h = rw (to_z_pos w64 (k * n) h, +ℤ_idl (minus (k * n))) (back (minus (k * n)) (omega (arith, abs_neg (pos (k * n)))))

-- the tests of `nox_sound`
pub nox_tests : (n : ℕ) (u : ℤ) → (le_z (minus (max_below * n)) u && le_z u (pos (max_channel * n))) ≡ nox_sound n u
unfolding nox_sound withinℤ
nox_tests n u = refl
