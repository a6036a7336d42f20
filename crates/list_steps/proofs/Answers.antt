-- What the code tests of an entry, as its numbers come, is what the definition says. Assumes nothing.
use mathlib.Core.Path.{◌≡◌, refl}
use mathlib.Core.List.{List}
use Prim.Native.Nat.{ℕ}
use lib.IntN.{ℤ}
use lib.Signed.{le_z}
use mir.Syntax.{w64}
use mir.Val.{SFits, to_z, of_z}
use mir.ValLaws.{to_z-of_z}
use Rattle.model.specs.Windows.{displaces}
use Rattle.slots.specs.Layout.{value_in}
use Rattle.list_steps.specs.declared.Extreme.TheVariants.{Smallest, Largest}
use Rattle.list_steps.specs.Steps.{displaces_in}

module _ (p : List ℕ) (k s : ℕ) (new z : ℤ) (v : z ≡ value_in p k s) (fn : SFits w64 new) (fz : SFits w64 z) where
  pub displaced_smallest : le_z (to_z w64 (of_z w64 new)) (to_z w64 (of_z w64 z)) ≡ displaces_in Smallest new p k s
  unfolding displaces_in displaces
  displaced_smallest = rw (to_z-of_z w64 z fz, to_z-of_z w64 new fn, v) refl

  pub displaced_largest : le_z (to_z w64 (of_z w64 z)) (to_z w64 (of_z w64 new)) ≡ displaces_in Largest new p k s
  unfolding displaces_in displaces
  displaced_largest = rw (to_z-of_z w64 z fz, to_z-of_z w64 new fn, v) refl
