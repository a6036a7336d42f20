-- The tests of the code, as the code makes them, are those of the definitions. Assumes nothing.
use mathlib.Core.Path.{◌≡◌}
use mathlib.Core.Bool.{◌&&◌, and-true}
use mathlib.Core.List.{List}
use Prim.Native.Nat.{ℕ}
use lib.Dec.{leb, eqb}
use lib.IntN.{ℤ}
use lib.Signed.{le_z}
use Rattle.model.specs.Numbers.{le_at, signed, all, within}
use Rattle.model.specs.Records.{max_width, window_of, fields_kept}

-- a window record's fields, as read
pub field_tests : (r : List ℕ) (c d z w zs : ℕ) (low high : ℤ) → c ≡ le_at 1 r 1 → d ≡ le_at 1 r 2 → z ≡ le_at 1 r 3 → w ≡ le_at 2 r 4 → zs ≡ le_at 2 r 6
    → low ≡ signed 4 (le_at 4 r 8) → high ≡ signed 4 (le_at 4 r 12)
    → (leb c 6 && (leb d 6 && (eqb z 0 && ((leb 1 w && leb w max_width) && (eqb zs 0 && le_z low high))))) ≡ fields_kept r
unfolding fields_kept all within window_of
field_tests r c d z w zs low high e₁ e₂ e₃ e₄ e₅ e₆ e₇ = rw (e₁, e₂, e₃, e₄, e₅, e₆, e₇, and-true)
