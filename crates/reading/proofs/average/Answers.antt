-- `reading::average` meets its contract. Assumes nothing.
use native.Mathlib.Omega.{arith}
use mir.Syntax.{w64}
use mir.ValLaws.{to_z-of_z}
use Rattle.reading.specs.Read.{reads_average}
use Rattle.reading.proofs.average.Goals as goal

pub returns : goal.returns
returns c =
    let rounded = rw (to_z-of_z w64 _ (record { sfits = c.sum.type_inv })) at c.round_half_even.ensures in
    rw (to_z-of_z w64 _ (record { sfits = c.round_half_even.type_inv }), rounded, c.sum.ensures, c.count-count.ensures)
    (reads_average _ _ c.requires (omega (arith, c.count-count.ensures)))
