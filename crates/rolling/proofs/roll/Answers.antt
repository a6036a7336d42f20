-- `rolling::roll` meets its contract. Assumes nothing.
use mir.Syntax.{w64}
use mir.Val.{SFits}
use mir.ValLaws.{to_z-of_z}
use Rattle.rolling.proofs.roll.Goals as goal

pub returns : goal.returns
returns c =
    let f = c.ranges.sum in
    let g : SFits w64 c.sum_after-total.result = record { sfits = c.sum_after-total.type_inv } in
    rw (← c.count_after-count.ensures, ← simp to_z-of_z at c.sum_after-total.ensures) (simp to_z-of_z at c.put_count_sum.ensures)
