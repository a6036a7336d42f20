-- `area_windows::part` meets its contract. Assumes nothing.
use mathlib.Core.Path.{refl, ◌∙◌}
use Rattle.area.specs.Layout.{lengths, before, place, size, slots_part}
use Rattle.area.proofs.Effects.{last_part}
use Rattle.area_windows.proofs.part.Goals as goal

pub returns : goal.returns
unfolding place size before lengths
returns c =
    let m = rw c.unwrap.ensures at c.last_chunk.ensures.cases in
    m.1.same ∙ last_part _ c.told-area slots_part _ refl refl
