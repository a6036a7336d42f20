-- `area_windows::clear_windows` meets its contract. Assumes nothing.
use borrow.Author.Rules.{rules}
use mathlib.Core.Path.{refl}
use Rattle.area.specs.Layout.{lengths, before, place, size, slots_part}
use Rattle.area.proofs.Effects.{lent_last}
use Rattle.area_windows.proofs.clear_windows.Goals as goal

pub returns : goal.returns
unfolding place size before lengths
returns c =
    lent_last _ c.told-area slots_part _ refl refl _ c.in-Some.ensures.cases.1.same (search rules) c.clear.ensures
