-- `area::add_sample` meets its contract. Assumes nothing.
use mathlib.Core.Path.{refl}
use Rattle.area.specs.Layout.{lengths, before, place, size, tally_part}
use Rattle.area.proofs.Effects.{lent_changed}
use Rattle.area.proofs.add_sample.Goals as goal

pub returns : goal.returns
unfolding place size before lengths
returns c =
    let b = c.add_to in
    lent_changed _ c.told-area tally_part _ _ refl refl _ b.new.tally b.auto.tally b.ensures
