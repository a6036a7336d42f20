-- `area::append_speed` meets its contract. Assumes nothing.
use mathlib.Core.Path.{refl}
use Rattle.area.specs.Layout.{lengths, before, place, size, speeds_part}
use Rattle.area.proofs.Effects.{lent_changed}
use Rattle.area.proofs.append_speed.Goals as goal

pub returns : goal.returns
unfolding place size before lengths
returns c =
    let b = c.append_speed in
    lent_changed _ c.told-area speeds_part _ _ refl refl _ b.new.speeds b.auto.speeds b.ensures
