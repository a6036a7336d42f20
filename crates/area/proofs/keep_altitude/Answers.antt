-- `area::keep_altitude` meets its contract. Assumes nothing.
use mathlib.Core.Path.{refl}
use mir.Syntax.{w16}
use mir.ValLaws.{to_z-of_z}
use Rattle.area.specs.Layout.{lengths, before, place, size, altitudes_part}
use Rattle.area.proofs.Effects.{lent_changed}
use Rattle.area.proofs.keep_altitude.Goals as goal

pub returns : goal.returns
unfolding place size before lengths
returns c =
    let b = c.keep in
    lent_changed _ c.told-area altitudes_part _ _ refl refl _ b.new.part b.auto.part
    (rw (to_z-of_z w16 c.args.altitude c.ranges.altitude) at b.ensures)
