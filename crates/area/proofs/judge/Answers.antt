-- `area::judge` meets its contract. Assumes nothing.
use mathlib.Core.Path.{sym, ap, subst, ◌∙◌}
use Rattle.model.specs.Numbers.{le_val}
use Rattle.field.specs.Cells.{cells}
use Rattle.field.specs.Part.{part}
use Rattle.altitudes.specs.Ends.{EndsOf}
use Rattle.area.specs.Layout.{lengths, before, place, size, parts_of}
use Rattle.area.proofs.judge.Goals as goal

pub returns : goal.returns
unfolding parts_of part place size before lengths
returns c t h tally number =
    c.verdict.ensures t.samples tally (sym (ap (cells 2 le_val _) number ∙ h.speeds))
    (subst (EndsOf t.samples) (sym c.read-e.ensures) h.altitudes)
