-- `area::read_tally` meets its contract. Assumes nothing.
use mathlib.Core.Path.{ap, ◌∙◌}
use Rattle.field.specs.Part.{part}
use Rattle.model.specs.Tallies.{tally_from}
use Rattle.area.specs.Layout.{lengths, before, place, size, parts_of}
use Rattle.area.proofs.read_tally.Goals as goal

pub returns : goal.returns
unfolding parts_of place size before lengths part
returns c =
    c.read.ensures ∙ ap tally_from c.in-Some.ensures.cases.same
