-- `area::write_tally` meets its contract. Assumes nothing.
use mathlib.Core.Path.{ap, ◌∙◌}
use Rattle.tally_bytes.specs.Bytes.{tally_length_lem}
use Rattle.area.specs.Layout.{lengths, before, place, size, tally_part, parts_of}
use Rattle.area.proofs.Apart.{part_put}
use Rattle.area.proofs.write_tally.Goals as goal

pub returns : goal.returns
unfolding place size before lengths
returns c =
    ap parts_of c.write.ensures ∙ part_put _ c.told-area tally_part _ (tally_length_lem c.args.t)
