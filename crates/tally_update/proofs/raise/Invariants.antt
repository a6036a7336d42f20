-- `tally_update::raise` meets its contract: after i turns the first i numbers are raised. Assumes nothing.
use mathlib.Core.Path.{◌≡◌}
use lib.ListN.{take}
use Rattle.model.specs.Tallies.{words}
use Rattle.field.specs.Part.{put}
use Rattle.tally_update.specs.Raised.{raised}
use Rattle.tally_update.proofs.raise.Given as goal

abbrev pub invariant-loop-i : goal.invariant-loop-i
invariant-loop-i l = l.b ≡ put l.initial.b l.at (words (take l.i (raised l.initial.b l.at l.ns)))
