-- `search::place` meets its contract. Each turn leaves half of the places. Assumes nothing.
use Rattle.std.specs.Prelude.{◌/◌, length}
use Rattle.search.specs.Place.{sought_by, Spanned}
use Rattle.search.proofs.place.Given as goal

abbrev pub invariant-loop-len : goal.invariant-loop-len
invariant-loop-len l = Spanned (sought_by l.c) l.values (length l.values / 4) l.lo l.len

abbrev pub decreases-loop-len : goal.decreases-loop-len
decreases-loop-len l = l.len
