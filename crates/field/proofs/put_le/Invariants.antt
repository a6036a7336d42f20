-- `field::put_le` meets its contract. Assumes nothing.
use Rattle.field.proofs.Loops.{Writing}
use Rattle.field.proofs.put_le.Given as goal

abbrev pub invariant-loop-b : goal.invariant-loop-b
invariant-loop-b l = Writing l.n l.v l.initial.b-items l.b-items l.b-index l.rest
