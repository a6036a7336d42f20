-- `field::get_le` meets its contract. Assumes nothing.
use Rattle.model.specs.Numbers.{le_at}
use Rattle.field.proofs.Loops.{Reading}
use Rattle.field.proofs.get_le.Given as goal

abbrev pub invariant-loop-b : goal.invariant-loop-b
invariant-loop-b l = Reading l.n (le_at l.n l.s l.at) l.b-iterator.iter.rest.now l.v
