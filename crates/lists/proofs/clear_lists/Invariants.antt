-- `lists::clear_lists` meets its contract. Assumes nothing.
use Rattle.lists.specs.Effects.{Cleared}
use Rattle.lists.proofs.clear_lists.Given as goal

abbrev pub invariant-loop-k : goal.invariant-loop-k
invariant-loop-k l = Cleared l.k l.fn.part l.part
