-- `list_steps::pop` meets its contract. The invariant is `Popping`: what is popped of the list as it is, is what is popped of the list as it was. Assumes nothing.
use Rattle.list_steps.specs.Steps.{Popping}
use Rattle.list_steps.proofs.pop.Given as goal

abbrev pub invariant-loop-last : goal.invariant-loop-last
invariant-loop-last l = Popping l.extreme l.new l.k.number l.fn.part l.part l.last
