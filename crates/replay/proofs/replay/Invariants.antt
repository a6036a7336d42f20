-- `replay::replay` meets its contract. The loop's invariant is `Going`. Assumes nothing.
use Rattle.script.specs.Next.{rest_of}
use Rattle.replay.proofs.Going.{Going}
use Rattle.replay.proofs.replay.Given as goal

abbrev pub invariant-loop-call : goal.invariant-loop-call
invariant-loop-call l = Going l.initial.area l.script l.initial.out l.area l.out (rest_of l.call-iterator) l.made l.written
