-- `window::sweep` meets its contract. Assumes nothing.
use Rattle.window.specs.Sweep.{Sweeping}
use Rattle.window.proofs.sweep.Given as goal

abbrev pub invariant-loop-k : goal.invariant-loop-k
invariant-loop-k l = Sweeping l.n l.windows l.k l.fn.part l.part
