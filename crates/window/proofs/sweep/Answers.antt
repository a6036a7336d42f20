-- `window::sweep` meets its contract. Assumes nothing.
use borrow.Author.Rules.{rules}
use Rattle.window.specs.Sweep.{sweep_start, sweep_on}
use Rattle.window.proofs.sweep.Goals as goal

pub loop-k-init : goal.loop-k-init
loop-k-init c =
    sweep_start _ _ _ (search rules)

pub loop-k-preserved : goal.loop-k-preserved
loop-k-preserved c =
    sweep_on _ _ _ _ _ _ c.loop-k.invariant (search rules) c.turn.ensures
