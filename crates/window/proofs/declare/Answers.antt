-- `window::declare` meets its contract. Assumes nothing.
use Rattle.window.specs.Sweep.{added}
use Rattle.window.proofs.declare.Goals as goal

pub returns : goal.returns
returns c =
    added _ _ _ _ c.told-part c.args.k.within c.declare_slot.ensures
