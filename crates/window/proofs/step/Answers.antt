-- `window::step` meets its contract. Assumes nothing.
use Rattle.window.specs.Sweep.{stepped}
use Rattle.window.proofs.step.Goals as goal

pub returns : goal.returns
returns c =
    stepped _ _ _ _ _ c.requires.second c.store_record.ensures _ c.sweep.ensures
