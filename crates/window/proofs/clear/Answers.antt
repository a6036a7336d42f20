-- `window::clear` meets its contract. Assumes nothing.
use Rattle.window.specs.Sweep.{fresh}
use Rattle.window.proofs.clear.Goals as goal

pub returns : goal.returns
returns c =
    fresh _ _ _ c.told-part c.clear_lists.ensures c.clear_moves.ensures
