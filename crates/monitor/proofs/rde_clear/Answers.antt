-- `monitor::rde_clear` meets its contract. Assumes nothing.
use mathlib.Core.Path.{refl}
use Rattle.monitor.proofs.Laws.{stepped}
use Rattle.monitor.proofs.rde_clear.Goals as goal

pub returns : goal.returns
returns c =
    stepped c.clear.result refl c.from.ensures c.clear.ensures
