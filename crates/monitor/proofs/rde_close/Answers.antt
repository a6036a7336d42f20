-- `monitor::rde_close` meets its contract. Assumes nothing.
use mathlib.Core.Path.{refl}
use Rattle.monitor.proofs.Laws.{stepped}
use Rattle.monitor.proofs.rde_close.Goals as goal

pub returns : goal.returns
returns c =
    stepped c.close.result refl c.from.ensures c.close.ensures
