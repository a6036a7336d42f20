-- `monitor::rde_read` meets its contract. Assumes nothing.
use mathlib.Core.Path.{refl}
use Rattle.monitor.proofs.Laws.{stepped}
use Rattle.monitor.proofs.rde_read.Goals as goal

pub returns : goal.returns
returns c =
    stepped c.read.result refl c.from.ensures c.read.ensures
