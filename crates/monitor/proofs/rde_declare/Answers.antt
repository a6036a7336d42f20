-- `monitor::rde_declare` meets its contract. Assumes nothing.
use mathlib.Core.Path.{refl}
use Rattle.monitor.proofs.Laws.{stepped}
use Rattle.monitor.proofs.rde_declare.Goals as goal

pub returns : goal.returns
returns c =
    stepped c.declare.result refl c.from.ensures c.declare.ensures
