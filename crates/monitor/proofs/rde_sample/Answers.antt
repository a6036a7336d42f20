-- `monitor::rde_sample` meets its contract. Assumes nothing.
use mathlib.Core.Path.{refl}
use Rattle.monitor.proofs.Laws.{stepped}
use Rattle.monitor.proofs.rde_sample.Goals as goal

pub returns : goal.returns
returns c =
    stepped c.sample.result refl c.from.ensures c.sample.ensures
