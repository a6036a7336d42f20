-- `monitor::rde_join` meets its contract. Assumes nothing.
use Rattle.monitor.proofs.Laws.{written}
use Rattle.monitor.proofs.rde_join.Goals as goal

pub returns : goal.returns
returns c =
    written _ c.join_tallies.result _ _ c.from.ensures c.join_tallies.ensures
