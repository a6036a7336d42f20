-- `monitor::rde_tally` meets its contract. Assumes nothing.
use Rattle.monitor.proofs.Laws.{written}
use Rattle.monitor.proofs.rde_tally.Goals as goal

pub returns : goal.returns
returns c =
    written _ c.tally_block.result _ _ c.from.ensures c.tally_block.ensures
