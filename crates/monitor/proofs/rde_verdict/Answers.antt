-- `monitor::rde_verdict` meets its contract. Assumes nothing.
use Rattle.monitor.proofs.Laws.{judged}
use Rattle.monitor.proofs.rde_verdict.Goals as goal

pub returns : goal.returns
returns c =
    judged c.verdict.result c.from.ensures c.verdict.ensures
