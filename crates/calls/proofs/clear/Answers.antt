-- `calls::clear` meets its contract. Assumes nothing.
use borrow.Author.Rules.{rules}
use Rattle.steps.specs.Laws.{step_of}
use Rattle.steps.specs.Accepted.{clear_done}
use Rattle.calls.proofs.clear.Goals as goal

pub returns : goal.returns
returns c =
    step_of (search rules)
    (clear_done (search rules) (search rules) c.clear_windows.ensures c.empty.ensures
    c.write_tally.ensures c.set_number.ensures c.set_number-2.ensures c.set_number-3.ensures c.set_number-4.ensures)
