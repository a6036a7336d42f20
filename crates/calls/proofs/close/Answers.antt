-- `calls::close` meets its contract. Assumes nothing.
use borrow.Author.Rules.{rules}
use Rattle.std.proofs.lemmas.Result.{err_from_is_err_and}
use Rattle.model.specs.Trip.{close}
use Rattle.steps.specs.Laws.{step_of}
use Rattle.steps.specs.Refusals.{close_unlending, close_closed}
use Rattle.steps.specs.Accepted.{close_done}
use Rattle.calls.proofs.close.Goals as goal

pub returns-in_err-recognise : goal.returns-in_err-recognise
returns-in_err-recognise c =
    let p = err_from_is_err_and c.from_residual-in_err-recognise.result c.from_residual-in_err-recognise.ensures.1 in
    rw (p.1, p.2) (step_of (search rules) (c.in_err-recognise.ensures close close_unlending))

pub returns-then-is_closed : goal.returns-then-is_closed
returns-then-is_closed c =
    step_of (search rules) (close_closed c.in_ok-recognise.ensures (c.is_closed.ensures.closed c.if-is_closed.true))

pub returns : goal.returns
returns c =
    step_of (search rules) (close_done (search rules) c.in_ok-recognise.ensures (c.is_closed.ensures.open c.if-is_closed.false) c.set_number.ensures)
