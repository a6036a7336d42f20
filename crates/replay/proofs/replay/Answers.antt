-- `replay::replay` meets its contract: each call, and each way out. Assumes nothing.
use borrow.Author.Rules.{rules}
use Rattle.replay.proofs.Going.{going_start, going_more, full, spent, unknown}
use Rattle.replay.proofs.replay.Goals as goal

pub loop-call-init : goal.loop-call-init
loop-call-init c = rw (c.into_iter-call-iterator.ensures.into_iter_gives, c.new-call-items.ensures) (going_start _ _ _)

pub returns-in_default : goal.returns-in_default
returns-in_default c =
    let s = c.in-Some.ensures.steps in
    unknown c.loop-call.invariant s.0 (rw c.in_default.is at s.2).1

pub returns-then-out-written-lt-ANSWER_LEN : goal.returns-then-out-written-lt-ANSWER_LEN
returns-then-out-written-lt-ANSWER_LEN c =
    let s = c.in-Some.ensures.steps in
    full c.loop-call.invariant s.0 (rw c.in-Ok.is at s.2).0 (search rules)

pub loop-call-preserved : goal.loop-call-preserved
loop-call-preserved c =
    let s = c.in-Some.ensures.steps in
    let r = rw c.in-Ok.is at s.2 in
    going_more c.loop-call.invariant s.0 r.0 r.1 s.1 c.perform.ensures (search rules) (search rules) (search rules)

pub returns : goal.returns
returns c = spent c.loop-call.invariant c.in-None.ensures.steps
