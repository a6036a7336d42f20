-- `field::get_le` meets its contract. Assumes nothing.
use Rattle.std.proofs.Common.{arith, rules, ◌+◌, ◌-◌, ◌++◌, ◌∷◌, []}
use Rattle.model.specs.Numbers.{le_at}
use Rattle.field.proofs.Loops.{Reading, reading_start, reading_end, reading_room, reading_more}
use Rattle.field.proofs.get_le.Goals as goal
use Rattle.field.proofs.get_le.Goals.{In-Some}

-- the byte that is read is the last of those left
reading : (c : In-Some) → Reading c.args.n (le_at c.args.n c.args.s.now c.args.at) (c.next.new.self.iter.rest.now ++ (c.in-Some.b.now ∷ [])) c.loop-b.v
reading c = rw c.in-Some.ensures.steps at c.loop-b.invariant

pub loop-b-init : goal.loop-b-init
loop-b-init c =
    let s = reading_start c.args.n (c.args.at + c.args.n - c.args.at) c.args.s.now c.args.at (omega arith) c.requires.0 in
    search rules

pub overflow_mul-v : goal.overflow_mul-v
overflow_mul-v c = omega (arith, reading_room _ _ _ _ _ (reading (goal.at.overflow_mul-v c).In-Some) c.requires.1)

pub overflow_add-v : goal.overflow_add-v
overflow_add-v c = omega (arith, reading_room _ _ _ _ _ (reading (goal.at.overflow_add-v c).In-Some) c.requires.1)

pub loop-b-preserved : goal.loop-b-preserved
loop-b-preserved c = rw c.from.ensures (reading_more _ _ _ _ _ (reading (goal.at.loop-b-preserved c).In-Some) (omega arith))

pub returns : goal.returns
returns c = reading_end _ _ _ _ c.loop-b.invariant c.in-None.ensures.steps.0
