-- `field::put_le` meets its contract. Assumes nothing.
use Rattle.std.proofs.Common.{arith, length-take}
use Rattle.field.proofs.Loops.{writing_start, writing_more, written}
use Rattle.field.proofs.put_le.Goals as goal

pub loop-b-init : goal.loop-b-init
loop-b-init c = writing_start _ _ _

pub loop-b-preserved : goal.loop-b-preserved
loop-b-preserved c =
    let inside = simp length-take at c.loop-b-test.true in
    writing_more _ _ _ _ _ _ c.loop-b.invariant (omega arith)

pub returns : goal.returns
returns c = written c.args.n _ c.args.s.now c.args.at c.args.v _ _ _ (omega arith) c.requires c.loop-b.invariant c.loop-b-test.false
