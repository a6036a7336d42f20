-- `tally_update::add` meets its contract. Assumes nothing.
use Rattle.std.proofs.Common.{arith}
use Rattle.laws.specs.Signed.{back}
use Rattle.tally_update.proofs.Adding.{done}
use Rattle.tally_update.proofs.add.Goals as goal

pub returns : goal.returns
returns c =
    let u = c.one-u.result in
    let nox = c.one-u.ensures.1.nox in
    let extended = c.one-u.ensures.1.extended in
    done _ c.args.s u c.told-b c.one-u.ensures.0 c.one-u.ensures.1 _ _ _ _ c.add_classes.ensures c.raise.ensures
    (rw (back u.nox (omega arith)) at c.raise_sum.ensures)
    (rw (back u.extended (omega arith)) at c.raise_sum-2.ensures)
