-- `verdict::verdict` meets its contract: a sound tally is bounded. Assumes nothing.
use Rattle.model.specs.Numbers.{le_val}
use Rattle.field.specs.Cells.{cells_length}
use Rattle.power.specs.Speeds.{speeds_of}
use Rattle.rule.specs.Bounds.{tally_bounded}
use Rattle.verdict.specs.Judged.{verdict_is}
use Rattle.verdict.proofs.verdict.Goals as goal

pub invariant_of-trip : goal.invariant_of-trip
invariant_of-trip c = record { bounded = tally_bounded c.args.t.tally c.args.t.sound }

pub returns : goal.returns
returns c ss a b d =
    let x = c.args in
    let part = x.speeds.now in
    verdict_is ss x.t.tally x.n (speeds_of part x.n) x.e a b (cells_length 2 le_val part x.n) d
    (record { broken = c.broken-b.result; exceeded = c.exceeded-over.result; finding = c.finding.result })
    c.broken-b.ensures
    c.exceeded-over.ensures
    c.finding.ensures
