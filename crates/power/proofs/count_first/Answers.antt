-- `power::count_first` meets its contract. Assumes nothing.
use Rattle.acceleration.specs.Sample.{no_counts, tenths_of}
use Rattle.power.specs.Speeds.{speeds_of, before_first}
use Rattle.power.specs.Counts.{counted_none, counted_next}
use Rattle.power.proofs.count_first.Goals as goal

pub returns : goal.returns
returns c =
    let x = c.args in
    let vs = speeds_of x.speeds.bytes.now x.speeds.n in
    rw (c.count_sample.ensures, c.rise_of-rise.ensures, c.no_counts.ensures)
    (counted_next x.b vs 0 no_counts c.at-v.result c.at.result (tenths_of 0)
    c.at-v.ensures.1
    c.at.ensures.1
    c.at-v.ensures.0
    c.at.ensures.0
    (before_first vs)
    (counted_none x.b vs))
