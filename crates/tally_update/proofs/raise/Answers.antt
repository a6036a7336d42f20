-- `tally_update::raise` meets its contract: after i turns the first i numbers are raised. Assumes nothing.
use Rattle.std.proofs.Common.{◌≡◌, ◌<◌, ◌^◌, ℕ, length, arith}
use lib.Seq.{take-length}
use Rattle.laws.specs.Lists.{all_at}
use Rattle.tally_update.specs.Raised.{raised, raised_length}
use Rattle.tally_update.proofs.raise.Goals as goal

pub overflow_add-low : goal.overflow_add-low
overflow_add-low c =
    let n = all_at (λ (n : ℕ). n < 2 ^ 62) 0 c.args.ns.now c.loop-i.i c.loop-i-test.true c.requires.1 in
    record { fits = omega arith }

pub returns : goal.returns
returns c =
    let r = raised_length c.args.b.now c.args.at c.args.ns.now in
    let e : c.loop-i.i ≡ length (raised c.args.b.now c.args.at c.args.ns.now) = omega arith in
    rw (e, take-length) at c.loop-i.invariant
