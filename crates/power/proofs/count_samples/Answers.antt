-- `power::count_samples` meets its contract: after i turns the counts are those of the first i seconds. Assumes nothing.
use mathlib.Core.Path.{◌≡◌, subst}
use Prim.Native.Nat.{ℕ, ◌+◌}
use native.Mathlib.Omega.{arith}
use Rattle.model.specs.Numbers.{le_val}
use Rattle.field.specs.Cells.{cells_length}
use Rattle.power.specs.Speeds.{speeds_of}
use Rattle.power.specs.Counts.{CountedTo, counted_few, counted_last}
use Rattle.power.proofs.count_samples.Goals as goal

pub returns-then-speeds-lt2 : goal.returns-then-speeds-lt2
returns-then-speeds-lt2 c =
    let x = c.args in
    let s = x.speeds in
    rw c.no_counts.ensures (counted_few x.b (speeds_of s.bytes.now s.n) s.n c.if-speeds-lt2.true (cells_length 2 le_val s.bytes.now s.n))

pub returns : goal.returns
returns c =
    let x = c.args in
    let s = x.speeds in
    let vs = speeds_of s.bytes.now s.n in
    let e : c.loop-i.i + 1 ≡ s.n = omega arith in
    subst (λ (m : ℕ). CountedTo x.b vs m c.loop-i.k) e
    (counted_last x.b vs c.loop-i.i c.loop-i.k (omega (arith, cells_length 2 le_val s.bytes.now s.n)) c.loop-i.invariant)
