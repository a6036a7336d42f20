-- `reading::percentile` meets its contract. Assumes nothing.
use mathlib.Core.Path.{refl}
use Prim.Native.Nat.{ℕ, ◌+◌, ◌-◌, ◌≤◌}
use Rattle.std.proofs.Common.{List, length, take, drop, length-take, length-drop}
use native.Mathlib.Omega.{arith}
use borrow.Author.Rules.{rules}
use Rattle.laws.specs.Signed.{widened_is}
use Rattle.cells.specs.Store.{values_alone}
use Rattle.slots.specs.Layout.{store_len}
use Rattle.reading.specs.Read.{reads_none, reads_beyond, reads_percentile}
use Rattle.window.specs.Slot.{store_lent}
use Rattle.reading.proofs.percentile.Goals as goal

pub returns-then-count-eq0 : goal.returns-then-count-eq0
returns-then-count-eq0 c =
    let code = c.requires in
    reads_none _ _ (omega arith) (omega arith) (omega (arith, c.count-count.ensures))

pub returns-then-count-gt-MOST_COUNT : goal.returns-then-count-gt-MOST_COUNT
returns-then-count-gt-MOST_COUNT c =
    reads_beyond _ _ _ (omega (arith, c.count-count.ensures))

pub returns : goal.returns
returns c =
    let k : ℕ = c.args.k.number in
    let a : ℕ = c.store_at-at.result in
    let m : ℕ = c.count-count.result in
    let store : List ℕ = take (a + store_len - a) (drop a c.args.part.now) in
    let size : store_len ≤ length store = simp (length-take, length-drop) (omega arith) in
    let front = values_alone store m (omega arith) in
    rw (c.from.ensures, widened_is c.percentile.result (record { sfits = c.percentile.type_inv }))
    (reads_percentile _ _ m c.count-count.ensures (search rules) _ c.requires store
    (store_lent c.args.part.now k a (a + store_len) (omega (arith, c.store_at-at.ensures)) refl) (rw (front.1, front.0) at c.percentile.ensures))
