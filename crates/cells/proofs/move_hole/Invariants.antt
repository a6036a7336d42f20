-- `cells::move_hole` meets its contract: the hole goes up to max p q, and then down. Assumes nothing.
use Prim.Native.Nat.{◌≤◌, max}
use Rattle.cells.specs.Store.{Moved}
use Rattle.cells.proofs.move_hole.Given as goal

abbrev pub invariant-loop-to : goal.invariant-loop-to
invariant-loop-to l = (l.to ≤ max l.p l.q) × Moved l.p l.to l.fn.store l.store

abbrev pub invariant-loop-from : goal.invariant-loop-from
invariant-loop-from l = Moved l.p (max l.from l.q) l.fn.store l.store
