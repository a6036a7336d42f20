-- `cells::move_hole` meets its contract: the hole goes up to max p q, and then down. Assumes nothing.
use mathlib.Core.Path.{◌≡◌, ◌∙◌}
use Prim.Native.Nat.{◌+◌, ◌-◌, max}
use native.Mathlib.Omega.{arith}
use mir.Syntax.{w32}
use mir.ValLaws.{to_z-of_z}
use Rattle.cells.proofs.Hole.{moved_on}
use Rattle.cells.proofs.move_hole.Goals as goal

pub loop-to-preserved : goal.loop-to-preserved
loop-to-preserved c =
    let l = c.loop-to in
    let z = c.at-z in (
      omega arith,
      moved_on _ l.store _ c.args.p l.to (l.to + 1) _ (omega arith) (omega arith) (omega arith) l.auto.store
          (to_z-of_z w32 z.result (record { sfits = z.type_inv }) ∙ z.ensures) c.put.ensures l.invariant.1,
    )

pub loop-from-preserved : goal.loop-from-preserved
loop-from-preserved c =
    let l = c.loop-from in
    let z = c.at-z-in-loop-from in
    let i : max l.from c.args.q ≡ l.from - 1 + 1 = omega arith in
    let j : max (l.from - 1) c.args.q ≡ l.from - 1 = omega arith in
    rw j
    (moved_on _ l.store _ c.args.p (l.from - 1 + 1) (l.from - 1) _ (omega arith) (omega arith) (omega arith) (l.auto.store ∙ c.loop-to.auto.store)
    (to_z-of_z w32 z.result (record { sfits = z.type_inv }) ∙ z.ensures) c.put-in-loop-from.ensures (rw i at l.invariant))
