-- `ordered::replace` meets its contract: the hole at the place of the old value goes to that of the new one. Assumes nothing.
use Prim.Native.Nat.{◌+◌, ◌*◌, ◌<◌}
use Rattle.std.proofs.Common.{length-take-le}
use native.Mathlib.Omega.{arith}
use mathlib.Core.Path.{◌≡◌, ap}
use mir.Syntax.{w32, w64}
use mir.ValLaws.{to_z-of_z}
use borrow.Author.Tests.{lt-ltb, le-ltb}
use lib.Dec.{ltb}
use Rattle.model.specs.Numbers.{bit}
use Rattle.search.specs.Place.{Placed, placed_front}
use Rattle.laws.specs.Signed.{widened_is}
use Rattle.ordered.proofs.Change.{present, replaced}
use Rattle.ordered.proofs.replace.Goals as goal
use Rattle.ordered.proofs.replace.Goals.{After-place-q, Joined-p-q, then-p-q, else-p-q}

from : (c : After-place-q) → Placed c.args.old c.args.store.now c.args.m c.place-p.result
from c = placed_front _ _ _ _ c.requires.0 (rw (to_z-of_z w64 c.args.old c.ranges.old) at c.place-p.ensures)

to : (c : After-place-q) → Placed c.args.new c.args.store.now c.args.m c.place-q.result
to c = placed_front _ _ _ _ c.requires.0 (rw (c.from.ensures, widened_is c.args.new c.ranges.new) at c.place-q.ensures)

-- new's place once the old value has gone
there : (c : Joined-p-q) → (c.place-q.result ≡ c.if-p-q.to + bit (ltb c.place-p.result c.place-q.result)) × (c.if-p-q.to < c.args.m)
there c =
    elim c.if-p-q.branch [
      | then-p-q w ↦ (omega (arith, ap bit (lt-ltb _ _ w.if-p-q.true), w.to-is), omega (arith, w.to-is, c.place-q.ensures.within, length-take-le (4 * c.args.m) c.args.store.now c.requires.0))
      | else-p-q w ↦ (omega (arith, ap bit (le-ltb _ _ w.if-p-q.false), w.to-is), omega (arith, w.to-is))
    ]

pub returns-after-p-q : goal.returns-after-p-q
returns-after-p-q c =
    let place = there (goal.at.returns-after-p-q c).Joined-p-q in
    replaced _ _ _ _ (from (goal.at.returns-after-p-q c).After-place-q) _ c.move_hole.auto.store c.requires.0 _ _ _ _ (to (goal.at.returns-after-p-q c).After-place-q)
    place.0 place.1 c.move_hole.ensures (rw (to_z-of_z w32 c.args.new c.ranges.new) at c.put.ensures)

pub returns-else-p-m : goal.returns-else-p-m
returns-else-p-m c =
    λ w i. absurd (omega (arith, present _ _ _ _ (from (goal.at.returns-else-p-m c).After-place-q) w i))
