-- `window::keep_values` meets its contract. Assumes nothing.
use mathlib.Core.List.{List}
use mathlib.Core.Path.{refl}
use Prim.Native.Nat.{ℕ, ◌+◌}
use native.Mathlib.Omega.{arith}
use Rattle.field.specs.Part.{put_lent}
use Rattle.slots.specs.Layout.{store_len}
use Rattle.window.specs.Slot.{store_lent, refilled}
use Rattle.window.proofs.keep_values.Goals as goal

pub returns : goal.returns
returns c =
    let restocked = c.restock in
    let xs : List ℕ = c.args.part.now in
    let k : ℕ = c.args.k.number in
    let a : ℕ = c.store_at-at.result in
    let e = put_lent xs a store_len (a + store_len) restocked.new.store refl (omega arith) restocked.auto.store in
    refilled _ _ a _ xs _ _ restocked.new.store c.requires.size c.requires.slot (omega (arith, c.store_at-at.ensures)) c.requires.count
    (store_lent xs k a (a + store_len) (omega (arith, c.store_at-at.ensures)) refl) e.0 e.1 restocked.ensures
