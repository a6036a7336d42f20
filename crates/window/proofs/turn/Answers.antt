-- `window::turn` meets its contract. Assumes nothing.
use mathlib.Core.Path.{◌∙◌}
use mir.Syntax.{w64}
use mir.ValLaws.{to_z-of_z}
use Rattle.window.specs.Slot.{turned_unfit, turned_unrollable, turned}
use Rattle.window.proofs.turn.Goals as goal

pub returns-then-not-fit : goal.returns-then-not-fit
returns-then-not-fit c =
    turned_unfit _ _ _ _ c.fit.ensures c.if-not-fit.true

pub returns-then-not-rollable : goal.returns-then-not-rollable
returns-then-not-rollable c =
    let sum = c.sum-sum in
    turned_unrollable _ _ _ _ c.read_change-c.ensures _ _ c.count-m.ensures
    (to_z-of_z w64 _ (record { sfits = sum.type_inv }) ∙ sum.ensures) _ c.rollable.ensures c.if-not-rollable.true

pub keep-requires : goal.keep-requires
keep-requires c = (
  c.fit.ensures.sound c.if-not-fit.false,
  c.count-m.ensures,
  (c.rollable.ensures.sound c.if-not-rollable.false).room,
  c.read_change-c.ensures.small,
)

pub roll-requires : goal.roll-requires
roll-requires c =
    record {
      size = c.keep.array_long;
      slot = c.args.k.within;
      rollable = c.rollable.ensures.sound c.if-not-rollable.false;
      small = c.read_change-c.ensures.small;
    }

pub returns : goal.returns
returns c =
    turned _ _ _ _ c.read_change-c.ensures _ _ c.count-m.ensures
    (to_z-of_z w64 _ (record { sfits = c.sum-sum.type_inv }) ∙ c.sum-sum.ensures) _ _ c.keep.ensures c.roll.ensures
