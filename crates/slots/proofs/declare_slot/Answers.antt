-- `slots::declare_slot` meets its contract. Assumes nothing.
use Rattle.slots.specs.Effects.{declared}
use Rattle.slots.proofs.declare_slot.Goals as goal

pub returns : goal.returns
returns c =
    declared _ _ _ _ _ c.told-part c.args.k.within c.told-bytes (rw c.place.ensures at c.copy_record.ensures) c.put_count_sum.ensures
