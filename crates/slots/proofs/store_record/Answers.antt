-- `slots::store_record` meets its contract. Assumes nothing.
use Rattle.slots.specs.Effects.{stored}
use Rattle.slots.proofs.store_record.Goals as goal

pub returns : goal.returns
returns c =
    stored _ _ _ _ c.told-part c.told-bytes (rw c.record_place.ensures at c.copy_record.ensures)
