-- `slots::qualifies` meets its contract. Assumes nothing.
use Rattle.slots.proofs.Answers.{qualified}
use Rattle.slots.proofs.qualifies.Goals as goal

pub returns : goal.returns
returns c =
    let v = c.channel_at-v in
    let place = rw c.record_place.ensures at v.ensures.0 in
    rw (c.from-low.ensures, c.from-high.ensures)
    (qualified _ _ _ _ _ _ _ c.get.ensures place c.get-2.ensures c.get-3.ensures
    (record { sfits = v.type_inv }) (record { sfits = c.get-2.type_inv }) (record { sfits = c.get-3.type_inv }))
