-- `list_steps::displaced` meets its contract. Assumes nothing.
use Rattle.list_steps.proofs.Answers.{displaced_smallest, displaced_largest}
use Rattle.list_steps.proofs.displaced.Goals as goal

pub returns-in-Smallest : goal.returns-in-Smallest
returns-in-Smallest c =
    let v = c.value-old in
    rw c.in-Smallest.is
    (displaced_smallest _ _ _ _ _ v.ensures.0 c.ranges.new (record { sfits = v.type_inv }))

pub returns-in-Largest : goal.returns-in-Largest
returns-in-Largest c =
    let v = c.value-old in
    rw c.in-Largest.is
    (displaced_largest _ _ _ _ _ v.ensures.0 c.ranges.new (record { sfits = v.type_inv }))
