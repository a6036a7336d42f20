-- `acceleration::bounds_of` meets its contract. Assumes nothing.
use Rattle.std.proofs.Common.{of_calls}
use Rattle.acceleration.proofs.bounds_of.Goals as goal

pub returns : goal.returns
returns c k = search (of_calls, c.of.ensures k)
