-- `area::set_number` meets its contract. Assumes nothing.
use native.Mathlib.Omega.{arith}
use Rattle.area.proofs.Effects.{head_number, numbered}
use Rattle.area.proofs.set_number.Goals as goal

pub returns : goal.returns
returns c =
    let h = head_number c.args.which in
    let put = rw h.0 at c.put.ensures in
    numbered _ _ _ c.args.n c.told-area h.1 (omega arith) put
