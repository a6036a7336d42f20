-- `taking::take` meets its contract. Assumes nothing.
use mir.Syntax.{w64}
use mir.ValLaws.{to_z-of_z}
use native.Mathlib.Omega.{arith}
use Rattle.taking.specs.Damaged.{many_windows}
use Rattle.taking.proofs.Accepted.{take_done, take_damaged}
use Rattle.taking.proofs.take.Goals as goal

pub returns-then-k-gt-MAX_WINDOWS : goal.returns-then-k-gt-MAX_WINDOWS
returns-then-k-gt-MAX_WINDOWS c =
    take_damaged (many_windows _ (omega (arith, c.number-k.ensures)))

pub returns : goal.returns
returns c =
    rw (to_z-of_z w64 c.moves.result (record { sfits = c.moves.type_inv }))
    (take_done c.number-k.ensures c.requires.sample c.store.ensures c.moves.ensures)
