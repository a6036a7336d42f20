-- `rolling::rollable` meets its contract. Assumes nothing.
use native.Mathlib.Omega.{arith}
use mir.Syntax.{w64}
use mir.ValLaws.{to_z-of_z}
use Rattle.model.specs.Numbers.{withinℤ}
use Rattle.rolling.specs.Change.{rolling_beyond, rolling_tested}
use Rattle.rolling.proofs.rollable.Goals as goal

pub returns-then-m-gt-MOST_COUNT : goal.returns-then-m-gt-MOST_COUNT
returns-then-m-gt-MOST_COUNT c =
    rolling_beyond _ _ _ (omega arith)

pub returns : goal.returns
unfolding withinℤ
returns c =
    let new = c.unwrap_or-new in
    rw (
      c.bit-enters.ensures.0,
      c.bit-leaves.ensures.0,
      c.is_some.ensures,
      c.is_some-2.ensures,
      to_z-of_z w64 c.args.sum c.ranges.sum,
      to_z-of_z w64 new.result (record { sfits = new.type_inv }),
      new.ensures,
    )
    (rolling_tested _ _ _ (omega arith))
