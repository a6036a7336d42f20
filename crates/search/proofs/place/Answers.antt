-- `search::place` meets its contract. Each turn leaves half of the places. Assumes nothing.
use Prim.Native.Nat.{◌+◌, ◌*◌, ◌/◌, ◌≤◌}
use native.Mathlib.Nat.{mul-le-mul_left}
use native.Mathlib.Omega.{arith}
use borrow.Author.Rules.{rules}
use mir.Syntax.{w64}
use mir.ValLaws.{to_z-of_z}
use Rattle.search.proofs.Probe.{made_fits, made_back, made_sought}
use Rattle.search.proofs.Search.{halved, span_one}
use Rattle.search.proofs.place.Goals as goal
use Rattle.search.proofs.place.Goals.{After-not_less}

pub loop-len-init : goal.loop-len-init
loop-len-init c =
    rw (made_back c.args.z c.requires) (rw (to_z-of_z w64 c.args.z c.ranges.z) at c.narrow-span.ensures)

-- a probe counts at most once
most : (c : After-not_less) → (c.loop-len.len + 1) / 2 * c.not_less.result ≤ (c.loop-len.len + 1) / 2 * 1
most c = mul-le-mul_left ((c.loop-len.len + 1) / 2) c.not_less.ensures.1

pub overflow_mul-lo : goal.overflow_mul-lo
overflow_mul-lo c =
    omega (arith, most (goal.at.overflow_mul-lo c).After-not_less)

pub overflow_sub-lo-in-loop-len : goal.overflow_sub-lo-in-loop-len
overflow_sub-lo-in-loop-len c =
    omega (arith, most (goal.at.overflow_sub-lo-in-loop-len c).After-not_less)

pub loop-len-preserved : goal.loop-len-preserved
loop-len-preserved c =
    let l = c.loop-len in
    halved _ _ _ l.lo l.len ((l.len + 1) / 2) l.invariant (omega arith) _ c.not_less.ensures.0 (omega arith)

pub returns : goal.returns
returns c =
    rw (made_back c.args.z c.requires) at (span_one _ _ _ _ _ c.loop-len.invariant (omega arith))

pub overflow_sub-c : goal.overflow_sub-c
overflow_sub-c c = search made_fits

pub not_less-requires : goal.not_less-requires
not_less-requires c = search (rules, made_sought)
