-- `search::narrow` meets its contract. Each turn leaves a quarter of the places. Assumes nothing.
use Prim.Native.Nat.{ℕ, ◌+◌, ◌*◌, ◌/◌, ◌≤◌}
use native.Mathlib.Nat.{mul-le-mul_left}
use native.Mathlib.Omega.{arith}
use borrow.Author.Rules.{rules}
use Rattle.search.proofs.Probe.{made_fits, made_back, made_sought}
use Rattle.search.proofs.Search.{span_all, quartered}
use Rattle.search.proofs.narrow.Goals as goal
use Rattle.search.proofs.narrow.Goals.{After-not_less-in-loop-len-2}

pub loop-len-init : goal.loop-len-init
loop-len-init c =
    span_all _ _ _

-- a probe counts at most once
most : (c : After-not_less-in-loop-len-2) (q : ℕ)
    → q * (c.not_less.result + c.not_less-in-loop-len.result + c.not_less-in-loop-len-2.result) ≤ q * 3
most c q = mul-le-mul_left q (omega (arith, c.not_less.ensures.1, c.not_less-in-loop-len.ensures.1, c.not_less-in-loop-len-2.ensures.1))

pub overflow_mul-lo-in-loop-len : goal.overflow_mul-lo-in-loop-len
overflow_mul-lo-in-loop-len c =
    omega (arith, most (goal.at.overflow_mul-lo-in-loop-len c).After-not_less-in-loop-len-2 (c.loop-len.len / 4))

pub overflow_sub-lo-in-loop-len-3 : goal.overflow_sub-lo-in-loop-len-3
overflow_sub-lo-in-loop-len-3 c =
    omega (arith, most (goal.at.overflow_sub-lo-in-loop-len-3 c).After-not_less-in-loop-len-2 (c.loop-len.len / 4))

pub loop-len-preserved : goal.loop-len-preserved
loop-len-preserved c =
    let l = c.loop-len in
    let e = c.not_less.ensures in
    let f = c.not_less-in-loop-len.ensures in
    let g = c.not_less-in-loop-len-2.ensures in
    quartered _ _ _ l.lo l.len (l.len / 4) l.invariant (omega arith) _ _ _ e.1 f.1 g.1 e.0 f.0 g.0 (omega arith)

pub returns : goal.returns
returns c =
    rw (made_back c.args.z c.requires) at c.loop-len.invariant

pub overflow_sub-c : goal.overflow_sub-c
overflow_sub-c c = search made_fits

pub not_less-requires : goal.not_less-requires
not_less-requires c = search (rules, made_sought)

pub not_less-requires-in-loop-len : goal.not_less-requires-in-loop-len
not_less-requires-in-loop-len c = search (rules, made_sought)

pub not_less-requires-in-loop-len-2 : goal.not_less-requires-in-loop-len-2
not_less-requires-in-loop-len-2 c = search (rules, made_sought)
