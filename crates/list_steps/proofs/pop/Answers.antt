-- `list_steps::pop` meets its contract. The invariant is `Popping`: what is popped of the list as it is, is what is popped of the list as it was. Assumes nothing.
use mathlib.Core.Path.{◌∙◌, sym}
use native.Mathlib.Omega.{arith}
use borrow.Author.Rules.{rules}
use mir.Syntax.{w64}
use mir.ValLaws.{to_z-of_z}
use Rattle.list_steps.specs.Steps.{pop_start, pop_empty, pop_stops, pop_more}
use Rattle.list_steps.proofs.pop.Goals as goal

pub loop-last-init : goal.loop-last-init
loop-last-init c =
    pop_start _ _ _ _ _ (search rules) c.number-last.ensures

pub returns-then-not-displaced : goal.returns-then-not-displaced
returns-then-not-displaced c =
    let stays = sym c.displaced.ensures ∙ c.if-not-displaced.true in
    rw (to_z-of_z w64 c.args.new c.ranges.new) at (pop_stops _ _ _ _ _ _ c.loop-last.invariant _ (omega arith) c.entry-second.ensures stays)

pub loop-last-preserved : goal.loop-last-preserved
loop-last-preserved c =
    let goes = sym c.displaced.ensures ∙ c.if-not-displaced.false in
    pop_more _ _ _ _ _ _ c.loop-last.invariant _ (omega arith) c.entry-second.ensures _ goes c.remove.ensures

pub returns : goal.returns
returns c =
    rw (to_z-of_z w64 c.args.new c.ranges.new) at (pop_empty _ _ _ _ _ _ c.loop-last.invariant (omega arith))
