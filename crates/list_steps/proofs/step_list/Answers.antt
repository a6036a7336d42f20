-- `list_steps::step_list` meets its contract. Assumes nothing.
use native.Mathlib.Omega.{arith}
use mir.Syntax.{w64}
use mir.ValLaws.{to_z-of_z}
use mir.Val.{SFits}
use borrow.Author.Rules.{rules}
use Rattle.slide.specs.Undisplaced.{pops}
use Rattle.lists.specs.Lists.{list_of}
use Rattle.list_steps.specs.Steps.{displaces_in, Became, step_skip, step_on, fit_after, append_ready}
use Rattle.list_steps.proofs.step_list.Goals as goal
use Rattle.list_steps.proofs.step_list.Goals.{After-pop}

pub pop-requires : goal.pop-requires
pop-requires c =
    fit_after _ _ _ _ c.requires.0 c.age.ensures (omega (arith, c.requires.1))

popped : (c : After-pop) → Became c.args.k.number c.age.new.part c.pop.new.part (pops (displaces_in c.args.extreme c.in-Some.z c.age.new.part c.args.k.number) (list_of c.age.new.part c.args.k.number)) 0
popped c =
    let f : SFits w64 c.in-Some.z = search rules in
    rw (to_z-of_z w64 c.in-Some.z f) at c.pop.ensures

pub append-requires : goal.append-requires
append-requires c =
    append_ready _ _ _ _ _ _ c.age.ensures _ _ (popped (goal.at.append-requires c).After-pop) c.requires.0 c.requires.1

pub returns-in-Some : goal.returns-in-Some
returns-in-Some c =
    rw c.in-Some.is
    (step_on _ _ _ _ _ _ c.age.ensures _ _ (popped (goal.at.returns-in-Some c).After-pop) _ c.append.ensures)

pub returns-in_default : goal.returns-in_default
returns-in_default c =
    rw c.in_default.is (step_skip _ _ _ _ _ _ c.age.ensures)
