-- `rolling::restock` meets its contract. Assumes nothing.
use borrow.Author.Rules.{rules}
use mir.Syntax.{w32, w64}
use mir.Val.{SFits}
use mir.ValLaws.{to_z-of_z}
use Rattle.laws.specs.Signed.{cast_is}
use Rattle.rolling.specs.Change.{one_leaves, one_enters, one_replaced}
use Rattle.rolling.proofs.restock.Goals as goal

pub returns-in-Some-Some : goal.returns-in-Some-Some
returns-in-Some-Some c =
    let x = c.in-Some-Some in
    let o : SFits w64 x.old = search rules in
    one_replaced _ _ _ _ _ _ x.is-0 x.is-1 (rw (to_z-of_z w64 x.old o, cast_is w64 w32 x.new (search rules) (search rules)) at c.replace.ensures)

pub returns-in-Some-None : goal.returns-in-Some-None
returns-in-Some-None c =
    let x = c.in-Some-None in
    let o : SFits w64 x.old = search rules in
    one_leaves _ _ _ _ _ x.is-0 x.is-1 (rw (to_z-of_z w64 x.old o) at c.remove.ensures)

pub returns-in-None-Some : goal.returns-in-None-Some
returns-in-None-Some c =
    let x = c.in-None-Some in
    one_enters _ _ _ _ _ x.is-0 x.is-1 (rw (cast_is w64 w32 x.new (search rules) (search rules)) at c.insert.ensures)
