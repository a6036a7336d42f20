-- `lists::append` meets its contract. Assumes nothing.
use native.Mathlib.Omega.{arith}
use borrow.Author.Rules.{rules}
use Rattle.lists.specs.Lists.{appended}
use Rattle.lists.proofs.append.Goals as goal

pub returns : goal.returns
returns c =
    let f = c.first in
    let n = c.number-n in
    appended _ _ _ _ _ _ _ c.requires.0 _ (search rules) (omega arith) (omega (arith, c.wrap.ensures, f.ensures, n.ensures)) (omega (arith, n.ensures))
    c.put.ensures c.put-2.ensures c.count_move.ensures
