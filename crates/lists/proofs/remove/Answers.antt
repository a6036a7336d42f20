-- `lists::remove` meets its contract. Assumes nothing.
use mathlib.Core.Path.{◌∙◌, ap}
use native.Mathlib.Omega.{arith}
use borrow.Author.Rules.{rules}
use Rattle.lists.specs.Lists.{next_first, removed}
use Rattle.lists.proofs.remove.Goals as goal

pub returns : goal.returns
returns c =
    let n = c.number-n in
    let place = c.next_first-f.ensures ∙ ap (next_first c.args.end) c.first.ensures in
    removed _ _ _ _ _ _ _ c.requires.ready _ (search rules) (search rules) place (omega (arith, n.ensures))
    c.put.ensures c.put-2.ensures c.count_move.ensures
