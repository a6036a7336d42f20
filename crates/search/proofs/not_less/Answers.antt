-- `search::not_less` meets its contract. Assumes nothing.
use mathlib.Core.Path.{◌≡◌, ap, ◌∙◌}
use lib.IntN.{ℤ}
use lib.Signed.{le_z}
use mir.Syntax.{w32}
use mir.ValLaws.{to_z-of_z}
use Rattle.model.specs.Numbers.{bit}
use Rattle.search.specs.Place.{Sought, sought_by, sought}
use Rattle.search.proofs.Probe.{sum_fits, sum_above, sum_below, probed, bit_most}
use Rattle.search.proofs.not_less.Goals as goal
use Rattle.search.proofs.not_less.Goals.{After-from}

-- what is in the cell, which the sum has as an i64
widened : (c : After-from) → c.from.result ≡ c.at.result
widened c = c.from.ensures ∙ to_z-of_z w32 c.at.result (record { sfits = c.at.type_inv })

-- and what is looked for
near : (c : After-from) → Sought c.from.result × Sought (sought_by c.args.c)
near c = (rw (widened c) (sought c.at.result c.at.type_inv), c.requires.1)

pub overflow_add-result : goal.overflow_add-result
overflow_add-result c =
    let n = near (goal.at.overflow_add-result c).After-from in search sum_fits

pub overflow_cast-result : goal.overflow_cast-result
overflow_cast-result c =
    let n = near (goal.at.overflow_cast-result c).After-from in (search sum_above, search sum_below)

pub returns : goal.returns
returns c =
    let a = (goal.at.returns c).After-from in
    let z = sought_by c.args.c in
    let e = probed c.from.result c.args.c (near a).0 (near a).1 in
    (e ∙ ap (λ (x : ℤ). bit (le_z z x)) (widened a ∙ c.at.ensures), rw e (bit_most (le_z z c.from.result)))
