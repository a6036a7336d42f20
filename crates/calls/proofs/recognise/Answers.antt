-- `calls::recognise` meets its contract. Assumes nothing.
use mathlib.Core.Path.{sym, ◌∙◌}
use Rattle.steps.specs.Refusals.{unlent_unmarked}
use Rattle.calls.proofs.recognise.Goals as goal

pub returns-then-number-ne-FORMAT : goal.returns-then-number-ne-FORMAT
returns-then-number-ne-FORMAT c = unlent_unmarked c.told-area (λ e. c.if-number-ne-FORMAT.true (c.number.ensures ∙ e))

pub returns : goal.returns
returns c = record { size = c.told-area; format = sym c.number.ensures ∙ c.if-number-ne-FORMAT.false }
