-- `area::number` meets its contract. Assumes nothing.
use mathlib.Core.Path.{ap, ◌∙◌}
use Prim.Native.Nat.{ℕ, ◌*◌}
use Rattle.model.specs.Numbers.{le_at}
use Rattle.area.specs.Layout.{number_len}
use Rattle.area.proofs.Effects.{head_number, number_is}
use Rattle.area.proofs.number.Goals as goal

pub returns : goal.returns
returns c =
    let h = head_number c.args.which in
    c.get.ensures ∙ ap (λ (k : ℕ). le_at number_len c.args.area.now (number_len * k)) h.0 ∙ number_is _ _ h.1
