-- `window::keep` meets its contract. Assumes nothing.
use mathlib.Core.Path.{◌≡◌}
use borrow.Author.Rules.{rules}
use Rattle.slots.specs.Layout.{slot_of, code_in}
use Rattle.window.specs.Slot.{kept_values, kept_plain}
use Rattle.window.proofs.keep.Goals as goal

pub returns-in-Ok-Percentile : goal.returns-in-Ok-Percentile
returns-in-Ok-Percentile c =
    let code : code_in (slot_of c.args.part.now c.args.k.number) ≡ 5 = search rules in
    kept_values _ _ _ _ _ c.told-part c.args.k.within code c.keep_values.ensures

pub returns-in-Ok-Count : goal.returns-in-Ok-Count
returns-in-Ok-Count c =
    kept_plain _ _ _ _ (λ h. search rules) (λ h. search rules) (λ h. search rules)

pub returns-in-Err : goal.returns-in-Err
returns-in-Err c =
    kept_plain _ _ _ _ (λ h. search rules) (λ h. search rules) (λ h. search rules)
