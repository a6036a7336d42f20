-- `window::keep_list` meets its contract. Assumes nothing.
use mathlib.Core.Bool.{false≢true}
use mathlib.Core.Path.{sym, ◌∙◌}
use borrow.Author.Tests.{lt-ltb, ltb-true}
use Rattle.window.specs.Slot.{kept_full, kept_list}
use Rattle.window.proofs.keep_list.Goals as goal

pub returns-then-not-has_room : goal.returns-then-not-has_room
returns-then-not-has_room c =
    kept_full _ _ _ _ c.args.extreme c.requires.1 _ c.width-w.ensures
    (λ h. false≢true (sym c.if-not-has_room.true ∙ c.has_room.ensures ∙ lt-ltb _ _ h))

pub step_list-requires : goal.step_list-requires
step_list-requires c =
    (c.requires.0, ltb-true _ _ (sym c.has_room.ensures ∙ c.if-not-has_room.false))

pub returns : goal.returns
returns c =
    kept_list _ _ _ _ c.args.extreme c.requires.1 _ _ c.width-w.ensures
    c.step_list.ensures
