-- `tally_sound::checked` meets its contract. Assumes nothing.
use Rattle.std.proofs.Common.{sym, ◌∙◌}
use Rattle.tally.specs.Sound.{sound_facts}
use Rattle.tally_sound.proofs.checked.Goals as goal

pub invariant_of-result : goal.invariant_of-result
invariant_of-result c = record { sound = sound_facts _ (sym c.is_sound.ensures ∙ c.if-is_sound.true) }
