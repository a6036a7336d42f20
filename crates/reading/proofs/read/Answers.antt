-- `reading::read` meets its contract. Assumes nothing.
use borrow.Author.Rules.{rules}
use mir.Syntax.{w64}
use mir.ValLaws.{to_z-of_z}
use Rattle.reading.specs.Read.{reads_count, reads_sum, reads_other}
use Rattle.reading.proofs.read.Goals as goal

pub returns-in-Ok-Count : goal.returns-in-Ok-Count
returns-in-Ok-Count c =
    rw (to_z-of_z w64 _ (record { sfits = c.from.type_inv }), c.from.ensures, c.count.ensures) (reads_count _ _ (search rules))

pub returns-in-Ok-Sum : goal.returns-in-Ok-Sum
returns-in-Ok-Sum c =
    rw (to_z-of_z w64 _ (record { sfits = c.sum.type_inv }), c.sum.ensures) (reads_sum _ _ (search rules))

pub returns-in-Err : goal.returns-in-Err
returns-in-Err c =
    reads_other _ _ _ _ c.code.ensures (λ h. search rules) (λ h. search rules) (λ h. search rules) (λ h. search rules) (λ h. search rules) (λ h. search rules)
