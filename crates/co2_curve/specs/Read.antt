-- What a reference record of any length comes to: the reference, or the refusal (document 02, R-5). Assumes nothing.
use Rattle.std.specs.Prelude.{cond, List, ℕ, Result, Ok, Err}
use Rattle.model.specs.declared.Reference.{Reference}
use Rattle.model.specs.declared.Refusal.{Refusal}
use Rattle.model.specs.declared.Refusal.TheVariants.{ReferenceIllFormed}
use Rattle.model.specs.Co2Windows.{reference_of, reference_well_formed}

abbrev pub reference_read : List ℕ → Result Reference Refusal
reference_read r = cond (reference_well_formed r) (Ok (reference_of r)) (Err ReferenceIllFormed)
