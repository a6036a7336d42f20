-- A reference record: its zero bytes, and one law for each way out of the code that reads it. Assumes nothing.
use Rattle.std.specs.Prelude.{◌≡◌, refl, Bool, true, false, ◌&&◌, List, ℕ, ◌+◌, ◌*◌, ◌^◌, eqb, length, Ok, Err}
use Rattle.std.proofs.Common.{sym, arith, eq-eqb}
use borrow.Author.Tests.{ne_eqb, eqb-true, eqb-false}
use Rattle.model.specs.declared.Reference.{Reference}
use Rattle.model.specs.declared.Refusal.TheVariants.{ReferenceIllFormed}
use Rattle.model.specs.Numbers.{le_at}
use Rattle.model.specs.Records.{record_length}
use Rattle.model.specs.Co2Windows.{reference_of, reference_in_range, reference_well_formed}
use Rattle.laws.specs.Tests.{both}
use Rattle.field.specs.Le.{le_join}
use Rattle.co2_curve.specs.Read.{reference_read}

-- six bytes are zero where four of them and the other two are
both_zero : (a b : ℕ) → (eqb a 0 && eqb b 0) ≡ eqb (a + 256 ^ 4 * b) 0
both_zero a b = by (eqb a 0) (eqb b 0) refl refl
  where
    by : (x y : Bool) → eqb a 0 ≡ x → eqb b 0 ≡ y → (x && y) ≡ eqb (a + 256 ^ 4 * b) 0
    by true true e f = sym (eq-eqb (a + 256 ^ 4 * b) 0 (omega (arith, eqb-true a 0 e, eqb-true b 0 f)))
    by true false e f = sym (ne_eqb (a + 256 ^ 4 * b) 0 (λ g. omega (arith, eqb-false b 0 f)))
    by false y e f = sym (ne_eqb (a + 256 ^ 4 * b) 0 (λ g. omega (arith, eqb-false a 0 e)))

module _ (r : List ℕ) where
  pub zeros_lem : (a b : ℕ) → length r ≡ record_length → a ≡ le_at 4 r 10 → b ≡ le_at 2 r 14 → (eqb a 0 && eqb b 0) ≡ eqb (le_at 6 r 10) 0
  zeros_lem a b l e f = rw (e, f, le_join 4 2 r 10 (omega arith)) (both_zero (le_at 4 r 10) (le_at 2 r 14))

  pub read_length : (length r ≡ record_length → ⊥) → Err ReferenceIllFormed ≡ reference_read r
  unfolding reference_well_formed
  read_length l = rw (ne_eqb (length r) record_length l)

  module _ (l : length r ≡ record_length) where
    module _ (q : Reference) (is : q ≡ reference_of r) where
      pub read_not : (reference_in_range q && eqb (le_at 6 r 10) 0) ≡ false → Err ReferenceIllFormed ≡ reference_read r
      unfolding reference_well_formed
      read_not e = rw (eq-eqb (length r) record_length l, ← is, e)

      pub read_well : (reference_in_range q && eqb (le_at 6 r 10) 0) ≡ true → (Ok q ≡ reference_read r) × (reference_in_range q ≡ true)
      unfolding reference_well_formed
      read_well e = (rw (eq-eqb (length r) record_length l, ← is, e), (both (reference_in_range q) _ e).0)

pub ruleset ways_out = (read_length, read_not, read_well)
