-- What a function code was read as tells of it. Assumes nothing.
use Rattle.std.specs.Prelude.{◌≡◌, refl, Bool, true, false, cond, ℕ, leb, get_or, Ok, Err}
use Rattle.model.specs.declared.Function.{Function}
use Rattle.model.specs.declared.Function.TheVariants.{Count}
use Rattle.model.specs.declared.Refusal.{Refusal}
use Rattle.model.specs.declared.Refusal.TheVariants.{WindowLayout}
use Rattle.model.specs.Records.{functions, function_read}

module _ (code : ℕ) where
  pub function_refused : (r : Refusal) → Err r ≡ function_read code → (r ≡ WindowLayout) × (leb code 5 ≡ false)
  function_refused r e = by (leb code 5) refl e
    where
      by : (b : Bool) → leb code 5 ≡ b → Err r ≡ cond b (Ok (get_or functions code Count)) (Err WindowLayout) → (r ≡ WindowLayout) × (leb code 5 ≡ false)
      by true t e = cc
      by false t e = (cc, t)

  pub function_found : (f : Function) → Ok f ≡ function_read code → (f ≡ get_or functions code Count) × (leb code 5 ≡ true)
  function_found f e = by (leb code 5) refl e
    where
      by : (b : Bool) → leb code 5 ≡ b → Ok f ≡ cond b (Ok (get_or functions code Count)) (Err WindowLayout) → (f ≡ get_or functions code Count) × (leb code 5 ≡ true)
      by true t e = (cc, t)
      by false t e = cc
