-- A hole at the end of a store. Assumes nothing.
use Rattle.std.specs.Prelude.{◌≡◌, refl, List, [], ◌∷◌, ◌++◌, ℕ, suc, ℤ, length}
use Rattle.std.proofs.Common.{ap}
use Rattle.laws.specs.Lists.{without}
use Rattle.cells.specs.Store.{value_at, values_of, values_length, values_more}

without_last : (xs : List ℤ) (y : ℤ) → without (length xs) (xs ++ (y ∷ [])) ≡ xs
unfolding without
without_last [] y = refl
without_last (x ∷ xs) y = ap (λ (l : List ℤ). x ∷ l) (without_last xs y)

-- a hole at the end
pub hole_last : (s : List ℕ) (m : ℕ) → without m (values_of s (suc m)) ≡ values_of s m
hole_last s m = rw (values_more s m) (rw values_length at (without_last (values_of s m) (value_at s m)))
