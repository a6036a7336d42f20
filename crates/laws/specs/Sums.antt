-- The sum of a list of integers.
--     sum_append, sum_snoc          two lists together, one more value
--     sum_tail                      one value less
--     sum_within                    a bound on the sum from a bound on each value
-- Assumes nothing.
use Rattle.std.specs.Prelude.{◌≡◌, List, [], ◌∷◌, ◌++◌, ℕ, ◌*◌, ◌≤◌, ℤ, pos, nat_abs, ◌+ℤ◌, ◌-ℤ◌, length}
use Rattle.std.proofs.Common.{sym, ap, ◌∙◌, suc-mul, arith}
use Rattle.std.proofs.Math.IntN.{+ℤ_assoc, +ℤ_comm, +ℤ_idl, +ℤ-neg_ℤ_cancel}
use Rattle.model.specs.Numbers.{sumℤ}
use Rattle.laws.specs.Lists.{All}
use Rattle.laws.specs.Signed.{abs_add}

pub sum_within : (bound : ℕ) (zs : List ℤ) → All (λ z. nat_abs z ≤ bound) zs → nat_abs (sumℤ zs) ≤ length zs * bound
unfolding sumℤ All
sum_within bound [] h = omega arith
sum_within bound (z ∷ zs) h = rw suc-mul (omega (arith, abs_add z (sumℤ zs), sum_within bound zs h.1, h.0))

pub sum_append : (xs ys : List ℤ) → sumℤ (xs ++ ys) ≡ sumℤ xs +ℤ sumℤ ys
unfolding sumℤ
sum_append [] ys = sym (+ℤ_idl (sumℤ ys))
sum_append (x ∷ xs) ys = rw (sum_append xs ys) (sym (+ℤ_assoc x (sumℤ xs) (sumℤ ys)))

pub sum_snoc : (zs : List ℤ) (z : ℤ) → sumℤ (zs ++ (z ∷ [])) ≡ sumℤ zs +ℤ z
unfolding sumℤ
sum_snoc zs z = sum_append zs (z ∷ []) ∙ ap (λ (x : ℤ). sumℤ zs +ℤ x) (+ℤ_comm z (pos 0) ∙ +ℤ_idl z)

pub sum_tail : (z : ℤ) (zs : List ℤ) → sumℤ zs ≡ sumℤ (z ∷ zs) -ℤ z
unfolding sumℤ
sum_tail z zs = sym (ap (λ (x : ℤ). x -ℤ z) (+ℤ_comm z (sumℤ zs)) ∙ +ℤ-neg_ℤ_cancel (sumℤ zs) z)
