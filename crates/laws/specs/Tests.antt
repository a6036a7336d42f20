-- Tests: conjunctions, put together and taken apart, and a test denied twice. Assumes nothing.
use Rattle.std.specs.Prelude.{◌≡◌, refl, Bool, true, false, not, ◌&&◌, List, [], ◌∷◌, ℕ}
use Rattle.std.proofs.Common.{arith}
use Rattle.model.specs.Numbers.{all}

-- each test of a list holds
unfoldable pub Each : List Bool → Type 0
Each [] = Unit {0}
Each (b ∷ bs) = (b ≡ true) × Each bs

-- both of two tests hold
pub both : (a b : Bool) → a && b ≡ true → (a ≡ true) × (b ≡ true)
both true b e = (refl, e)
both false b e = absurd (let z : ◌≡◌ {A = ℕ} 0 1 = cc in omega arith)

pub and_both : {a b : Bool} → a ≡ true → b ≡ true → (a && b) ≡ true
and_both e f = rw (e, f) refl

-- denied twice
pub not_not : (b : Bool) → b ≡ not (not b)
not_not true = refl
not_not false = refl

-- a conjunction of a list of tests, taken apart
pub all_each : (bs : List Bool) → all bs ≡ true → Each bs
unfolding all Each
all_each [] e = tt
all_each (b ∷ bs) e = ((both b (all bs) e).0, all_each bs (both b (all bs) e).1)
