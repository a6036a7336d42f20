-- What reading an input into a buffer may answer. Assumes nothing.
use Rattle.std.specs.Prelude.{◌≡◌, ℕ, ◌≤◌, Result, Ok, IfOk}

-- the bytes read are no fewer than those before, and lie within the buffer
abbrev pub Further : {E : Type 0} → ℕ → ℕ → Result ℕ E → Type 0
Further before most r = IfOk r (λ n. (before ≤ n) × (n ≤ most))

pub further_bytes : {E : Type 0} {before most n : ℕ} {r : Result ℕ E} → Further before most r → r ≡ Ok n → (before ≤ n) × (n ≤ most)
further_bytes {before = before} {most = most} f e = rw e at f
