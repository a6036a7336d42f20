-- A turn of the loop that raises numbers. Assumes nothing.
use mathlib.Core.Path.{◌≡◌, ap, ◌∙◌}
use mathlib.Core.List.{List}
use Prim.Native.Nat.{ℕ, ◌+◌, ◌*◌, ◌<◌}
use native.Mathlib.Omega.{arith}
use lib.ListN.{length, get_or, take}
use lib.Seq.{length-take-le}
use Rattle.model.specs.Numbers.{le_at}
use Rattle.model.specs.Tallies.{words}
use Rattle.field.specs.Le.{put_le, le_put}
use Rattle.field.specs.Part.{put}
use Rattle.tally_bytes.specs.Bytes.{words_length}
use Rattle.tally_bytes.specs.Words.{words_step}
use Rattle.tally_update.specs.Raised.{raised, raised_length, raised_at}

-- the i-th number is as it was before the first turn, and is raised
pub raise_step : (xs ys : List ℕ) (a : ℕ) (ns : List ℕ) (i : ℕ) {n : ℕ} → i < length ns → n ≡ le_at 4 ys (a + 8 * i)
    → ys ≡ put xs a (words (take i (raised xs a ns)))
    → put_le 8 ys (a + 8 * i) (n + get_or ns i 0) ≡ put xs a (words (take (i + 1) (raised xs a ns)))
raise_step xs ys a ns i {n} h f e =
    let r = raised_length xs a ns in
    let l : length (words (take i (raised xs a ns))) ≡ 8 * i =
    words_length (take i (raised xs a ns)) ∙ ap (λ (k : ℕ). 8 * k) (length-take-le i (raised xs a ns) (omega arith)) in
    let same : le_at 4 ys (a + 8 * i) ≡ le_at 4 xs (a + 8 * i) =
    ap (λ (zs : List ℕ). le_at 4 zs (a + 8 * i)) e ∙ le_put xs a (words (take i (raised xs a ns))) 4 (a + 8 * i) (λ x y. omega arith) in
    let value : n + get_or ns i 0 ≡ get_or (raised xs a ns) i 0 = omega (arith, f, same, raised_at xs a ns i h) in
    ap (put_le 8 ys (a + 8 * i)) value ∙ words_step xs ys a (raised xs a ns) i (omega arith) e
