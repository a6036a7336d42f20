-- Numbers of eight bytes written: a turn of a loop, and numbers behind others. Assumes nothing.
use Rattle.std.specs.Prelude.{◌≡◌, List, ◌++◌, ℕ, ◌+◌, ◌*◌, ◌<◌, length, get_or, take}
use Rattle.std.proofs.Common.{sym, ap, ◌∙◌, add-one, arith, take-suc, length-take-le}
use Rattle.model.specs.Numbers.{le_bytes}
use Rattle.model.specs.Tallies.{words}
use Rattle.field.specs.Part.{put, put_append}
use Rattle.field.specs.Le.{put_le}
use Rattle.tally_bytes.specs.Bytes.{words_length, words_append, words_more}

-- the numbers ms are written behind the numbers ns
pub words_behind : (xs ns : List ℕ) (a b : ℕ) (ms : List ℕ) → b ≡ a + 8 * length ns → put (put xs a (words ns)) b (words ms) ≡ put xs a (words (ns ++ ms))
words_behind xs ns a b ms e =
    let l = words_length ns in
    let place : b ≡ a + length (words ns) = omega arith in
    ap (λ (k : ℕ). put (put xs a (words ns)) k (words ms)) place
    ∙ put_append xs a (words ns) (words ms)
    ∙ ap (put xs a) (sym (words_append ns ms))

pub words_step : (xs ys : List ℕ) (a : ℕ) (ns : List ℕ) (i : ℕ) → i < length ns → ys ≡ put xs a (words (take i ns))
    → put_le 8 ys (a + 8 * i) (get_or ns i 0) ≡ put xs a (words (take (i + 1) ns))
unfolding put_le
words_step xs ys a ns i h e =
    let l : length (words (take i ns)) ≡ 8 * i = words_length (take i ns) ∙ ap (λ (k : ℕ). 8 * k) (length-take-le i ns (omega arith)) in
    rw (add-one i, take-suc ns i 0 h, words_more (take i ns) (get_or ns i 0), e)
    (ap (λ (k : ℕ). put (put xs a (words (take i ns))) (a + k) (le_bytes 8 (get_or ns i 0))) (sym l)
    ∙ put_append xs a (words (take i ns)) (le_bytes 8 (get_or ns i 0)))
