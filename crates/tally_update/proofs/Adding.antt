-- The tally whose bytes are p, with the sample s added to it in place. Assumes nothing.
use mathlib.Core.List.{List, [], ◌∷◌, ◌++◌}
use mathlib.Core.Path.{◌≡◌, refl, sym, ap, ◌∙◌}
use Prim.Native.Nat.{ℕ, zero, suc, ◌+◌, ◌*◌, ◌^◌, ◌≤◌, ◌<◌}
use native.Mathlib.Nat.{pow-suc, suc-add, zero-add, add-zero, mul_assoc}
use native.Mathlib.Omega.{arith}
use lib.IntN.{ℤ, nat_abs, ◌+ℤ◌}
use lib.ListN.{length}
use Rattle.std.specs.Int.{w64, int_wrap}
use Rattle.std.proofs.lemmas.Int.{int_wrap_fits}
use Rattle.model.specs.declared.Sample.{Sample}
use Rattle.model.specs.declared.Tally.{Tally}
use Rattle.model.specs.Numbers.{le_at, le_bytes, signed, unsigned}
use Rattle.model.specs.Tallies.{tally_length, words, word, numbers, tally_of, tally_bytes, tally_from, samples_of, join, join_class}
use Rattle.laws.specs.Signed.{small, abs_add}
use Rattle.field.specs.Le.{put_le, le_zero, le_suc, le_put}
use Rattle.field.specs.Part.{put, put_whole}
use Rattle.class_tally.specs.Add.{added_class}
use Rattle.tally.specs.Add.{Small, added}
use Rattle.tally.specs.Sound.{Sound, sound_small}
use Rattle.tally_bytes.specs.Bytes.{words_length}
use Rattle.tally_bytes.specs.Words.{words_behind}
use Rattle.tally_update.specs.Raised.{counts_place, nox_place, extended_place, raised, raised_sum, class_numbers, Added}

-- the low m bytes of a number, and the n bytes above them
le_split : (m n : ℕ) (xs : List ℕ) (a : ℕ) → a + m ≤ length xs → le_at (m + n) xs a ≡ le_at m xs a + 256 ^ m * le_at n xs (a + m)
le_split zero n xs a h = rw (zero-add, add-zero, le_zero xs a) (omega arith)
le_split (suc m) n xs a h =
    let few = le_suc m xs a (omega arith) in
    let all = le_suc (m + n) xs a (omega arith) in
    let rest = le_split m n xs (suc a) (omega arith) in
    let place : a + suc m ≡ suc a + m = omega arith in
    rw (suc-add, pow-suc, mul_assoc, place) (omega (arith, few, all, rest))

-- a number below 2^32 is that of its low four bytes
low_count : (p : List ℕ) (k : ℕ) → 8 * k + 8 ≤ length p → word p k < 2 ^ 32 → le_at 4 p (8 * k) ≡ word p k
low_count p k h l = omega (arith, le_split 4 4 p (8 * k) (omega arith))

-- a sum that leaves room for the number added is raised without a wrap
sum_whole : (p : List ℕ) (k : ℕ) (z : ℤ) → nat_abs (signed 8 (word p k)) < 2 ^ 62 → nat_abs z < 2 ^ 62 → raised_sum p (8 * k) z ≡ signed 8 (word p k) +ℤ z
unfolding raised_sum
sum_whole p k z h l =
    let u = signed 8 (word p k) in
    int_wrap_fits w64 (u +ℤ z) (small w64 (u +ℤ z) (omega (arith, abs_add u z)))

-- the sum at place a is as it was once the numbers before it are written
sum_behind : (xs : List ℕ) (ys : List ℕ) (a : ℕ) (z : ℤ) → length ys ≤ a → raised_sum (put xs 0 ys) a z ≡ raised_sum xs a z
unfolding raised_sum
sum_behind xs ys a z h = ap (λ (n : ℕ). int_wrap w64 (signed 8 n +ℤ z)) (le_put xs 0 ys 8 a (λ x y. omega arith))

-- the numbers ns are written, and the sum behind them is raised by z
sum_more : (xs ns : List ℕ) (a : ℕ) (z : ℤ) → a ≡ 8 * length ns
    → put_le 8 (put xs 0 (words ns)) a (unsigned 8 (raised_sum (put xs 0 (words ns)) a z))
    ≡ put xs 0 (words (ns ++ (unsigned 8 (raised_sum xs a z) ∷ [])))
unfolding put_le words le_bytes
sum_more xs ns a z e =
    let l = words_length ns in
    ap (λ (s : ℤ). put (put xs 0 (words ns)) a (le_bytes 8 (unsigned 8 s))) (sum_behind xs (words ns) a z (omega arith))
    ∙ words_behind xs ns 0 a (unsigned 8 (raised_sum xs a z) ∷ []) (omega arith)

-- numbers behind those that are written are as they were
raised_behind : (xs ys : List ℕ) (a : ℕ) (ns : List ℕ) → length ys ≤ a → raised (put xs 0 ys) a ns ≡ raised xs a ns
unfolding raised
raised_behind xs ys a [] h = refl
raised_behind xs ys a (n ∷ ns) h =
    rw (le_put xs 0 ys 4 a (λ x y. omega arith), raised_behind xs ys (a + 8) ns (omega arith))

-- the numbers ns are written, and those behind them are raised by ms
counts_more : (xs ns : List ℕ) (a : ℕ) (ms : List ℕ) → a ≡ 8 * length ns
    → put (put xs 0 (words ns)) a (words (raised (put xs 0 (words ns)) a ms)) ≡ put xs 0 (words (ns ++ raised xs a ms))
counts_more xs ns a ms e =
    let l = words_length ns in
    ap (λ (r : List ℕ). put (put xs 0 (words ns)) a (words r)) (raised_behind xs (words ns) a ms (omega arith))
    ∙ words_behind xs ns 0 a (raised xs a ms) (omega arith)

module _ (p : List ℕ) (s : Sample) (u : Tally) (l : length p ≡ tally_length) (one : u ≡ tally_of (s ∷ [])) (small-u : Small u) where
  -- the counts of u, and the tally's numbers once these are raised, then with U, then with extended U
  abbrev counts : List ℕ
  counts = u.stops ∷ u.over100 ∷ u.over145 ∷ u.over160 ∷ u.temperature ∷ u.altitude ∷ []

  abbrev counted : List ℕ
  counted = class_numbers p s ++ raised p counts_place counts

  abbrev summed : List ℕ
  summed = counted ++ (unsigned 8 (raised_sum p nox_place u.nox) ∷ [])

  abbrev all : List ℕ
  all = summed ++ (unsigned 8 (raised_sum p extended_place u.extended) ∷ [])

  -- where the tally of p is sound, its numbers are read whole
  module _ (f : Sound (tally_from p)) where
    sum_nox : raised_sum p nox_place u.nox ≡ (tally_from p).nox +ℤ u.nox
    unfolding tally_from
    sum_nox = sum_whole p 12 u.nox (sound_small (tally_from p) f).nox small-u.nox

    sum_extended : raised_sum p extended_place u.extended ≡ (tally_from p).extended +ℤ u.extended
    unfolding tally_from
    sum_extended = sum_whole p 13 u.extended (sound_small (tally_from p) f).extended small-u.extended

    all_is : all ≡ numbers (added (tally_from p) s)
    unfolding raised class_numbers numbers tally_from tally_of samples_of added added_class join join_class
    all_is =
        let n = f.samples in
        rw (
          sum_nox,
          sum_extended,
          one,
          low_count p 0 (omega arith) (omega arith),
          low_count p 1 (omega arith) (omega arith),
          low_count p 2 (omega arith) (omega arith),
          low_count p 3 (omega arith) (omega (arith, f.urban)),
          low_count p 4 (omega arith) (omega (arith, f.rural)),
          low_count p 5 (omega arith) (omega (arith, f.motorway)),
          low_count p 6 (omega arith) (omega (arith, f.stops)),
          low_count p 7 (omega arith) (omega (arith, f.over100)),
          low_count p 8 (omega arith) (omega (arith, f.over145)),
          low_count p 9 (omega arith) (omega (arith, f.over160)),
          low_count p 10 (omega arith) (omega (arith, f.temperature)),
          low_count p 11 (omega arith) (omega (arith, f.altitude)),
        )

  -- what the four writes come to
  pub done : (b₁ b₂ b₃ b₄ : List ℕ) → b₁ ≡ put p 0 (words (class_numbers p s)) → b₂ ≡ put b₁ counts_place (words (raised b₁ counts_place counts))
      → b₃ ≡ put_le 8 b₂ nox_place (unsigned 8 (raised_sum b₂ nox_place u.nox))
      → b₄ ≡ put_le 8 b₃ extended_place (unsigned 8 (raised_sum b₃ extended_place u.extended)) → Added s p b₄
  unfolding raised class_numbers tally_bytes
  done b₁ b₂ b₃ b₄ e f g h k =
      let second : b₂ ≡ put p 0 (words counted) = f ∙ rw e (counts_more p (class_numbers p s) counts_place counts refl) in
      let third : b₃ ≡ put p 0 (words summed) = g ∙ rw second (sum_more p counted nox_place u.nox refl) in
      h
      ∙ rw third (sum_more p summed extended_place u.extended refl)
      ∙ put_whole p (words all) (words_length all ∙ sym l)
      ∙ ap words (all_is k)
