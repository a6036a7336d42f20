-- The parts of the area lie apart from each other: one is written, the others are as they were. Assumes nothing.
use Rattle.std.specs.Prelude.{Bool, List, ◌++◌, ◌≡◌, ℕ, ◌+◌, ◌-◌, ◌<◌, length, get_or, take, drop}
use Rattle.std.proofs.Math.Bool.{true, false, cond}
use Rattle.std.proofs.Math.Path.{refl}
use Rattle.std.proofs.Common.{sym, ap, ◌∙◌, arith, eqb-true}
use Rattle.std.proofs.Math.Decide.{dec_lt}
use Rattle.std.proofs.lemmas.Bool.{eqb-false}
use Rattle.std.proofs.Math.Dec.{eqb}
use Rattle.field.specs.Part.{part, put, Apart, part_same, part_other, put_lent}
use Rattle.area.specs.Layout.{area_len, lengths, before, place, size, parts_of, with, behind, part_inside}

parts_apart : (j k : ℕ) → (j ≡ k → ⊥) → Apart (place k) (size k) (place j) (size j)
unfolding place size
parts_apart j k d = by (dec_lt j k) (dec_lt k j)
  where
    by : Dec (j < k) → Dec (k < j) → Apart (before lengths k) (get_or lengths k 0) (before lengths j) (get_or lengths j 0)
    by (yes h) g = λ x y. omega (arith, behind lengths j k h)
    by (no h) (yes g) = λ x y. omega (arith, behind lengths k j g)
    by (no h) (no g) = λ x y. d (omega arith)

module _ (xs : List ℕ) (whole : length xs ≡ area_len) (k : ℕ) (ys : List ℕ) where
  -- part k is written
  pub part_put : length ys ≡ size k → parts_of (put xs (place k) ys) ≡ with k ys (parts_of xs)
  unfolding parts_of with
  part_put l = λ i j. by j (eqb j k) refl i
    where
      by : (j : ℕ) (b : Bool) → eqb j k ≡ b → part (put xs (place k) ys) (place j) (size j) ≡ cond b ys (part xs (place j) (size j))
      by j true e =
          rw (eqb-true j k e) (rw l at (part_same xs (place k) ys (omega (arith, part_inside k))))
      by j false e =
          part_other xs (place k) ys (place j) (size j) (rw l (parts_apart j k (eqb-false j k e)))

  -- part k was lent, up to the place e, and came back as ys
  pub part_lent : (a e : ℕ) → a ≡ place k → e ≡ place k + size k → length ys ≡ length (take (e - a) (drop a xs))
      → parts_of (take a xs ++ (ys ++ drop (e - a) (drop a xs))) ≡ with k ys (parts_of xs)
  part_lent a e p q l =
      let h = put_lent xs a (size k) e ys (q ∙ ap (λ (n : ℕ). n + size k) (sym p)) (omega (arith, part_inside k)) l in
      ap parts_of (h.0 ∙ ap (λ (n : ℕ). put xs n ys) p) ∙ part_put h.1
