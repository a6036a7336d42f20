-- What a write to the move count and the clearing of the lists change.
--     Recounted              the move count written
--     Emptied, Cleared       slot k's list emptied; the lists of the first k slots
-- Assumes nothing.
use Rattle.std.specs.Prelude.{◌≡◌, refl, List, ℕ, ◌+◌, ◌*◌, ◌^◌, ◌<◌, length}
use Rattle.std.proofs.Common.{◌∙◌, arith}
use Rattle.std.proofs.Math.Decide.{ℕ_discrete}
use Rattle.model.specs.Numbers.{le_bytes}
use Rattle.model.specs.Records.{max_windows}
use Rattle.field.specs.Le.{put_le, le_same, le_under, part_le, put_le_length}
use Rattle.slots.specs.Layout.{part_len, front_len, front_of, moves_place}
use Rattle.slots.specs.Layout.{moves_of, slots_place, slot_len, slot_of, slot_length, first_place, number_place, ends_len}
use Rattle.slots.specs.Layout.{first_in, number_in}
use Rattle.slots.specs.Effects.{Around, around_two, Beside, beside_then, Written}

-- the move count is now m, and nothing else is written
pub record Recounted (m : ℕ) (p q : List ℕ) : Type 0 where
  pub moves : moves_of q ≡ m
  pub slots : (j : ℕ) → slot_of q j ≡ slot_of p j
  pub front : front_of q ≡ front_of p
  pub size : length q ≡ length p

pub recounted : (m v : ℕ) (p q : List ℕ) → length p ≡ part_len → v < 2 ^ 64 → q ≡ put_le 8 p moves_place v → v ≡ m → Recounted m p q
recounted m v p q size below e h = record {
  moves = rw e (le_same 8 p moves_place v (omega arith) (omega arith)) ∙ h;
  slots = λ j. rw e (part_le 8 p moves_place v (slots_place + slot_len * j) slot_len (λ x y. omega arith));
  front = rw e (part_le 8 p moves_place v 0 front_len (λ x y. omega arith));
  size = rw e (put_le_length 8 p moves_place v);
}

pub recounted_beside : (k m : ℕ) (p q : List ℕ) → Recounted m p q → Beside k p q
recounted_beside k m p q c = record { size = c.size; front = c.front; other = λ j z. c.slots j }

-- slot k's list is empty, and nothing else is written
pub record Emptied (k : ℕ) (p q : List ℕ) : Type 0 where
  pub first : first_in (slot_of q k) ≡ 0
  pub number : number_in (slot_of q k) ≡ 0
  pub around : Around first_place ends_len (slot_of p k) (slot_of q k)
  pub beside : Beside k p q
  pub moves : moves_of q ≡ moves_of p

pub emptied : (k : ℕ) (p p₁ q : List ℕ) → length p ≡ part_len → k < max_windows
    → Written k first_place (le_bytes 2 0) p p₁ → Written k number_place (le_bytes 2 0) p₁ q → Emptied k p q
unfolding put_le
emptied k p p₁ q size slot f n = record {
  first =
      rw (n.here, f.here)
      (le_under 2 (slot_of p k) first_place 0 2 number_place 0 (omega (arith, slot_length p k size slot)) (omega arith) (λ x y. omega arith));
  number = rw n.here (le_same 2 (slot_of p₁ k) number_place 0 (omega (arith, slot_length p₁ k (f.beside.size ∙ size) slot)) (omega arith));
  around =
      rw (n.here, f.here)
      (around_two first_place ends_len 2 first_place 0 2 number_place 0 (slot_of p k) (omega arith) (omega arith) (omega arith) (omega arith));
  beside = beside_then k p p₁ q f.beside n.beside;
  moves = n.moves ∙ f.moves;
}

-- the lists of the first k slots are empty, and nothing else is written
pub record Cleared (k : ℕ) (p q : List ℕ) : Type 0 where
  pub empty : (j : ℕ) → j < k → (first_in (slot_of q j) ≡ 0) × (number_in (slot_of q j) ≡ 0)
  pub around : (j : ℕ) → Around first_place ends_len (slot_of p j) (slot_of q j)
  pub front : front_of q ≡ front_of p
  pub moves : moves_of q ≡ moves_of p
  pub size : length q ≡ length p

pub cleared_start : (p : List ℕ) → Cleared 0 p p
cleared_start p = record { empty = λ j h. absurd (omega arith); around = λ j b m h. refl; front = refl; moves = refl; size = refl }

pub cleared_next : (k : ℕ) (p₀ p q : List ℕ) → Cleared k p₀ p → Emptied k p q → Cleared (k + 1) p₀ q
cleared_next k p₀ p q c e = record {
  empty = λ j h. empty j h (ℕ_discrete j k);
  around = λ j. around j (ℕ_discrete j k);
  front = e.beside.front ∙ c.front;
  moves = e.moves ∙ c.moves;
  size = e.beside.size ∙ c.size;
}
  where
    empty : (j : ℕ) → j < k + 1 → Dec (j ≡ k) → (first_in (slot_of q j) ≡ 0) × (number_in (slot_of q j) ≡ 0)
    empty j h (yes f) = rw f (e.first, e.number)
    empty j h (no f) = rw (e.beside.other j f) (c.empty j (omega arith))

    around : (j : ℕ) → Dec (j ≡ k) → Around first_place ends_len (slot_of p₀ j) (slot_of q j)
    around j (yes f) = rw f (λ b m h. e.around b m h ∙ c.around k b m h)
    around j (no f) = rw (e.beside.other j f) (c.around j)
