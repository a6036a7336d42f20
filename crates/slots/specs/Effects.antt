-- What a write in the windows' part changes, and what it leaves.
--     Around                 of a slot, what is outside a range is as before
--     Beside                 only slot k and the move count may differ
--     Written                bytes written in slot k
--     Stored                 a record stored in the ring
--     Totalled, Declared     slot k's count and sum written; slot k started
-- Assumes nothing.
use Rattle.std.specs.Prelude.{◌≡◌, refl, List, ℕ, ◌+◌, ◌*◌, ◌%◌, ◌^◌, ◌≤◌, ◌<◌, ℤ, pos, length}
use Rattle.std.proofs.Common.{sym, ◌∙◌, add-zero, arith, SFits}
use Rattle.std.proofs.Math.Path.{ap}
use Rattle.std.specs.Int.{w64}
use Rattle.model.specs.Numbers.{le_val, le_at, le_bytes, unsigned}
use Rattle.model.specs.Records.{record_length, max_windows}
use Rattle.field.specs.Part.{part, put, Apart, put_length, part_same, part_other, part_in}
use Rattle.field.specs.Le.{put_le, bytes_length_lem, le_under, le_put, part_le}
use Rattle.field.specs.Twos.{signed_same}
use Rattle.slots.specs.Layout.{part_len, ring_seconds, expressions_len, expressions_of, front_len, front_of, record_place, record_of, record_front, moves_place}
use Rattle.slots.specs.Layout.{moves_of, slots_place, slot_len, slot_of, slot_length, count_place, sum_place, totals_len, first_place}
use Rattle.slots.specs.Layout.{count_in, sum_in, record_in}

-- what lies outside the n bytes from a is as before
abbrev pub Around : ℕ → ℕ → List ℕ → List ℕ → Type 0
Around a n s t = (b m : ℕ) → Apart a n b m → part t b m ≡ part s b m

module _ (a n : ℕ) (s t : List ℕ) (r : Around a n s t) where
  pub le_around : (m b : ℕ) → Apart a n b m → le_at m t b ≡ le_at m s b
  unfolding le_at part
  le_around m b h = ap le_val (r b m h)

  pub record_around : record_length ≤ a → record_in t ≡ record_in s
  record_around h = r 0 record_length (λ x y. omega arith)

  -- a wider range
  pub around_in : (b m : ℕ) → b ≤ a → a + n ≤ b + m → Around b m s t
  around_in b m h l i j z = r i j (λ x y. z (omega arith) (omega arith))

  pub around_then : (u : List ℕ) → Around a n t u → Around a n s u
  around_then u q i j z = q i j z ∙ r i j z

-- two numbers written within the range
pub around_two : (a n m b v o c w : ℕ) (s : List ℕ) → a ≤ b → b + m ≤ a + n → a ≤ c → c + o ≤ a + n → Around a n s (put_le o (put_le m s b v) c w)
around_two a n m b v o c w s h₁ l₁ h₂ l₂ =
    around_then a n s (put_le m s b v) (one m b v s h₁ l₁) (put_le o (put_le m s b v) c w) (one o c w (put_le m s b v) h₂ l₂)
  where
    one : (m b v : ℕ) (s : List ℕ) → a ≤ b → b + m ≤ a + n → Around a n s (put_le m s b v)
    one m b v s h l i j z = part_le m s b v i j (λ x y. z (omega arith) (omega arith))

-- q is p but for slot k and the move count
pub record Beside (k : ℕ) (p q : List ℕ) : Type 0 where
  pub size : length q ≡ length p
  pub front : front_of q ≡ front_of p
  pub other : (j : ℕ) → (j ≡ k → ⊥) → slot_of q j ≡ slot_of p j

pub beside_same : (k : ℕ) (p : List ℕ) → Beside k p p
beside_same k p = record { size = refl; front = refl; other = λ j z. refl }

pub beside_then : (k : ℕ) (p q r : List ℕ) → Beside k p q → Beside k q r → Beside k p r
beside_then k p q r b c = record { size = c.size ∙ b.size; front = c.front ∙ b.front; other = λ j z. c.other j z ∙ b.other j z }

-- the same front has the same records
pub record_same : (p q : List ℕ) (s : ℕ) → front_of q ≡ front_of p → record_of q s ≡ record_of p s
record_same p q s e = sym (record_front q s) ∙ ap (λ (r : List ℕ). part r (record_place s) record_length) e ∙ record_front p s

-- the bytes ys are now at o within slot k
pub record Written (k o : ℕ) (ys p q : List ℕ) : Type 0 where
  pub here : slot_of q k ≡ put (slot_of p k) o ys
  pub beside : Beside k p q
  pub moves : moves_of q ≡ moves_of p

pub written : (k o : ℕ) (ys p q : List ℕ) → o + length ys ≤ slot_len → q ≡ put p (slots_place + slot_len * k + o) ys → Written k o ys p q
written k o ys p q h e = record {
  here = rw e (part_in p (slots_place + slot_len * k) slot_len o ys h);
  beside = record {
    size = rw e (put_length p (slots_place + slot_len * k + o) ys);
    front = rw e (part_other p (slots_place + slot_len * k + o) ys 0 front_len (λ x y. omega arith));
    other = λ j z. rw e (part_other p (slots_place + slot_len * k + o) ys (slots_place + slot_len * j) slot_len (λ x y. z (omega arith)));
  };
  moves = rw e (le_put p (slots_place + slot_len * k + o) ys 8 moves_place (λ x y. omega arith));
}

pub written_around : (k o : ℕ) (ys p q : List ℕ) → Written k o ys p q → Around o (length ys) (slot_of p k) (slot_of q k)
written_around k o ys p q w b m h = rw w.here (part_other (slot_of p k) o ys b m h)

-- a number of n bytes
pub written_le : (n k o v : ℕ) (p q : List ℕ) → o + n ≤ slot_len → q ≡ put_le n p (slots_place + slot_len * k + o) v → Written k o (le_bytes n v) p q
unfolding put_le
written_le n k o v p q h e = written k o (le_bytes n v) p q (rw bytes_length_lem h) e

-- the place of second s in the ring now holds r, and nothing else is written
pub record Stored (s : ℕ) (r p q : List ℕ) : Type 0 where
  pub here : record_of q s ≡ r
  pub other : (t : ℕ) → (t % ring_seconds ≡ s % ring_seconds → ⊥) → record_of q t ≡ record_of p t
  pub expressions : expressions_of q ≡ expressions_of p
  pub slots : (j : ℕ) → slot_of q j ≡ slot_of p j
  pub moves : moves_of q ≡ moves_of p
  pub size : length q ≡ length p

pub stored : (s : ℕ) (r p q : List ℕ) → length p ≡ part_len → length r ≡ record_length → q ≡ put p (record_place s) r → Stored s r p q
stored s r p q size len e = record {
  here = rw e (rw len at (part_same p (record_place s) r (omega arith)));
  other = λ t z. rw e (part_other p (record_place s) r (record_place t) record_length (λ x y. z (omega arith)));
  expressions = rw e (part_other p (record_place s) r 0 expressions_len (λ x y. omega arith));
  slots = λ j. rw e (part_other p (record_place s) r (slots_place + slot_len * j) slot_len (λ x y. omega arith));
  moves = rw e (le_put p (record_place s) r 8 moves_place (λ x y. omega arith));
  size = rw e (put_length p (record_place s) r);
}

-- slot k's count and sum are now these, and nothing else is written
pub record Totalled (k n : ℕ) (z : ℤ) (p q : List ℕ) : Type 0 where
  pub count : count_in (slot_of q k) ≡ n
  pub sum : sum_in (slot_of q k) ≡ z
  pub around : Around count_place totals_len (slot_of p k) (slot_of q k)
  pub beside : Beside k p q
  pub moves : moves_of q ≡ moves_of p

pub totalled : (k n : ℕ) (z : ℤ) (p p₁ q : List ℕ) → length p ≡ part_len → k < max_windows → n < 2 ^ 32 → SFits w64 z
    → Written k count_place (le_bytes 4 n) p p₁ → Written k sum_place (le_bytes 8 (unsigned 8 z)) p₁ q → Totalled k n z p q
unfolding put_le
totalled k n z p p₁ q size slot below fits a b = record {
  count = rw (b.here, a.here) (le_under 4 (slot_of p k) count_place n 8 sum_place (unsigned 8 z) (omega (arith, here)) (omega arith) (λ x y. omega arith));
  sum = rw b.here (signed_same 8 (omega arith) z fits.sfits (slot_of p₁ k) sum_place (omega (arith, slot_length p₁ k (a.beside.size ∙ size) slot)));
  around =
      rw (b.here, a.here)
      (around_two count_place totals_len 4 count_place n 8 sum_place (unsigned 8 z) (slot_of p k) (omega arith) (omega arith) (omega arith) (omega arith));
  beside = beside_then k p p₁ q a.beside b.beside;
  moves = b.moves ∙ a.moves;
}
  where
    here : length (slot_of p k) ≡ slot_len
    here = slot_length p k size slot

-- slot k starts with window record r: nothing counted; its list and its store are as before
pub record Declared (k : ℕ) (r p q : List ℕ) : Type 0 where
  pub «record» : record_in (slot_of q k) ≡ r
  pub count : count_in (slot_of q k) ≡ 0
  pub sum : sum_in (slot_of q k) ≡ pos 0
  pub around : Around 0 first_place (slot_of p k) (slot_of q k)
  pub beside : Beside k p q
  pub moves : moves_of q ≡ moves_of p

pub declared : (k : ℕ) (r p p₁ q : List ℕ) → length p ≡ part_len → k < max_windows → length r ≡ record_length
    → p₁ ≡ put p (slots_place + slot_len * k) r → Totalled k 0 (pos 0) p₁ q → Declared k r p q
declared k r p p₁ q size slot len e t = record {
  «record» = t.around 0 record_length (λ x y. omega arith) ∙ rw a.here (rw len at (part_same (slot_of p k) 0 r (omega (arith, slot_length p k size slot))));
  count = t.count;
  sum = t.sum;
  around =
      around_then 0 first_place (slot_of p k) (slot_of p₁ k)
      (around_in 0 (length r) _ _ (written_around k 0 r p p₁ a) 0 first_place (omega arith) (omega arith))
      (slot_of q k) (around_in count_place totals_len _ _ t.around 0 first_place (omega arith) (omega arith));
  beside = beside_then k p p₁ q a.beside t.beside;
  moves = t.moves ∙ a.moves;
}
  where
    a : Written k 0 r p p₁
    a = written k 0 r p p₁ (omega arith) (rw add-zero e)
