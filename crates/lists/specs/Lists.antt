-- The lists of held entries: a slot's list is a circular store of up to 600 seconds. What one append and one removal make of a slot's bytes.
--     list_in, list_of        the list of a slot's bytes, of slot k
--     Ready, Removable, Moved     before and after one move
--     Fit, Fitness          before any number of moves; what the test of any bytes tells
--     list_around           a write elsewhere in the slot leaves the list
--     list_none             a number of 0 is the empty list
-- Assumes nothing.
use Rattle.std.specs.Prelude.{◌≡◌, refl, List, [], ◌∷◌, ◌++◌, Bool, true, ℕ, ◌+◌, ◌-◌, ◌*◌, ◌%◌, ◌^◌, ◌≤◌, ◌<◌, length, get_or, take, drop}
use Rattle.std.proofs.Common.{sym, ap, ◌∙◌, arith, length-append, length-take, length-drop, take_at}
use Rattle.model.specs.Numbers.{le_at, le_bytes}
use Rattle.model.specs.Records.{max_windows}
use Rattle.field.specs.Part.{Apart}
use Rattle.field.specs.Le.{put_le, le_same, le_under, le_other, put_le_length}
use Rattle.slots.specs.Layout.{part_len, slot_len, slot_of, slot_length, first_place, number_place, store_place, list_len, list_capacity}
use Rattle.slots.specs.Layout.{first_in, number_in, first_of, number_of, moves_of}
use Rattle.slots.specs.Effects.{Around, around_two, Beside, beside_then, Written, le_around}
use Rattle.lists.specs.declared.End.{End}
use Rattle.lists.specs.declared.End.TheVariants.{Front, Back}
use Rattle.lists.specs.Effects.{Recounted, recounted_beside}
use Rattle.lists.specs.Circular.{circ, circ_length, circ_same, circ_push, circ_back, circ_front, circ_at}

-- the second at place i of a slot's store
abbrev pub cell_in : List ℕ → ℕ → ℕ
cell_in s i = le_at 2 s (store_place + 2 * i)

unfoldable pub list_in : List ℕ → List ℕ
list_in s = circ (cell_in s) (first_in s) (number_in s)

abbrev pub list_of : List ℕ → ℕ → List ℕ
list_of p k = list_in (slot_of p k)

pub number_length : (s : List ℕ) → length (list_in s) ≡ number_in s
unfolding list_in
number_length s = circ_length (cell_in s) (first_in s) (number_in s)

pub list_none : (s : List ℕ) → number_in s ≡ 0 → list_in s ≡ []
unfolding list_in circ
list_none s e = rw e refl

pub entry_get : (s : List ℕ) (f j r : ℕ) → f ≡ first_in s → j < number_in s → r ≡ cell_in s ((f + j) % list_capacity) → r ≡ get_or (list_in s) j 0
unfolding list_in
entry_get s f j r e h g = g ∙ rw e (sym (circ_at (cell_in s) (first_in s) (number_in s) j h))

-- a write outside the list's range leaves the list
pub list_around : (a n : ℕ) (s t : List ℕ) → Around a n s t → Apart a n first_place list_len → list_in t ≡ list_in s
unfolding list_in
list_around a n s t r h =
    rw (same 0 (omega arith), same 2 (omega arith))
    (circ_same (cell_in t) (cell_in s) (first_in s) (number_in s) (λ i x y. cell (i % list_capacity) (omega arith)))
  where
    same : (b : ℕ) → b + 2 ≤ list_len → le_at 2 t (first_place + b) ≡ le_at 2 s (first_place + b)
    same b l = le_around a n s t r 2 (first_place + b) (λ x y. h (omega arith) (omega arith))

    cell : (i : ℕ) → i < list_capacity → cell_in t i ≡ cell_in s i
    cell i l = le_around a n s t r 2 (store_place + 2 * i) (λ x y. h (omega arith) (omega arith))

-- what a caller shows before slot k's list is touched
pub record Ready (p : List ℕ) (k : ℕ) : Type 0 where
  pub size : length p ≡ part_len
  pub slot : k < max_windows
  pub first : first_of p k < list_capacity

-- what a caller shows before an entry of slot k's list is removed
pub record Removable (p : List ℕ) (k : ℕ) : Type 0 where
  pub ready : Ready p k
  pub some : 0 < number_of p k
  pub number : number_of p k ≤ list_capacity
  pub moves : moves_of p + 1 < 2 ^ 64

-- one move: slot k's list is now l, the move count is one more, and nothing else is written
pub record Moved (k : ℕ) (p q l : List ℕ) : Type 0 where
  pub list : list_of q k ≡ l
  pub moves : moves_of q ≡ moves_of p + 1
  pub around : Around first_place list_len (slot_of p k) (slot_of q k)
  pub beside : Beside k p q
  pub first : first_of q k < list_capacity

-- without the last, and without the first
unfoldable pub shorter : End → List ℕ → List ℕ
shorter Back l = take (length l - 1) l
shorter Front l = drop 1 l

shorter_back : (l t : List ℕ) (x : ℕ) → l ≡ t ++ (x ∷ []) → shorter Back l ≡ t
unfolding shorter
shorter_back l t x e = rw (e, length-append) (take_at t (x ∷ []) (length t + 1 - 1) (omega arith))

shorter_front : (l t : List ℕ) (x : ℕ) → l ≡ x ∷ t → shorter Front l ≡ t
unfolding shorter
shorter_front l t x e = rw e

pub shorter_length : (b : End) (l : List ℕ) → 0 < length l → length (shorter b l) + 1 ≡ length l
unfolding shorter
shorter_length Back l h = omega (arith, length-take (length l - 1) l)
shorter_length Front l h = omega (arith, length-drop 1 l)

-- the first place after one was removed
abbrev pub next_first : End → ℕ → ℕ
next_first Back f = f
next_first Front f = (f + 1) % list_capacity

-- one slot's bytes: an entry v behind the last, then the number
push_slot : (s r q : List ℕ) (v : ℕ) → length s ≡ slot_len → first_in s < list_capacity → number_in s < list_capacity → v < 65536
    → r ≡ put_le 2 s (store_place + 2 * ((first_in s + number_in s) % list_capacity)) v → q ≡ put_le 2 r number_place (number_in s + 1)
    → (list_in q ≡ list_in s ++ (v ∷ [])) × (first_in q ≡ first_in s) × (Around first_place list_len s q)
unfolding list_in
push_slot s r q v h a b d er eq =
    (rw (first, number) (circ_push (cell_in s) (cell_in q) (first_in s) (number_in s) v b same other), first, around)
  where
    c : ℕ
    c = store_place + 2 * ((first_in s + number_in s) % list_capacity)

    first : first_in q ≡ first_in s
    first = rw (eq, er) (le_other 2 _ number_place _ 2 first_place (λ x y. omega arith) ∙ le_other 2 s c v 2 first_place (λ x y. omega arith))

    number : number_in q ≡ number_in s + 1
    number = rw eq (le_same 2 r number_place _ (omega (arith, ap length er ∙ put_le_length 2 s c v)) (omega arith))

    same : cell_in q ((first_in s + number_in s) % list_capacity) ≡ v
    same = rw (eq, er) (le_under 2 s c v 2 number_place _ (omega arith) (omega arith) (λ x y. omega arith))

    other : (i : ℕ) → (i ≡ (first_in s + number_in s) % list_capacity → ⊥) → cell_in q i ≡ cell_in s i
    other i z =
        let b : ℕ = store_place + 2 * i in
        rw (eq, er) (le_other 2 _ number_place _ 2 b (λ x y. omega arith) ∙ le_other 2 s c v 2 b (λ x y. z (omega arith)))

    around : Around first_place list_len s q
    around = rw (eq, er) (around_two first_place list_len 2 c v 2 number_place _ s (omega arith) (omega arith) (omega arith) (omega arith))

-- one slot's bytes: the first place, then the number
pop_slot : (s r q : List ℕ) (b : End) → length s ≡ slot_len → first_in s < list_capacity → number_in s ≤ list_capacity → 0 < number_in s
    → r ≡ put_le 2 s first_place (next_first b (first_in s)) → q ≡ put_le 2 r number_place (number_in s - 1)
    → (list_in q ≡ shorter b (list_in s)) × (first_in q < list_capacity) × (Around first_place list_len s q)
unfolding list_in
pop_slot s r q b h a d z er eq = (rw (first, number, cells) (by b), rw first (below b), around)
  where
    below : (b : End) → next_first b (first_in s) < list_capacity
    below Back = a
    below Front = omega arith

    first : first_in q ≡ next_first b (first_in s)
    first = rw (eq, er) (le_under 2 s first_place _ 2 number_place _ (omega arith) (omega (arith, below b)) (λ x y. omega arith))

    number : number_in q ≡ number_in s - 1
    number = rw eq (le_same 2 r number_place _ (omega (arith, ap length er ∙ put_le_length 2 s first_place _)) (omega arith))

    cells : circ (cell_in q) (next_first b (first_in s)) (number_in s - 1) ≡ circ (cell_in s) (next_first b (first_in s)) (number_in s - 1)
    cells = circ_same _ _ _ _ (λ i x y. cell (store_place + 2 * (i % list_capacity)) (omega arith))
      where
        cell : (b : ℕ) → store_place ≤ b → le_at 2 q b ≡ le_at 2 s b
        cell b l = rw (eq, er) (le_other 2 _ number_place _ 2 b (λ x y. omega arith) ∙ le_other 2 s first_place _ 2 b (λ x y. omega arith))

    by : (b : End) → circ (cell_in s) (next_first b (first_in s)) (number_in s - 1) ≡ shorter b (circ (cell_in s) (first_in s) (number_in s))
    by Back = sym (shorter_back _ _ _ (circ_back (cell_in s) (first_in s) (number_in s) z))
    by Front = sym (shorter_front _ _ _ (circ_front (cell_in s) (first_in s) (number_in s) z))

    around : Around first_place list_len s q
    around = rw (eq, er) (around_two first_place list_len 2 first_place _ 2 number_place _ s (omega arith) (omega arith) (omega arith) (omega arith))

-- two writes in slot k, then a move counted
module _ (p p₁ p₂ q : List ℕ) (k o n : ℕ) (r : Ready p k) where
  moved : (b c : ℕ) (xs ys l : List ℕ) → Written k b xs p p₁ → Written k c ys p₁ p₂ → Recounted (moves_of p₂ + 1) p₂ q
      → list_of p₂ k ≡ l → first_of p₂ k < list_capacity → Around first_place list_len (slot_of p k) (slot_of p₂ k) → Moved k p q l
  moved b c xs ys l w₁ w₂ t list first around = record {
    list = ap list_in (t.slots k) ∙ list;
    moves = t.moves ∙ ap (λ (x : ℕ). x + 1) (w₂.moves ∙ w₁.moves);
    around = λ i m z. rw (t.slots k) (around i m z);
    beside = beside_then k p p₂ q (beside_then k p p₁ p₂ w₁.beside w₂.beside) (recounted_beside k _ p₂ q t);
    first = rw (t.slots k) first;
  }

  pub appended : (v : ℕ) → number_of p k < list_capacity → v < 65536 → o ≡ store_place + 2 * ((first_of p k + number_of p k) % list_capacity) → n ≡ number_of p k + 1
      → Written k o (le_bytes 2 v) p p₁ → Written k number_place (le_bytes 2 n) p₁ p₂ → Recounted (moves_of p₂ + 1) p₂ q → Moved k p q (list_of p k ++ (v ∷ []))
  unfolding put_le
  appended v b d eo en w₁ w₂ t =
      let l = slot_length p k r.size r.slot in
      let s = push_slot (slot_of p k) (slot_of p₁ k) (slot_of p₂ k) v l r.first b d (rw eo at w₁.here) (rw en at w₂.here) in
      moved _ _ _ _ _ w₁ w₂ t s.0 (rw s.1 r.first) s.2

  pub removed : (b : End) → number_of p k ≤ list_capacity → 0 < number_of p k → o ≡ next_first b (first_of p k) → n ≡ number_of p k - 1
      → Written k first_place (le_bytes 2 o) p p₁ → Written k number_place (le_bytes 2 n) p₁ p₂ → Recounted (moves_of p₂ + 1) p₂ q
      → Moved k p q (shorter b (list_of p k))
  unfolding put_le
  removed b d z eo en w₁ w₂ t =
      let l = slot_length p k r.size r.slot in
      let s = pop_slot (slot_of p k) (slot_of p₁ k) (slot_of p₂ k) b l r.first d z (rw eo at w₁.here) (rw en at w₂.here) in
      moved _ _ _ _ _ w₁ w₂ t s.0 s.1 s.2

-- what a caller shows before any number of removals and one append
pub record Fit (p : List ℕ) (k : ℕ) : Type 0 where
  pub ready : Ready p k
  pub number : number_of p k ≤ list_capacity
  pub room : moves_of p + number_of p k + 2 < 2 ^ 64

-- what a test of any bytes tells: it passes a list that may be used as long as the moves are far from their end
pub record Fitness (p : List ℕ) (k : ℕ) (r : Bool) : Type 0 where
  pub sound : r ≡ true → Fit p k
  pub far : r ≡ true → moves_of p ≤ 2 ^ 62
  pub complete : Fit p k → moves_of p ≤ 2 ^ 62 → r ≡ true
