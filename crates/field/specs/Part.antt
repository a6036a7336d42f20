-- A part of a list, `part xs a n`: the n elements from index a. A write of a run of elements, `put xs a ys`: xs with ys from index a on.
-- Every write of the product is a `put`: a field's bytes, a part that was lent and came back. Assumes nothing.
use Rattle.std.specs.Prelude.{◌≡◌, refl, List, [], ◌∷◌, ◌++◌, ℕ, zero, suc, ◌+◌, ◌-◌, ◌≤◌, ◌<◌, length, take, drop, set}
use Rattle.std.proofs.Common.{sym, ap, ◌∙◌, append_assoc, add-suc, suc-add, add-zero, zero-add, arith, length-take, length-drop, drop-set-lt, take-take, drop-drop, take_at, drop_at, length-take-le, take_all}
use Rattle.std.proofs.Math.Decide.{dec_le}
use Rattle.std.proofs.lemmas.List.Edits.{sets, sets-eq}
use Rattle.std.proofs.Math.Seq.{length-sets, drop-nil, take-nil, take-set-lt}
use Rattle.std.proofs.lemmas.List.{take-set-le, drop-set-add}

unfoldable pub part : List ℕ → ℕ → ℕ → List ℕ
part xs a n = take n (drop a xs)

unfoldable pub put : List ℕ → ℕ → List ℕ → List ℕ
put xs a ys = sets xs a ys

-- a put keeps the length
pub put_length : (xs : List ℕ) (a : ℕ) (ys : List ℕ) → length (put xs a ys) ≡ length xs
unfolding put
put_length xs a ys = length-sets xs a ys

-- a part within the list has its length
pub part_length : (xs : List ℕ) (a n : ℕ) → a + n ≤ length xs → length (part xs a n) ≡ n
unfolding part
part_length xs a n h = simp (length-take, length-drop) (omega arith)

-- a part that is the whole
pub part_whole : (xs : List ℕ) (n : ℕ) → length xs ≡ n → part xs 0 n ≡ xs
unfolding part
part_whole xs n e = take_all n xs (omega arith)

-- a put of nothing, and of one run after another
pub put_nil : (xs : List ℕ) (a : ℕ) → put xs a [] ≡ xs
unfolding put
put_nil xs a = refl

pub put_append : (xs : List ℕ) (a : ℕ) (ys zs : List ℕ) → put (put xs a ys) (a + length ys) zs ≡ put xs a (ys ++ zs)
unfolding put
put_append xs a [] zs = rw add-zero
put_append xs a (y ∷ ys) zs = rw (add-suc, ← suc-add) (put_append (set xs a y) (suc a) ys zs)

-- the order of take and drop
take_drop : (m b : ℕ) (l : List ℕ) → take m (drop b l) ≡ drop b (take (b + m) l)
take_drop m zero l = rw zero-add
take_drop m (suc b) [] = take-nil m ∙ sym (ap (drop (suc b)) (take-nil (suc b + m)) ∙ drop-nil (suc b))
take_drop m (suc b) (x ∷ xs) = rw suc-add (take_drop m b xs)

-- a part that ends before the put is as it was
pub part_before : (xs : List ℕ) (a : ℕ) (ys : List ℕ) (b m : ℕ) → b + m ≤ a → part (put xs a ys) b m ≡ part xs b m
unfolding part put
part_before xs a [] b m h = refl
part_before xs a (y ∷ ys) b m h =
    part_before (set xs a y) (suc a) ys b m (omega arith)
    ∙ take_drop m b (set xs a y) ∙ ap (drop b) (take-set-le (b + m) xs a y h) ∙ sym (take_drop m b xs)

-- a part that starts after the put is as it was
pub part_after : (xs : List ℕ) (a : ℕ) (ys : List ℕ) (b m : ℕ) → a + length ys ≤ b → part (put xs a ys) b m ≡ part xs b m
unfolding part put
part_after xs a [] b m h = refl
part_after xs a (y ∷ ys) b m h =
    part_after (set xs a y) (suc a) ys b m (omega arith)
    ∙ ap (take m) (drop-set-lt b xs a y (omega arith))

-- two ranges, from a with n elements and from b with m, have none in common: not both start before the other's end
abbrev pub Apart : ℕ → ℕ → ℕ → ℕ → Type 0
Apart a n b m = b < a + n → a < b + m → ⊥

-- a part apart from the put is as it was
pub part_other : (xs : List ℕ) (a : ℕ) (ys : List ℕ) (b m : ℕ) → Apart a (length ys) b m → part (put xs a ys) b m ≡ part xs b m
part_other xs a ys b m o = by (dec_le (b + m) a)
  where
    by : Dec (b + m ≤ a) → part (put xs a ys) b m ≡ part xs b m
    by (yes h) = part_before xs a ys b m h
    by (no h) = part_after xs a ys b m (after (dec_le (a + length ys) b))
      where
        after : Dec (a + length ys ≤ b) → a + length ys ≤ b
        after (yes k) = k
        after (no k) = absurd (o (omega arith) (omega arith))

-- what was put is read back
pub part_same : (xs : List ℕ) (a : ℕ) (ys : List ℕ) → a + length ys ≤ length xs → part (put xs a ys) a (length ys) ≡ ys
unfolding part put
part_same xs a ys h =
    let la : length (take a xs) ≡ a = length-take-le a xs (omega arith) in
    rw (sets-eq ys xs a h, append_assoc, drop_at (take a xs) (ys ++ drop (a + length ys) xs) a la)
    (take_at ys (drop (a + length ys) xs) (length ys) refl)

-- a put over the whole
pub put_whole : (xs ys : List ℕ) → length ys ≡ length xs → put xs 0 ys ≡ ys
put_whole xs ys e = sym (part_whole (put xs 0 ys) (length ys) (put_length xs 0 ys ∙ sym e)) ∙ part_same xs 0 ys (omega arith)

-- a put inside a part is a put of the part
pub part_in : (xs : List ℕ) (a n b : ℕ) (ys : List ℕ) → b + length ys ≤ n → part (put xs (a + b) ys) a n ≡ put (part xs a n) b ys
unfolding part put
part_in xs a n b [] h = refl
part_in xs a n b (y ∷ ys) h =
    rw (← add-suc)
    (part_in (set xs (a + b) y) a n (suc b) ys (omega arith)
    ∙ ap (λ (l : List ℕ). sets l (suc b) ys) (ap (take n) (drop-set-add a xs b y) ∙ take-set-lt n (drop a xs) b y (omega arith)))

-- a part of a part is a part
pub part_part : (xs : List ℕ) (a n b m : ℕ) → b + m ≤ n → part (part xs a n) b m ≡ part xs (a + b) m
unfolding part
part_part xs a n b m h =
    take_drop m b (take n (drop a xs)) ∙ ap (drop b) (take-take (b + m) n (drop a xs) h)
    ∙ sym (take_drop m b (drop a xs)) ∙ ap (take m) (drop-drop b a xs)

-- the whole, where a part of k elements from a was lent and came back as ys
pub lent : (xs : List ℕ) (a k : ℕ) (ys : List ℕ) → a + k ≤ length xs → length ys ≡ k → take a xs ++ (ys ++ drop k (drop a xs)) ≡ put xs a ys
unfolding put
lent xs a k ys h e = rw (drop-drop, ← e, sets-eq ys xs a (omega arith), append_assoc)

-- a part that was lent and came back as ys, of which the callee's contract says what it says: the whole is a put, and ys is as long as it was
pub put_lent : (xs : List ℕ) (a n e : ℕ) (ys : List ℕ) → e ≡ a + n → e ≤ length xs → length ys ≡ length (take (e - a) (drop a xs))
    → (take a xs ++ (ys ++ drop (e - a) (drop a xs)) ≡ put xs a ys) × (length ys ≡ n)
put_lent xs a n e ys p h l =
    let k : e - a ≡ n = omega arith in
    let m : length ys ≡ n = rw k at l ∙ taken xs a n (omega arith) in
    (rw k (lent xs a n ys (omega arith) m), m)
  where
    taken : (xs : List ℕ) (a n : ℕ) → a + n ≤ length xs → length (take n (drop a xs)) ≡ n
    taken xs a n h = simp (length-take, length-drop) (omega arith)
