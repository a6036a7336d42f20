-- What the functions on the area's parts do, by the parts lying apart.
--     lent_changed     part k was lent and came back
--     last_part, lent_last   the last part; it was lent as an array and came back
--     numbered         a number of the head is new
--     number_is        a number of the head, as read
--     head_number      the numbers of the head in the code's order
-- Assumes nothing.
use Rattle.std.specs.Prelude.{List, ◌++◌, ◌≡◌, ℕ, ◌+◌, ◌-◌, ◌*◌, ◌^◌, ◌<◌, length, take, drop}
use Rattle.std.proofs.Common.{refl, arith, sym, ap, subst, ◌∙◌, length-drop, append-nil}
use Rattle.std.proofs.lemmas.List.{take_all, drop_all}
use Rattle.model.specs.Numbers.{le_val, le_at, le_bytes}
use Rattle.field.specs.Le.{put_le, bytes_length_lem, val_bytes}
use Rattle.field.specs.Part.{part, put, lent}
use Rattle.area.specs.Layout.{area_len, number_len, head_numbers, lengths, place, size, parts_of, with}
use denote.Enum.Declared.{tag_of}
use Rattle.area.specs.contracts.Head.{the_type}
use Rattle.area.specs.declared.Head.{Head}
use Rattle.area.specs.declared.Head.TheVariants.{Samples, Mark, Windows, Format}
use Rattle.area.specs.Head.{part_of}
use Rattle.area.specs.Effects.{Changed, changed, lent_part, in_front, Numbered}
use Rattle.area.proofs.Apart.{part_put, part_lent}

-- part k was lent, from its place a up to its end e, and came back as ys
module _ (xs : List ℕ) (whole : length xs ≡ area_len) (k : ℕ) (a e : ℕ) (start : a ≡ place k) (end : e ≡ place k + size k) where
  pub lent_changed : (R : List ℕ → List ℕ → Type 0) (ys : List ℕ) → length ys ≡ length (take (e - a) (drop a xs)) → R (take (e - a) (drop a xs)) ys
      → Changed k R (parts_of xs) (parts_of (take a xs ++ (ys ++ drop (e - a) (drop a xs))))
  lent_changed R ys l r = changed k R ys (parts_of xs) _ (part_lent xs whole k ys a e start end l) (subst (λ (l : List ℕ). R l ys) (lent_part xs whole k a e start end) r)

-- the last part, of n bytes
module _ (xs : List ℕ) (whole : length xs ≡ area_len) (k n : ℕ) (long : n ≡ size k) (last : place k + n ≡ area_len) where
  start : length xs - n ≡ place k
  start = omega arith

  pub last_part : drop (length xs - n) xs ≡ parts_of xs k
  unfolding parts_of part
  last_part = rw start (sym (take_all (size k) (drop (place k) xs) (omega (arith, length-drop (place k) xs))))

  -- it was lent as an array, and came back as ys
  pub lent_last : (R : List ℕ → List ℕ → Type 0) {old ys : List ℕ} → old ≡ drop (length xs - n) xs → length ys ≡ n → R old ys
      → Changed k R (parts_of xs) (parts_of (take (length xs - n) xs ++ ys))
  lent_last R {old} {ys} same l r =
      let none : ys ++ drop n (drop (place k) xs) ≡ ys = rw (drop_all n (drop (place k) xs) (omega (arith, length-drop (place k) xs))) (append-nil ys) in
      let is : take (length xs - n) xs ++ ys ≡ put xs (place k) ys =
      ap (λ (a : ℕ). take a xs ++ ys) start ∙ sym (ap (λ (t : List ℕ). take (place k) xs ++ t) none) ∙ lent xs (place k) n ys (omega arith) l in
      changed k R ys (parts_of xs) _ (ap parts_of is ∙ part_put xs whole k ys (l ∙ long)) (subst (λ (b : List ℕ). R b ys) (same ∙ last_part) r)

number_place_lem : (k : ℕ) → k < head_numbers → (place k ≡ number_len * k) × (size k ≡ number_len)
unfolding place size lengths
number_place_lem k h = in_front head_numbers (drop head_numbers lengths) k h

pub number_is : (xs : List ℕ) (k : ℕ) → k < head_numbers → le_at number_len xs (number_len * k) ≡ le_val (parts_of xs k)
unfolding parts_of part le_at
number_is xs k h = let e = number_place_lem k h in rw (e.0, e.1)

pub numbered : (xs ys : List ℕ) (k n : ℕ) → length xs ≡ area_len → k < head_numbers → n < 2 ^ 32 → ys ≡ put_le number_len xs (number_len * k) n → Numbered k n (parts_of xs) (parts_of ys)
unfolding put_le
numbered xs ys k n whole h fits e =
    let f = number_place_lem k h in
    let w : parts_of ys ≡ with k (le_bytes number_len n) (parts_of xs) =
    ap parts_of (e ∙ ap (λ (a : ℕ). put xs a (le_bytes number_len n)) (sym f.0)) ∙ part_put xs whole k (le_bytes number_len n) (bytes_length_lem number_len n ∙ sym f.1) in
    let c = changed k (λ l m. le_val m ≡ n) (le_bytes number_len n) (parts_of xs) (parts_of ys) w (val_bytes number_len n fits) in
    record { is = c.is; value = c.by }

pub head_number : (h : Head) → (tag_of the_type h ≡ part_of h) × (part_of h < head_numbers)
head_number Samples = (refl, omega arith)
head_number Mark = (refl, omega arith)
head_number Windows = (refl, omega arith)
head_number Format = (refl, omega arith)
