-- Lists by the tests of the model: `filter`, `count`, `any`, `range`, `total`.
--     In, All          one of a list, each of a list
--     one b x          x alone where b holds
--     without k        a list without what stands at k
--     Rising           numbers that rise strictly
--     midway           a sum over a list of which the first k have changed
--     count_append     counting in two lists together; count_most: at most their length
-- Assumes nothing.
use Rattle.std.specs.Prelude.{◌≡◌, ◌⊎◌, Bool, ◌||◌, get_or, take, drop}
use Rattle.std.proofs.Math.Path.{refl, ap}
use Rattle.std.proofs.Common.{◌∙◌, add-zero, zero-add, suc-add, suc-mul, add-one}
use Rattle.std.proofs.Math.Logic.{inl, inr}
use mathlib.Core.List.{List, [], ◌∷◌, ◌++◌, map}
use Rattle.std.proofs.Math.Bool.{true, false, cond}
use Prim.Native.Nat.{ℕ, zero, suc, ◌+◌, ◌*◌, ◌≤◌, ◌<◌}
use native.Mathlib.Omega.{arith}
use Rattle.std.proofs.Math.ListN.{length}
use Rattle.std.proofs.Math.Seq.{take-length, drop-length}
use Rattle.model.specs.Numbers.{bit, range, filter, count, any, total}

-- v is one of the list
unfoldable pub In : {A : Type 0} → A → List A → Type 0
In v [] = ⊥
In v (x ∷ xs) = (x ≡ v) ⊎ In v xs

-- each of the list
unfoldable pub All : {A : Type 0} → (A → Type 0) → List A → Type 0
All P [] = Unit {0}
All P (x ∷ xs) = P x × All P xs

-- the list without what stands at k
unfoldable pub without : {A : Type 0} → ℕ → List A → List A
without k [] = []
without zero (x ∷ xs) = xs
without (suc k) (x ∷ xs) = x ∷ without k xs

-- x alone where b holds
abbrev pub one : {A : Type 0} → Bool → A → List A
one b x = cond b (x ∷ []) []

module _ {A : Type 0} where
  pub all_map : {P Q : A → Type 0} → ((x : A) → P x → Q x) → (l : List A) → All P l → All Q l
  unfolding All
  all_map f [] h = tt
  all_map f (x ∷ l) h = (f x h.0, all_map f l h.1)

  pub all_at : (P : A → Type 0) (d : A) (l : List A) (k : ℕ) → k < length l → All P l → P (get_or l k d)
  unfolding All
  all_at P d [] k h w = absurd (omega arith)
  all_at P d (x ∷ l) zero h w = w.0
  all_at P d (x ∷ l) (suc k) h w = all_at P d l k (omega arith) w.1

  -- past the end nothing is left
  pub drop_past : (l : List A) (k : ℕ) → length l ≤ k → drop k l ≡ []
  drop_past [] zero h = refl
  drop_past [] (suc k) h = refl
  drop_past (x ∷ l) zero h = absurd (omega arith)
  drop_past (x ∷ l) (suc k) h = drop_past l k (omega arith)

  pub length_zero : (l : List A) → length l ≡ 0 → l ≡ []
  length_zero [] e = refl
  length_zero (x ∷ l) e = absurd (omega arith)

  pub in_at : (d : A) (l : List A) (k : ℕ) → k < length l → In (get_or l k d) l
  unfolding In
  in_at d [] k h = absurd (omega arith)
  in_at d (x ∷ l) zero h = inl refl
  in_at d (x ∷ l) (suc k) h = inr (in_at d l k (omega arith))

  pub in_filter : (p : A → Bool) (v : A) (l : List A) → In v l → p v ≡ true → In v (filter p l)
  unfolding In filter
  in_filter p v [] i e = i
  in_filter p v (x ∷ l) (inl q) e = rw (ap p q ∙ e) (inl q)
  in_filter p v (x ∷ l) (inr i) e = by (p x) (in_filter p v l i e)
    where
      by : (b : Bool) → In v (filter p l) → In v (cond b (x ∷ filter p l) (filter p l))
      by true r = inr r
      by false r = r

  -- what passes the test has what the test shows
  pub all_filter : (P : A → Type 0) (p : A → Bool) → ((x : A) → p x ≡ true → P x) → (l : List A) → All P (filter p l)
  unfolding All filter
  all_filter P p f [] = tt
  all_filter P p f (x ∷ l) = by (p x) refl (all_filter P p f l)
    where
      by : (b : Bool) → p x ≡ b → All P (filter p l) → All P (cond b (x ∷ filter p l) (filter p l))
      by true e r = (f x e, r)
      by false e r = r

  pub all_filtered : (P : A → Type 0) (p : A → Bool) (l : List A) → All P l → All P (filter p l)
  unfolding All filter
  all_filtered P p [] h = tt
  all_filtered P p (x ∷ l) h = by (p x) (all_filtered P p l h.1)
    where
      by : (b : Bool) → All P (filter p l) → All P (cond b (x ∷ filter p l) (filter p l))
      by true r = (h.0, r)
      by false r = r

  pub length_one : (b : Bool) (x : A) → length (one b x) ≡ bit b
  length_one true x = refl
  length_one false x = refl

  pub filter_append : (p : A → Bool) (l m : List A) → filter p (l ++ m) ≡ filter p l ++ filter p m
  unfolding filter
  filter_append p [] m = refl
  filter_append p (x ∷ l) m = by (p x) (filter_append p l m)
    where
      by : (b : Bool) → filter p (l ++ m) ≡ filter p l ++ filter p m
          → cond b (x ∷ filter p (l ++ m)) (filter p (l ++ m)) ≡ cond b (x ∷ filter p l) (filter p l) ++ filter p m
      by true r = ap (λ (k : List A). x ∷ k) r
      by false r = r

  pub filter_one : (p : A → Bool) (x : A) → filter p (x ∷ []) ≡ one (p x) x
  unfolding filter
  filter_one p x = refl

  pub filter_cons : (p : A → Bool) (x : A) (l : List A) → filter p (x ∷ l) ≡ one (p x) x ++ filter p l
  unfolding filter
  filter_cons p x l = by (p x)
    where
      by : (b : Bool) → cond b (x ∷ filter p l) (filter p l) ≡ one b x ++ filter p l
      by true = refl
      by false = refl

  -- tests that agree on the list
  pub filter_same : (p q : A → Bool) (l : List A) → All (λ x. p x ≡ q x) l → filter p l ≡ filter q l
  unfolding filter All
  filter_same p q [] h = refl
  filter_same p q (x ∷ l) h = rw (h.0, filter_same p q l h.1) refl

  pub length_filter : (p : A → Bool) (l : List A) → length (filter p l) ≤ length l
  unfolding filter
  length_filter p [] = omega arith
  length_filter p (x ∷ l) = by (p x) (length_filter p l)
    where
      by : (b : Bool) → length (filter p l) ≤ length l → length (cond b (x ∷ filter p l) (filter p l)) ≤ suc (length l)
      by true r = omega arith
      by false r = omega arith

  pub any_snoc : (p : A → Bool) (xs : List A) (y : A) → any p (xs ++ (y ∷ [])) ≡ (any p xs || p y)
  unfolding any
  any_snoc p [] y = or_false (p y)
    where
      or_false : (b : Bool) → (b || false) ≡ b
      or_false true = refl
      or_false false = refl
  any_snoc p (x ∷ xs) y = go (p x) (any_snoc p xs y)
    where
      go : (b : Bool) → any p (xs ++ (y ∷ [])) ≡ (any p xs || p y) → (b || any p (xs ++ (y ∷ []))) ≡ ((b || any p xs) || p y)
      go true r = refl
      go false r = r

  pub all_mapped : {B : Type 0} (P : B → Type 0) (f : A → B) (l : List A) → All (λ x. P (f x)) l → All P (map f l)
  unfolding All
  all_mapped P f [] h = tt
  all_mapped P f (x ∷ l) h = (h.0, all_mapped P f l h.1)

  pub map_same : {B : Type 0} (f g : A → B) (l : List A) → All (λ x. f x ≡ g x) l → map f l ≡ map g l
  unfolding All
  map_same f g [] h = refl
  map_same f g (x ∷ l) h = rw (h.0, map_same f g l h.1) refl

  pub map_one : {B : Type 0} (f : A → B) (b : Bool) (x : A) → map f (one b x) ≡ one b (f x)
  map_one f true x = refl
  map_one f false x = refl

-- The numbers from a on.

pub range_append : (a k m : ℕ) → range a (k + m) ≡ range a k ++ range (a + k) m
unfolding range
range_append a zero m = rw (zero-add, add-zero) refl
range_append a (suc k) m = let e : suc a + k ≡ a + suc k = omega arith in rw (suc-add, range_append (suc a) k m, e) refl

pub range_snoc : (a m : ℕ) → range a (suc m) ≡ range a m ++ ((a + m) ∷ [])
unfolding range
range_snoc a zero = rw add-zero refl
range_snoc a (suc m) = let e : suc a + m ≡ a + suc m = omega arith in ap (λ (l : List ℕ). a ∷ l) (rw e at (range_snoc (suc a) m))

pub range_within : (a m : ℕ) → All (λ x. (a ≤ x) × (x < a + m)) (range a m)
unfolding range All
range_within a zero = tt
range_within a (suc m) = ((omega arith, omega arith), all_map (λ x h. (omega arith, omega arith)) (range (suc a) m) (range_within (suc a) m))

pub length_range : (a m : ℕ) → length (range a m) ≡ m
unfolding range
length_range a zero = refl
length_range a (suc m) = ap suc (length_range (suc a) m)

unfoldable pub Rising : List ℕ → Type 0
Rising [] = Unit {0}
Rising (x ∷ xs) = All (λ y. x < y) xs × Rising xs

pub rising_range : (a m : ℕ) → Rising (range a m)
unfolding range Rising
rising_range a zero = tt
rising_range a (suc m) = (all_map (λ x h. h.0) (range (suc a) m) (range_within (suc a) m), rising_range (suc a) m)

pub rising_filter : (p : ℕ → Bool) (l : List ℕ) → Rising l → Rising (filter p l)
unfolding filter Rising
rising_filter p [] h = tt
rising_filter p (x ∷ l) h = by (p x) (rising_filter p l h.1)
  where
    by : (b : Bool) → Rising (filter p l) → Rising (cond b (x ∷ filter p l) (filter p l))
    by true r = (all_filtered _ p l h.0, r)
    by false r = r

-- Sums of a number of each.

pub total_zero : {A : Type 0} (f : A → ℕ) → ((x : A) → f x ≡ 0) → (l : List A) → total f l ≡ 0
unfolding total
total_zero f h [] = refl
total_zero f h (x ∷ l) = omega (arith, h x, total_zero f h l)

pub total_le : {A : Type 0} (f g : A → ℕ) → ((x : A) → f x ≤ g x) → (l : List A) → total f l ≤ total g l
unfolding total
total_le f g h [] = omega arith
total_le f g h (x ∷ l) = omega (arith, h x, total_le f g h l)

pub total_append : {A : Type 0} (f : A → ℕ) (xs ys : List A) → total f (xs ++ ys) ≡ total f xs + total f ys
unfolding total
total_append f [] ys = omega arith
total_append f (x ∷ xs) ys = rw (total_append f xs ys) (omega arith)

pub total_bound : {A : Type 0} (f : A → ℕ) (n : ℕ) → ((x : A) → f x ≤ n) → (l : List A) → total f l ≤ length l * n
unfolding total
total_bound f n h [] = omega arith
total_bound f n h (x ∷ l) = rw suc-mul (omega (arith, h x, total_bound f n h l))

-- a sum of f over the first k and of g over the rest
unfoldable pub midway : {A : Type 0} → ℕ → (A → ℕ) → (A → ℕ) → List A → ℕ
midway k f g l = total f (take k l) + total g (drop k l)

module _ {A : Type 0} (f g : A → ℕ) where
  pub midway_start : (l : List A) → midway 0 f g l ≡ total g l
  unfolding midway total
  midway_start l = omega arith

  pub midway_end : (l : List A) → midway (length l) f g l ≡ total f l
  unfolding midway total
  midway_end l = rw (take-length l, drop-length l) (omega arith)

  midway_suc : (d : A) (k : ℕ) (l : List A) → k < length l → midway (suc k) f g l + g (get_or l k d) ≡ midway k f g l + f (get_or l k d)
  unfolding midway total
  midway_suc d k [] h = absurd (omega arith)
  midway_suc d zero (x ∷ l) h = omega arith
  midway_suc d (suc k) (x ∷ l) h = omega (arith, midway_suc d k l (omega arith))

  pub midway_step : (d : A) (k : ℕ) (l : List A) → k < length l → midway (k + 1) f g l + g (get_or l k d) ≡ midway k f g l + f (get_or l k d)
  midway_step d k l h = rw (add-one k) (midway_suc d k l h)

-- How many pass, of two lists together, and at most.

pub count_append : {A : Type 0} (p : A → Bool) (xs ys : List A) → count p (xs ++ ys) ≡ count p xs + count p ys
unfolding count
count_append p [] ys = omega arith
count_append p (x ∷ xs) ys = rw (count_append p xs ys) (omega arith)

pub count_most : {A : Type 0} (p : A → Bool) (xs : List A) → count p xs ≤ length xs
unfolding count
count_most p [] = omega arith
count_most p (x ∷ xs) = by (p x) (count_most p xs)
  where
    by : (b : Bool) → count p xs ≤ length xs → bit b + count p xs ≤ suc (length xs)
    by true h = omega arith
    by false h = omega arith
