-- A store of values in order, as a function of the values: `ordered zs`.
--     insert, remove_one, ordered          one value more, one less, the whole
--     ordered_snoc, ordered_uncons        how the store changes as a value enters and the first one leaves
--     sorted_ordered, count_ordered, length_ordered, in_ordered      it is in order and has the same values
--     insert_at, remove_at                the same by place
-- Assumes nothing.
use Rattle.std.specs.Prelude.{◌≡◌, refl, List, [], ◌∷◌, ◌++◌, Bool, true, false, cond, not, ◌&&◌, ℕ, zero, suc, ◌+◌, ◌≤◌, ◌<◌, ℤ, length, get_or, take, drop}
use Rattle.std.proofs.Common.{sym, ap, ◌∙◌, inl, inr, arith}
use Rattle.std.proofs.lemmas.Bool.{false≢true}
use Rattle.std.specs.Int.Signed.{le_z, lt_z}
use Rattle.model.specs.Numbers.{bit, count}
use Rattle.laws.specs.Lists.{In, All, all_map, all_at, without}
use Rattle.laws.specs.Order.{le_z_total, le_z_trans, le_z_anti, le_z_refl, lt_z_le_z, lt_z_true, lt_z_false}

-- v before the first larger value
unfoldable pub insert : ℤ → List ℤ → List ℤ
insert v [] = v ∷ []
insert v (x ∷ xs) = cond (lt_z v x) (v ∷ x ∷ xs) (x ∷ insert v xs)

-- without the first v
unfoldable pub remove_one : ℤ → List ℤ → List ℤ
remove_one v [] = []
remove_one v (x ∷ xs) = cond (le_z x v && le_z v x) xs (x ∷ remove_one v xs)

-- the values in order
unfoldable pub ordered : List ℤ → List ℤ
ordered [] = []
ordered (z ∷ zs) = insert z (ordered zs)

-- none of xs is less than v
abbrev pub Least : ℤ → List ℤ → Type 0
Least v xs = All (λ x. le_z v x ≡ true) xs

-- each is at most every later one
unfoldable pub Sorted : List ℤ → Type 0
Sorted [] = Unit {0}
Sorted (x ∷ xs) = Least x xs × Sorted xs

pub all_insert : (P : ℤ → Type 0) (v : ℤ) (xs : List ℤ) → P v → All P xs → All P (insert v xs)
unfolding insert All
all_insert P v [] h w = (h, tt)
all_insert P v (x ∷ xs) h w = by (lt_z v x) (all_insert P v xs h w.1)
  where
    by : (b : Bool) → All P (insert v xs) → All P (cond b (v ∷ x ∷ xs) (x ∷ insert v xs))
    by true r = (h, w)
    by false r = (w.0, r)

pub sorted_insert : (v : ℤ) (xs : List ℤ) → Sorted xs → Sorted (insert v xs)
unfolding insert Sorted All
sorted_insert v [] w = (tt, tt)
sorted_insert v (x ∷ xs) w = by (lt_z v x) refl (sorted_insert v xs w.1)
  where
    by : (b : Bool) → lt_z v x ≡ b → Sorted (insert v xs) → Sorted (cond b (v ∷ x ∷ xs) (x ∷ insert v xs))
    by true e r =
        let l : le_z v x ≡ true = le_z_total x v (lt_z_true v x e) in
        ((l, all_map (λ y h. le_z_trans v x y l h) xs w.0), w)
    by false e r = (all_insert _ v xs (lt_z_false v x e) w.0, r)

pub sorted_ordered : (zs : List ℤ) → Sorted (ordered zs)
unfolding ordered Sorted
sorted_ordered [] = tt
sorted_ordered (z ∷ zs) = sorted_insert z (ordered zs) (sorted_ordered zs)

-- the same values
pub count_insert : (p : ℤ → Bool) (v : ℤ) (xs : List ℤ) → count p (insert v xs) ≡ bit (p v) + count p xs
unfolding insert count
count_insert p v [] = refl
count_insert p v (x ∷ xs) = by (lt_z v x) (count_insert p v xs)
  where
    by : (b : Bool) → count p (insert v xs) ≡ bit (p v) + count p xs → count p (cond b (v ∷ x ∷ xs) (x ∷ insert v xs)) ≡ bit (p v) + (bit (p x) + count p xs)
    by true r = refl
    by false r = omega arith

pub count_ordered : (p : ℤ → Bool) (zs : List ℤ) → count p (ordered zs) ≡ count p zs
unfolding ordered count
count_ordered p [] = refl
count_ordered p (z ∷ zs) = count_insert p z (ordered zs) ∙ ap (λ (n : ℕ). bit (p z) + n) (count_ordered p zs)

pub length_insert : (v : ℤ) (xs : List ℤ) → length (insert v xs) ≡ suc (length xs)
unfolding insert
length_insert v [] = refl
length_insert v (x ∷ xs) = by (lt_z v x) (length_insert v xs)
  where
    by : (b : Bool) → length (insert v xs) ≡ suc (length xs) → length (cond b (v ∷ x ∷ xs) (x ∷ insert v xs)) ≡ suc (suc (length xs))
    by true r = refl
    by false r = ap suc r

pub length_ordered : (zs : List ℤ) → length (ordered zs) ≡ length zs
unfolding ordered
length_ordered [] = refl
length_ordered (z ∷ zs) = length_insert z (ordered zs) ∙ ap suc (length_ordered zs)

pub insert_in : (v : ℤ) (xs : List ℤ) → In v (insert v xs)
unfolding insert In
insert_in v [] = inl refl
insert_in v (x ∷ xs) = by (lt_z v x) (insert_in v xs)
  where
    by : (b : Bool) → In v (insert v xs) → In v (cond b (v ∷ x ∷ xs) (x ∷ insert v xs))
    by true r = inl refl
    by false r = inr r

in_insert : (u v : ℤ) (xs : List ℤ) → In u (insert v xs) → In u (v ∷ xs)
unfolding insert In
in_insert u v [] i = i
in_insert u v (x ∷ xs) i = by (lt_z v x) (in_insert u v xs) i
  where
    swap : In u (v ∷ xs) → In u (v ∷ x ∷ xs)
    swap (inl e) = inl e
    swap (inr j) = inr (inr j)

    by : (b : Bool) → (In u (insert v xs) → In u (v ∷ xs)) → In u (cond b (v ∷ x ∷ xs) (x ∷ insert v xs)) → In u (v ∷ x ∷ xs)
    by true f i = i
    by false f (inl e) = inr (inl e)
    by false f (inr j) = swap (f j)

pub in_ordered : (u : ℤ) (zs : List ℤ) → In u (ordered zs) → In u zs
unfolding ordered In
in_ordered u [] i = i
in_ordered u (z ∷ zs) i = by (in_ordered u zs) (in_insert u z (ordered zs) i)
  where
    by : (In u (ordered zs) → In u zs) → In u (z ∷ ordered zs) → In u (z ∷ zs)
    by f (inl e) = inl e
    by f (inr j) = inr (f j)

-- How the store changes as a value enters and one leaves.

join : (x : ℤ) (l m : List ℤ) → l ≡ m → x ∷ l ≡ x ∷ m
join x l m e = ap (λ (r : List ℤ). x ∷ r) e

-- two in front of a list, in order
front : (a b : ℤ) (l : List ℤ) → cond (lt_z a b) (a ∷ b ∷ l) (b ∷ a ∷ l) ≡ cond (lt_z b a) (b ∷ a ∷ l) (a ∷ b ∷ l)
front a b l = by (lt_z a b) (lt_z b a) refl refl
  where
    by : (s t : Bool) → lt_z a b ≡ s → lt_z b a ≡ t → cond s (a ∷ b ∷ l) (b ∷ a ∷ l) ≡ cond t (b ∷ a ∷ l) (a ∷ b ∷ l)
    by true true e f = absurd (false≢true (sym (lt_z_true a b e) ∙ le_z_total a b (lt_z_true b a f)))
    by true false e f = refl
    by false true e f = refl
    by false false e f = let q : a ≡ b = le_z_anti a b (lt_z_false b a f) (lt_z_false a b e) in cc

passed : (a b x : ℤ) → lt_z a x ≡ true → lt_z b x ≡ false → lt_z b a ≡ false
passed a b x e f = lt_z_le_z b a ∙ ap not (le_z_trans a x b (le_z_total x a (lt_z_true a x e)) (lt_z_false b x f))

-- the order of two insertions makes no difference
pub insert_swap : (a b : ℤ) (xs : List ℤ) → insert a (insert b xs) ≡ insert b (insert a xs)
unfolding insert
insert_swap a b [] = front a b []
insert_swap a b (x ∷ xs) = by (lt_z a x) (lt_z b x) refl refl (insert_swap a b xs)
  where
    by : (s t : Bool) → lt_z a x ≡ s → lt_z b x ≡ t → insert a (insert b xs) ≡ insert b (insert a xs)
        → insert a (cond t (b ∷ x ∷ xs) (x ∷ insert b xs)) ≡ insert b (cond s (a ∷ x ∷ xs) (x ∷ insert a xs))
    by true true e f r = rw (e, f) (front a b (x ∷ xs))
    by true false e f r = rw (e, passed a b x e f, f) refl
    by false true e f r = rw (f, passed b a x f e, e) refl
    by false false e f r = rw (e, f) (join x _ _ r)

pub ordered_snoc : (zs : List ℤ) (v : ℤ) → ordered (zs ++ (v ∷ [])) ≡ insert v (ordered zs)
unfolding ordered
ordered_snoc [] v = refl
ordered_snoc (z ∷ zs) v = ap (insert z) (ordered_snoc zs v) ∙ insert_swap z v (ordered zs)

-- what is at most all of them goes in front
pub insert_least : (v : ℤ) (xs : List ℤ) → Least v xs → insert v xs ≡ v ∷ xs
unfolding insert All
insert_least v [] w = refl
insert_least v (x ∷ xs) w = by (lt_z v x) refl (insert_least v xs w.1)
  where
    by : (b : Bool) → lt_z v x ≡ b → insert v xs ≡ v ∷ xs → cond b (v ∷ x ∷ xs) (x ∷ insert v xs) ≡ v ∷ x ∷ xs
    by true e r = refl
    by false e r = let q : x ≡ v = le_z_anti x v (lt_z_false v x e) w.0 in cc

pub remove_insert : (v : ℤ) (xs : List ℤ) → Sorted xs → remove_one v (insert v xs) ≡ xs
unfolding insert remove_one Sorted
remove_insert v [] w = rw (le_z_refl v) refl
remove_insert v (x ∷ xs) w = by (lt_z v x) refl (remove_insert v xs w.1)
  where
    same : (b : Bool) → le_z v x ≡ b → le_z x v ≡ true → remove_one v (insert v xs) ≡ xs → cond (true && b) (insert v xs) (x ∷ remove_one v (insert v xs)) ≡ x ∷ xs
    same true e f r = let q : x ≡ v = le_z_anti x v f e in cc (insert_least x xs w.0)
    same false e f r = join x _ _ r

    by : (b : Bool) → lt_z v x ≡ b → remove_one v (insert v xs) ≡ xs → remove_one v (cond b (v ∷ x ∷ xs) (x ∷ insert v xs)) ≡ x ∷ xs
    by true e r = rw (le_z_refl v) refl
    by false e r = rw (lt_z_false v x e) (same (le_z v x) refl (lt_z_false v x e) r)

pub ordered_uncons : (v : ℤ) (zs : List ℤ) → remove_one v (ordered (v ∷ zs)) ≡ ordered zs
unfolding ordered
ordered_uncons v zs = remove_insert v (ordered zs) (sorted_ordered zs)

-- By place, as code finds it. In a store in order v may go in between neighbours, and any v may be the one that goes.

pub insert_at : (d v : ℤ) (xs : List ℤ) (k : ℕ) → Sorted xs → k ≤ length xs
    → ((j : ℕ) → suc j ≡ k → le_z (get_or xs j d) v ≡ true) → (k < length xs → le_z v (get_or xs k d) ≡ true)
    → insert v xs ≡ take k xs ++ (v ∷ drop k xs)
unfolding insert Sorted All
insert_at d v [] zero w h f g = refl
insert_at d v [] (suc k) w h f g = absurd (omega arith)
insert_at d v (x ∷ xs) zero w h f g =
    let l : le_z v x ≡ true = g (omega arith) in
    insert_least v (x ∷ xs) (l, all_map (λ y q. le_z_trans v x y l q) xs w.0)
insert_at d v (x ∷ xs) (suc k) w h f g =
    rw (lt_z_le_z v x, before k (omega arith) (f k refl))
    (join x _ _ (insert_at d v xs k w.1 (omega arith) (λ j q. f (suc j) (ap suc q)) (λ l. g (omega arith))))
  where
    before : (k : ℕ) → k ≤ length xs → le_z (get_or (x ∷ xs) k d) v ≡ true → le_z x v ≡ true
    before zero h q = q
    before (suc k) h q = le_z_trans x (get_or xs k d) v (all_at _ d xs k (omega arith) w.0) q

-- in front of what is in order, v may take the place of any v
shift : (d v : ℤ) (xs : List ℤ) (k : ℕ) → Sorted xs → k < length xs → get_or xs k d ≡ v → Least v xs → xs ≡ v ∷ without k xs
unfolding Sorted All without
shift d v [] k w h e l = absurd (omega arith)
shift d v (x ∷ xs) zero w h e l = ap (λ (y : ℤ). y ∷ xs) e
shift d v (x ∷ xs) (suc k) w h e l =
    let b : k < length xs = omega arith in
    let q : x ≡ v = le_z_anti x v (ap (le_z x) (sym e) ∙ all_at _ d xs k b w.0) l.0 in
    cc (shift d v xs k w.1 b e l.1)

pub remove_at : (d v : ℤ) (xs : List ℤ) (k : ℕ) → Sorted xs → k < length xs → get_or xs k d ≡ v → remove_one v xs ≡ without k xs
unfolding remove_one Sorted All without
remove_at d v [] k w h e = absurd (omega arith)
remove_at d v (x ∷ xs) zero w h e = rw (e, le_z_refl v) refl
remove_at d v (x ∷ xs) (suc k) w h e =
    let b : k < length xs = omega arith in
    let below : le_z x v ≡ true = ap (le_z x) (sym e) ∙ all_at _ d xs k b w.0 in
    rw below (by (le_z v x) refl below b (remove_at d v xs k w.1 b e))
  where
    by : (b : Bool) → le_z v x ≡ b → le_z x v ≡ true → k < length xs → remove_one v xs ≡ without k xs → cond b xs (x ∷ remove_one v xs) ≡ x ∷ without k xs
    by true f g l r = shift d x xs k w.1 l (e ∙ le_z_anti v x f g) w.0
    by false f g l r = join x _ _ r
