-- Those of a list of seconds that no later one displaces, and how code keeps them: a list that is popped from the back and loses its first.
--     pops                  from the back, while a test holds: `pops_turn`, `pops_end`, `pops_none` are a loop's turn and its ends
--     aged                  without the first where it is left behind: `aged_goes`, `aged_stays`
--     undisplaced_pops      one more second: those that it displaces are popped, and it is appended
--     undisplaced_aged      one less: what is left behind goes exactly if it is first
--     first_best            the first one has the best value of all
-- Assumes nothing.
use Rattle.std.proofs.Math.Path.{◌≡◌, refl, ap, subst}
use Rattle.std.proofs.Common.{sym, ◌∙◌, inl, inr, true≢false, eq-eqb, ne_eqb, take-suc}
use mathlib.Core.List.{List, [], ◌∷◌, ◌++◌, map}
use Rattle.std.specs.Prelude.{Bool, not, ◌||◌, eqb, ℤ, get_or, take, drop}
use Rattle.std.proofs.Math.Bool.{true, false, cond}
use Rattle.std.proofs.lemmas.Bool.{false≢true}
use Prim.Native.Nat.{ℕ, suc, ◌+◌, ◌-◌, ◌≤◌, ◌<◌}
use native.Mathlib.Omega.{arith}
use Rattle.std.proofs.Math.ListN.{length}
use Rattle.std.proofs.Math.Seq.{take-length}
use Rattle.model.specs.Numbers.{filter, any}
use Rattle.model.specs.Windows.{undisplaced}
use Rattle.laws.specs.Lists.{In, All, any_snoc, one, Rising}
use Rattle.laws.specs.Order.{Order, order_refl}

-- from the back, while the test holds
abbrev stop : (ℕ → Bool) → ℕ → List ℕ → List ℕ
stop d x [] = one (not (d x)) x
stop d x (z ∷ zs) = x ∷ z ∷ zs

unfoldable pub pops : (ℕ → Bool) → List ℕ → List ℕ
pops d [] = []
pops d (x ∷ xs) = stop d x (pops d xs)

-- without the first, where a window of this width leaves it behind as second n comes
unfoldable pub aged : ℕ → ℕ → List ℕ → List ℕ
aged width n [] = []
aged width n (x ∷ xs) = cond (eqb (x + width) n) xs (x ∷ xs)

module _ (d : ℕ → Bool) where
  -- one turn of a loop from the back
  pub pops_last : (l : List ℕ) (x : ℕ) → d x ≡ true → pops d (l ++ (x ∷ [])) ≡ pops d l
  unfolding pops
  pops_last [] x e = rw e refl
  pops_last (z ∷ l) x e = ap (stop d z) (pops_last l x e)

  stop_snoc : (z : ℕ) (l : List ℕ) (x : ℕ) → stop d z (l ++ (x ∷ [])) ≡ z ∷ (l ++ (x ∷ []))
  stop_snoc z [] x = refl
  stop_snoc z (y ∷ l) x = refl

  -- its end
  pub pops_stop : (l : List ℕ) (x : ℕ) → d x ≡ false → pops d (l ++ (x ∷ [])) ≡ l ++ (x ∷ [])
  unfolding pops
  pops_stop [] x e = rw e refl
  pops_stop (z ∷ l) x e = ap (stop d z) (pops_stop l x e) ∙ stop_snoc z l x

  pub pops_none : (l : List ℕ) → length l ≡ 0 → pops d l ≡ l
  unfolding pops
  pops_none [] e = refl
  pops_none (x ∷ l) e = absurd (omega arith)

  -- the same by the last of the list
  module _ (l : List ℕ) (some : 0 < length l) where
    last_split : l ≡ take (length l - 1) l ++ (get_or l (length l - 1) 0 ∷ [])
    last_split =
        let e : length l ≡ suc (length l - 1) = omega arith in
        let b : length l - 1 < length l = omega arith in
        sym (take-length l) ∙ ap (λ (k : ℕ). take k l) e ∙ take-suc l (length l - 1) 0 b

    pub pops_turn : d (get_or l (length l - 1) 0) ≡ true → pops d (take (length l - 1) l) ≡ pops d l
    pops_turn e = sym (pops_last (take (length l - 1) l) (get_or l (length l - 1) 0) e) ∙ sym (ap (pops d) last_split)

    pub pops_end : d (get_or l (length l - 1) 0) ≡ false → pops d l ≡ l
    pops_end e = ap (pops d) last_split ∙ pops_stop (take (length l - 1) l) (get_or l (length l - 1) 0) e ∙ sym last_split

  stop_stays : (x : ℕ) (l : List ℕ) → d x ≡ false → stop d x l ≡ x ∷ l
  stop_stays x [] e = rw e refl
  stop_stays x (z ∷ l) e = refl

  pub pops_same : (d' : ℕ → Bool) (l : List ℕ) → All (λ x. d x ≡ d' x) l → pops d l ≡ pops d' l
  unfolding pops All
  pops_same d' [] h = refl
  pops_same d' (x ∷ l) h = rw (pops_same d' l h.1) (by (pops d' l))
    where
      by : (m : List ℕ) → stop d x m ≡ stop d' x m
      by [] = rw h.0 refl
      by (z ∷ m) = refl

aged_none : (width n : ℕ) (l : List ℕ) → All (λ x. n < x + width) l → aged width n l ≡ l
unfolding aged All
aged_none width n [] h = refl
aged_none width n (x ∷ l) h =
    let k : n < x + width = h.0 in
    let e : eqb (x + width) n ≡ false = ne_eqb (x + width) n (λ q. omega arith) in
    rw e refl

-- by the first of the list
pub aged_goes : (width n : ℕ) (l : List ℕ) → 0 < length l → get_or l 0 0 + width ≡ n → aged width n l ≡ drop 1 l
unfolding aged
aged_goes width n [] h e = refl
aged_goes width n (x ∷ l) h e = rw (eq-eqb (x + width) n e) refl

pub aged_stays : (width n : ℕ) (l : List ℕ) → (0 < length l → get_or l 0 0 + width ≡ n → ⊥) → aged width n l ≡ l
unfolding aged
aged_stays width n [] h = refl
aged_stays width n (x ∷ l) h = rw (ne_eqb (x + width) n (h (omega arith))) refl

module _ (by : ℕ → ℕ → Bool) where
  -- those that y does not displace
  abbrev keep : ℕ → List ℕ → List ℕ
  keep y l = filter (λ x. not (by y x)) l

  undisplaced_snoc : (xs : List ℕ) (y : ℕ) → undisplaced by (xs ++ (y ∷ [])) ≡ keep y (undisplaced by xs) ++ (y ∷ [])
  unfolding undisplaced filter
  undisplaced_snoc [] y = unfold any in refl
  undisplaced_snoc (x ∷ xs) y = go (any (λ j. by j x) xs) (by y x) refl refl (undisplaced_snoc xs y)
    where
      go : (b c : Bool) → any (λ j. by j x) xs ≡ b → by y x ≡ c → undisplaced by (xs ++ (y ∷ [])) ≡ keep y (undisplaced by xs) ++ (y ∷ [])
          → undisplaced by ((x ∷ xs) ++ (y ∷ [])) ≡ keep y (undisplaced by (x ∷ xs)) ++ (y ∷ [])
      go true c e f r = rw (any_snoc (λ j. by j x) xs y, e) r
      go false true e f r = rw (any_snoc (λ j. by j x) xs y, e, f) r
      go false false e f r = rw (any_snoc (λ j. by j x) xs y, e, f) (ap (λ (l : List ℕ). x ∷ l) r)

  pub all_undisplaced : (P : ℕ → Type 0) (l : List ℕ) → All P l → All P (undisplaced by l)
  unfolding undisplaced All
  all_undisplaced P [] h = tt
  all_undisplaced P (x ∷ l) h = go (any (λ j. by j x) l) (all_undisplaced P l h.1)
    where
      go : (b : Bool) → All P (undisplaced by l) → All P (cond b (undisplaced by l) (x ∷ undisplaced by l))
      go true r = r
      go false r = (h.0, r)

  pub rising_undisplaced : (l : List ℕ) → Rising l → Rising (undisplaced by l)
  unfolding undisplaced Rising
  rising_undisplaced [] h = tt
  rising_undisplaced (x ∷ l) h = go (any (λ j. by j x) l) (rising_undisplaced l h.1)
    where
      go : (b : Bool) → Rising (undisplaced by l) → Rising (cond b (undisplaced by l) (x ∷ undisplaced by l))
      go true r = r
      go false r = (all_undisplaced _ l h.0, r)

  pub length_undisplaced : (l : List ℕ) → length (undisplaced by l) ≤ length l
  unfolding undisplaced
  length_undisplaced [] = omega arith
  length_undisplaced (x ∷ l) = go (any (λ j. by j x) l) (length_undisplaced l)
    where
      go : (b : Bool) → length (undisplaced by l) ≤ length l → length (cond b (undisplaced by l) (x ∷ undisplaced by l)) ≤ suc (length l)
      go true r = omega arith
      go false r = omega arith

  -- no later one displaces an earlier
  unfoldable Settled : List ℕ → Type 0
  Settled [] = Unit {0}
  Settled (x ∷ xs) = (any (λ j. by j x) xs ≡ false) × Settled xs

  any_undisplaced : (p : ℕ → Bool) (xs : List ℕ) → any p xs ≡ false → any p (undisplaced by xs) ≡ false
  unfolding undisplaced any
  any_undisplaced p [] e = refl
  any_undisplaced p (z ∷ xs) e = go (p z) (any (λ j. by j z) xs) refl e (any_undisplaced p xs)
    where
      go : (b c : Bool) → p z ≡ b → (b || any p xs) ≡ false → (any p xs ≡ false → any p (undisplaced by xs) ≡ false)
          → any p (cond c (undisplaced by xs) (z ∷ undisplaced by xs)) ≡ false
      go true c f e r = absurd (true≢false e)
      go false true f e r = r e
      go false false f e r = rw f (r e)

  settled : (xs : List ℕ) → Settled (undisplaced by xs)
  unfolding undisplaced Settled
  settled [] = tt
  settled (x ∷ xs) = go (any (λ j. by j x) xs) refl (settled xs)
    where
      go : (b : Bool) → any (λ j. by j x) xs ≡ b → Settled (undisplaced by xs) → Settled (cond b (undisplaced by xs) (x ∷ undisplaced by xs))
      go true e r = r
      go false e r = (any_undisplaced (λ j. by j x) xs e, r)

  module _ (law : (x y z : ℕ) → by y x ≡ true → by z x ≡ false → by y z ≡ true) where
    keep_none : (x y : ℕ) (xs : List ℕ) → by y x ≡ true → any (λ j. by j x) xs ≡ false → keep y xs ≡ []
    unfolding filter any
    keep_none x y [] e f = refl
    keep_none x y (z ∷ xs) e f = go (by z x) refl f (keep_none x y xs e)
      where
        go : (b : Bool) → by z x ≡ b → (b || any (λ j. by j x) xs) ≡ false → (any (λ j. by j x) xs ≡ false → keep y xs ≡ [])
            → cond (not (by y z)) (z ∷ keep y xs) (keep y xs) ≡ []
        go true g f r = absurd (true≢false f)
        go false g f r = rw (law x y z e g) (r f)

    -- the displaced ones are last, so that popping removes exactly them
    pops_keep : (y : ℕ) (l : List ℕ) → Settled l → pops (by y) l ≡ keep y l
    unfolding pops filter Settled
    pops_keep y [] m = refl
    pops_keep y (x ∷ l) m = rw (pops_keep y l m.1) (go (by y x) refl)
      where
        go : (b : Bool) → by y x ≡ b → stop (by y) x (keep y l) ≡ cond (not b) (x ∷ keep y l) (keep y l)
        go true e = rw (keep_none x y l e m.0, e) refl
        go false e = stop_stays (by y) x (keep y l) e

    pub undisplaced_pops : (xs : List ℕ) (y : ℕ) → undisplaced by (xs ++ (y ∷ [])) ≡ pops (by y) (undisplaced by xs) ++ (y ∷ [])
    undisplaced_pops xs y = undisplaced_snoc xs y ∙ ap (λ (l : List ℕ). l ++ (y ∷ [])) (sym (pops_keep y (undisplaced by xs) (settled xs)))

  -- what is left behind goes exactly if it is first
  pub undisplaced_aged : (b : Bool) (a width n : ℕ) (l : List ℕ) → (b ≡ true → a + width ≡ n) → All (λ x. n < x + width) l
      → aged width n (undisplaced by (one b a ++ l)) ≡ undisplaced by l
  undisplaced_aged true a width n l e h = unfold undisplaced in go (any (λ j. by j a) l)
    where
      go : (c : Bool) → aged width n (cond c (undisplaced by l) (a ∷ undisplaced by l)) ≡ undisplaced by l
      go true = aged_none width n (undisplaced by l) (all_undisplaced _ l h)
      go false = unfold aged in rw (eq-eqb (a + width) n (e refl)) refl
  undisplaced_aged false a width n l e h = aged_none width n (undisplaced by l) (all_undisplaced _ l h)

  -- a test that agrees on each two of the list
  module _ (by' : ℕ → ℕ → Bool) (P : ℕ → Type 0) (same : (i j : ℕ) → P i → P j → by j i ≡ by' j i) where
    any_same : (i : ℕ) (l : List ℕ) → P i → All P l → any (λ j. by j i) l ≡ any (λ j. by' j i) l
    unfolding any All
    any_same i [] p h = refl
    any_same i (j ∷ l) p h = rw (same i j p h.0, any_same i l p h.1) refl

    pub undisplaced_same : (l : List ℕ) → All P l → undisplaced by l ≡ undisplaced by' l
    unfolding undisplaced All
    undisplaced_same [] h = refl
    undisplaced_same (x ∷ l) h = rw (any_same x l h.0 h.1, undisplaced_same l h.1) refl

  -- the last one is never displaced
  pub undisplaced_nil : (l : List ℕ) → undisplaced by l ≡ [] → l ≡ []
  unfolding undisplaced
  undisplaced_nil [] e = refl
  undisplaced_nil (x ∷ l) e = go (any (λ j. by j x) l) refl e (undisplaced_nil l)
    where
      go : (b : Bool) → any (λ j. by j x) l ≡ b → cond b (undisplaced by l) (x ∷ undisplaced by l) ≡ [] → (undisplaced by l ≡ [] → l ≡ []) → x ∷ l ≡ []
      go true f e r = absurd (true≢false (sym f ∙ ap (any (λ j. by j x)) (r e) ∙ unfold any in refl))
      go false f e r = let z : ◌≡◌ {A = ℕ} 0 1 = cc in absurd (omega arith)

-- seconds by their values
module _ (le : ℤ → ℤ → Bool) (order : Order le) (v : ℕ → ℤ) where
  abbrev pub by_value : ℕ → ℕ → Bool
  by_value j i = le (v j) (v i)

  pub by_value_law : (x y z : ℕ) → by_value y x ≡ true → by_value z x ≡ false → by_value y z ≡ true
  by_value_law x y z e f = order.trans (v y) (v x) (v z) e (order.total (v z) (v x) f)

  -- the value of the first one is the best of all
  abbrev pub Best : ℕ → List ℕ → Type 0
  Best x l = In (v x) (map v l) × All (λ z. le (v x) z ≡ true) (map v l)

  some_below : (u a : ℤ) (l : List ℕ) → any (λ j. le (v j) a) l ≡ true → All (λ z. le u z ≡ true) (map v l) → le u a ≡ true
  unfolding any All
  some_below u a [] e h = absurd (false≢true e)
  some_below u a (j ∷ l) e h = go (le (v j) a) refl e (λ f. some_below u a l f h.1)
    where
      go : (b : Bool) → le (v j) a ≡ b → (b || any (λ j. le (v j) a) l) ≡ true → (any (λ j. le (v j) a) l ≡ true → le u a ≡ true) → le u a ≡ true
      go true f e r = order.trans u (v j) a h.0 f
      go false f e r = r e

  none_below : (a : ℤ) (l : List ℕ) → any (λ j. le (v j) a) l ≡ false → All (λ z. le a z ≡ true) (map v l)
  unfolding any All
  none_below a [] e = tt
  none_below a (j ∷ l) e = go (le (v j) a) refl e (none_below a l)
    where
      go : (b : Bool) → le (v j) a ≡ b → (b || any (λ j. le (v j) a) l) ≡ false → (any (λ j. le (v j) a) l ≡ false → All (λ z. le a z ≡ true) (map v l))
          → (le a (v j) ≡ true) × All (λ z. le a z ≡ true) (map v l)
      go true f e r = absurd (true≢false e)
      go false f e r = (order.total (v j) a f, r e)

  pub first_best : (x : ℕ) (xs l : List ℕ) → undisplaced by_value l ≡ x ∷ xs → Best x l
  unfolding undisplaced In All
  first_best x xs [] e = let z : ◌≡◌ {A = ℕ} 0 1 = cc in absurd (omega arith)
  first_best x xs (i ∷ l) e = go (any (λ j. by_value j i) l) refl e (first_best x xs l)
    where
      go : (b : Bool) → any (λ j. by_value j i) l ≡ b → cond b (undisplaced by_value l) (i ∷ undisplaced by_value l) ≡ x ∷ xs
          → (undisplaced by_value l ≡ x ∷ xs → Best x l) → Best x (i ∷ l)
      go true f e r = let q = r e in (inr q.0, (some_below (v x) (v i) l f q.1, q.1))
      go false f e r =
          let q : i ≡ x = cc in
          subst (λ (y : ℕ). Best y (i ∷ l)) q (inl refl, (order_refl le order (v i), none_below (v i) l f))
