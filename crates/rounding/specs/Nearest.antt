-- R-4's rounding, said of distances: `round_half_even` gives the nearest whole number, of two as near the even one, and no other number is that.
--     gap           how far z / n is from a whole number, n times
--     Nearest       m is the whole number nearest to z / n; of two as near, the even one
--     rounds        what the average is rounded to is that
--     only          and nothing else is
--     mean          so that is what a window of function 4 reads
--     opposite      and the rounded number of −z is that of z with the other sign
-- Assumes nothing.
use Rattle.std.specs.Prelude.{Bool, true, false, cond, not, List, [], ◌∷◌, length, Some, ◌≡◌, refl, ℕ, zero, suc, ◌+◌, ◌-◌, ◌*◌, ◌%◌, ◌≤◌, ◌<◌, ltb, eqb, ℤ, negsuc, neg_ℤ, nat_abs, ◌+ℤ◌, ◌-ℤ◌, ◌*ℤ◌}
use Rattle.std.proofs.lemmas.Bool.{false≢true}
use Rattle.std.proofs.lemmas.Option.{none-some, same_Some}
use Rattle.std.proofs.Math.Path.{sym, ap, subst}
use Rattle.std.proofs.Common.{◌∙◌, mod-lt, mul-suc, mul-one, mul-zero, arith, ltb-true, ltb-false, lt-ltb}
use Rattle.std.proofs.Math.Nat.{suc-mod}
use Rattle.std.proofs.Math.IntN.{pos, suc_ℤ, neg_ℤ-neg_ℤ, +ℤ_idl, +ℤ_idr, +ℤ_assoc, +ℤ_comm, +ℤ_invr, +ℤ_one, neg_ℤ-+ℤ, *ℤ_comm, -ℤ-+ℤ_cancel, ℤ_discrete}
use Rattle.model.specs.declared.Sample.{Sample}
use Rattle.model.specs.declared.Function.TheVariants.{Average}
use Rattle.model.specs.Numbers.{bit, floor_div, floor_mod, even, round_half_even, sumℤ}
use Rattle.model.specs.Records.{Window}
use Rattle.model.specs.Windows.{values, average, figure, reading}
use Rattle.laws.specs.Signed.{abs_neg, swap, times_neg, times_minus}
use Rattle.laws.specs.Tests.{not_not}
use Rattle.rounding.specs.Floor.{rest, rest_less, rest_is, doubled, round_is}

-- how far z / n is from the whole number m, n times
abbrev pub gap : ℤ → ℕ → ℤ → ℕ
gap z n m = nat_abs (z -ℤ pos n *ℤ m)

-- m is the whole number nearest to z / n: none is nearer, and where another is as near, m is the even one
pub record Nearest (z : ℤ) (n : ℕ) (m : ℤ) : Type 0 where
  pub none_nearer : (k : ℤ) → gap z n m ≤ gap z n k
  pub even_of_two : (k : ℤ) → (k ≡ m → ⊥) → gap z n k ≡ gap z n m → even m ≡ true

-- Differences of whole numbers.

minus_minus : (a b : ℤ) → a -ℤ (a -ℤ b) ≡ b
minus_minus a b =
    rw (neg_ℤ-+ℤ a (neg_ℤ b), neg_ℤ-neg_ℤ b) (sym (+ℤ_assoc a (neg_ℤ a) b) ∙ ap (λ t. t +ℤ b) (+ℤ_invr a) ∙ +ℤ_idl b)

-- The next whole number is even where this one is not.

even_suc : (a : ℕ) → eqb (suc a % 2) 0 ≡ not (eqb (a % 2) 0)
even_suc a = rw (suc-mod a 2) (by (a % 2) (mod-lt a (omega arith)))
  where
    by : (m : ℕ) → m < 2 → eqb (suc m % 2) 0 ≡ not (eqb m 0)
    by zero h = refl
    by (suc zero) h = refl
    by (suc (suc m)) h = absurd (omega arith)

even_next : (z : ℤ) → even (z +ℤ pos 1) ≡ not (even z)
unfolding even
even_next z = rw (+ℤ_one z) (by z)
  where
    by : (z : ℤ) → eqb (nat_abs (suc_ℤ z) % 2) 0 ≡ not (eqb (nat_abs z % 2) 0)
    by (pos a) = even_suc a
    by (negsuc zero) = refl
    by (negsuc (suc a)) = not_not (eqb (suc a % 2) 0) ∙ ap not (sym (even_suc (suc a)))

-- Distances from z / n, by how far a whole number is from the floor.

-- the size of d × n + r, for r below n
abbrev away : ℕ → ℕ → ℤ → ℕ
away n r (pos a) = n * a + r
away n r (negsuc a) = n * suc a - r

neg_plus : (x r : ℕ) → r < x → nat_abs (neg_ℤ (pos x) +ℤ pos r) ≡ x - r
neg_plus zero r h = absurd (omega arith)
neg_plus (suc x) r h = rw (lt-ltb r (suc x) h) (omega arith)

module _ (z : ℤ) (n : ℕ) (counted : 0 < n) where
  abbrev floor : ℤ
  floor = floor_div z n

  abbrev above : ℤ
  above = floor +ℤ pos 1

  abbrev r : ℕ
  r = rest z n

  away_is : (d : ℤ) → nat_abs (pos n *ℤ d +ℤ pos r) ≡ away n r d
  away_is (pos a) = refl
  away_is (negsuc a) = neg_plus (n * suc a) r (omega (arith, rest_less z n counted, mul-suc n a))

  whole : z ≡ pos n *ℤ floor +ℤ pos r
  unfolding floor_mod
  whole = sym (-ℤ-+ℤ_cancel z (pos n *ℤ floor)) ∙ ap (λ t. t +ℤ pos n *ℤ floor) (rest_is z n counted) ∙ +ℤ_comm (pos r) (pos n *ℤ floor)

  gap_is : (k : ℤ) → gap z n k ≡ away n r (floor -ℤ k)
  gap_is k =
      ap nat_abs (ap (λ t. t -ℤ pos n *ℤ k) whole ∙ swap (pos n *ℤ floor) (pos r) (neg_ℤ (pos n *ℤ k)) ∙ ap (λ t. t +ℤ pos r) (sym (times_minus n floor k)))
      ∙ away_is (floor -ℤ k)

  gap_floor : gap z n floor ≡ r
  gap_floor = gap_is floor ∙ ap (away n r) (+ℤ_invr floor) ∙ omega (arith, mul-zero n)

  gap_above : gap z n above ≡ n - r
  gap_above = gap_is above ∙ ap (away n r) (minus_minus floor (negsuc 0)) ∙ ap (λ m. m - r) (mul-one n)

  -- a number by its distance from the floor
  by_floor : (k d : ℤ) → floor -ℤ k ≡ d → k ≡ floor -ℤ d
  by_floor k d e = sym (minus_minus floor k) ∙ ap (λ t. floor -ℤ t) e

  -- up to the half the floor is nearest, and as near is at the half the number above it alone
  least_down : 2 * r ≤ n → (d : ℤ) → r ≤ away n r d
  least_down h (pos a) = omega arith
  least_down h (negsuc a) = omega (arith, mul-suc n a)

  equal_down : 2 * r ≤ n → (d : ℤ) → (d ≡ pos 0 → ⊥) → away n r d ≡ r → (d ≡ negsuc 0) × (2 * r ≡ n)
  equal_down h (pos zero) ne e = absurd (ne refl)
  equal_down h (pos (suc a)) ne e = absurd (omega (arith, mul-suc n a))
  equal_down h (negsuc zero) ne e = (refl, omega (arith, mul-one n))
  equal_down h (negsuc (suc a)) ne e = absurd (omega (arith, mul-suc n (suc a), mul-suc n a))

  -- and from the half on the other way round
  least_up : n ≤ 2 * r → (d : ℤ) → n - r ≤ away n r d
  least_up h (pos a) = omega arith
  least_up h (negsuc a) = omega (arith, mul-suc n a)

  equal_up : n ≤ 2 * r → (d : ℤ) → (d ≡ negsuc 0 → ⊥) → away n r d ≡ n - r → (d ≡ pos 0) × (2 * r ≡ n)
  equal_up h (pos zero) ne e = (refl, omega (arith, mul-zero n, rest_less z n counted))
  equal_up h (pos (suc a)) ne e = absurd (omega (arith, mul-suc n a, rest_less z n counted))
  equal_up h (negsuc zero) ne e = absurd (ne refl)
  equal_up h (negsuc (suc a)) ne e = absurd (omega (arith, mul-suc n (suc a), mul-suc n a, rest_less z n counted))

  -- what the comparison with twice the rest says of the floor at a half
  up_to : (e : Bool) → 2 * r + bit (not e) ≤ n → (2 * r ≤ n) × (2 * r ≡ n → e ≡ true)
  up_to true h = (omega arith, λ g. refl)
  up_to false h = (omega arith, λ g. absurd (omega arith))

  from : (e : Bool) → n < 2 * r + bit (not e) → (n ≤ 2 * r) × (2 * r ≡ n → e ≡ false)
  from true h = (omega arith, λ g. absurd (omega arith))
  from false h = (omega arith, λ g. refl)

  abbrev chosen : Bool → ℤ
  chosen up = cond up above floor

  none_below : (up : Bool) → ltb n (doubled z n) ≡ up → (k : ℤ) → gap z n (chosen up) ≤ gap z n k
  none_below true t k = rw (gap_above, gap_is k) (least_up (from (even floor) (ltb-true n (doubled z n) t)).0 (floor -ℤ k))
  none_below false t k = rw (gap_floor, gap_is k) (least_down (up_to (even floor) (ltb-false n (doubled z n) t)).0 (floor -ℤ k))

  -- another number as near is odd, and the chosen one even
  as_near : (up : Bool) → ltb n (doubled z n) ≡ up → (k : ℤ) → (k ≡ chosen up → ⊥) → gap z n k ≡ gap z n (chosen up)
      → (even (chosen up) ≡ true) × (even k ≡ false)
  as_near true t k ne e =
      let f = from (even floor) (ltb-true n (doubled z n) t) in
      let g = equal_up f.0 (floor -ℤ k) (λ d. ne (by_floor k (negsuc 0) d)) (sym (gap_is k) ∙ e ∙ gap_above) in
      let odd = f.1 g.1 in
      (even_next floor ∙ ap not odd, ap even (by_floor k (pos 0) g.0 ∙ +ℤ_idr floor) ∙ odd)
  as_near false t k ne e =
      let f = up_to (even floor) (ltb-false n (doubled z n) t) in
      let g = equal_down f.0 (floor -ℤ k) (λ d. ne (by_floor k (pos 0) d ∙ +ℤ_idr floor)) (sym (gap_is k) ∙ e ∙ gap_floor) in
      let even-floor = f.1 g.1 in
      (even-floor, ap even (by_floor k (negsuc 0) g.0) ∙ even_next floor ∙ ap not even-floor)

  differs : (k : ℤ) → (k ≡ round_half_even z n → ⊥) → gap z n k ≡ gap z n (round_half_even z n) → (even (round_half_even z n) ≡ true) × (even k ≡ false)
  differs = rw (round_is z n counted) (as_near (ltb n (doubled z n)) refl)

  -- what the average is rounded to is the nearest
  pub rounds : Nearest z n (round_half_even z n)
  rounds = record {
    none_nearer = rw (round_is z n counted) (none_below (ltb n (doubled z n)) refl);
    even_of_two = λ k ne e. (differs k ne e).0;
  }

  -- and no other number is
  pub only : (m : ℤ) → Nearest z n m → m ≡ round_half_even z n
  only m h = by (ℤ_discrete m (round_half_even z n))
    where
      same : gap z n m ≡ gap z n (round_half_even z n)
      same = omega (arith, rounds.none_nearer m, h.none_nearer (round_half_even z n))

      by : Dec (m ≡ round_half_even z n) → m ≡ round_half_even z n
      by (yes e) = e
      by (no ne) = absurd (false≢true (sym (differs m ne same).1 ∙ h.even_of_two (round_half_even z n) (λ e. ne (sym e)) (sym same)))

-- Averages.

average_nearest : (zs : List ℤ) (m : ℤ) → average zs ≡ Some m → Nearest (sumℤ zs) (length zs) m
unfolding average
average_nearest [] m e = absurd (none-some m e)
average_nearest (z ∷ zs) m e =
    subst (Nearest (sumℤ (z ∷ zs)) (length (z ∷ zs))) (same_Some _ m e) (rounds (sumℤ (z ∷ zs)) (length (z ∷ zs)) (omega arith))

-- what a window of function 4 reads
pub mean : (w : Window) (ss : List Sample) (m : ℤ) → w.function ≡ Average → reading w ss ≡ Some m → Nearest (sumℤ (values w ss)) (length (values w ss)) m
unfolding reading figure
mean w ss m f e = average_nearest (values w ss) m (ap (λ g. figure g (values w ss)) (sym f) ∙ e)

-- The other sign.

gap_neg : (z : ℤ) (n : ℕ) (k : ℤ) → gap (neg_ℤ z) n (neg_ℤ k) ≡ gap z n k
gap_neg z n k =
    rw (*ℤ_comm (pos n) (neg_ℤ k), times_neg k n, *ℤ_comm (pos n) k)
    (ap nat_abs (sym (neg_ℤ-+ℤ z (neg_ℤ (k *ℤ pos n)))) ∙ abs_neg (z -ℤ k *ℤ pos n))

even_neg : (k : ℤ) → even (neg_ℤ k) ≡ even k
unfolding even
even_neg k = rw (abs_neg k) refl

pub opposite : (z : ℤ) (n : ℕ) → 0 < n → round_half_even (neg_ℤ z) n ≡ neg_ℤ (round_half_even z n)
opposite z n counted = sym (only (neg_ℤ z) n counted (neg_ℤ (round_half_even z n)) (record { none_nearer = least; even_of_two = two }))
  where
    turned : (k : ℤ) → gap (neg_ℤ z) n k ≡ gap z n (neg_ℤ k)
    turned k = ap (gap (neg_ℤ z) n) (sym (neg_ℤ-neg_ℤ k)) ∙ gap_neg z n (neg_ℤ k)

    least : (k : ℤ) → gap (neg_ℤ z) n (neg_ℤ (round_half_even z n)) ≤ gap (neg_ℤ z) n k
    least k = rw (gap_neg z n (round_half_even z n), turned k) ((rounds z n counted).none_nearer (neg_ℤ k))

    two : (k : ℤ) → (k ≡ neg_ℤ (round_half_even z n) → ⊥) → gap (neg_ℤ z) n k ≡ gap (neg_ℤ z) n (neg_ℤ (round_half_even z n)) → even (neg_ℤ (round_half_even z n)) ≡ true
    two k ne e =
        even_neg (round_half_even z n)
        ∙ (rounds z n counted).even_of_two (neg_ℤ k) (λ g. ne (sym (neg_ℤ-neg_ℤ k) ∙ ap neg_ℤ g)) (sym (turned k) ∙ e ∙ gap_neg z n (round_half_even z n))
