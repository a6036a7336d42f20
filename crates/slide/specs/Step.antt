-- One sample more: what a window looks at, its qualifying values, and what code keeps of them.
--     sample_before, qualifies_before, value_before     the samples so far are as they were
--     sample_new, value_new                             the new one
--     leaves, enters                                    the second that goes out of view qualified; the new sample qualifies
--     staying, staying_values                            the qualifying seconds that stay in view, and their values
--     qualifying_before, qualifying_after               so the seconds before and after; values_before, values_after: the values
--     count_step                                        the count, rolled on; sum_step, of the sum, is in proofs/Step
--     length_values, all_values, sum_bound              bounds
--     qualifying_start, values_start                    before the first sample
-- Assumes nothing.
use Rattle.std.specs.Prelude.{◌≡◌, Bool, cond, ◌&&◌, ℤ, pos, nat_abs, ◌+ℤ◌, ◌-ℤ◌, length}
use Rattle.std.proofs.Math.Path.{refl, ap, ap₂}
use Rattle.std.proofs.Common.{sym, ◌∙◌, le_trans, mul-le-mul_right, add-one, length-append}
use mathlib.Core.List.{List, [], ◌∷◌, ◌++◌, map, map-append, append-nil}
use Rattle.std.proofs.Math.Bool.{true, false}
use Rattle.std.proofs.lemmas.Bool.{false≢true}
use Prim.Native.Nat.{ℕ, suc, ◌+◌, ◌-◌, ◌*◌, ◌≤◌, ◌<◌}
use native.Mathlib.Omega.{arith}
use borrow.Author.Tests.{leb-true, leb-false, le-leb, lt-leb}
use Rattle.std.proofs.Math.Dec.{leb}
use Rattle.std.proofs.Math.IntN.{+ℤ_idr}
use Rattle.std.proofs.Math.ListN.{length-map, get_or-append}
use Rattle.std.proofs.Math.Seq.{get_or-append_seam}
use Rattle.model.specs.declared.Sample.{Sample}
use Rattle.model.specs.Numbers.{bit, range, filter, sumℤ}
use Rattle.model.specs.Records.{channel, sample_of, Window}
use Rattle.model.specs.Windows.{sample_at, looked_at, qualifies, qualifying, value_at, values}
use Rattle.slide.specs.Conditions.{qualifies_near}
use Rattle.laws.specs.Lists.{All, all_map, all_filtered, all_mapped, all_at, one, length_one, filter_append, filter_one, filter_cons}
use Rattle.laws.specs.Lists.{filter_same, length_filter, map_same, map_one, range_snoc, range_within, length_range, Rising, rising_range, rising_filter}
use Rattle.laws.specs.Sums.{sum_snoc, sum_tail, sum_within}

-- the samples with one more
abbrev pub more : List Sample → Sample → List Sample
more ss s = ss ++ (s ∷ [])

pub length_more : (ss : List Sample) (s : Sample) → length (more ss s) ≡ suc (length ss)
length_more ss s = length-append ss (s ∷ []) ∙ add-one (length ss)

module _ (ss : List Sample) (s : Sample) where
  pub sample_before : (i : ℕ) → i < length ss → sample_at (more ss s) i ≡ sample_at ss i
  unfolding sample_at
  sample_before i h = get_or-append ss (s ∷ []) (sample_of []) i h

  pub sample_new : sample_at (more ss s) (length ss) ≡ s
  unfolding sample_at
  sample_new = get_or-append_seam ss s [] (sample_of [])

-- the second that goes out of view as one more sample comes, where the window is full, qualified
unfoldable pub leaves : Window → List Sample → Bool
leaves w ss = leb w.width (length ss) && qualifies w ss (length ss - w.width)

-- the new sample qualifies
unfoldable pub enters : Window → List Sample → Sample → Bool
enters w ss s = qualifies w (more ss s) (length ss)

-- the value that goes out of view
abbrev pub leaving : Window → List Sample → ℤ
leaving w ss = value_at w ss (length ss - w.width)

-- the qualifying seconds that stay in view
unfoldable pub staying : Window → List Sample → List ℕ
staying w ss = filter (qualifies w ss) (range (suc (length ss) - w.width) (length ss - (suc (length ss) - w.width)))

unfoldable pub staying_values : Window → List Sample → List ℤ
staying_values w ss = map (value_at w ss) (staying w ss)

-- z where b holds, else nothing to add
abbrev pub addend : Bool → ℤ → ℤ
addend b z = cond b z (pos 0)

module _ (w : Window) (ss : List Sample) where
  abbrev n : ℕ
  n = length ss

  -- the first second that stays in view, and how many do
  abbrev first : ℕ
  first = suc n - w.width

  abbrev left : ℕ
  left = n - first

  pub looked_within : All (λ x. (length ss ≤ x + w.width) × (x < length ss)) (looked_at w (length ss))
  unfolding looked_at
  looked_within = all_map (λ x h. (omega arith, omega arith)) _ (range_within (n - w.width) (n - (n - w.width)))

  pub qualifying_within : All (λ x. (length ss ≤ x + w.width) × (x < length ss)) (qualifying w ss)
  unfolding qualifying
  qualifying_within = all_filtered _ (qualifies w ss) (looked_at w n) looked_within

  pub qualifying_rising : Rising (qualifying w ss)
  unfolding qualifying looked_at
  qualifying_rising = rising_filter (qualifies w ss) _ (rising_range (n - w.width) (n - (n - w.width)))

  pub qualifying_length : length (qualifying w ss) ≤ w.width
  unfolding qualifying looked_at
  qualifying_length =
      let first : ℕ = n - w.width in
      omega (arith, length_filter (qualifies w ss) (range first (n - first)), length_range first (n - first))

  pub length_values : length (values w ss) ≤ w.width
  unfolding values
  length_values = rw length-map qualifying_length

  -- what each sample's value has, each qualifying value has
  pub all_values : (P : ℤ → Type 0) → All (λ s. P (channel w.channel s)) ss → All P (values w ss)
  unfolding values value_at sample_at
  all_values P h = all_mapped P (value_at w ss) (qualifying w ss) (all_map (λ x k. all_at _ (sample_of []) ss x k.1 h) (qualifying w ss) qualifying_within)

  -- the sum is within the width times a bound on each value
  pub sum_bound : (bound : ℕ) → All (λ s. nat_abs (channel w.channel s) ≤ bound) ss → nat_abs (sumℤ (values w ss)) ≤ w.width * bound
  sum_bound bound h = le_trans (sum_within bound (values w ss) (all_values (λ z. nat_abs z ≤ bound) h)) (mul-le-mul_right bound length_values)

  module _ (s : Sample) where
    pub qualifies_before : (i : ℕ) → i < length ss → qualifies w (more ss s) i ≡ qualifies w ss i
    qualifies_before i h = qualifies_near w (more ss s) ss i (λ j l r. sample_before ss s j (omega arith))

    pub value_before : (i : ℕ) → i < length ss → value_at w (more ss s) i ≡ value_at w ss i
    unfolding value_at
    value_before i h = rw (sample_before ss s i h) refl

    pub value_new : value_at w (more ss s) (length ss) ≡ channel w.channel s
    unfolding value_at
    value_new = rw (sample_new ss s) refl

  pub staying_within : All (λ x. (suc (length ss) ≤ x + w.width) × (x < length ss)) (staying w ss)
  unfolding staying
  staying_within = all_filtered _ (qualifies w ss) _ (all_map (λ x h. (omega arith, omega arith)) _ (range_within first left))

  pub leaves_full : leaves w ss ≡ true → w.width ≤ length ss
  unfolding leaves
  leaves_full e = by (leb w.width n) refl e
    where
      by : (b : Bool) → leb w.width n ≡ b → (b && qualifies w ss (n - w.width)) ≡ true → w.width ≤ n
      by true f e = leb-true w.width n f
      by false f e = absurd (false≢true e)

  pub leaves_now : w.width ≤ length ss → leaves w ss ≡ qualifies w ss (length ss - w.width)
  unfolding leaves
  leaves_now h = rw (le-leb w.width n h) refl

  pub leaves_not : length ss < w.width → leaves w ss ≡ false
  unfolding leaves
  leaves_not h = rw (lt-leb w.width n h) refl

  module _ (wide : 0 < w.width) where
    pub qualifying_before : qualifying w ss ≡ one (leaves w ss) (length ss - w.width) ++ staying w ss
    unfolding qualifying looked_at leaves staying range
    qualifying_before = by (leb w.width n) refl
      where
        by : (b : Bool) → leb w.width n ≡ b
            → filter (qualifies w ss) (range (n - w.width) (n - (n - w.width)))
            ≡ one (b && qualifies w ss (n - w.width)) (n - w.width) ++ filter (qualifies w ss) (range first left)
        by true e =
            let h : w.width ≤ n = leb-true w.width n e in
            let a : suc n - w.width ≡ suc (n - w.width) = omega arith in
            let m : n - (n - w.width) ≡ suc (n - suc (n - w.width)) = omega arith in
            rw (a, m) (filter_cons (qualifies w ss) (n - w.width) (range (suc (n - w.width)) (n - suc (n - w.width))))
        by false e =
            let h : n < w.width = leb-false w.width n e in
            let q : n - w.width ≡ suc n - w.width = omega arith in
            rw q refl

    pub qualifying_after : (s : Sample) → qualifying w (more ss s) ≡ staying w ss ++ one (enters w ss s) (length ss)
    unfolding qualifying looked_at staying enters
    qualifying_after s =
        let m : suc n - first ≡ suc left = omega arith in
        let e : first + left ≡ n = omega arith in
        rw (length_more ss s, m, range_snoc first left, e, filter_append, filter_one)
        (ap (λ (l : List ℕ). l ++ one (qualifies w (more ss s) n) n)
        (filter_same (qualifies w (more ss s)) (qualifies w ss) _ (all_map (λ x h. qualifies_before s x (omega arith)) _ (range_within first left))))

    pub values_before : values w ss ≡ one (leaves w ss) (leaving w ss) ++ staying_values w ss
    unfolding values staying_values
    values_before =
        ap (map (value_at w ss)) qualifying_before
        ∙ map-append (value_at w ss) (one (leaves w ss) (n - w.width)) (staying w ss)
        ∙ ap (λ (l : List ℤ). l ++ map (value_at w ss) (staying w ss)) (map_one (value_at w ss) (leaves w ss) (n - w.width))

    pub values_after : (s : Sample) → values w (more ss s) ≡ staying_values w ss ++ one (enters w ss s) (channel w.channel s)
    unfolding values staying_values
    values_after s =
        ap (map (value_at w (more ss s))) (qualifying_after s)
        ∙ map-append (value_at w (more ss s)) (staying w ss) (one (enters w ss s) n)
        ∙ ap₂ (λ (l m : List ℤ). l ++ m)
        (map_same (value_at w (more ss s)) (value_at w ss) (staying w ss) (all_map (λ x h. value_before s x h.1) (staying w ss) staying_within))
        (map_one (value_at w (more ss s)) (enters w ss s) n ∙ ap (one (enters w ss s)) (value_new s))

    -- there is room for one more
    pub staying_room : length (staying w ss) < w.width
    unfolding staying
    staying_room = omega (arith, length_filter (qualifies w ss) (range first left), length_range first left)

    -- rolled on: what leaves is taken away, what enters is added
    pub count_before : length (values w ss) ≡ bit (leaves w ss) + length (staying_values w ss)
    count_before =
        rw values_before
        (length-append (one (leaves w ss) (leaving w ss)) (staying_values w ss)
        ∙ ap (λ (k : ℕ). k + length (staying_values w ss)) (length_one (leaves w ss) (leaving w ss)))

    pub count_after_lem : (s : Sample) → length (values w (more ss s)) ≡ length (staying_values w ss) + bit (enters w ss s)
    count_after_lem s =
        rw (values_after s)
        (length-append (staying_values w ss) (one (enters w ss s) (channel w.channel s))
        ∙ ap (λ (k : ℕ). length (staying_values w ss) + k) (length_one (enters w ss s) (channel w.channel s)))

    pub count_step : (s : Sample) → length (values w (more ss s)) + bit (leaves w ss) ≡ length (values w ss) + bit (enters w ss s)
    count_step s = omega (arith, count_before, count_after_lem s)

    pub sum_staying : sumℤ (staying_values w ss) ≡ sumℤ (values w ss) -ℤ addend (leaves w ss) (leaving w ss)
    sum_staying = rw values_before (by (leaves w ss))
      where
        by : (b : Bool) → sumℤ (staying_values w ss) ≡ sumℤ (one b (leaving w ss) ++ staying_values w ss) -ℤ addend b (leaving w ss)
        by true = sum_tail (leaving w ss) (staying_values w ss)
        by false = sym (+ℤ_idr (sumℤ (staying_values w ss)))

    pub sum_after_lem : (s : Sample) → sumℤ (values w (more ss s)) ≡ sumℤ (staying_values w ss) +ℤ addend (enters w ss s) (channel w.channel s)
    sum_after_lem s = rw (values_after s) (by (enters w ss s))
      where
        by : (b : Bool) → sumℤ (staying_values w ss ++ one b (channel w.channel s)) ≡ sumℤ (staying_values w ss) +ℤ addend b (channel w.channel s)
        by true = sum_snoc (staying_values w ss) (channel w.channel s)
        by false = rw append-nil (sym (+ℤ_idr (sumℤ (staying_values w ss))))

-- before the first sample
pub qualifying_start : (w : Window) → qualifying w [] ≡ []
unfolding qualifying looked_at range filter
qualifying_start w = let e : 0 - (0 - w.width) ≡ 0 = omega arith in rw e refl

pub values_start : (w : Window) → values w [] ≡ []
unfolding values
values_start w = rw (qualifying_start w) refl
