-- What one sample more changes in a window's count, sum and values in order, and the tests that make its arithmetic safe on any bytes.
--     Rollable, Rolling    count, sum and values are within the bounds of any trip; a test for that
--     Rolls                what callers show before a slot's count and sum are changed
--     count_after, sum_after     count and sum rolled on
--     Restocked            the values in order, rolled on
-- Assumes nothing.
use Rattle.std.specs.Prelude.{Option, Some, None, is_some, unwrap_or, option_to_list, Bool, true, false, ◌&&◌, List, ◌++◌, ◌≡◌, refl, ℕ, ◌+◌, ◌-◌, ◌*◌, ◌^◌, ◌≤◌, ◌<◌, leb, ℤ, pos, negsuc, nat_abs, ◌+ℤ◌, ◌-ℤ◌, length}
use Rattle.std.proofs.lemmas.Bool.{false≢true}
use Rattle.std.proofs.Common.{append-nil, ap, ◌∙◌, arith, leb-true, le-leb}
use Rattle.model.specs.Numbers.{bit, withinℤ, minus}
use Rattle.model.specs.Records.{max_windows, max_width, max_channel}
use Rattle.ordered.specs.Kept.{Inserted, Removed, Replaced, kept_enters, kept_leaves, kept_replaced}
use Rattle.cells.specs.Store.{Storable, values_of}
use Rattle.laws.specs.Tests.{both, and_both}
use Rattle.laws.specs.Signed.{within_abs}
use Rattle.slide.specs.Ordered.{ordered}
use Rattle.slots.specs.Layout.{part_len}
use Rattle.rolling.specs.declared.Change.{Change}

-- a value, or 0 where there is none
abbrev pub or_zero : Option ℤ → ℤ
or_zero o = unwrap_or o (pos 0)

-- the values of a change are those of any record's channels
pub record Small (c : Change) : Type 0 where
  pub old : nat_abs (or_zero c.leaves) < 2 ^ 32
  pub new : nat_abs (or_zero c.enters) < 2 ^ 32

-- the most that the values in a window's view sum to: no channel is beyond max_channel
abbrev pub most_sum : ℕ
most_sum = max_width * max_channel

-- a store of m values has what leaves, and room for what enters
pub record Roomy (m : ℕ) (c : Change) : Type 0 where
  pub count : m ≤ max_width
  pub leaves : bit (is_some c.leaves) ≤ m
  pub enters : m + bit (is_some c.enters) ≤ max_width + bit (is_some c.leaves)
  pub new : Storable (or_zero c.enters)

-- count m, sum z and the change are within the bounds that every trip keeps
pub record Rollable (m : ℕ) (z : ℤ) (c : Change) : Type 0 where
  pub room : Roomy m c
  pub sum : nat_abs z ≤ most_sum

-- what a caller shows before slot k's count m and sum z are rolled on
pub record Rolls (p : List ℕ) (k m : ℕ) (z : ℤ) (c : Change) : Type 0 where
  pub size : length p ≡ part_len
  pub slot : k < max_windows
  pub rollable : Rollable m z c
  pub small : Small c

abbrev pub count_after : ℕ → Change → ℕ
count_after m c = m + bit (is_some c.enters) - bit (is_some c.leaves)

abbrev pub sum_after : ℤ → Change → ℤ
sum_after z c = (z -ℤ or_zero c.leaves) +ℤ or_zero c.enters

-- what a test of any bytes tells
pub record Rolling (m : ℕ) (z : ℤ) (c : Change) (r : Bool) : Type 0 where
  pub sound : r ≡ true → Rollable m z c
  pub complete : Rollable m z c → r ≡ true

pub rolling_beyond : (m : ℕ) (z : ℤ) (c : Change) → max_width < m → Rolling m z c false
rolling_beyond m z c h = record { sound = λ e. absurd (false≢true e); complete = λ r. absurd (omega (arith, r.room.count)) }

sum_within : (z : ℤ) → nat_abs z ≤ most_sum → withinℤ (minus most_sum) (pos most_sum) z ≡ true
unfolding withinℤ
sum_within (pos a) h = le-leb a most_sum h
sum_within (negsuc a) h = and_both (le-leb a (most_sum - 1) (omega arith)) refl

-- the largest value that a cell of a store holds; the least is its complement
abbrev pub most_cell : ℕ
most_cell = 2 ^ 31 - 1

within_storable : (z : ℤ) → withinℤ (negsuc most_cell) (pos most_cell) z ≡ true → Storable z
unfolding withinℤ
within_storable (pos a) e = omega (arith, leb-true a most_cell e)
within_storable (negsuc a) e = omega (arith, leb-true a most_cell (both _ _ e).0)

storable_within : (z : ℤ) → Storable z → withinℤ (negsuc most_cell) (pos most_cell) z ≡ true
unfolding withinℤ
storable_within (pos a) h = le-leb a most_cell (omega arith)
storable_within (negsuc a) h = and_both (le-leb a most_cell (omega arith)) refl

-- the tests, in the code's order
abbrev pub count_kept : ℕ → Change → Bool
count_kept m c = leb (bit (is_some c.leaves)) m && leb (m + bit (is_some c.enters)) (max_width + bit (is_some c.leaves))

abbrev pub sum_kept : ℤ → Bool
sum_kept z = withinℤ (minus most_sum) (pos most_sum) z

abbrev pub new_kept : Change → Bool
new_kept c = withinℤ (negsuc most_cell) (pos most_cell) (or_zero c.enters)

pub rolling_tested : (m : ℕ) (z : ℤ) (c : Change) → m ≤ max_width → Rolling m z c (count_kept m c && (sum_kept z && new_kept c))
rolling_tested m z c h = record {
  sound = λ e.
      let t = both (count_kept m c) (sum_kept z && new_kept c) e in
      let u = both (sum_kept z) (new_kept c) t.1 in
      let v = both (leb (bit (is_some c.leaves)) m) (leb (m + bit (is_some c.enters)) (max_width + bit (is_some c.leaves))) t.0 in
      record {
        room = record { count = h; leaves = leb-true _ _ v.0; enters = leb-true _ _ v.1; new = within_storable (or_zero c.enters) u.1 };
        sum = within_abs z most_sum most_sum (omega arith) u.0;
      };
  complete = λ r.
      and_both
      (and_both (le-leb (bit (is_some c.leaves)) m r.room.leaves) (le-leb (m + bit (is_some c.enters)) (max_width + bit (is_some c.leaves)) r.room.enters))
      (and_both (sum_within z r.sum) (storable_within (or_zero c.enters) r.room.new));
}

-- the store of values in order: m values in s, of which the old one goes, and the new one comes
pub record Restocked (m : ℕ) (c : Change) (s t : List ℕ) : Type 0 where
  pub values : (zs : List ℤ) → values_of s m ≡ ordered (option_to_list c.leaves ++ zs) → values_of t (count_after m c) ≡ ordered (zs ++ option_to_list c.enters)

module _ (m : ℕ) (c : Change) (s : List ℕ) where
  pub unchanged : c.leaves ≡ None → c.enters ≡ None → Restocked m c s s
  unchanged l e = record { values = λ zs h. rw (l, e, append-nil) (ap (values_of s) (omega arith) ∙ rw l at h) }

  pub one_leaves : (t : List ℕ) (old : ℤ) → c.leaves ≡ Some old → c.enters ≡ None → Removed old m s t → Restocked m c s t
  one_leaves t old l e f = record { values = λ zs h. rw (l, e, append-nil) (ap (values_of t) (omega arith) ∙ kept_leaves s t m old zs (rw l at h) f) }

  pub one_enters : (t : List ℕ) (new : ℤ) → c.leaves ≡ None → c.enters ≡ Some new → Inserted new m s t → Restocked m c s t
  one_enters t new l e f = record { values = λ zs h. rw (l, e) (ap (values_of t) (omega arith) ∙ kept_enters s t m new zs (rw l at h) f) }

  pub one_replaced : (t : List ℕ) (old new : ℤ) → c.leaves ≡ Some old → c.enters ≡ Some new → Replaced old new m s t → Restocked m c s t
  one_replaced t old new l e f = record { values = λ zs h. rw (l, e) (ap (values_of t) (omega arith) ∙ kept_replaced s t m old zs (rw l at h) new f) }
