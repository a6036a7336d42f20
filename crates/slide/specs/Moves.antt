-- The move count as one more sample comes. The count and the held entries together are twice the entries; no difference is taken.
--     entries_step           one more entry where the window keeps entries and the sample qualifies
--     Counted                so many moves were made on the way to these samples
--     counted_first, counted_next, counted_last      one window after another: the first k have seen the new sample
--     kept_moves, unkept_moves                       one window's moves
--     counted_moves          so the count is the model's, exactly
--     moves_bound            and at most twice the windows times the samples
-- Assumes nothing.
use Rattle.std.specs.Prelude.{◌≡◌, Bool, cond, ◌&&◌, ℕ, ◌+◌, ◌-◌, ◌*◌, ◌≤◌, ◌<◌, get_or}
use Rattle.std.proofs.Math.Path.{refl}
use Rattle.std.proofs.Common.{sym, ap, ap₂, ◌∙◌, arith, length-append}
use mathlib.Core.List.{List, [], ◌++◌}
use Rattle.std.proofs.Math.Bool.{true, false}
use Rattle.std.proofs.Math.Nat.{zero-add}
use Rattle.std.proofs.Math.ListN.{length}
use Rattle.model.specs.Records.{Window}
use Rattle.model.specs.declared.Sample.{Sample}
use Rattle.model.specs.Numbers.{bit, range, filter, total}
use Rattle.model.specs.Windows.{qualifies, qualifying, looked_at, keeps_entries, entries, held, moves}
use Rattle.laws.specs.Lists.{all_map, length_one, filter_append, filter_one, filter_same, length_filter, length_range, range_snoc, range_append}
use Rattle.laws.specs.Lists.{range_within, total_zero, total_le, total_bound, midway, midway_start, midway_end, midway_step}
use Rattle.slide.specs.Step.{more, length_more, enters, qualifies_before}
use Rattle.slide.specs.Held.{held_qualifying, held_unkept, held_start}

-- how many entries the new sample makes in a window: 1 or 0
abbrev pub new_entry : Window → List Sample → Sample → ℕ
new_entry w ss s = bit (keeps_entries w.function && enters w ss s)

abbrev pub held_in : List Sample → Window → ℕ
held_in ss w = length (held w ss)

abbrev pub entries_in : List Sample → Window → ℕ
entries_in ss w = length (entries w ss)

pub entries_step : (w : Window) (ss : List Sample) (s : Sample) → length (entries w (more ss s)) ≡ length (entries w ss) + new_entry w ss s
unfolding entries
entries_step w ss s = by (keeps_entries w.function)
  where
    by : (b : Bool)
        → length (cond b (filter (qualifies w (more ss s)) (range 0 (length (more ss s)))) [])
        ≡ length (cond b (filter (qualifies w ss) (range 0 (length ss))) []) + bit (b && enters w ss s)
    by true =
        rw (length_more ss s, range_snoc 0 (length ss), zero-add, filter_append, length-append, filter_one)
        (ap₂ ◌+◌
        (ap length (filter_same (qualifies w (more ss s)) (qualifies w ss) (range 0 (length ss))
        (all_map (λ x h. qualifies_before w ss s x (omega arith)) _ (range_within 0 (length ss)))))
        (unfold enters in length_one (qualifies w (more ss s) (length ss)) (length ss)))
    by false = refl

pub new_entry_kept : (w : Window) (ss : List Sample) (s : Sample) → keeps_entries w.function ≡ true → new_entry w ss s ≡ bit (enters w ss s)
new_entry_kept w ss s keeps = rw keeps refl

-- one window's moves, in the form that `counted_next` asks: a window that keeps entries, by its list
pub kept_moves : (w : Window) (ss : List Sample) (s : Sample) (l l' : List ℕ) (m m' : ℕ)
    → keeps_entries w.function ≡ true → l ≡ held w ss → l' ≡ held w (more ss s) → m' + length l' ≡ m + length l + 2 * bit (enters w ss s)
    → m' + held_in (more ss s) w ≡ m + held_in ss w + 2 * new_entry w ss s
kept_moves w ss s l l' m m' keeps e f h = omega (arith, ap length e, ap length f, new_entry_kept w ss s keeps)

-- and one that keeps none
pub unkept_moves : (w : Window) (ss : List Sample) (s : Sample) (m : ℕ) → keeps_entries w.function ≡ false
    → m + held_in (more ss s) w ≡ m + held_in ss w + 2 * new_entry w ss s
unkept_moves w ss s m e = rw (held_unkept w ss e, held_unkept w (more ss s) e, e) (omega arith)

-- what is held is among the entries
pub held_entries : (w : Window) (ss : List Sample) → length (held w ss) ≤ length (entries w ss)
unfolding entries qualifying
held_entries w ss = by (keeps_entries w.function) refl
  where
    by : (b : Bool) → keeps_entries w.function ≡ b → length (held w ss) ≤ length (cond b (filter (qualifies w ss) (range 0 (length ss))) [])
    by true e =
        let a : length ss ≡ length ss - w.width + (length ss - (length ss - w.width)) = omega arith in
        let split : range 0 (length ss) ≡ range 0 (length ss - w.width) ++ looked_at w (length ss) =
        ap (range 0) a ∙ range_append 0 (length ss - w.width) (length ss - (length ss - w.width)) ∙ unfold looked_at in rw zero-add refl in
        rw (split, filter_append, length-append) (omega (arith, held_qualifying w ss))
    by false e = rw (held_unkept w ss e) (omega arith)

-- m moves on the way to these samples
abbrev pub Counted : ℕ → List Window → List Sample → Type 0
Counted m ws ss = m + total (held_in ss) ws ≡ 2 * total (entries_in ss) ws

pub counted_moves : (m : ℕ) (ws : List Window) (ss : List Sample) → Counted m ws ss → m ≡ moves ws ss
unfolding moves
counted_moves m ws ss e = omega arith

-- the model's own count: no difference is cut off at zero
pub moves_counted : (ws : List Window) (ss : List Sample) → Counted (moves ws ss) ws ss
unfolding moves
moves_counted ws ss = omega (arith, total_le (held_in ss) (entries_in ss) (λ w. held_entries w ss) ws)

-- a bound on the count
pub length_entries : (w : Window) (ss : List Sample) → length (entries w ss) ≤ length ss
unfolding entries
length_entries w ss = by (keeps_entries w.function)
  where
    by : (b : Bool) → length (cond b (filter (qualifies w ss) (range 0 (length ss))) []) ≤ length ss
    by true = omega (arith, length_filter (qualifies w ss) (range 0 (length ss)), length_range 0 (length ss))
    by false = omega arith

pub moves_bound : (ws : List Window) (ss : List Sample) → moves ws ss ≤ 2 * (length ws * length ss)
unfolding moves
moves_bound ws ss = omega (arith, total_bound (entries_in ss) (length ss) (λ w. length_entries w ss) ws)

-- m moves, where the first k windows have seen the new sample
abbrev pub CountedTo : ℕ → ℕ → List Window → List Sample → Sample → Type 0
CountedTo m k ws ss s = m + midway k (held_in (more ss s)) (held_in ss) ws ≡ 2 * midway k (entries_in (more ss s)) (entries_in ss) ws

module _ (ws : List Window) (ss : List Sample) (s : Sample) where
  pub counted_first : (m : ℕ) → Counted m ws ss → CountedTo m 0 ws ss s
  counted_first m e = omega (arith, midway_start (held_in (more ss s)) (held_in ss) ws, midway_start (entries_in (more ss s)) (entries_in ss) ws)

  -- one window's moves: each removal leaves the count and the held together as they were, and the append makes them two more
  pub counted_next : (d : Window) (k m m' : ℕ) → k < length ws → CountedTo m k ws ss s
      → m' + held_in (more ss s) (get_or ws k d) ≡ m + held_in ss (get_or ws k d) + 2 * new_entry (get_or ws k d) ss s
      → CountedTo m' (k + 1) ws ss s
  counted_next d k m m' h e f =
      omega (
        arith,
        midway_step (held_in (more ss s)) (held_in ss) d k ws h,
        midway_step (entries_in (more ss s)) (entries_in ss) d k ws h,
        entries_step (get_or ws k d) ss s,
      )

  pub counted_last : (m : ℕ) → CountedTo m (length ws) ws ss s → Counted m ws (more ss s)
  counted_last m e = omega (arith, midway_end (held_in (more ss s)) (held_in ss) ws, midway_end (entries_in (more ss s)) (entries_in ss) ws)

-- before the first sample
pub counted_start : (ws : List Window) → Counted 0 ws []
counted_start ws = rw (total_zero (held_in []) (λ w. ap length (held_start w)) ws, total_zero (entries_in []) entries_none ws) refl
  where
    entries_none : (w : Window) → entries_in [] w ≡ 0
    entries_none w = unfold entries range filter in by (keeps_entries w.function)
      where
        by : (b : Bool) → length (cond {A = List ℕ} b [] []) ≡ 0
        by true = refl
        by false = refl

pub moves_start : (ws : List Window) → moves ws [] ≡ 0
moves_start ws = sym (counted_moves 0 ws [] (counted_start ws))
