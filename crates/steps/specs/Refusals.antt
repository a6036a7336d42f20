-- Each refusal of each call, in the order of document 01, as a law on the area's parts: what the tests before it found, and the test that refuses.
-- Assumes nothing.
use Rattle.std.specs.Prelude.{true, false, cond, not, eqb, List, ◌∷◌, ◌≡◌, ℕ, ℤ, ◌≤◌, ◌<◌, pos, length, ⊤, Some, None, Result, Ok, Err}
use Rattle.std.proofs.Math.Path.{refl, sym}
use Rattle.std.proofs.Common.{◌∙◌, arith}
use borrow.Author.Tests.{ne_eqb, eq-eqb, le-leb, lt-leb, lt-ltb, le-ltb}
use Rattle.model.specs.declared.Refusal.{Refusal}
use Rattle.model.specs.declared.Refusal.TheVariants.{RecordLength, TripClosed, AreaDamaged}
use Rattle.model.specs.Answers.{refusal_number}
use Rattle.model.specs.Numbers.{le_at}
use Rattle.model.specs.Records.{record_length, max_samples, max_windows, sample_of, in_range, window_of, layout_kept}
use Rattle.model.specs.Windows.{reading}
use Rattle.model.specs.Refusals as refusals
use Rattle.model.specs.Refusals.{◌if◌, unless, sample_refusals, declare_refusals, close_refusals, read_refusals}
use Rattle.model.specs.Trip.{Trip, Call, Outcome, clear, declare, sample, close, closed, read, verdict, record_of, number, refused, refuse, accept, outcome, move_count, with_sample, with_window, window_at, told}
use Rattle.area.specs.Layout.{area_len, parts_of, sample_count, closed_mark, window_count, format_mark, format_number}
use Rattle.area.specs.Stands.{Stands}
use Rattle.taking.specs.Effects.{number_fine}
use Rattle.steps.specs.Step.{WrongRecord, Step}
use Rattle.steps.specs.Laws.{unlent, whole_lent, later, short_step, damaged_step, unmarked_step, refused_step, done_step, marked, unmarked}

-- the calls that are not clear
pub declare_other : {r : List ℕ} → declare r ≡ clear → ⊥
declare_other e = let z : ◌≡◌ {A = ℕ} 0 1 = cc in omega arith

pub sample_other : {r : List ℕ} → sample r ≡ clear → ⊥
sample_other e = let z : ◌≡◌ {A = ℕ} 0 1 = cc in omega arith

pub close_other : close ≡ clear → ⊥
close_other e = let z : ◌≡◌ {A = ℕ} 0 1 = cc in omega arith

pub read_other : {k : ℕ} → read k ≡ clear → ⊥
read_other e = let z : ◌≡◌ {A = ℕ} 0 1 = cc in omega arith

pub verdict_other : verdict ≡ clear → ⊥
verdict_other e = let z : ◌≡◌ {A = ℕ} 0 1 = cc in omega arith

-- A call that lends a record: the refusals that come first, and what is left to test.

-- the call lends the record r, and is refused for its length, then on a closed trip
pub record Lending (c : Call) (r : List ℕ) : Type 0 where
  pub other : c ≡ clear → ⊥
  pub lent : record_of c ≡ Some r
  pub short : (t : Trip) → (length r ≡ record_length → ⊥) → outcome t c ≡ refuse 1
  pub shut : (t : Trip) → length r ≡ record_length → t.closed ≡ true → outcome t c ≡ refuse 2

-- a call whose refusals begin with these two
lends : (c : Call) (r : List ℕ) (others : Trip → List refusals.Refusal) (taken : Trip → Outcome) → (c ≡ clear → ⊥) → record_of c ≡ Some r
    → ((t : Trip) → outcome t c ≡ unless refuse ((1 if not (eqb (length r) record_length)) ∷ (2 if t.closed) ∷ others t) (taken t)) → Lending c r
unfolding unless
lends c r others taken other lent begins = record {
  other = other;
  lent = lent;
  short = λ t n. begins t ∙ simp (ne_eqb (length r) record_length n);
  shut = λ t l e. begins t ∙ simp (eq-eqb (length r) record_length l, e);
}

pub sample_lending : (r : List ℕ) → Lending (sample r) r
unfolding record_of outcome sample_refusals
sample_lending r = lends (sample r) r _ _ sample_other refl (λ t. refl)

pub declare_lending : (r : List ℕ) → Lending (declare r) r
unfolding record_of outcome declare_refusals
declare_lending r = lends (declare r) r _ _ declare_other refl (λ t. refl)

-- the area may take the record: neither 11, 1, the lack of the format mark nor 2 refuses it
pub record Admits (s r : List ℕ) : Type 0 where
  pub size : length s ≡ area_len
  pub whole : length r ≡ record_length
  pub format : format_mark (parts_of s) ≡ format_number
  pub free : closed_mark (parts_of s) ≡ 0

-- what is tested first refuses with k, and that of any call that lends the record r; the area is left as it was
abbrev pub Rejects : (s r : List ℕ) → Refusal → Type 0
Rejects s r k = (c : Call) → Lending c r → Step c s (refused (refusal_number k)) s

-- the call lends no record of another length
lent_whole : {r : List ℕ} → length r ≡ record_length → (c : Call) → Lending c r → WrongRecord c → ⊥
lent_whole {r} whole c l = whole_lent c r l.lent whole

module _ {s r : List ℕ} (size : length s ≡ area_len) where
  pub lent_short : (length r ≡ record_length → ⊥) → Rejects s r RecordLength
  lent_short n c l = short_step c l.other s size (record { bytes = r; lent = l.lent; other = n }) (λ t st. l.short t n)

  module _ (whole : length r ≡ record_length) where
    pub lent_unmarked : (format_mark (parts_of s) ≡ format_number → ⊥) → Rejects s r AreaDamaged
    lent_unmarked u c l = unmarked_step c l.other s size (lent_whole whole c l) u

    -- the area is found to stand for no trip
    pub lent_damaged : ((t : Trip) → Stands s t → ⊥) → Rejects s r AreaDamaged
    lent_damaged g c l = damaged_step c l.other s size (lent_whole whole c l) g

    pub lent_closed : format_mark (parts_of s) ≡ format_number → (closed_mark (parts_of s) ≡ 0 → ⊥) → Rejects s r TripClosed
    lent_closed f m c l =
        refused_step c l.other s size (lent_whole whole c l) f 2 refl (λ t st. l.shut t whole (marked t.closed (λ z. m (st.holds.mark ∙ z))))

module _ {s r : List ℕ} (a : Admits s r) where
  -- the call lends no record of another length, and the trip that the area stands for is open
  sample_whole : WrongRecord (sample r) → ⊥
  sample_whole = lent_whole a.whole (sample r) (sample_lending r)

  declare_whole : WrongRecord (declare r) → ⊥
  declare_whole = lent_whole a.whole (declare r) (declare_lending r)

  unclosed : (t : Trip) → Stands s t → t.closed ≡ false
  unclosed t st = unmarked t.closed (sym st.holds.mark ∙ a.free)

  -- a refusal, an answer, and the refusal of a damaged area
  sample_refused : (k : ℕ) → later k ≡ true → ((t : Trip) → Stands s t → outcome t (sample r) ≡ refuse k) → Step (sample r) s (refused k) s
  sample_refused k l g = refused_step (sample r) sample_other s a.size sample_whole a.format k l g

  declare_refused : (k : ℕ) → later k ≡ true → ((t : Trip) → Stands s t → outcome t (declare r) ≡ refuse k) → Step (declare r) s (refused k) s
  declare_refused k l g = refused_step (declare r) declare_other s a.size declare_whole a.format k l g

  pub sample_answered : {s' : List ℕ} (z : ℤ) → ((t : Trip) → Stands s t → (t' : Trip) × (outcome t (sample r) ≡ accept (number z) t') × Stands s' t') → Step (sample r) s (number z) s'
  sample_answered z g = done_step (sample r) sample_other s a.size sample_whole a.format (number z) (number_fine z) g

  pub declare_answered : {s' : List ℕ} (z : ℤ) → ((t : Trip) → Stands s t → (t' : Trip) × (outcome t (declare r) ≡ accept (number z) t') × Stands s' t') → Step (declare r) s (number z) s'
  declare_answered z g = done_step (declare r) declare_other s a.size declare_whole a.format (number z) (number_fine z) g

  pub sample_full : max_samples ≤ sample_count (parts_of s) → Step (sample r) s (refused 5) s
  unfolding outcome unless sample_refusals
  sample_full f =
      sample_refused 5 refl
      (λ t st. simp (eq-eqb (length r) record_length a.whole, unclosed t st, le-leb max_samples (length t.samples) (omega (arith, st.holds.samples))))

  module _ (room : sample_count (parts_of s) < max_samples) where
    pub sample_turn : (le_at 2 r 0 ≡ sample_count (parts_of s) → ⊥) → Step (sample r) s (refused 3) s
    unfolding outcome unless sample_refusals sample_of
    sample_turn n =
        sample_refused 3 refl
        (λ t st. simp (
          eq-eqb (length r) record_length a.whole,
          unclosed t st,
          lt-leb max_samples (length t.samples) (omega (arith, st.holds.samples)),
          ne_eqb (le_at 2 r 0) (length t.samples) (λ e. n (e ∙ sym st.holds.samples)),
        ))

    module _ (turn : le_at 2 r 0 ≡ sample_count (parts_of s)) where
      -- what is left to test of a sample whose turn it is, on a trip that the area stands for
      pub sample_left : (t : Trip) → Stands s t
          → outcome t (sample r) ≡ cond (not (in_range (sample_of r))) (refuse 4) (accept (number (pos (move_count (with_sample t (sample_of r))))) (with_sample t (sample_of r)))
      unfolding outcome unless sample_refusals sample_of
      sample_left t st = simp (
        eq-eqb (length r) record_length a.whole,
        unclosed t st,
        lt-leb max_samples (length t.samples) (omega (arith, st.holds.samples)),
        eq-eqb (le_at 2 r 0) (length t.samples) (turn ∙ st.holds.samples),
      )

      pub sample_range : in_range (sample_of r) ≡ false → Step (sample r) s (refused 4) s
      sample_range g = sample_refused 4 refl (λ t st. rw (sample_left t st, g))

  pub declare_late : 0 < sample_count (parts_of s) → Step (declare r) s (refused 7) s
  unfolding outcome unless declare_refusals
  declare_late f =
      declare_refused 7 refl
      (λ t st. simp (eq-eqb (length r) record_length a.whole, unclosed t st, lt-ltb 0 (length t.samples) (omega (arith, st.holds.samples))))

  module _ (early : sample_count (parts_of s) ≡ 0) where
    pub declare_full : max_windows ≤ window_count (parts_of s) → Step (declare r) s (refused 8) s
    unfolding outcome unless declare_refusals
    declare_full f =
        declare_refused 8 refl
        (λ t st. simp (
          eq-eqb (length r) record_length a.whole,
          unclosed t st,
          le-ltb 0 (length t.samples) (omega (arith, st.holds.samples)),
          le-leb max_windows (length t.windows) (omega (arith, st.holds.windows)),
        ))

    module _ (room : window_count (parts_of s) < max_windows) where
      -- what is left to test of a window record, where there is room for it
      pub declare_left : (t : Trip) → Stands s t
          → outcome t (declare r) ≡ cond (not (layout_kept r)) (refuse 6) (accept (number (pos (length t.windows))) (with_window t (window_of r)))
      unfolding outcome unless declare_refusals
      declare_left t st = simp (
        eq-eqb (length r) record_length a.whole,
        unclosed t st,
        le-ltb 0 (length t.samples) (omega (arith, st.holds.samples)),
        lt-leb max_windows (length t.windows) (omega (arith, st.holds.windows)),
      )

      pub declare_layout : layout_kept r ≡ false → Step (declare r) s (refused 6) s
      declare_layout g = declare_refused 6 refl (λ t st. rw (declare_left t st, g))

-- A call that lends no record.

pub record Unlending (c : Call) : Type 0 where
  pub other : c ≡ clear → ⊥
  pub unlent : record_of c ≡ None

pub close_unlending : Unlending close
unfolding record_of
close_unlending = record { other = close_other; unlent = refl }

pub read_unlending : (k : ℕ) → Unlending (read k)
unfolding record_of
read_unlending k = record { other = read_other; unlent = refl }

pub verdict_unlending : Unlending verdict
unfolding record_of
verdict_unlending = record { other = verdict_other; unlent = refl }

-- the area has its length and the format mark
pub record Marked (s : List ℕ) : Type 0 where
  pub size : length s ≡ area_len
  pub format : format_mark (parts_of s) ≡ format_number

-- what is tested first, of any call but clear that lends no record: that, or the call is refused
abbrev pub Recognition : List ℕ → Result ⊤ Refusal → Type 0
Recognition s (Ok u) = Marked s
Recognition s (Err k) = (c : Call) → Unlending c → Step c s (refused (refusal_number k)) s

pub unlent_unmarked : {s : List ℕ} → length s ≡ area_len → (format_mark (parts_of s) ≡ format_number → ⊥) → Recognition s (Err AreaDamaged)
unlent_unmarked {s} size u c l = unmarked_step c l.other s size (unlent c l.unlent) u

-- the area is found to stand for no trip
pub unlent_damaged : {s : List ℕ} → length s ≡ area_len → ((t : Trip) → Stands s t → ⊥) → Recognition s (Err AreaDamaged)
unlent_damaged {s} size g c l = damaged_step c l.other s size (unlent c l.unlent) g

module _ {s : List ℕ} (m : Marked s) where
  pub close_closed : (closed_mark (parts_of s) ≡ 0 → ⊥) → Step close s (refused 2) s
  unfolding outcome unless close_refusals
  close_closed n =
      refused_step close close_other s m.size (unlent close close_unlending.unlent) m.format 2 refl
      (λ t st. simp (marked t.closed (λ z. n (st.holds.mark ∙ z))))

  pub read_none : (k : ℕ) → window_count (parts_of s) ≤ k → Step (read k) s (refused 9) s
  unfolding outcome unless read_refusals
  read_none k h =
      refused_step (read k) read_other s m.size (unlent (read k) (read_unlending k).unlent) m.format 9 refl
      (λ t st. simp (le-leb (length t.windows) k (omega (arith, st.holds.windows))))

-- where no refusal is given: the close of an open trip, and the read of a window that is there
pub close_left : {s : List ℕ} → closed_mark (parts_of s) ≡ 0 → (t : Trip) → Stands s t → outcome t close ≡ accept (number (pos 0)) (closed t)
unfolding outcome unless close_refusals
close_left free t st = simp (unmarked t.closed (sym st.holds.mark ∙ free))

pub read_left : {s : List ℕ} (k : ℕ) → k < window_count (parts_of s) → (t : Trip) → Stands s t → outcome t (read k) ≡ told t (reading (window_at t k) t.samples)
unfolding outcome unless read_refusals
read_left k h t st = simp (lt-leb (length t.windows) k (omega (arith, st.holds.windows)))
