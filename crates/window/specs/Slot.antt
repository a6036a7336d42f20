-- One window's slot as one more sample comes: what a slot stands for before, what `turn` does to its bytes, and what it stands for after.
--     Before, After, Turned    before and after a turn; what a turn ensures
--     Changes                  what `read_change` reads of a slot and the ring
--     Slides, slides           the change that code reads off the ring is the window's
--     before_fit, before_rollable      no test of `turn` fails where the slot stands
--     Kept, kept_plain, kept_list, kept_full, kept_values      the list and the store, one law for each kind of function
--     Fillable, Refilled       before and after the store of values is changed
--     turned, turned_unfit, turned_unrollable      one law for each return of `turn`
-- Assumes nothing.
use Rattle.std.specs.Bool.{then_some}
use Rattle.std.specs.Prelude.{Option, None, is_some, option_to_list, Bool, ℕ, zero, suc, ◌+◌, ◌-◌, ◌*◌, ◌^◌, ◌≤◌, ◌<◌, leb, ℤ, pos, negsuc, nat_abs, get_or, take, drop}
use Rattle.std.proofs.Math.Bool.{true, false}
use Rattle.std.proofs.lemmas.Bool.{false≢true}
use mathlib.Core.List.{List, ◌++◌}
use Rattle.std.proofs.Math.Path.{◌≡◌, refl, sym, ap}
use Rattle.std.proofs.Common.{ap₂, ◌∙◌, leb-true}
use Rattle.std.proofs.Math.Decide.{dec_lt}
use native.Mathlib.Omega.{arith}
use Rattle.std.proofs.Math.ListN.{length}
use Rattle.field.specs.Part.{part, put, part_length, part_part, part_other, part_same}
use Rattle.model.specs.Numbers.{le_at, bit, sumℤ, within}
use Rattle.model.specs.Records.{max_windows, max_width, max_channel, sample_of, in_range, channel, functions, window_of, fields_kept, layout_kept, Window}
use Rattle.model.specs.Windows.{sample_at, qualifies, value_at, values, held, keeps_entries, displaces}
use Rattle.model.specs.declared.Function.TheVariants.{Count, Percentile}
use Rattle.model.specs.declared.Sample.{Sample}
use Rattle.cells.specs.Store.{Storable, values_of}
use Rattle.laws.specs.Tests.{Each, all_each, both}
use Rattle.record.specs.Ranges.{channel_small, EachInRange}
use Rattle.slide.specs.Conditions.{qualifies_near}
use Rattle.slide.specs.Held.{stepped, held_unkept, held_length}
use Rattle.slide.proofs.Held.{held_stepped, aged_length}
use Rattle.slide.proofs.Step.{sum_step}
use Rattle.laws.specs.Lists.{all_map, one}
use Rattle.slide.specs.Moves.{held_in, new_entry, kept_moves, unkept_moves}
use Rattle.slide.specs.Ordered.{ordered}
use Rattle.slide.specs.Step.{more, leaves, leaves_now, leaves_not, enters, leaving, staying_values, values_before, values_after, count_before}
use Rattle.slide.specs.Step.{count_step, length_values, sum_bound, qualifies_before, value_before, value_new, addend}
use Rattle.slide.specs.Undisplaced.{aged}
use Rattle.slots.specs.Effects.{Around, le_around, record_around, around_in, Beside, beside_same, beside_then, Written, written, Totalled}
use Rattle.slots.specs.Layout.{part_len, ring_seconds, slots_place, slot_len, slot_of, slot_length, count_place, totals_len, first_place, ends_len}
use Rattle.slots.specs.Layout.{number_place, store_place, store_len, list_len, list_capacity, record_of, moves_of, code_in, width_in, count_in, sum_in}
use Rattle.slots.specs.Layout.{store_in, record_in, window_in, first_of, number_of}
use Rattle.slots.specs.Layout.{ring_samples, ring_sample, value_in, qualifies_in, window_function, window_width, value_window}
use Rattle.lists.specs.Lists.{list_of, number_length, list_none, list_around, Fit, Fitness}
use Rattle.list_steps.specs.declared.Extreme.{Extreme}
use Rattle.list_steps.specs.declared.Extreme.TheVariants.{Smallest, Largest}
use Rattle.list_steps.specs.Steps.{extreme_function, extreme_code, displaces_in, ListStepped}
use Rattle.rolling.specs.Change.{or_zero, Small, Roomy, Rollable, Rolling, count_after, sum_after, Restocked}
use Rattle.rolling.specs.declared.Change.{Change}
use Rattle.window.specs.Stand.{SlotStands}

-- slot k stands for window w after the samples ss, and the ring has the sample x that comes
pub record Before (w : Window) (ss : List Sample) (x : Sample) (k n : ℕ) (p : List ℕ) : Type 0 where
  pub size : length p ≡ part_len
  pub slot : k < max_windows
  pub second : n ≡ length ss
  pub ranges : EachInRange ss
  pub range : in_range x ≡ true
  pub ring : (i : ℕ) → i ≤ length ss → length ss < i + ring_seconds → sample_of (record_of p i) ≡ sample_at (more ss x) i
  pub stands : SlotStands w ss (slot_of p k)
  pub moves : moves_of p ≤ 2 ^ 62

-- slot k stands for window w with the sample x, and the moves made are counted
pub record After (w : Window) (ss : List Sample) (x : Sample) (k : ℕ) (p q : List ℕ) : Type 0 where
  pub stands : SlotStands w (more ss x) (slot_of q k)
  pub moves : moves_of q + held_in (more ss x) w ≡ moves_of p + held_in ss w + 2 * new_entry w ss x

-- one window's turn as second n comes, on any bytes
pub record Turned (k n : ℕ) (p q : List ℕ) : Type 0 where
  pub beside : Beside k p q
  pub on : (w : Window) (ss : List Sample) (x : Sample) → Before w ss x k n p → After w ss x k p q

-- the value that slot k's window reads of a second's record in the ring, where that second qualifies by the ring
abbrev pub qualifying_value : List ℕ → ℕ → ℕ → Option ℤ
qualifying_value p k s = then_some (qualifies_in p k s) (value_in p k s)

-- what leaves and what enters as second n comes, of whose record the ring has n's already
pub record Changes (p : List ℕ) (k n : ℕ) (c : Change) : Type 0 where
  pub full : width_in (slot_of p k) ≤ n → c.leaves ≡ qualifying_value p k (n - width_in (slot_of p k))
  pub filling : n < width_in (slot_of p k) → c.leaves ≡ None
  pub enters : c.enters ≡ qualifying_value p k n
  pub small : Small c

-- the change is the window's
pub record Slides (w : Window) (ss : List Sample) (x : Sample) (c : Change) : Type 0 where
  pub leaves : c.leaves ≡ then_some (leaves w ss) (leaving w ss)
  pub enters : c.enters ≡ then_some (enters w ss x) (channel w.channel x)

-- of a value that is there where t holds: whether it is there, the number that it adds, and the list of it
option_is : (t : Bool) (z : ℤ) → (is_some (then_some t z) ≡ t) × (or_zero (then_some t z) ≡ addend t z) × (option_to_list (then_some t z) ≡ one t z)
option_is true z = (refl, refl, refl)
option_is false z = (refl, refl, refl)

-- no more than the value, which a cell holds
storable_is : (t : Bool) (z : ℤ) → Storable z → Storable (or_zero (then_some t z))
storable_is true z h = h
storable_is false z h = omega arith

stepped_is : (t : Bool) (z : ℤ) (w n : ℕ) (d : ℤ → ℕ → Bool) (l : List ℕ)
    → stepped w n (is_some (then_some t z)) (d (or_zero (then_some t z))) l ≡ stepped w n t (d z) l
unfolding stepped
stepped_is true z w n d l = refl
stepped_is false z w n d l = refl

layout_fields : (r : List ℕ) → layout_kept r ≡ true → fields_kept r ≡ true
unfolding layout_kept
layout_fields r e = (both (leb (le_at 1 r 0) 5) (fields_kept r) e).1

-- a window record that keeps the layout is 1 to max_width wide
pub layout_width : (r : List ℕ) → layout_kept r ≡ true → (0 < (window_of r).width) × ((window_of r).width ≤ max_width)
unfolding fields_kept Each window_of within
layout_width r e =
    let h = both _ _ (all_each _ (layout_fields r e)).1.1.1.0 in
    (leb-true 1 (le_at 2 r 4) h.0, leb-true (le_at 2 r 4) max_width h.1)

-- every channel of a sample that is in range can be stored
pub channel_storable : (s : Sample) → in_range s ≡ true → (c : ℕ) → Storable (channel c s)
channel_storable s e c = by (channel c s) (channel_small s e c)
  where
    by : (z : ℤ) → nat_abs z ≤ max_channel → Storable z
    by (pos n) h = omega arith
    by (negsuc n) h = omega arith

-- the list of a slot that stands may be used
pub stands_fit : (w : Window) (ss : List Sample) (k : ℕ) (p : List ℕ) → length p ≡ part_len → k < max_windows → moves_of p ≤ 2 ^ 62
    → SlotStands w ss (slot_of p k) → Fit p k
stands_fit w ss k p size slot moves s =
    let e : number_of p k ≡ length (held w ss) = sym (number_length (slot_of p k)) ∙ ap length s.list in
    let o = rw s.window at (layout_width (record_in (slot_of p k)) s.layout) in
    let l : length (held w ss) ≤ max_width = omega (arith, held_length w ss) in
    record {
      ready = record { size = size; slot = slot; first = s.first };
      number = omega arith;
      room = omega arith;
    }

-- the function of a slot's window is that of its code
pub stands_function : (w : Window) (ss : List Sample) (s : List ℕ) → SlotStands w ss s → (m : ℕ) → code_in s ≡ m → w.function ≡ get_or functions m Count
stands_function w ss s h m e =
    ap (λ (v : Window). v.function) (sym h.window) ∙ window_function s ∙ ap (λ (i : ℕ). get_or functions i Count) e

-- what slot k's window reads of a second's sample
pub value_read : (w : Window) (k : ℕ) (p : List ℕ) → window_in (slot_of p k) ≡ w → (i : ℕ) (y : Sample) → sample_of (record_of p i) ≡ y
    → value_in p k i ≡ channel w.channel y
value_read w k p e i y h = value_window p k i ∙ ap₂ (λ (v : Window) (z : Sample). channel v.channel z) e h

-- codes 2 and 3
pub extreme_coded : (e : Extreme) → (get_or functions (extreme_code e) Count ≡ extreme_function e) × (keeps_entries (extreme_function e) ≡ true)
unfolding keeps_entries
extreme_coded Smallest = (refl, refl)
extreme_coded Largest = (refl, refl)

module _ (w : Window) (ss : List Sample) (x : Sample) (k n : ℕ) (p : List ℕ) (b : Before w ss x k n p) where
  width_here : width_in (slot_of p k) ≡ w.width
  width_here = sym (window_width (slot_of p k)) ∙ ap (λ (v : Window). v.width) b.stands.window

  wide : (0 < w.width) × (w.width ≤ max_width)
  wide = rw b.stands.window at (layout_width (record_in (slot_of p k)) b.stands.layout)

  value_here : (i : ℕ) → i ≤ length ss → length ss < i + ring_seconds → value_in p k i ≡ value_at w (more ss x) i
  unfolding value_at
  value_here i h l = value_read w k p b.stands.window i _ (b.ring i h l)

  -- the ring has what the condition of a second in the widest view looks back to
  qualifies_here : (i : ℕ) → i ≤ length ss → length ss ≤ i + max_width → qualifies_in p k i ≡ qualifies w (more ss x) i
  unfolding qualifies_in
  qualifies_here i h l =
      ap (λ (v : Window). qualifies v (ring_samples p i) i) b.stands.window
      ∙ qualifies_near w (ring_samples p i) (more ss x) i (λ j u v. ring_sample p i j u ∙ b.ring j (omega arith) (omega arith))

  pub before_fit : Fit p k
  before_fit = stands_fit w ss k p b.size b.slot b.moves b.stands

  pub slides : (c : Change) → Changes p k n c → Slides w ss x c
  unfolding enters
  slides c h = record {
    leaves = by (dec_lt n w.width);
    enters =
        h.enters
        ∙ ap₂ then_some
        (ap (qualifies_in p k) b.second ∙ qualifies_here (length ss) (omega arith) (omega arith))
        (ap (value_in p k) b.second ∙ value_here (length ss) (omega arith) (omega arith) ∙ value_new w ss x);
  }
    where
      place : n - width_in (slot_of p k) ≡ length ss - w.width
      place = omega (arith, width_here, b.second)

      by : Dec (n < w.width) → c.leaves ≡ then_some (leaves w ss) (leaving w ss)
      by (yes l) = h.filling (omega (arith, width_here)) ∙ rw (leaves_not w ss (omega (arith, b.second))) refl
      by (no l) =
          let f : w.width ≤ length ss = omega (arith, b.second) in
          h.full (omega (arith, width_here))
          ∙ ap₂ then_some
          (ap (qualifies_in p k) place
          ∙ qualifies_here (length ss - w.width) (omega arith) (omega (arith, wide.1))
          ∙ qualifies_before w ss x (length ss - w.width) (omega (arith, wide.0)) ∙ sym (leaves_now w ss f))
          (ap (value_in p k) place
          ∙ value_here (length ss - w.width) (omega arith) (omega (arith, wide.1))
          ∙ value_before w ss x (length ss - w.width) (omega (arith, wide.0)))

  module _ (c : Change) (h : Slides w ss x c) where
    leaves_same : is_some c.leaves ≡ leaves w ss
    leaves_same = ap is_some h.leaves ∙ (option_is (leaves w ss) (leaving w ss)).0

    pub enters_same : is_some c.enters ≡ enters w ss x
    enters_same = ap is_some h.enters ∙ (option_is (enters w ss x) (channel w.channel x)).0

    pub before_rollable : Rollable (count_in (slot_of p k)) (sum_in (slot_of p k)) c
    before_rollable =
        let o = wide in
        let m = b.stands.count in
        let a = ap bit leaves_same in
        let e = ap bit enters_same in
        let v = count_before w ss o.0 in
        record {
          room = record {
            count = omega (arith, length_values w ss);
            leaves = omega arith;
            enters = omega (arith, count_step w ss o.0 x, length_values w (more ss x));
            new = rw h.enters (storable_is (enters w ss x) _ (channel_storable x b.range w.channel));
          };
          sum = rw b.stands.sum (omega (arith, sum_bound w ss max_channel (all_map (λ y r. channel_small y r w.channel) ss b.ranges)));
        }

    -- what leaves, by the change
    pub leaving_same : option_to_list c.leaves ≡ one (leaves w ss) (leaving w ss)
    leaving_same = rw h.leaves (option_is (leaves w ss) (leaving w ss)).2

    pub entering_same : option_to_list c.enters ≡ one (enters w ss x) (channel w.channel x)
    entering_same = rw h.enters (option_is (enters w ss x) (channel w.channel x)).2

    pub sum_same : sum_after (sum_in (slot_of p k)) c ≡ sumℤ (values w (more ss x))
    sum_same =
        rw (b.stands.sum, h.leaves, h.enters, (option_is (leaves w ss) (leaving w ss)).1, (option_is (enters w ss x) (channel w.channel x)).1)
        (sym (sum_step w ss wide.0 x))

    pub count_same : count_after (count_in (slot_of p k)) c ≡ length (values w (more ss x))
    count_same =
        let m = b.stands.count in
        let a = ap bit leaves_same in
        let e = ap bit enters_same in
        omega (arith, count_step w ss wide.0 x)

-- slot k's window record, count and sum are as before; its list and its store of values are those of the window with the sample
pub record Holds (w : Window) (ss : List Sample) (x : Sample) (k : ℕ) (p q : List ℕ) : Type 0 where
  pub first : first_of q k < list_capacity
  pub list : list_of q k ≡ held w (more ss x)
  pub store : w.function ≡ Percentile → values_of (store_in (slot_of q k)) (length (values w (more ss x))) ≡ ordered (values w (more ss x))
  pub moves : moves_of q + held_in (more ss x) w ≡ moves_of p + held_in ss w + 2 * new_entry w ss x

-- the range of the list and of the store, from the first place to the slot's end
abbrev pub kept_len : ℕ
kept_len = ends_len + store_len

pub record Kept (k n : ℕ) (c : Change) (p q : List ℕ) : Type 0 where
  pub beside : Beside k p q
  pub around : Around first_place kept_len (slot_of p k) (slot_of q k)
  pub on : (w : Window) (ss : List Sample) (x : Sample) → Before w ss x k n p → Slides w ss x c → Holds w ss x k p q

-- codes but 2, 3 and 5
plain_function : (m : ℕ) → (m ≡ 2 → ⊥) → (m ≡ 3 → ⊥) → (m ≡ 5 → ⊥) → (keeps_entries (get_or functions m Count) ≡ false) × (get_or functions m Count ≡ Percentile → ⊥)
unfolding keeps_entries
plain_function zero a b c = (refl, λ e. let z : ◌≡◌ {A = ℕ} 0 1 = cc in omega arith)
plain_function (suc zero) a b c = (refl, λ e. let z : ◌≡◌ {A = ℕ} 0 1 = cc in omega arith)
plain_function (suc (suc zero)) a b c = absurd (a refl)
plain_function (suc (suc (suc zero))) a b c = absurd (b refl)
plain_function (suc (suc (suc (suc zero)))) a b c = (refl, λ e. let z : ◌≡◌ {A = ℕ} 0 1 = cc in omega arith)
plain_function (suc (suc (suc (suc (suc zero))))) a b c = absurd (c refl)
plain_function (suc (suc (suc (suc (suc (suc m)))))) a b c = (refl, λ e. let z : ◌≡◌ {A = ℕ} 0 1 = cc in omega arith)

module _ (k n : ℕ) (c : Change) (p : List ℕ) where
  -- a window that keeps no list and no values
  pub kept_plain : (code_in (slot_of p k) ≡ 2 → ⊥) → (code_in (slot_of p k) ≡ 3 → ⊥) → (code_in (slot_of p k) ≡ 5 → ⊥) → Kept k n c p p
  kept_plain a₂ a₃ a₅ = record {
    beside = beside_same k p;
    around = λ i m z. refl;
    on = λ w ss x b h.
        let f : w.function ≡ get_or functions (code_in (slot_of p k)) Count = stands_function w ss (slot_of p k) b.stands _ refl in
        let l = plain_function (code_in (slot_of p k)) a₂ a₃ a₅ in
        let e : keeps_entries w.function ≡ false = ap keeps_entries f ∙ l.0 in
        record {
          first = b.stands.first;
          list = b.stands.list ∙ held_unkept w ss e ∙ sym (held_unkept w (more ss x) e);
          store = λ g. absurd (l.1 (sym f ∙ g));
          moves = unkept_moves w ss x (moves_of p) e;
        };
  }

  -- smallest and largest
  module _ (extreme : Extreme) (code : code_in (slot_of p k) ≡ extreme_code extreme) where
    extreme_here : (w : Window) (ss : List Sample) (x : Sample) → Before w ss x k n p → (w.function ≡ extreme_function extreme) × (keeps_entries w.function ≡ true)
    extreme_here w ss x b =
        let l = extreme_coded extreme in
        let f = stands_function w ss (slot_of p k) b.stands _ code ∙ l.0 in
        (f, ap keeps_entries f ∙ l.1)

    pub room_here : (w : Window) (ss : List Sample) (x : Sample) → Before w ss x k n p → length (aged (width_in (slot_of p k)) n (list_of p k)) < list_capacity
    room_here w ss x b =
        rw (width_here w ss x k n p b, b.second, b.stands.list)
        (omega (arith, aged_length w ss (extreme_here w ss x b).1 (wide w ss x k n p b).0, (wide w ss x k n p b).1))

    pub kept_full : (v : ℕ) → v ≡ width_in (slot_of p k) → (length (aged v n (list_of p k)) < list_capacity → ⊥) → Kept k n c p p
    kept_full v e full = record { beside = beside_same k p; around = λ i m z. refl; on = λ w ss x b h. absurd (full (rw e (room_here w ss x b))) }

    pub kept_list : (v : ℕ) (q : List ℕ) → v ≡ width_in (slot_of p k) → ListStepped k v n extreme c.enters p q → Kept k n c p q
    unfolding value_at
    kept_list v q y t = record {
      beside = t.beside;
      around = around_in first_place list_len _ _ t.around first_place kept_len (omega arith) (omega arith);
      on = λ w ss x b h.
          let e = extreme_here w ss x b in
          let l : list_of q k ≡ held w (more ss x) =
          t.list
          ∙ rw (h.enters, stepped_is (enters w ss x) (channel w.channel x) v n (λ z. displaces_in extreme z p k), y, width_here w ss x k n p b, b.second, b.stands.list)
          (held_stepped w ss e.1 (wide w ss x k n p b).0 x (displaces_in extreme (channel w.channel x) p k) (test w ss x b e.0)) in
          record {
            first = t.first b.stands.first;
            list = l;
            store = λ g. absurd (other extreme (sym e.0 ∙ g));
            moves =
                kept_moves w ss x (list_of p k) (list_of q k) (moves_of p) (moves_of q) e.1 b.stands.list l
                (omega (arith, t.moves, ap length t.list, number_length (slot_of p k), ap bit (enters_same w ss x k n p b c h)));
          };
    }
      where
        other : (t : Extreme) → extreme_function t ≡ Percentile → ⊥
        other Smallest g = let z : ◌≡◌ {A = ℕ} 0 1 = cc in omega arith
        other Largest g = let z : ◌≡◌ {A = ℕ} 0 1 = cc in omega arith

        test : (w : Window) (ss : List Sample) (x : Sample) → Before w ss x k n p → w.function ≡ extreme_function extreme
            → (i : ℕ) → i < length ss → length ss < i + w.width
            → displaces_in extreme (channel w.channel x) p k i ≡ displaces w.function (channel w.channel x) (value_at w ss i)
        test w ss x b f i l m =
            unfold displaces_in in
            rw (f, value_here w ss x k n p b i (omega arith) (omega (arith, (wide w ss x k n p b).1)), value_before w ss x i l) refl

-- what a caller shows before slot k's store of m values is changed
pub record Fillable (p : List ℕ) (k m : ℕ) (c : Change) : Type 0 where
  pub size : length p ≡ part_len
  pub slot : k < max_windows
  pub count : m ≡ count_in (slot_of p k)
  pub room : Roomy m c
  pub small : Small c

-- values in order
pub record Refilled (k : ℕ) (c : Change) (p q : List ℕ) : Type 0 where
  pub written : Written k store_place (store_in (slot_of q k)) p q
  pub values : Restocked (count_in (slot_of p k)) c (store_in (slot_of p k)) (store_in (slot_of q k))

-- the store of slot k as a lend of the part
pub store_lent : (p : List ℕ) (k a e : ℕ) → a ≡ slots_place + slot_len * k + store_place → e ≡ a + store_len → take (e - a) (drop a p) ≡ store_in (slot_of p k)
unfolding part
store_lent p k a e f g =
    let n : e - a ≡ store_len = omega arith in
    rw (n, f) (sym (part_part p (slots_place + slot_len * k) slot_len store_place store_len (omega arith)))

pub refilled : (k m a : ℕ) (c : Change) (p q s ys : List ℕ) → length p ≡ part_len → k < max_windows → a ≡ slots_place + slot_len * k + store_place
    → m ≡ count_in (slot_of p k) → s ≡ store_in (slot_of p k) → q ≡ put p a ys → length ys ≡ store_len → Restocked m c s ys → Refilled k c p q
refilled k m a c p q s ys whole slot place count store e size r =
    let w : Written k store_place ys p q = written k store_place ys p q (omega arith) (rw place at e) in
    let here : store_in (slot_of q k) ≡ ys = rw w.here (rw size at (part_same (slot_of p k) store_place ys (omega (arith, slot_length p k whole slot)))) in
    record { written = rw here w; values = rw (here, ← count, ← store) r }

pub kept_values : (k n : ℕ) (c : Change) (p q : List ℕ) → length p ≡ part_len → k < max_windows → code_in (slot_of p k) ≡ 5 → Refilled k c p q → Kept k n c p q
kept_values k n c p q whole slot code r = record {
  beside = r.written.beside;
  around = around_in store_place store_len _ _ rest first_place kept_len (omega arith) (omega arith);
  on = λ w ss x b h.
      let f : w.function ≡ Percentile = stands_function w ss (slot_of p k) b.stands _ code in
      let e : keeps_entries w.function ≡ false = ap keeps_entries f ∙ unfold keeps_entries in refl in
      let o = (wide w ss x k n p b).0 in
      record {
        first = rw (field first_place (omega arith)) b.stands.first;
        list =
            list_none (slot_of q k) (field number_place (omega arith) ∙ sym (number_length (slot_of p k)) ∙ ap length (b.stands.list ∙ held_unkept w ss e))
            ∙ sym (held_unkept w (more ss x) e);
        store = λ g.
            ap (values_of (store_in (slot_of q k))) (sym (count_same w ss x k n p b c h))
            ∙ r.values.values (staying_values w ss)
            (b.stands.store f ∙ ap ordered (values_before w ss o ∙ ap (λ (l : List ℤ). l ++ staying_values w ss) (sym (leaving_same w ss x k n p b c h))))
            ∙ ap ordered (ap (λ (l : List ℤ). staying_values w ss ++ l) (entering_same w ss x k n p b c h) ∙ sym (values_after w ss o x));
        moves = rw r.written.moves (unkept_moves w ss x (moves_of p) e);
      };
}
  where
    size : length (store_in (slot_of q k)) ≡ store_len
    size = part_length (slot_of q k) store_place store_len (omega (arith, slot_length q k (r.written.beside.size ∙ whole) slot))

    rest : Around store_place store_len (slot_of p k) (slot_of q k)
    rest i m z = rw r.written.here (part_other (slot_of p k) store_place (store_in (slot_of q k)) i m (rw size z))

    field : (a : ℕ) → a + 2 ≤ store_place → le_at 2 (slot_of q k) a ≡ le_at 2 (slot_of p k) a
    field a l = le_around store_place store_len (slot_of p k) (slot_of q k) rest 2 a (λ u v. omega arith)

-- The returns of `turn`.

module _ (k n : ℕ) (p : List ℕ) where
  pub turned_unfit : (r : Bool) → Fitness p k r → r ≡ false → Turned k n p p
  turned_unfit r f e = record { beside = beside_same k p; on = λ w ss x b. absurd (false≢true (sym e ∙ f.complete (before_fit w ss x k n p b) b.moves)) }

  module _ (c : Change) (read : Changes p k n c) (m : ℕ) (z : ℤ) (em : m ≡ count_in (slot_of p k)) (ez : z ≡ sum_in (slot_of p k)) where
    pub turned_unrollable : (r : Bool) → Rolling m z c r → r ≡ false → Turned k n p p
    turned_unrollable r t e = record {
      beside = beside_same k p;
      on = λ w ss x b. absurd (false≢true (sym e ∙ t.complete (rw (em, ez) (before_rollable w ss x k n p b c (slides w ss x k n p b c read)))));
    }

    pub turned : (p₁ q : List ℕ) → Kept k n c p p₁ → Totalled k (count_after m c) (sum_after z c) p₁ q → Turned k n p q
    turned p₁ q h t = record {
      beside = beside_then k p p₁ q h.beside t.beside;
      on = λ w ss x b.
          let s : Slides w ss x c = slides w ss x k n p b c read in
          let d : Holds w ss x k p p₁ = h.on w ss x b s in
          let r : record_in (slot_of q k) ≡ record_in (slot_of p k) =
          record_around count_place totals_len _ _ t.around (omega arith) ∙ record_around first_place kept_len _ _ h.around (omega arith) in
          let l : count_in (slot_of q k) ≡ length (values w (more ss x)) = t.count ∙ rw em (count_same w ss x k n p b c s) in
          record {
            stands = record {
              window = ap window_of r ∙ b.stands.window;
              layout = ap layout_kept r ∙ b.stands.layout;
              count = l;
              sum = t.sum ∙ rw ez (sum_same w ss x k n p b c s);
              first = rw (le_around count_place totals_len (slot_of p₁ k) (slot_of q k) t.around 2 first_place (λ u v. omega arith)) d.first;
              list = list_around count_place totals_len (slot_of p₁ k) (slot_of q k) t.around (λ u v. omega arith) ∙ d.list;
              store = λ g. ap₂ values_of (t.around store_place store_len (λ u v. omega arith)) l ∙ d.store g;
            };
            moves = rw t.moves d.moves;
          };
    }
