-- All windows as one more sample comes, one after another; a new window; and the start.
--     Midway, Sweeping         the first k windows have seen the sample; what the loop keeps
--     sweep_start, sweep_on    its first turn and every other
--     Steppable, Stepped, stepped     the whole step
--     Added, added             a window is declared
--     fresh                    a cleared part stands for no windows
-- Assumes nothing.
use Rattle.std.specs.Prelude.{true, ◌≡◌, refl, ℕ, ◌+◌, ◌*◌, ◌^◌, ◌≤◌, ◌<◌, length, take, drop}
use mathlib.Core.List.{List, [], ◌∷◌, ◌++◌}
use Rattle.std.proofs.Math.Path.{sym, ap}
use Rattle.std.proofs.Common.{◌∙◌, mul-le-mul, arith, length-append, length-take, length-drop}
use Rattle.std.proofs.Math.Decide.{ℕ_discrete}
use Rattle.std.proofs.Math.ListN.{get_or-append}
use Rattle.std.proofs.Math.Seq.{get_or-append_seam}
use Rattle.field.specs.Cells.{cells}
use Rattle.model.specs.Numbers.{le_at, sumℤ}
use Rattle.model.specs.Records.{record_length, max_samples, max_windows, sample_of, in_range, window_of, layout_kept, Window}
use Rattle.model.specs.Windows.{sample_at}
use Rattle.model.specs.declared.Sample.{Sample}
use Rattle.cells.specs.Store.{values_of}
use Rattle.slide.specs.Held.{held_start}
use Rattle.laws.specs.Lists.{All, midway, total_bound}
use Rattle.record.specs.Ranges.{EachInRange}
use Rattle.slide.specs.Moves.{entries_in, length_entries, counted_moves, counted_start, moves_start, CountedTo, counted_first, counted_next, counted_last}
use Rattle.slide.specs.Ordered.{ordered}
use Rattle.slide.specs.Step.{more, length_more, sample_before, sample_new, values_start}
use Rattle.slots.specs.Effects.{Stored, Declared, record_same, le_around}
use Rattle.slots.specs.Layout.{part_len, ring_seconds, record_of, moves_of, slot_of, first_place, number_place}
use Rattle.lists.specs.Effects.{Cleared, Recounted}
use Rattle.lists.specs.Lists.{list_none}
use Rattle.window.specs.Slot.{Before, After, Turned}
use Rattle.window.specs.Stand.{Stands, SlotStands, Unused, window_of_list}

-- the first k windows have seen the sample x, which the ring has
pub record Midway (ws : List Window) (ss : List Sample) (x : Sample) (n k : ℕ) (p : List ℕ) : Type 0 where
  pub size : length p ≡ part_len
  pub windows : length ws ≤ max_windows
  pub second : n ≡ length ss
  pub most : n < max_samples
  pub ranges : EachInRange ss
  pub range : in_range x ≡ true
  pub ring : (i : ℕ) → i ≤ length ss → length ss < i + ring_seconds → sample_of (record_of p i) ≡ sample_at (more ss x) i
  pub done : (j : ℕ) → j < k → j < length ws → SlotStands (window_of_list ws j) (more ss x) (slot_of p j)
  pub waiting : (j : ℕ) → k ≤ j → j < length ws → SlotStands (window_of_list ws j) ss (slot_of p j)
  pub unused : (j : ℕ) → length ws ≤ j → j < max_windows → Unused (slot_of p j)
  pub moves : CountedTo (moves_of p) k ws ss x

-- what the loop over the windows keeps: from the part p₀ it began with to p, before window k's turn
pub record Sweeping (n windows k : ℕ) (p₀ p : List ℕ) : Type 0 where
  pub turns : k ≤ windows
  pub size : length p ≡ part_len
  pub on : (ws : List Window) (ss : List Sample) (x : Sample) → Midway ws ss x n 0 p₀ → length ws ≡ windows → Midway ws ss x n k p

-- the moves are far from their end
midway_bound : {A : Type 0} (f g : A → ℕ) (m k : ℕ) (l : List A) → ((x : A) → f x ≤ m) → ((x : A) → g x ≤ m) → length l ≤ max_windows
    → midway k f g l ≤ max_windows * m + max_windows * m
unfolding midway
midway_bound f g m k l hf hg h =
    let a : length (take k l) * m ≤ max_windows * m = mul-le-mul (simp length-take (omega arith)) (omega arith) in
    let b : length (drop k l) * m ≤ max_windows * m = mul-le-mul (simp length-drop (omega arith)) (omega arith) in
    omega (arith, total_bound f m hf (take k l), total_bound g m hg (drop k l))

module _ (ws : List Window) (ss : List Sample) (x : Sample) (n k : ℕ) (p : List ℕ) (m : Midway ws ss x n k p) where
  moves_small : moves_of p ≤ 2 ^ 62
  moves_small =
      omega (
        arith,
        m.moves,
        midway_bound (entries_in (more ss x)) (entries_in ss) max_samples k ws
            (λ w. omega (arith, length_entries w (more ss x), length_more ss x, m.second, m.most))
            (λ w. omega (arith, length_entries w ss, m.second, m.most))
            m.windows,
      )

  before : k < length ws → Before (window_of_list ws k) ss x k n p
  before h = record {
    size = m.size;
    slot = omega (arith, m.windows);
    second = m.second;
    ranges = m.ranges;
    range = m.range;
    ring = m.ring;
    stands = m.waiting k (omega arith) h;
    moves = moves_small;
  }

  midway_next : (q : List ℕ) → k < length ws → Turned k n p q → Midway ws ss x n (k + 1) q
  midway_next q h t =
      let a : After (window_of_list ws k) ss x k p q = t.on (window_of_list ws k) ss x (before h) in
      record {
        size = t.beside.size ∙ m.size;
        windows = m.windows;
        second = m.second;
        most = m.most;
        ranges = m.ranges;
        range = m.range;
        ring = λ i u v. ap sample_of (record_same p q i t.beside.front) ∙ m.ring i u v;
        done = λ j u v. done a j u v (ℕ_discrete j k);
        waiting = λ j u v. rw (t.beside.other j (λ e. omega arith)) (m.waiting j (omega arith) v);
        unused = λ j u v. rw (t.beside.other j (λ e. omega arith)) (m.unused j u v);
        moves = counted_next ws ss x (window_of []) k (moves_of p) (moves_of q) h m.moves a.moves;
      }
    where
      done : After (window_of_list ws k) ss x k p q → (j : ℕ) → j < k + 1 → j < length ws → Dec (j ≡ k) → SlotStands (window_of_list ws j) (more ss x) (slot_of q j)
      done a j u v (yes e) = rw e a.stands
      done a j u v (no e) = rw (t.beside.other j e) (m.done j (omega arith) v)

pub sweep_start : (n windows : ℕ) (p : List ℕ) → length p ≡ part_len → Sweeping n windows 0 p p
sweep_start n windows p e = record { turns = omega arith; size = e; on = λ ws ss x m l. m }

pub sweep_on : (n windows k : ℕ) (p₀ p q : List ℕ) → Sweeping n windows k p₀ p → k < windows → Turned k n p q → Sweeping n windows (k + 1) p₀ q
sweep_on n windows k p₀ p q s h t = record {
  turns = omega arith;
  size = t.beside.size ∙ s.size;
  on = λ ws ss x m l. midway_next ws ss x n k p (s.on ws ss x m l) q (omega arith) t;
}

-- what a caller of the step shows: the part, so many windows, second n and its record
pub record Steppable (p : List ℕ) (w n : ℕ) (r : List ℕ) : Type 0 where
  pub size : length p ≡ part_len
  pub windows : w ≤ max_windows
  pub second : n < max_samples
  pub bytes : length r ≡ record_length

-- what one step makes of the part: what stood for some samples stands for them with the sample of record r
pub record Stepped (windows n : ℕ) (r p q : List ℕ) : Type 0 where
  pub size : length q ≡ part_len
  pub on : (ws : List Window) (ss : List Sample) → Stands ws ss p → length ws ≡ windows → length ss ≡ n → in_range (sample_of r) ≡ true
      → Stands ws (ss ++ (sample_of r ∷ [])) q

all_more : (ss : List Sample) (x : Sample) → EachInRange ss → in_range x ≡ true → EachInRange (more ss x)
unfolding All
all_more [] x a i = (i, tt)
all_more (y ∷ ss) x a i = (a.0, all_more ss x a.1 i)

module _ (windows n : ℕ) (r p p₁ : List ℕ) (below : n < max_samples) (put : Stored n r p p₁) where
  stored_midway : (ws : List Window) (ss : List Sample) → Stands ws ss p → length ss ≡ n → in_range (sample_of r) ≡ true → Midway ws ss (sample_of r) n 0 p₁
  stored_midway ws ss s l i = record {
    size = put.size ∙ s.size;
    windows = s.windows;
    second = sym l;
    most = below;
    ranges = s.ranges;
    range = i;
    ring = λ j u v. ring j u v (ℕ_discrete j n);
    done = λ j u v. absurd (omega arith);
    waiting = λ j u v. rw (put.slots j) (s.slots j v);
    unused = λ j u v. rw (put.slots j) (s.unused j u v);
    moves = rw put.moves (counted_first ws ss (sample_of r) (moves_of p) s.moves);
  }
    where
      ring : (j : ℕ) → j ≤ length ss → length ss < j + ring_seconds → Dec (j ≡ n) → sample_of (record_of p₁ j) ≡ sample_at (more ss (sample_of r)) j
      ring j u v (yes e) = rw e (ap sample_of put.here ∙ sym (rw l at (sample_new ss (sample_of r))))
      ring j u v (no e) =
          let h : j < length ss = omega arith in
          ap sample_of (put.other j (λ f. e (omega arith))) ∙ s.ring j h (omega arith) ∙ sym (sample_before ss (sample_of r) j h)

  pub stepped : (q : List ℕ) → Sweeping n windows windows p₁ q → Stepped windows n r p q
  stepped q s = record {
    size = s.size;
    on = λ ws ss t lw ls i.
        let m : Midway ws ss (sample_of r) n windows q = s.on ws ss (sample_of r) (stored_midway ws ss t ls i) lw in
        let l = length_more ss (sample_of r) in
        record {
          size = m.size;
          windows = m.windows;
          samples = omega arith;
          ranges = all_more ss (sample_of r) m.ranges i;
          ring = λ j u v. m.ring j (omega arith) (omega arith);
          slots = λ j u. m.done j (omega arith) u;
          unused = m.unused;
          moves = counted_last ws ss (sample_of r) (moves_of q) (rw (← lw) at m.moves);
        };
  }

-- a window is declared: slot k is the next one
pub record Added (k : ℕ) (r p q : List ℕ) : Type 0 where
  pub size : length q ≡ part_len
  pub on : (ws : List Window) → Stands ws [] p → k ≡ length ws → layout_kept r ≡ true → Stands (ws ++ (window_of r ∷ [])) [] q

declared_slot : (k : ℕ) (r p q : List ℕ) → Declared k r p q → Unused (slot_of p k) → layout_kept r ≡ true → SlotStands (window_of r) [] (slot_of q k)
declared_slot k r p q d n e =
    let v = values_start (window_of r) in
    record {
      window = ap window_of d.«record»;
      layout = ap layout_kept d.«record» ∙ e;
      count = d.count ∙ sym (ap length v);
      sum = d.sum ∙ sym (unfold sumℤ in ap sumℤ v);
      first = rw (field first_place (omega arith)) n.0;
      list = list_none (slot_of q k) (field number_place (omega arith) ∙ n.1) ∙ sym (held_start (window_of r));
      store = λ g. rw (d.count, v) (unfold values_of cells ordered in refl);
    }
  where
    field : (a : ℕ) → first_place ≤ a → le_at 2 (slot_of q k) a ≡ le_at 2 (slot_of p k) a
    field a h = le_around 0 first_place (slot_of p k) (slot_of q k) d.around 2 a (λ x y. omega arith)

pub added : (k : ℕ) (r p q : List ℕ) → length p ≡ part_len → k < max_windows → Declared k r p q → Added k r p q
added k r p q size slot d = record {
  size = d.beside.size ∙ size;
  on = λ ws s e l.
      let n = length-append ws (window_of r ∷ []) in
      record {
        size = d.beside.size ∙ size;
        windows = omega arith;
        samples = omega arith;
        ranges = unfold All in tt;
        ring = λ i u v. absurd (omega arith);
        slots = λ j u. slots ws s e l j (omega arith) (ℕ_discrete j k);
        unused = λ j u v. rw (d.beside.other j (λ f. omega arith)) (s.unused j (omega arith) v);
        moves = rw (d.moves, counted_moves (moves_of p) ws [] s.moves, moves_start ws) (counted_start (ws ++ (window_of r ∷ [])));
      };
}
  where
    slots : (ws : List Window) → Stands ws [] p → k ≡ length ws → layout_kept r ≡ true → (j : ℕ) → j < length ws + 1 → Dec (j ≡ k)
        → SlotStands (window_of_list (ws ++ (window_of r ∷ [])) j) [] (slot_of q j)
    slots ws s e l j u (yes f) =
        rw (f, e, get_or-append_seam ws (window_of r) [] (window_of [])) (rw e at (declared_slot k r p q d (s.unused k (omega arith) slot) l))
    slots ws s e l j u (no f) =
        let h : j < length ws = omega arith in
        rw (get_or-append ws (window_of r ∷ []) (window_of []) j h, d.beside.other j f) (s.slots j h)

-- a cleared part stands for no windows and no samples
pub fresh : (p p₁ q : List ℕ) → length p ≡ part_len → Cleared max_windows p p₁ → Recounted 0 p₁ q → Stands [] [] q
fresh p p₁ q size e c = record {
  size = c.size ∙ e.size ∙ size;
  windows = omega arith;
  samples = omega arith;
  ranges = unfold All in tt;
  ring = λ i u v. absurd (omega arith);
  slots = λ j u. absurd (omega arith);
  unused = λ j u v. rw (c.slots j) (let z = e.empty j v in (rw z.0 (omega arith), z.1));
  moves = rw c.moves (counted_start []);
}
