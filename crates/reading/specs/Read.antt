-- Readings: what a window reads, from its slot.
--     Reads                       what a reading ensures
--     reads_count .. reads_percentile, reads_unfit, reads_none, reads_other     one law for each return
-- Assumes nothing.
use Rattle.std.specs.Prelude.{Bool, true, false, ◌≡◌, ℕ, zero, suc, ◌^◌, ◌≤◌, ◌<◌, ℤ, pos}
use Rattle.std.proofs.lemmas.Bool.{false≢true}
use mathlib.Core.List.{List}
use Rattle.std.specs.Prelude.{Option, None, Some}
use Rattle.std.proofs.Math.Path.{refl, sym, ap, ap₂}
use Rattle.std.proofs.Common.{◌∙◌, mul-le-mul, arith}
use borrow.Author.Tests.{leb-true}
use Rattle.std.proofs.Math.ListN.{length, get_or}
use Rattle.field.specs.Le.{le_part}
use Rattle.model.specs.Numbers.{le_at, round_half_even}
use Rattle.model.specs.Records.{record_length, max_windows, max_width, functions, layout_kept, Window}
use Rattle.model.specs.Windows.{value_at, held, keeps_entries, reading}
use Rattle.model.specs.declared.Function.TheVariants.{Count}
use Rattle.model.specs.declared.Sample.{Sample}
use Rattle.cells.specs.Store.{values_of}
use Rattle.laws.specs.Tests.{both}
use Rattle.slide.specs.Held.{held_within, reading_first, reading_unheld}
use Rattle.laws.specs.Lists.{all_at}
use Rattle.slide.specs.Moves.{counted_moves, moves_bound}
use Rattle.slide.specs.Percentile.{rank}
use Rattle.slide.specs.Readings.{needs_values, reading_count, reading_sum, reading_average, reading_none}
use Rattle.slide.proofs.Percentile.{reading_percentile}
use Rattle.slide.specs.Step.{length_values}
use Rattle.slots.specs.Layout.{part_len, slot_of, moves_of, record_in, code_in, count_in, sum_in, number_of, store_in, value_in}
use Rattle.lists.specs.Lists.{list_of, number_length, Fitness}
use Rattle.list_steps.specs.declared.Extreme.{Extreme}
use Rattle.list_steps.specs.Steps.{extreme_code}
use Rattle.window.specs.Slot.{layout_width, stands_fit, stands_function, extreme_coded, value_read}
use Rattle.window.specs.Stand.{Stands, SlotStands, window_of_list}

-- r is what window k reads: the value, or none where none qualifies
pub record Reads (k : ℕ) (p : List ℕ) (r : Option ℤ) : Type 0 where
  pub on : (ws : List Window) (ss : List Sample) → Stands ws ss p → k < length ws → r ≡ reading (window_of_list ws k) ss

-- by the window alone
reads : (k : ℕ) (p : List ℕ) (r : Option ℤ)
    → ((w : Window) (ss : List Sample) → SlotStands w ss (slot_of p k) → r ≡ reading w ss) → Reads k p r
reads k p r f = record { on = λ ws ss s h. f (window_of_list ws k) ss (s.slots k h) }

-- the moves of a part that stands are far from their end
moves_small : (ws : List Window) (ss : List Sample) (p : List ℕ) → Stands ws ss p → moves_of p ≤ 2 ^ 62
moves_small ws ss p s = omega (arith, counted_moves (moves_of p) ws ss s.moves, moves_bound ws ss, mul-le-mul s.windows s.samples)

-- of a code that is none of the functions', which `omega` counts in two steps
above_2 : (m : ℕ) → (m ≡ 0 → ⊥) → (m ≡ 1 → ⊥) → (m ≡ 2 → ⊥) → 2 < m
above_2 m h₀ h₁ h₂ = omega arith

above_5 : (m : ℕ) → 2 < m → (m ≡ 3 → ⊥) → (m ≡ 4 → ⊥) → (m ≡ 5 → ⊥) → 5 < m
above_5 m l h₃ h₄ h₅ = omega arith

module _ (k : ℕ) (p : List ℕ) where
  pub reads_count : code_in (slot_of p k) ≡ 0 → Reads k p (Some (pos (count_in (slot_of p k))))
  reads_count e = reads k p _ (λ w ss s. ap (λ (n : ℕ). Some (pos n)) s.count ∙ sym (reading_count w ss (stands_function w ss _ s _ e)))

  pub reads_sum : code_in (slot_of p k) ≡ 1 → Reads k p (Some (sum_in (slot_of p k)))
  reads_sum e = reads k p _ (λ w ss s. ap Some s.sum ∙ sym (reading_sum w ss (stands_function w ss _ s _ e)))

  pub reads_average : code_in (slot_of p k) ≡ 4 → 0 < count_in (slot_of p k) → Reads k p (Some (round_half_even (sum_in (slot_of p k)) (count_in (slot_of p k))))
  reads_average e h =
      reads k p _
      (λ w ss s.
      ap Some (ap₂ round_half_even s.sum s.count) ∙ sym (reading_average w ss (stands_function w ss _ s _ e) (omega (arith, s.count))))

  pub reads_percentile : (m : ℕ) → m ≡ count_in (slot_of p k) → 0 < m → (r : ℤ) → code_in (slot_of p k) ≡ 5
      → (store : List ℕ) → store ≡ store_in (slot_of p k) → r ≡ get_or (values_of store m) (rank m) (pos 0) → Reads k p (Some r)
  reads_percentile m count some-value r e store f g =
      reads k p _
      (λ w ss s.
      let h = stands_function w ss _ s _ e in
      ap Some (g ∙ ap₂ (λ (l : List ℤ) (n : ℕ). get_or l (rank n) (pos 0)) (ap₂ values_of f count ∙ s.store h) (count ∙ s.count))
      ∙ sym (reading_percentile w ss (pos 0) h (omega (arith, s.count))))

  -- with no value, codes 4 and 5
  pub reads_none : 2 ≤ code_in (slot_of p k) → code_in (slot_of p k) ≤ 5 → count_in (slot_of p k) ≡ 0 → Reads k p None
  reads_none h l e =
      reads k p _ (λ w ss s. sym (reading_none w ss (ap needs_values (stands_function w ss _ s _ refl) ∙ needed (code_in (slot_of p k)) h l) (sym s.count ∙ e)))
    where
      needed : (m : ℕ) → 2 ≤ m → m ≤ 5 → needs_values (get_or functions m Count) ≡ true
      needed zero h l = absurd (omega arith)
      needed (suc zero) h l = absurd (omega arith)
      needed (suc (suc zero)) h l = unfold needs_values in refl
      needed (suc (suc (suc zero))) h l = unfold needs_values in refl
      needed (suc (suc (suc (suc zero)))) h l = unfold needs_values in refl
      needed (suc (suc (suc (suc (suc zero))))) h l = unfold needs_values in refl
      needed (suc (suc (suc (suc (suc (suc m)))))) h l = absurd (omega arith)

  -- no more than max_width values are in view
  pub reads_beyond : (r : Option ℤ) → max_width < count_in (slot_of p k) → Reads k p r
  reads_beyond r h =
      reads k p r
      (λ w ss s. absurd (omega (arith, s.count, length_values w ss, rw s.window at (layout_width (record_in (slot_of p k)) s.layout))))

  -- a code above 5 is no window's
  pub reads_other : (r : Option ℤ) (m : ℕ) → m ≡ code_in (slot_of p k) → (m ≡ 0 → ⊥) → (m ≡ 1 → ⊥) → (m ≡ 2 → ⊥) → (m ≡ 3 → ⊥) → (m ≡ 4 → ⊥) → (m ≡ 5 → ⊥)
      → Reads k p r
  unfolding layout_kept
  reads_other r m e h₀ h₁ h₂ h₃ h₄ h₅ =
      let l : 5 < m = above_5 m (above_2 m h₀ h₁ h₂) h₃ h₄ h₅ in
      let f = le_part (slot_of p k) 0 record_length 1 0 (omega arith) in
      reads k p r (λ w ss s. absurd (omega (arith, leb-true (le_at 1 (record_in (slot_of p k)) 0) 5 (both _ _ s.layout).0)))

  pub reads_unfit : (r : Option ℤ) → length p ≡ part_len → k < max_windows → (t : Bool) → Fitness p k t → t ≡ false → Reads k p r
  reads_unfit r size slot t f e = record {
    on = λ ws ss s h.
        let m = moves_small ws ss p s in
        absurd (false≢true (sym e ∙ f.complete (stands_fit (window_of_list ws k) ss k p size slot m (s.slots k h)) m));
  }

  -- smallest and largest
  module _ (extreme : Extreme) (code : code_in (slot_of p k) ≡ extreme_code extreme) where
    keeps : (w : Window) (ss : List Sample) → SlotStands w ss (slot_of p k) → keeps_entries w.function ≡ true
    keeps w ss s = let l = extreme_coded extreme in ap keeps_entries (stands_function w ss _ s _ code ∙ l.0) ∙ l.1

    pub reads_unheld : number_of p k ≡ 0 → Reads k p None
    reads_unheld e = reads k p _ (λ w ss s. sym (reading_unheld w ss (keeps w ss s) (ap length (sym s.list) ∙ number_length (slot_of p k) ∙ e)))

    pub reads_first : (i : ℕ) (r : ℤ) → 0 < number_of p k → i ≡ get_or (list_of p k) 0 0 → r ≡ value_in p k i → Reads k p (Some r)
    unfolding value_at
    reads_first i r h f g = record {
      on = λ ws ss t l.
          let s = t.slots k l in
          let w : Window = window_of_list ws k in
          let n : 0 < length (held w ss) = omega (arith, ap length s.list, number_length (slot_of p k)) in
          let v = all_at _ 0 (held w ss) 0 n (held_within w ss) in
          let o = rw s.window at (layout_width (record_in (slot_of p k)) s.layout) in
          let e : i ≡ get_or (held w ss) 0 0 = f ∙ ap (λ (l : List ℕ). get_or l 0 0) s.list in
          ap Some (g ∙ ap (value_in p k) e ∙ value_read w k p s.window (get_or (held w ss) 0 0) _ (t.ring _ v.1 (omega arith)))
          ∙ sym (reading_first w ss (keeps w ss s) n);
    }
