-- Each accepted call, as a law on the area's parts: what it did to them makes them stand for the model's next trip. Assumes nothing.
use Rattle.std.specs.Prelude.{true, ◌≡◌, ℕ, ◌+◌, ◌^◌, ◌<◌, ℤ, pos, length, Option, Some, None, ok_or}
use mathlib.Core.List.{List, [], ◌∷◌, ◌++◌, map-append}
use Rattle.std.proofs.Math.Path.{refl, ap, subst}
use Rattle.std.proofs.Common.{sym, ◌∙◌, mul-le-mul_right, arith, length-append}
use Rattle.field.specs.Cells.{cells}
use Rattle.model.specs.declared.Sample.{Sample}
use Rattle.model.specs.declared.Tally.{Tally}
use Rattle.model.specs.declared.Verdict.{Verdict}
use Rattle.model.specs.declared.Refusal.TheVariants.{NoneQualifies}
use Rattle.model.specs.Answers.{answer_of}
use Rattle.model.specs.Numbers.{le_val, le_at}
use Rattle.model.specs.Records.{max_samples, max_windows, sample_of, in_range, window_of, layout_kept}
use Rattle.model.specs.Rules.{speed}
use Rattle.model.specs.Tallies.{tally_of, tally_bytes, tally_from}
use Rattle.model.specs.Trip.{Trip, empty, Answer, clear, declare, sample, close, closed, read, verdict, record_of, number, judged, refused, outcome, said, left, move_count, with_sample, with_window, window_at, told}
use Rattle.model.specs.Verdicts.{verdict_of}
use Rattle.laws.specs.Lists.{length_zero}
use Rattle.slide.specs.Moves.{counted_moves, moves_bound}
use Rattle.slots.specs.Layout.{moves_of}
use Rattle.tally.specs.Add.{added, tally_more}
use Rattle.altitudes.specs.Ends.{ends_from, EndsOf, with_altitude, ends_with}
use Rattle.reading.specs.Read.{Reads}
use Rattle.window.specs.Stand as window
use Rattle.window.specs.Sweep.{Added}
use Rattle.area.specs.Layout.{area_len, samples_part, mark_part, windows_part, format_part, tally_part, slots_part, Parts, parts_of, with, format_number, sample_count, closed_mark, window_count, format_mark, tally_in, altitudes_in, speeds_in, slots_in}
use Rattle.area.specs.Stands.{Holds, Stands, Judges}
use Rattle.area.specs.Effects.{Changed, Numbered}
use Rattle.taking.specs.Effects.{Taken, Accepts, number_fine}
use Rattle.taking.specs.Damaged.{tally_held, sound_held}
use Rattle.steps.specs.Step.{Step}
use Rattle.steps.specs.Laws.{unlent, done_step, refused_step}
use Rattle.steps.specs.Refusals.{close_other, read_other, verdict_other, Admits, sample_answered, declare_answered, sample_left, lent_damaged, sample_lending, declare_left, Marked, close_unlending, read_unlending, verdict_unlending, close_left, read_left}

module _ (p : Parts) (t : Trip) (h : Holds p t) where
  -- the moves of the area are the model's, and few
  moves_held : (moves_of (slots_in p) ≡ move_count t) × (moves_of (slots_in p) < 2 ^ 63)
  moves_held =
      let e : moves_of (slots_in p) ≡ move_count t = counted_moves (moves_of (slots_in p)) t.windows t.samples h.slots.moves in
      let b = moves_bound t.windows t.samples in
      (e, omega (arith, e, b, mul-le-mul_right (length t.samples) h.slots.windows, h.slots.samples))

-- A sample.

taken_holds : (p q : Parts) (t : Trip) (k n : ℕ) (r : List ℕ) (tl : Tally) → Holds p t → k ≡ window_count p → n ≡ sample_count p → in_range (sample_of r) ≡ true
    → tl ≡ added (tally_from (tally_in p)) (sample_of r) → Taken k n r (sample_of r) tl p q → Holds q (with_sample t (sample_of r))
unfolding with_sample with
taken_holds p q t k n r tl h ek en i et x =
    let x₀ : Sample = sample_of r in
    let ss : List Sample = t.samples in
    let nn : n ≡ length ss = en ∙ h.samples in
    let one : n + 1 ≡ length (ss ++ (x₀ ∷ [])) = ap (λ (m : ℕ). m + 1) nn ∙ sym (length-append ss (x₀ ∷ [])) in
    record {
      samples = x.samples ∙ one;
      mark = x.mark ∙ h.mark;
      windows = x.windows ∙ h.windows;
      format = x.format ∙ h.format;
      tally = x.tally ∙ ap tally_bytes (et ∙ ap (λ (u : Tally). added u x₀) (tally_held p t h) ∙ sym (tally_more ss x₀));
      altitudes = subst (EndsOf (ss ++ (x₀ ∷ []))) (sym (x.altitudes ∙ ap (λ (m : ℕ). with_altitude m x₀.altitude (ends_from (altitudes_in p))) nn)) (ends_with ss x₀ _ h.altitudes);
      speeds = ap (cells 2 le_val (speeds_in q)) (sym one) ∙ x.added.speeds
          ∙ ap (λ (l : List ℕ). l ++ (speed x₀ ∷ [])) (ap (cells 2 le_val (speeds_in p)) nn ∙ h.speeds) ∙ sym (map-append speed ss (x₀ ∷ []));
      slots = x.stepped.on t.windows ss h.slots (sym (ek ∙ h.windows)) (sym nn) i;
    }

-- what is known of a sample's record and of the area once the refusals before taking it are not given
pub record Ready (s r : List ℕ) (n : ℕ) : Type 0 where
  pub admits : Admits s r
  pub room : sample_count (parts_of s) < max_samples
  pub turn : le_at 2 r 0 ≡ sample_count (parts_of s)
  pub range : in_range (sample_of r) ≡ true
  pub second : n ≡ sample_count (parts_of s)

module _ {s s' r : List ℕ} {n : ℕ} (size' : length s' ≡ area_len) (b : Ready s r n) where
  sample_done : (z : ℤ) → Accepts r n s (number z) s' → Step (sample r) s (number z) s'
  sample_done z a =
      sample_answered b.admits z
      (λ t st.
      let y = a.taken z refl (sound_held (parts_of s) t st.holds) in
      let h : Holds (parts_of s') (with_sample t (sample_of r)) = taken_holds (parts_of s) (parts_of s') t _ n r _ st.holds refl b.second b.range refl y.0 in
      let m = moves_held (parts_of s') (with_sample t (sample_of r)) h in (
        with_sample t (sample_of r),
        rw (sample_left b.admits b.room b.turn t st, b.range, y.1 m.1, m.0) refl,
        record { size = size'; holds = h },
      ))

  -- what `take` promises makes the step
  pub sample_taken : (a : Answer) → Accepts r n s a s' → Step (sample r) s a s'
  sample_taken (number z) x = sample_done z x
  sample_taken (judged v) x = absurd (x.unjudged v refl)
  sample_taken (refused k) x =
      let y = x.unsound k refl in
      rw (y.0, y.1.0) (lent_damaged b.admits.size b.admits.whole y.1.1 (sample r) (sample_lending r))

-- the altitudes of equal parts
same_altitudes : {l m : List ℕ} (ss : List Sample) → m ≡ l → EndsOf ss (ends_from l) → EndsOf ss (ends_from m)
same_altitudes {l} {m} ss e h = subst (λ (k : List ℕ). EndsOf ss (ends_from k)) (sym e) h

-- A window.

declared_holds : (p q : Parts) (t : Trip) (k : ℕ) (r : List ℕ) → Holds p t → sample_count p ≡ 0 → k ≡ window_count p → layout_kept r ≡ true
    → q ≡ with windows_part (q windows_part) (with slots_part (slots_in q) p) → window_count q ≡ k + 1 → Added k r (slots_in p) (slots_in q) → Holds q (with_window t (window_of r))
unfolding with_window with
declared_holds p q t k r h early ek l is more x =
    let kk : k ≡ length t.windows = ek ∙ h.windows in
    let none : t.samples ≡ [] = length_zero t.samples (sym h.samples ∙ early) in
    record {
      samples = ap sample_count is ∙ h.samples;
      mark = ap closed_mark is ∙ h.mark;
      windows = more ∙ ap (λ (m : ℕ). m + 1) kk ∙ sym (length-append t.windows (window_of r ∷ []));
      format = ap format_mark is ∙ h.format;
      tally = ap tally_in is ∙ h.tally;
      altitudes = same_altitudes t.samples (ap altitudes_in is) h.altitudes;
      speeds = ap (λ (z : Parts). cells 2 le_val (speeds_in z) (length t.samples)) is ∙ h.speeds;
      slots = subst (λ (ss : List Sample). window.Stands (t.windows ++ (window_of r ∷ [])) ss (slots_in q)) (sym none)
          (x.on t.windows (subst (λ (ss : List Sample). window.Stands t.windows ss (slots_in p)) none h.slots) kk l);
    }

-- what is known of a window's record and of the area once no refusal is given
pub record Declarable (s r : List ℕ) (k : ℕ) : Type 0 where
  pub admits : Admits s r
  pub early : sample_count (parts_of s) ≡ 0
  pub room : window_count (parts_of s) < max_windows
  pub layout : layout_kept r ≡ true
  pub next : k ≡ window_count (parts_of s)

-- a slot, then the number of windows
pub declare_done : {s s' r : List ℕ} {k : ℕ} {z : ℤ} {p₁ : Parts} → length s' ≡ area_len → Declarable s r k → Changed slots_part (Added k r) (parts_of s) p₁
    → Numbered windows_part (k + 1) p₁ (parts_of s') → z ≡ pos k → Step (declare r) s (number z) s'
unfolding with
declare_done {s} {s'} {r} {k} {z} {p₁} size' b w f ez =
    let slots : slots_in (parts_of s') ≡ slots_in p₁ = ap slots_in f.is in
    let is = f.is ∙ ap (with windows_part (parts_of s' windows_part)) (w.is ∙ ap (λ (l : List ℕ). with slots_part l (parts_of s)) (sym slots)) in
    let added = subst (Added k r (slots_in (parts_of s))) (sym slots) w.by in
    declare_answered b.admits z
    (λ t st. (
      with_window t (window_of r),
      rw (declare_left b.admits b.early b.room t st, b.layout, ez, b.next, st.holds.windows) refl,
      record { size = size'; holds = declared_holds (parts_of s) (parts_of s') t k r st.holds b.early b.next b.layout is f.value added },
    ))

module _ {s s' : List ℕ} (size' : length s' ≡ area_len) where
  pub close_done : Marked s → closed_mark (parts_of s) ≡ 0 → Numbered mark_part 1 (parts_of s) (parts_of s') → Step close s (number (pos 0)) s'
  unfolding with
  close_done m free f =
      done_step close close_other s m.size (unlent close close_unlending.unlent) m.format (number (pos 0)) (number_fine (pos 0))
      (λ t st.
      let h = st.holds in (
        closed t,
        close_left free t st,
        record {
          size = size';
          holds = record {
            samples = ap sample_count f.is ∙ h.samples;
            mark = f.value;
            windows = ap window_count f.is ∙ h.windows;
            format = ap format_mark f.is ∙ h.format;
            tally = ap tally_in f.is ∙ h.tally;
            altitudes = same_altitudes t.samples (ap altitudes_in f.is) h.altitudes;
            speeds = ap (λ (z : Parts). cells 2 le_val (speeds_in z) (length t.samples)) f.is ∙ h.speeds;
            slots = subst (window.Stands t.windows t.samples) (sym (ap slots_in f.is)) h.slots;
          };
        },
      ))

  -- an area of any bytes is made fresh: the windows, the tally, and the numbers of the head
  pub clear_done : length s ≡ area_len → {u : Tally} {p₁ p₂ p₃ p₄ p₅ : Parts} → Changed slots_part (λ _. window.Stands [] []) (parts_of s) p₁ → u ≡ tally_of [] → p₂ ≡ with tally_part (tally_bytes u) p₁
      → Numbered format_part format_number p₂ p₃ → Numbered windows_part 0 p₃ p₄ → Numbered mark_part 0 p₄ p₅ → Numbered samples_part 0 p₅ (parts_of s')
      → Step clear s (number (pos 0)) s'
  unfolding outcome said left record_of with
  clear_done size w e a m f g h = record {
    wrong = record { when = λ x. absurd (x size); only = λ x. absurd (number_fine (pos 0) 11 x) };
    sized = record { when = λ x. absurd (unlent clear refl x.1); only = λ x. absurd (number_fine (pos 0) 1 x) };
    kept = λ k x. absurd (number_fine (pos 0) k x);
    fresh = λ _ _. (refl, fresh);
    unmarked = λ x. absurd (x refl);
    model = λ t st. (refl, fresh);
  }
    where
      fresh : Stands s' empty
      fresh = record {
        size = size';
        holds = record {
          samples = h.value;
          mark = ap closed_mark h.is ∙ g.value;
          windows = ap window_count h.is ∙ ap window_count g.is ∙ f.value;
          format = ap format_mark h.is ∙ ap format_mark g.is ∙ ap format_mark f.is ∙ m.value;
          tally = ap tally_in h.is ∙ ap tally_in g.is ∙ ap tally_in f.is ∙ ap tally_in m.is ∙ ap tally_in a ∙ ap tally_bytes e;
          altitudes = unfold EndsOf in tt;
          speeds = unfold cells in refl;
          slots = subst (window.Stands [] []) (sym (ap slots_in h.is ∙ ap slots_in g.is ∙ ap slots_in f.is ∙ ap slots_in m.is ∙ ap slots_in a)) w.by;
        };
      }

-- a reading of window k
module _ {s : List ℕ} (m : Marked s) (k : ℕ) (h : k < window_count (parts_of s)) where
  there : (t : Trip) → Stands s t → k < length t.windows
  there t st = omega (arith, st.holds.windows)

  told_left : (o : Option ℤ) → Reads k (slots_in (parts_of s)) o → (t : Trip) → Stands s t → outcome t (read k) ≡ told t o
  unfolding window_at
  told_left o r t st = read_left k h t st ∙ ap (told t) (sym (r.on t.windows t.samples st.holds.slots (there t st)))

  pub read_done : (o : Option ℤ) → Reads k (slots_in (parts_of s)) o → Step (read k) s (answer_of (ok_or o NoneQualifies)) s
  unfolding told
  read_done (Some z) r =
      done_step (read k) read_other s m.size (unlent (read k) (read_unlending k).unlent) m.format (number z) (number_fine z)
      (λ t st. (t, told_left (Some z) r t st, st))
  read_done None r =
      refused_step (read k) read_other s m.size (unlent (read k) (read_unlending k).unlent) m.format 10 refl
      (λ t st. told_left None r t st)

-- the verdict on the samples
judged_fine : (v : Verdict) (k : ℕ) → judged v ≡ refused k → ⊥
judged_fine v k e = let w : ◌≡◌ {A = ℕ} 0 1 = cc in omega arith

-- the verdict on the parts of the area is that on the trip's samples
pub verdict_held : {s : List ℕ} {v : Verdict} {n : ℕ} {u : Tally} → n ≡ sample_count (parts_of s) → u ≡ tally_from (tally_in (parts_of s)) → Judges (parts_of s) u n v
    → (t : Trip) → Stands s t → v ≡ verdict_of t.samples
verdict_held {s} en eu f t st = let h = st.holds in f t h (eu ∙ tally_held (parts_of s) t h) (en ∙ h.samples)

pub verdict_done : {s : List ℕ} {v : Verdict} → Marked s → ((t : Trip) → Stands s t → v ≡ verdict_of t.samples) → Step verdict s (judged v) s
unfolding outcome
verdict_done {s} {v} m f =
    done_step verdict verdict_other s m.size (unlent verdict verdict_unlending.unlent) m.format (judged v) (judged_fine v) (λ t st. (t, rw (f t st) refl, st))
