-- The held entries of a window as one more sample comes, as code keeps them, and the reading by them.
--     stepped                    what code does to the list as one sample more comes
--     held_stepped, aged_length are in proofs/Held: the list stays what is held; after the first has gone there is room for one more
--     held_within, held_rising, held_length      the entries are in view, rise strictly, at most the width
--     reading_held, reading_first, reading_unheld      the reading is the first one's value; none where nothing is held
-- Assumes nothing.
use Rattle.std.specs.Prelude.{◌≡◌, refl, List, [], ◌∷◌, ◌++◌, map, Bool, cond, ℕ, ◌+◌, ◌≤◌, ◌<◌, ℤ, get_or}
use Rattle.std.proofs.Common.{sym, ◌∙◌, arith}
use Rattle.std.proofs.Math.Path.{ap}
use Rattle.std.proofs.Math.Bool.{true, false}
use Rattle.std.proofs.lemmas.Bool.{false≢true}
use Rattle.std.specs.Prelude.{None, Some}
use Rattle.std.proofs.Math.ListN.{length}
use Rattle.model.specs.declared.Sample.{Sample}
use Rattle.model.specs.declared.Function.{Function}
use Rattle.model.specs.declared.Function.TheVariants.{Count, Sum, Smallest, Largest, Average, Percentile}
use Rattle.model.specs.Records.{Window}
use Rattle.model.specs.Windows.{qualifying, value_at, values, figure, reading, keeps_entries, displaces, undisplaced, held}
use Rattle.laws.specs.Lists.{All, length_zero, Rising}
use Rattle.laws.specs.Order.{Order, upwards, downwards, best, best_is, smallest_best, largest_best}
use Rattle.slide.specs.Step.{enters}
use Rattle.slide.specs.Step.{qualifying_within, qualifying_rising, qualifying_length, qualifying_start}
use Rattle.slide.specs.Undisplaced.{pops, aged, all_undisplaced, rising_undisplaced, length_undisplaced}
use Rattle.slide.specs.Undisplaced.{undisplaced_nil, first_best}

-- where second n qualifies, those that it displaces go too, from the back, and it comes
unfoldable pub stepped : ℕ → ℕ → Bool → (ℕ → Bool) → List ℕ → List ℕ
stepped width n enters d l = cond enters (pops d (aged width n l) ++ (n ∷ [])) (aged width n l)

-- smallest and largest are one law
pub displaces_order : (f : Function) → keeps_entries f ≡ true → Order (displaces f)
unfolding keeps_entries displaces
displaces_order Count e = absurd (false≢true e)
displaces_order Sum e = absurd (false≢true e)
displaces_order Smallest e = upwards
displaces_order Largest e = downwards
displaces_order Average e = absurd (false≢true e)
displaces_order Percentile e = absurd (false≢true e)

pub figure_best : (f : Function) → keeps_entries f ≡ true → (zs : List ℤ) → figure f zs ≡ best (displaces f) zs
unfolding keeps_entries displaces figure
figure_best Count e zs = absurd (false≢true e)
figure_best Sum e zs = absurd (false≢true e)
figure_best Smallest e zs = smallest_best zs
figure_best Largest e zs = largest_best zs
figure_best Average e zs = absurd (false≢true e)
figure_best Percentile e zs = absurd (false≢true e)

-- The window's list.

abbrev pub displaced_by : Window → List Sample → ℕ → ℕ → Bool
displaced_by w ss j i = displaces w.function (value_at w ss j) (value_at w ss i)

pub held_is : (w : Window) (ss : List Sample) → keeps_entries w.function ≡ true → held w ss ≡ undisplaced (displaced_by w ss) (qualifying w ss)
unfolding held
held_is w ss keeps = rw keeps refl

-- a window of another function holds nothing
pub held_unkept : (w : Window) (ss : List Sample) → keeps_entries w.function ≡ false → held w ss ≡ []
unfolding held
held_unkept w ss e = rw e refl

module _ (w : Window) (ss : List Sample) where
  -- either way
  held_cases : (P : List ℕ → Type 0) → P (undisplaced (displaced_by w ss) (qualifying w ss)) → P [] → P (held w ss)
  unfolding held
  held_cases P h k = by (keeps_entries w.function)
    where
      by : (b : Bool) → P (cond b (undisplaced (displaced_by w ss) (qualifying w ss)) [])
      by true = h
      by false = k

  pub held_within : All (λ x. (length ss ≤ x + w.width) × (x < length ss)) (held w ss)
  unfolding All
  held_within = held_cases (All _) (all_undisplaced (displaced_by w ss) _ (qualifying w ss) (qualifying_within w ss)) tt

  pub held_rising : Rising (held w ss)
  unfolding Rising
  held_rising = held_cases Rising (rising_undisplaced (displaced_by w ss) (qualifying w ss) (qualifying_rising w ss)) tt

  pub held_qualifying : length (held w ss) ≤ length (qualifying w ss)
  held_qualifying = held_cases (λ l. length l ≤ length (qualifying w ss)) (length_undisplaced (displaced_by w ss) (qualifying w ss)) (omega arith)

  pub held_length : length (held w ss) ≤ w.width
  held_length = omega (arith, held_qualifying, qualifying_length w ss)

module _ (w : Window) (ss : List Sample) (keeps : keeps_entries w.function ≡ true) where
  pub reading_best : reading w ss ≡ best (displaces w.function) (values w ss)
  unfolding reading
  reading_best = figure_best w.function keeps (values w ss)

  pub reading_held : (x : ℕ) (xs : List ℕ) → held w ss ≡ x ∷ xs → reading w ss ≡ Some (value_at w ss x)
  unfolding values
  reading_held x xs e =
      let q = first_best (displaces w.function) (displaces_order w.function keeps) (value_at w ss) x xs (qualifying w ss) (sym (held_is w ss keeps) ∙ e) in
      reading_best ∙ best_is (displaces w.function) (displaces_order w.function keeps) (value_at w ss x) (values w ss) q.0 q.1

  pub reading_first : 0 < length (held w ss) → reading w ss ≡ Some (value_at w ss (get_or (held w ss) 0 0))
  reading_first h = by (held w ss) refl h
    where
      by : (l : List ℕ) → held w ss ≡ l → 0 < length l → reading w ss ≡ Some (value_at w ss (get_or l 0 0))
      by [] e h = absurd (omega arith)
      by (x ∷ xs) e h = reading_held x xs e

  pub unheld_values : held w ss ≡ [] → values w ss ≡ []
  unfolding values
  unheld_values e = ap (map (value_at w ss)) (undisplaced_nil (displaced_by w ss) (qualifying w ss) (sym (held_is w ss keeps) ∙ e))

  pub reading_unheld : length (held w ss) ≡ 0 → reading w ss ≡ None
  unfolding best
  reading_unheld e = reading_best ∙ ap (best (displaces w.function)) (unheld_values (length_zero (held w ss) e))

-- before the first sample
pub held_start : (w : Window) → held w [] ≡ []
unfolding undisplaced
held_start w = held_cases w [] (λ l. l ≡ []) (rw (qualifying_start w) refl) refl
