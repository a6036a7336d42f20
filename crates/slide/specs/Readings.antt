-- What a window reads, from what code keeps of it: the count and the sum. The smallest and the largest are in Held.
--     reading_count, reading_sum, reading_average; reading_percentile is in proofs/Percentile
--     reading_none      with no value, the others have no reading
-- Assumes nothing.
use Rattle.std.specs.Prelude.{◌≡◌, refl, List, [], ◌∷◌, Bool, true, false, ◌<◌, ℤ, pos, length}
use Rattle.std.proofs.Math.Path.{ap}
use Rattle.std.proofs.Common.{◌∙◌, arith}
use Rattle.std.specs.Prelude.{None, Some}
use Rattle.std.proofs.lemmas.Bool.{false≢true}
use Rattle.model.specs.Records.{Window}
use Rattle.model.specs.declared.Sample.{Sample}
use Rattle.model.specs.declared.Function.{Function}
use Rattle.model.specs.declared.Function.TheVariants.{Count, Sum, Smallest, Largest, Average, Percentile}
use Rattle.model.specs.Numbers.{sumℤ, round_half_even}
use Rattle.model.specs.Windows.{values, smallest, largest, average, figure, reading}
use Rattle.laws.specs.Lists.{length_zero}
use Rattle.slide.specs.Percentile.{percentile_empty}

-- the average by the count and the sum
average_is : (zs : List ℤ) → 0 < length zs → average zs ≡ Some (round_half_even (sumℤ zs) (length zs))
unfolding average
average_is [] h = absurd (omega arith)
average_is (z ∷ zs) h = refl

-- with no value, function codes 2 to 5 have no reading
unfoldable pub needs_values : Function → Bool
needs_values Count = false
needs_values Sum = false
needs_values Smallest = true
needs_values Largest = true
needs_values Average = true
needs_values Percentile = true

pub figure_none : (f : Function) → needs_values f ≡ true → figure f [] ≡ None
unfolding needs_values figure smallest largest average
figure_none Count e = absurd (false≢true e)
figure_none Sum e = absurd (false≢true e)
figure_none Smallest e = refl
figure_none Largest e = refl
figure_none Average e = refl
figure_none Percentile e = percentile_empty

module _ (w : Window) (ss : List Sample) where
  pub by_function : (f : Function) → w.function ≡ f → reading w ss ≡ figure f (values w ss)
  unfolding reading
  by_function f e = ap (λ (g : Function). figure g (values w ss)) e

  pub reading_count : w.function ≡ Count → reading w ss ≡ Some (pos (length (values w ss)))
  unfolding figure
  reading_count e = by_function Count e

  pub reading_sum : w.function ≡ Sum → reading w ss ≡ Some (sumℤ (values w ss))
  unfolding figure
  reading_sum e = by_function Sum e

  pub reading_average : w.function ≡ Average → 0 < length (values w ss) → reading w ss ≡ Some (round_half_even (sumℤ (values w ss)) (length (values w ss)))
  unfolding figure
  reading_average e h = by_function Average e ∙ average_is (values w ss) h

  pub reading_none : needs_values w.function ≡ true → length (values w ss) ≡ 0 → reading w ss ≡ None
  unfolding reading
  reading_none e h = ap (figure w.function) (length_zero (values w ss) h) ∙ figure_none w.function e
