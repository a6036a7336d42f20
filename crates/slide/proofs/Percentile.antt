-- The 95th percentile without its definition: by counting, and by its rank in the ordered values.
--     percentile_passes    the percentile passes an upward closed test exactly when too few values fail it; false where there is no value
--     percentile_rank      it stands at `rank` in the ordered values
--     reading_percentile   what a window of function 5 reads
-- Assumes nothing.
use Rattle.std.specs.Prelude.{◌≡◌, Bool, leb, ltb}
use Rattle.std.proofs.Math.Path.{refl, sym, ap}
use Rattle.std.proofs.Common.{◌∙◌, true≢false, le-leb}
use mathlib.Core.List.{List, [], ◌∷◌}
use Rattle.std.specs.Prelude.{Some}
use Rattle.std.proofs.Math.Bool.{true, false, not}
use Rattle.std.proofs.lemmas.Bool.{lt-leb, not-true}
use Prim.Native.Nat.{◌*◌, ◌<◌}
use native.Mathlib.Omega.{arith}
use Rattle.std.proofs.Math.IntN.{ℤ}
use Rattle.std.proofs.Math.ListN.{length, get_or}
use Rattle.std.specs.Int.Signed.{le_z}
use Rattle.model.specs.Numbers.{filter, count}
use Rattle.model.specs.Windows.{enough, percentile}
use Rattle.laws.specs.Lists.{in_at, in_filter, all_filter}
use Rattle.laws.specs.Tests.{not_not}
use Rattle.laws.specs.Order.{ltb_leb, le_z_refl, upwards, smallest_best, best_is}
use Rattle.slide.specs.Ordered.{ordered, sorted_ordered, count_ordered, length_ordered, in_ordered}
use Rattle.model.specs.Records.{Window}
use Rattle.model.specs.declared.Sample.{Sample}
use Rattle.model.specs.declared.Function.TheVariants.{Percentile}
use Rattle.model.specs.Windows.{values, reading, figure}
use Rattle.slide.specs.Percentile.{rank, Downward, Upward, upto_downward, rank_pass, rank_fail, percentile_empty, percentile_some, passes}
use Rattle.slide.specs.Readings.{by_function}

module _ (zs : List ℤ) (h : 0 < length zs) (d : ℤ) where
  abbrev at_rank : ℤ
  at_rank = get_or (ordered zs) (rank (length zs)) d

  inside : rank (length zs) < length (ordered zs)
  inside = omega (arith, length_ordered zs)

  -- what stands at the rank passes exactly when enough do
  rank_test : (p : ℤ → Bool) → Downward p → p at_rank ≡ leb (95 * length zs) (100 * count p zs)
  rank_test p down = by (p at_rank) refl
    where
      by : (b : Bool) → p at_rank ≡ b → b ≡ leb (95 * length zs) (100 * count p zs)
      by true e =
          sym (le-leb (95 * length zs) (100 * count p zs)
          (omega (arith, rank_pass p down d (ordered zs) (rank (length zs)) (sorted_ordered zs) inside e, count_ordered p zs)))
      by false e =
          sym (lt-leb (95 * length zs) (100 * count p zs)
          (omega (arith, rank_fail p down d (ordered zs) (rank (length zs)) (sorted_ordered zs) inside e, count_ordered p zs)))

  rank_enough : (t : ℤ) → le_z at_rank t ≡ enough zs t
  unfolding enough
  rank_enough t = rank_test (λ z. le_z z t) (upto_downward t)

  pub percentile_rank : percentile zs ≡ Some (get_or (ordered zs) (rank (length zs)) d)
  unfolding percentile
  percentile_rank =
      smallest_best (filter (enough zs) zs)
      ∙ best_is le_z upwards at_rank (filter (enough zs) zs)
      (in_filter (enough zs) at_rank zs (in_ordered at_rank zs (in_at d (ordered zs) (rank (length zs)) inside)) (sym (rank_enough at_rank) ∙ le_z_refl at_rank))
      (all_filter _ (enough zs) (λ t e. rank_enough t ∙ e) zs)

module _ (zs : List ℤ) (v : ℤ) (is : percentile zs ≡ Some v) where
  pub percentile_test : (p : ℤ → Bool) → Downward p → p v ≡ leb (95 * length zs) (100 * count p zs)
  percentile_test p down =
      let h : 0 < length zs = percentile_some zs v is in
      let e : v ≡ get_or (ordered zs) (rank (length zs)) v = cc (percentile_rank zs h v) in
      ap p e ∙ rank_test zs h v p down

module _ (p : ℤ → Bool) (up : Upward p) where
  fails_downward : Downward (λ z. not (p z))
  fails_downward a b h k = by (p a) refl
    where
      by : (t : Bool) → p a ≡ t → not t ≡ true
      by true e = absurd (true≢false (sym (up a b h e) ∙ not-true (p b) k))
      by false e = refl

  pub percentile_passes : (zs : List ℤ) → passes p (percentile zs) ≡ ltb (100 * count (λ z. not (p z)) zs) (95 * length zs)
  unfolding count
  percentile_passes [] = rw percentile_empty refl
  percentile_passes (z ∷ zs) =
      let e = percentile_rank (z ∷ zs) (omega arith) z in
      let v : ℤ = get_or (ordered (z ∷ zs)) (rank (length (z ∷ zs))) z in
      ap (passes p) e ∙ not_not (p v) ∙ ap not (percentile_test (z ∷ zs) v e (λ z. not (p z)) fails_downward)
      ∙ sym (ltb_leb (100 * count (λ z. not (p z)) (z ∷ zs)) (95 * length (z ∷ zs)))

-- what a window of function 5 reads
module _ (w : Window) (ss : List Sample) where
  pub reading_percentile : (d : ℤ) → w.function ≡ Percentile → 0 < length (values w ss)
      → reading w ss ≡ Some (get_or (ordered (values w ss)) (rank (length (values w ss))) d)
  unfolding figure
  reading_percentile d e h = by_function w ss Percentile e ∙ percentile_rank (values w ss) h d
