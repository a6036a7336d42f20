-- The counts that rules 15 to 20 go by: of each class the accelerating samples, and those of them whose power is not beyond the class's line.
-- `counts_of` counts over the stored speeds; `CountedTo` is what the walk has counted of the first of them.
--     counted_none, counted_next, counted_last     no sample; one more; the last, which is never accelerating
-- Assumes nothing.
use Rattle.std.specs.Prelude.{◌≡◌, refl, Bool, false, List, [], ◌∷◌, ℕ, zero, suc, ◌+◌, ◌^◌, ◌<◌, length}
use Rattle.std.proofs.Math.Path.{sym}
use Rattle.std.proofs.Common.{ap₂, ◌∙◌, add-one, add-zero, zero-add}
use native.Mathlib.Omega.{arith}
use Rattle.model.specs.declared.Speed.{Speed}
use Rattle.model.specs.declared.SpeedClass.{SpeedClass}
use Rattle.model.specs.declared.SpeedClass.TheVariants.{Urban, Rural, Motorway}
use Rattle.model.specs.declared.Tally.{Tally}
use Rattle.model.specs.Numbers.{bit, range, count}
use Rattle.model.specs.Records.{tenths}
use Rattle.laws.specs.Lists.{range_snoc, count_append}
use Rattle.limits.specs.declared.PowerLimit.{PowerLimit}
use Rattle.model.specs.declared.per_class.PerClass.{PerClass}
use Rattle.model.specs.PerClass.{value_in}
use Rattle.limits.specs.Line.{limit_of}
use Rattle.acceleration.specs.declared.Counts.{Counts}
use Rattle.acceleration.specs.declared.Power.{Power}
use Rattle.acceleration.specs.Bound.{BoundsOf}
use Rattle.acceleration.specs.Sample.{rise_of, accelerates_in, within_in, accelerates, within, accelerates_is, within_is, none_after}
use Rattle.acceleration.specs.Sample.{MostCounts, raised, counted, no_counts, most_more, counted_most, raised_by}
use Rattle.power.specs.Speeds.{speed_in, speed_before_in, acceleration_in, speed_past}

-- the limits of a trip's classes
unfoldable pub limits_of : Tally → PerClass PowerLimit
limits_of t = record { urban = limit_of t.classes.urban; rural = limit_of t.classes.rural; motorway = limit_of t.classes.motorway }

-- second i is an accelerating one of the class, and its power is not beyond the limit
abbrev pub accelerates_at : SpeedClass → List ℕ → ℕ → Bool
accelerates_at c vs i = accelerates_in c (speed_in vs i) (acceleration_in vs i)

abbrev pub within_at : SpeedClass → PowerLimit → List ℕ → ℕ → Bool
within_at c l vs i = within_in c l (speed_in vs i) (acceleration_in vs i)

-- how many of the first m seconds pass a test of each class
abbrev counts_in : (SpeedClass → ℕ → Bool) → ℕ → PerClass ℕ
counts_in t m = record {
  urban = count (t Urban) (range 0 m);
  rural = count (t Rural) (range 0 m);
  motorway = count (t Motorway) (range 0 m);
}

unfoldable pub counts_of : PerClass PowerLimit → List ℕ → ℕ → Counts
counts_of l vs m = record {
  accelerating = counts_in (λ c. accelerates_at c vs) m;
  within = counts_in (λ c. within_at c (value_in l c) vs) m;
}

-- a test over one second more
count_next : (p : ℕ → Bool) (m : ℕ) → count p (range 0 (m + 1)) ≡ count p (range 0 m) + bit (p m)
unfolding count
count_next p m = rw (add-one m, range_snoc 0 m, zero-add m, count_append p (range 0 m) (m ∷ [])) (omega arith)

counts_next : (t : SpeedClass → ℕ → Bool) (m : ℕ) → counts_in t (m + 1) ≡ raised (counts_in t m) (λ c. t c m)
unfolding raised
counts_next t m = rw (count_next (t Urban) m, count_next (t Rural) m, count_next (t Motorway) m)

-- and where it passes none
counts_still : (t : SpeedClass → ℕ → Bool) (m : ℕ) → ((c : SpeedClass) → t c m ≡ false) → counts_in t (m + 1) ≡ counts_in t m
unfolding raised
counts_still t m e =
    counts_next t m
    ∙ raised_by (counts_in t m) (λ c. t c m) (λ c. false) e
    ∙ rw (add-zero (count (t Urban) (range 0 m)), add-zero (count (t Rural) (range 0 m)), add-zero (count (t Motorway) (range 0 m)))

-- What the walk has counted of the first m seconds: whatever the limits of which these are the bounds.
pub record CountedTo (b : PerClass Power) (vs : List ℕ) (m : ℕ) (k : Counts) : Type 0 where
  pub most : MostCounts m k
  pub is : (l : PerClass PowerLimit) → BoundsOf l b → k ≡ counts_of l vs m

module _ (b : PerClass Power) (vs : List ℕ) where
  pub counted_none : CountedTo b vs 0 no_counts
  unfolding counts_of count range
  counted_none = record {
    most = record {
      accelerating = record { urban = omega arith; rural = omega arith; motorway = omega arith };
      within = record { urban = omega arith; rural = omega arith; motorway = omega arith };
    };
    is = λ l h. refl;
  }

  -- second m, by its speed and those beside it, as they were read
  module _ (m : ℕ) (k : Counts) (v next previous : Speed) (kv : tenths v < 2 ^ 16) (kn : tenths next < 2 ^ 16) where
    abbrev after : Counts
    after = counted b k v (rise_of next previous)

    module _ (ev : v ≡ speed_in vs m) (en : next ≡ speed_in vs (m + 1)) (ep : previous ≡ speed_before_in vs m) where
      accelerating_next : (c : SpeedClass) → accelerates c v (rise_of next previous) ≡ accelerates_at c vs m
      accelerating_next c = accelerates_is c v next previous ∙ rw (ev, en, ep, add-one m)

      within_next : (l : PerClass PowerLimit) → BoundsOf l b → (c : SpeedClass)
          → within c (value_in b c) v (rise_of next previous) ≡ within_at c (value_in l c) vs m
      within_next l h c = within_is c v next previous (value_in l c) (value_in b c) (h c) kv kn ∙ rw (ev, en, ep, add-one m)

      after_is : (l : PerClass PowerLimit) → BoundsOf l b → k ≡ counts_of l vs m → after ≡ counts_of l vs (m + 1)
      unfolding counted counts_of
      after_is l h e =
          rw e
          (ap₂ (λ (x y : PerClass ℕ). record { accelerating = x; within = y })
          (raised_by (counts_in (λ c. accelerates_at c vs) m) _ _ accelerating_next ∙ sym (counts_next (λ c. accelerates_at c vs) m))
          (raised_by (counts_in (λ c. within_at c (value_in l c) vs) m) _ _ (within_next l h) ∙ sym (counts_next (λ c. within_at c (value_in l c) vs) m)))

      pub counted_next : CountedTo b vs m k → CountedTo b vs (m + 1) after
      counted_next t = record { most = counted_most m b k v (rise_of next previous) t.most; is = λ l h. after_is l h (t.is l h) }

  -- the last second, after which there is no speed
  module _ (m : ℕ) (k : Counts) (e : length vs ≡ m + 1) where
    last_still : (c : SpeedClass) → accelerates_at c vs m ≡ false
    unfolding speed_in
    last_still c = rw (speed_past vs (suc m) (omega arith)) (none_after c (speed_in vs m) (speed_before_in vs m))

    within_still : (l : PerClass PowerLimit) (c : SpeedClass) → within_at c (value_in l c) vs m ≡ false
    unfolding within_in
    within_still l c = rw (last_still c)

    last_is : (l : PerClass PowerLimit) → counts_of l vs m ≡ counts_of l vs (m + 1)
    unfolding counts_of
    last_is l =
        sym (rw (counts_still (λ c. accelerates_at c vs) m last_still, counts_still (λ c. within_at c (value_in l c) vs) m (within_still l)))

    pub counted_last : CountedTo b vs m k → CountedTo b vs (m + 1) k
    counted_last t = record { most = most_more k (omega arith) t.most; is = λ l h. t.is l h ∙ last_is l }

  -- one sample alone, or none
  pub counted_few : (n : ℕ) → n < 2 → length vs ≡ n → CountedTo b vs n no_counts
  counted_few zero h e = counted_none
  counted_few (suc zero) h e = counted_last 0 no_counts e counted_none
  counted_few (suc (suc n)) h e = absurd (omega arith)
