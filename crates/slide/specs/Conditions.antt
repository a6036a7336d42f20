-- Whether the sample of a second qualifies for a window. Of all laws, those of this file alone open `qualifies`.
--     condition_reach      how far back a condition may look
--     qualifies_near      it depends on the samples within that reach alone
--     qualifies_is        it, as code reckons it
-- Assumes nothing.
use Rattle.std.specs.Prelude.{List, ◌≡◌, ℕ, ◌+◌, ◌≤◌}
use Rattle.std.proofs.Math.Path.{refl, ap}
use Rattle.std.proofs.Common.{arith}
use Rattle.model.specs.declared.Sample.{Sample}
use Rattle.model.specs.Numbers.{withinℤ}
use Rattle.model.specs.Records.{channel, Window}
use Rattle.model.specs.Windows.{sample_at, qualifies}

-- the ring keeps the samples of the widest window and so many more
abbrev pub condition_reach : ℕ
condition_reach = 9

module _ (w : Window) where
  pub qualifies_is : (ss : List Sample) (i : ℕ) → qualifies w ss i ≡ withinℤ w.low w.high (channel w.condition (sample_at ss i))
  unfolding qualifies
  qualifies_is ss i = refl

  pub qualifies_near : (ss ts : List Sample) (i : ℕ) → ((j : ℕ) → j ≤ i → i ≤ j + condition_reach → sample_at ss j ≡ sample_at ts j)
      → qualifies w ss i ≡ qualifies w ts i
  unfolding qualifies
  qualifies_near ss ts i same = ap (λ (s : Sample). withinℤ w.low w.high (channel w.condition s)) (same i (omega arith) (omega arith))
