-- What taking a sample does to the area's parts, and what it promises. Assumes nothing.
use Rattle.std.specs.Prelude.{List, ◌≡◌, ℕ, ◌+◌, ◌<◌, ℤ}
use Rattle.std.proofs.Common.{arith}
use Rattle.model.specs.declared.Sample.{Sample}
use Rattle.model.specs.declared.Tally.{Tally}
use Rattle.model.specs.declared.Verdict.{Verdict}
use Rattle.model.specs.Records.{max_samples, sample_of}
use Rattle.model.specs.Tallies.{tally_bytes, tally_from}
use Rattle.model.specs.Trip.{Trip, Answer, number, judged, refused}
use Rattle.power.specs.Speeds.{Appended}
use Rattle.altitudes.specs.Ends.{Kept}
use Rattle.tally.specs.Add.{added}
use Rattle.tally.specs.Sound.{Sound}
use Rattle.window.specs.Sweep.{Stepped}
use Rattle.area.specs.Layout.{Parts, parts_of, sample_count, closed_mark, window_count, format_mark, tally_in, altitudes_in, speeds_in, slots_in}
use Rattle.area.specs.Stands.{damaged, Stands}
use Rattle.area_windows.specs.Effects.{CountedMoves}

-- the sample x of second n is taken: the tally, the windows, the speeds, the altitudes and the number of samples are new
pub record Taken (k n : ℕ) (r : List ℕ) (x : Sample) (t : Tally) (p q : Parts) : Type 0 where
  pub mark : closed_mark q ≡ closed_mark p
  pub windows : window_count q ≡ window_count p
  pub format : format_mark q ≡ format_mark p
  pub tally : tally_in q ≡ tally_bytes t
  pub samples : sample_count q ≡ n + 1
  pub added : Appended n x.speed (speeds_in p) (speeds_in q)
  pub altitudes : Kept n x.altitude (altitudes_in p) (altitudes_in q)
  pub stepped : Stepped k n r (slots_in p) (slots_in q)

-- the same, the tally being the area's with the sample, where the area's is sound
abbrev pub TakenSound : (k n : ℕ) (r : List ℕ) (x : Sample) (p q : Parts) → Type 0
TakenSound k n r x p q = Sound (tally_from (tally_in p)) → Taken k n r x (added (tally_from (tally_in p)) x) p q

-- what is known once the refusals before it are not given: s is the sample of the record r, and its turn, n, has come
pub record Taking (p : Parts) (r : List ℕ) (s : Sample) (n : ℕ) : Type 0 where
  pub room : n < max_samples
  pub turn : n ≡ sample_count p
  pub sample : s ≡ sample_of r

-- what taking the sample of record r, second n, promises of the answer a: where the tally in the area is sound, the sample is taken with it and the
-- answer is the moves; or the refusal of an area that stands for no trip, which changes nothing
pub record Accepts (r : List ℕ) (n : ℕ) (s : List ℕ) (a : Answer) (s' : List ℕ) : Type 0 where
  pub taken :
      (z : ℤ) → a ≡ number z → Sound (tally_from (tally_in (parts_of s)))
      → Taken (window_count (parts_of s)) n r (sample_of r) (added (tally_from (tally_in (parts_of s))) (sample_of r)) (parts_of s) (parts_of s') × CountedMoves (parts_of s') z
  pub unsound : (k : ℕ) → a ≡ refused k → (s' ≡ s) × ((k ≡ damaged) × ((t : Trip) → Stands s t → ⊥))
  pub unjudged : (v : Verdict) → a ≡ judged v → ⊥

-- a number is no refusal
pub number_fine : (z : ℤ) (k : ℕ) → number z ≡ refused k → ⊥
number_fine z k e = let w : ◌≡◌ {A = ℕ} 0 1 = cc in omega arith
