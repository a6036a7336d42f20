-- The tally of an area that stands for a trip, and the areas that stand for no trip. Assumes nothing.
use Rattle.std.specs.Prelude.{false, List, ◌≡◌, ℕ, ◌<◌}
use Rattle.std.proofs.Common.{true≢false, sym, ap, ◌∙◌, arith}
use Rattle.model.specs.Records.{max_samples, max_windows}
use Rattle.model.specs.Tallies.{tally_of, tally_from, sound}
use Rattle.model.specs.Trip.{Trip}
use Rattle.record.specs.Ranges.{each_all}
use Rattle.tally.specs.Sound.{Sound, facts_sound, tally_sound, sound_small}
use Rattle.tally_bytes.specs.Bytes.{tally_back}
use Rattle.area.specs.Layout.{Parts, parts_of, sample_count, window_count, tally_in}
use Rattle.area.specs.Stands.{Holds, Stands}

module _ (p : Parts) (t : Trip) (h : Holds p t) where
  samples_sound : Sound (tally_of t.samples)
  samples_sound = tally_sound t.samples (each_all t.samples h.slots.ranges) h.slots.samples

  -- the tally in the area is the tally of the samples
  pub tally_held : tally_from (tally_in p) ≡ tally_of t.samples
  tally_held = ap tally_from h.tally ∙ tally_back (tally_of t.samples) (sound_small (tally_of t.samples) samples_sound)

  -- and is sound
  pub sound_held : Sound (tally_from (tally_in p))
  sound_held = rw tally_held samples_sound

-- An area whose tally is ill_formed, or that has too many windows or samples, stands for no trip.

pub ill_formed : (s : List ℕ) → sound (tally_from (tally_in (parts_of s))) ≡ false → (t : Trip) → Stands s t → ⊥
ill_formed s e t st = true≢false (sym (facts_sound (tally_from (tally_in (parts_of s))) (sound_held (parts_of s) t st.holds)) ∙ e)

pub many_windows : (s : List ℕ) → max_windows < window_count (parts_of s) → (t : Trip) → Stands s t → ⊥
many_windows s h t st = omega (arith, st.holds.windows, st.holds.slots.windows)

pub many_samples : (s : List ℕ) → max_samples < sample_count (parts_of s) → (t : Trip) → Stands s t → ⊥
many_samples s h t st = omega (arith, st.holds.samples, st.holds.slots.samples)
