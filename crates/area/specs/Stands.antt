-- The trip that the state area stands for.
use Rattle.std.specs.Prelude.{List, map, ◌≡◌, ℕ, length}
use Rattle.field.specs.Cells.{cells}
use Rattle.model.specs.declared.Tally.{Tally}
use Rattle.model.specs.declared.Verdict.{Verdict}
use Rattle.model.specs.Numbers.{bit, le_val}
use Rattle.model.specs.Rules.{speed}
use Rattle.model.specs.Tallies.{tally_of, tally_bytes}
use Rattle.model.specs.Trip.{Trip}
use Rattle.model.specs.Verdicts.{verdict_of}
use Rattle.window.specs.Stand as window
use Rattle.altitudes.specs.Ends.{ends_from, EndsOf}
use Rattle.area.specs.Layout.{area_len, Parts, parts_of, sample_count, closed_mark, window_count, format_mark, format_number, tally_in, altitudes_in, speeds_in, slots_in}

-- the parts hold what the trip's lists and mark say
pub record Holds (p : Parts) (t : Trip) : Type 0 where
  pub samples : sample_count p ≡ length t.samples
  pub mark : closed_mark p ≡ bit t.closed
  pub windows : window_count p ≡ length t.windows
  pub format : format_mark p ≡ format_number
  pub tally : tally_in p ≡ tally_bytes (tally_of t.samples)
  pub altitudes : EndsOf t.samples (ends_from (altitudes_in p))
  pub speeds : cells 2 le_val (speeds_in p) (length t.samples) ≡ map speed t.samples
  pub slots : window.Stands t.windows t.samples (slots_in p)

-- what the verdict v on the parts promises, where the tally u and the number of samples n were read from them
abbrev pub Judges : Parts → Tally → ℕ → Verdict → Type 0
Judges p u n v = (t : Trip) → Holds p t → u ≡ tally_of t.samples → n ≡ length t.samples → v ≡ verdict_of t.samples

-- the refusal of an area that is found to stand for no trip; document 01 leaves the number free
abbrev pub damaged : ℕ
damaged = 255

-- the area stands for the trip
pub record Stands (area : List ℕ) (t : Trip) : Type 0 where
  pub size : length area ≡ area_len
  pub holds : Holds (parts_of area) t
