-- The reference model, document 01's "trip book": what each call answers, and the trip that the next call meets.
use Rattle.std.specs.Prelude.{Bool, true, false, List, [], ◌∷◌, ◌++◌, ℕ, ℤ, pos, length, get_or}
use Rattle.std.specs.Prelude.{Option, None, Some}
use Rattle.model.specs.declared.Sample.{Sample}
use Rattle.model.specs.declared.Verdict.{Verdict}
use Rattle.model.specs.Records.{sample_of, window_of, Window}
use Rattle.model.specs.Windows.{reading, moves}
use Rattle.model.specs.Verdicts.{verdict_of}
use Rattle.model.specs.Refusals.{unless, sample_refusals, declare_refusals, close_refusals, read_refusals}

-- "State: list of window records, list of samples, closed mark."
pub record Trip : Type 0 where
  pub windows : List Window
  pub samples : List Sample
  pub closed : Bool

-- a fresh handset's "book has empty lists and no mark"
abbrev pub empty : Trip
empty = record { windows = []; samples = []; closed = false }

-- "each call's kind and its arguments"
pub data Call : Type 0 where
  clear : Call
  declare : List ℕ → Call
  sample : List ℕ → Call
  close : Call
  read : ℕ → Call
  verdict : Call

-- the record that a call lends, if it lends one
unfoldable pub record_of : Call → Option (List ℕ)
record_of clear = None
record_of (declare r) = Some r
record_of (sample r) = Some r
record_of close = None
record_of (read k) = None
record_of verdict = None

-- "0, window numbers, readings, verdicts whole, refusals with their numbers, move counts"
pub data Answer : Type 0 where
  number : ℤ → Answer
  judged : Verdict → Answer
  refused : ℕ → Answer

-- What a call comes to: "A refused call answers its refusal number alone .. and changes nothing", or an answer and the next trip.
pub data Outcome : Type 0 where
  refuse : ℕ → Outcome
  accept : Answer → Trip → Outcome

unfoldable pub with_sample : Trip → Sample → Trip
with_sample t s = record { windows = t.windows; samples = t.samples ++ (s ∷ []); closed = t.closed }

unfoldable pub with_window : Trip → Window → Trip
with_window t w = record { windows = t.windows ++ (w ∷ []); samples = t.samples; closed = t.closed }

abbrev pub closed : Trip → Trip
closed t = record { windows = t.windows; samples = t.samples; closed = true }

abbrev pub move_count : Trip → ℕ
move_count t = moves t.windows t.samples

-- window k of the trip; every use below has k among the windows
unfoldable pub window_at : Trip → ℕ → Window
window_at t k = get_or t.windows k (window_of [])

-- "With none qualifying, count and sum are 0 and the others give refusal 10."
unfoldable pub told : Trip → Option ℤ → Outcome
told t None = refuse 10
told t (Some z) = accept (number z) t

-- what a call comes to
unfoldable pub outcome : Trip → Call → Outcome
outcome t clear = accept (number (pos 0)) empty
outcome t (declare r) =
    unless refuse (declare_refusals t.closed (length t.samples) (length t.windows) r)
    (accept (number (pos (length t.windows))) (with_window t (window_of r)))
outcome t (sample r) =
    unless refuse (sample_refusals t.closed (length t.samples) r)
    (accept (number (pos (move_count (with_sample t (sample_of r))))) (with_sample t (sample_of r)))
outcome t close = unless refuse (close_refusals t.closed) (accept (number (pos 0)) (closed t))
outcome t (read k) = unless refuse (read_refusals (length t.windows) k) (told t (reading (window_at t k) t.samples))
outcome t verdict = accept (judged (verdict_of t.samples)) t

unfoldable pub said : Outcome → Answer
said (refuse k) = refused k
said (accept a t) = a

unfoldable pub left : Trip → Outcome → Trip
left t (refuse k) = t
left t (accept a t') = t'

-- the answer to a call, and the trip after it
abbrev pub answer : Trip → Call → Answer
answer t c = said (outcome t c)

abbrev pub next : Trip → Call → Trip
next t c = left t (outcome t c)

-- the answers to a list of calls, and the trip after it
unfoldable pub answers : Trip → List Call → List Answer
answers t [] = []
answers t (c ∷ cs) = answer t c ∷ answers (next t c) cs

unfoldable pub after : Trip → List Call → Trip
after t [] = t
after t (c ∷ cs) = after (next t c) cs
