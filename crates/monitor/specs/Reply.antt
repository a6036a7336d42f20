-- An answer as C gets it: refusal 0 is accepted, with its values; any other refusal has every other field 0.
use Rattle.std.specs.Prelude.{List, ◌≡◌, ℕ, ◌<◌, ℤ, pos, Result, Ok, Err}
use Rattle.model.specs.declared.Refusal.{Refusal}
use Rattle.model.specs.declared.Verdict.{Verdict}
use Rattle.model.specs.Answers.{answer_of, verdict_answer_of, refusal_number, finding_code}
use Rattle.model.specs.Blocks.{Written, Checked, unchecked, checked}
use Rattle.model.specs.Numbers.{bit}
use Rattle.model.specs.Trip as model
use Rattle.steps.specs.Step.{Step}
use Rattle.tally_calls.specs.Calls.{Wrote}
use Rattle.monitor.specs.declared.RdeAnswer.{RdeAnswer}
use Rattle.monitor.specs.declared.RdeVerdictAnswer.{RdeVerdictAnswer}
use Rattle.monitor.specs.declared.RdeCo2Answer.{RdeCo2Answer}

-- the C struct of an answer, and of the verdict's
abbrev pub reply_of : Result ℤ Refusal → RdeAnswer
reply_of (Ok z) = record { refusal = 0; value = z }
reply_of (Err r) = record { refusal = refusal_number r; value = pos 0 }

abbrev pub judged_reply_of : Verdict → RdeVerdictAnswer
judged_reply_of v = record { refusal = 0; broken = v.broken; exceeded = bit v.exceeded; word = finding_code v.finding }

abbrev pub verdict_reply_of : Result Verdict Refusal → RdeVerdictAnswer
verdict_reply_of (Ok v) = judged_reply_of v
verdict_reply_of (Err r) = record { refusal = refusal_number r; broken = 0; exceeded = 0; word = 0 }

-- and of the check of CO2 windows
abbrev pub co2_reply_of : Checked → RdeCo2Answer
co2_reply_of (checked c) = record { refusal = 0; complete = c.complete; normal = c.normal; pass = bit c.pass }
co2_reply_of (unchecked k) = record { refusal = k; complete = 0; normal = 0; pass = 0 }

-- a refusal's number is not 0, so that the struct tells which answer it is
abbrev pub Numbered : {A : Type 0} → Result A Refusal → Type 0
Numbered (Ok a) = Unit {0}
Numbered (Err r) = 0 < refusal_number r

-- the struct is that of an answer of which P is promised
pub record Told (P : Result ℤ Refusal → Type 0) (r : RdeAnswer) : Type 0 where
  pub told : Result ℤ Refusal
  pub is : r ≡ reply_of told
  pub numbered : Numbered told
  pub promise : P told

-- the promise of a call on the area: its bytes before and after
abbrev pub Steps : model.Call → List ℕ → List ℕ → Result ℤ Refusal → Type 0
Steps c before after a = Step c before (answer_of a) after

-- the promise of the verdict, which changes nothing
pub record Judged (area : List ℕ) (r : RdeVerdictAnswer) : Type 0 where
  pub told : Result Verdict Refusal
  pub is : r ≡ verdict_reply_of told
  pub numbered : Numbered told
  pub promise : Step model.verdict area (verdict_answer_of told) area

-- the promise of a call that writes an output: its bytes before and after
abbrev pub Writes : Written → List ℕ → List ℕ → Result ℤ Refusal → Type 0
Writes w before after a = Wrote w a before after
