-- The C struct of an answer tells what the answer tells. Assumes nothing.
use mathlib.Core.Bool.{false}
use mathlib.Core.List.{List}
use mathlib.Core.Path.{◌≡◌}
use Prim.Native.Nat.{ℕ, ◌<◌}
use lib.Dec.{lit<}
use Rattle.std.specs.Prelude.{ℤ, Result, Ok, Err}
use Rattle.model.specs.declared.Refusal.{Refusal}
use Rattle.model.specs.declared.Refusal.TheVariants.{RecordLength, TripClosed, SecondOutOfTurn, ValueOutOfRange, TooManySamples, WindowLayout, WindowAfterSample, TooManyWindows, NoSuchWindow, NoneQualifies, WrongLength, TallyIllFormed, TooManyJoined, ReferenceIllFormed, AreaDamaged}
use Rattle.model.specs.declared.Verdict.{Verdict}
use Rattle.model.specs.Answers.{answer_of, verdict_answer_of, refusal_number}
use Rattle.model.specs.Blocks.{Written}
use Rattle.model.specs.Trip as model
use Rattle.steps.specs.Step.{Step}
use Rattle.tally_calls.specs.Calls.{Wrote}
use Rattle.monitor.specs.declared.RdeAnswer.{RdeAnswer}
use Rattle.monitor.specs.declared.RdeVerdictAnswer.{RdeVerdictAnswer}
use Rattle.monitor.specs.Reply.{reply_of, verdict_reply_of, Numbered, Told, Writes}
use Rattle.monitor.specs.Exported.{plain, judgement, judges, Exported, tells, gives}

-- a refusal's number is not 0
positive : (r : Refusal) → 0 < refusal_number r
positive RecordLength = lit< tt
positive TripClosed = lit< tt
positive SecondOutOfTurn = lit< tt
positive ValueOutOfRange = lit< tt
positive TooManySamples = lit< tt
positive WindowLayout = lit< tt
positive WindowAfterSample = lit< tt
positive TooManyWindows = lit< tt
positive NoSuchWindow = lit< tt
positive NoneQualifies = lit< tt
positive WrongLength = lit< tt
positive TallyIllFormed = lit< tt
positive TooManyJoined = lit< tt
positive ReferenceIllFormed = lit< tt
positive AreaDamaged = lit< tt

numbered : {A : Type 0} (a : Result A Refusal) → Numbered a
numbered (Ok a) = tt
numbered (Err r) = positive r

-- a call on the area
pub stepped : {c : model.Call} {before after : List ℕ} {r : RdeAnswer} (a : Result ℤ Refusal) → judges c ≡ false → r ≡ reply_of a → Step c before (answer_of a) after
    → Exported c before (plain r) after
stepped a j e st = tells j (record { told = a; is = e; numbered = numbered a; promise = st })

-- the verdict
pub judged : {area : List ℕ} {r : RdeVerdictAnswer} (a : Result Verdict Refusal) → r ≡ verdict_reply_of a → Step model.verdict area (verdict_answer_of a) area
    → Exported model.verdict area (judgement r) area
judged a e st = gives (record { told = a; is = e; numbered = numbered a; promise = st })

-- a call that writes an output
pub written : (w : Written) {r : RdeAnswer} (a : Result ℤ Refusal) (before after : List ℕ) → r ≡ reply_of a → Wrote w a before after → Told (Writes w before after) r
written w a before after e h = record { told = a; is = e; numbered = numbered a; promise = h }
