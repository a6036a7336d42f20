-- What the code's enums mean: the numbers and values of document 01, and of R-5, for each case.
use Rattle.std.specs.Prelude.{ℕ, ℤ, Result, Ok, Err}
use Rattle.model.specs.declared.Refusal.{Refusal}
use Rattle.model.specs.declared.Refusal.TheVariants.{RecordLength, TripClosed, SecondOutOfTurn, ValueOutOfRange, TooManySamples, WindowLayout, WindowAfterSample, TooManyWindows, NoSuchWindow, NoneQualifies, WrongLength, TallyIllFormed, TooManyJoined, ReferenceIllFormed, AreaDamaged}
use Rattle.model.specs.declared.Verdict.{Verdict}
use Rattle.model.specs.declared.Finding.{Finding}
use Rattle.model.specs.declared.Finding.TheVariants.{Rule, Exceeded, Clean}
use Rattle.model.specs.declared.Co2Check.{Co2Check}
use Rattle.model.specs.Trip.{Answer, number, judged, refused}
use Rattle.model.specs.Blocks.{Checked, unchecked, checked}

-- a refusal's number ("The refusal table"; R-5); 255 for an area that stands for no trip, where document 01 leaves it free
abbrev pub refusal_number : Refusal → ℕ
refusal_number RecordLength = 1
refusal_number TripClosed = 2
refusal_number SecondOutOfTurn = 3
refusal_number ValueOutOfRange = 4
refusal_number TooManySamples = 5
refusal_number WindowLayout = 6
refusal_number WindowAfterSample = 7
refusal_number TooManyWindows = 8
refusal_number NoSuchWindow = 9
refusal_number NoneQualifies = 10
refusal_number WrongLength = 11
refusal_number TallyIllFormed = 12
refusal_number TooManyJoined = 13
refusal_number ReferenceIllFormed = 14
refusal_number AreaDamaged = 255

-- an answer of the code, where `told` says what its value is: of a call, and of the verdict call
abbrev pub answer_by : {A : Type 0} → (A → Answer) → Result A Refusal → Answer
answer_by told (Ok a) = told a
answer_by told (Err r) = refused (refusal_number r)

abbrev pub answer_of : Result ℤ Refusal → Answer
answer_of r = answer_by number r

abbrev pub verdict_answer_of : Result Verdict Refusal → Answer
verdict_answer_of r = answer_by judged r

-- R-5: an answer of the code to the check of CO2 windows
abbrev pub checked_of : Result Co2Check Refusal → Checked
checked_of (Ok c) = checked c
checked_of (Err r) = unchecked (refusal_number r)

-- the finding of a verdict as a number of the C interface: 0 to 31 a rule, 32 exceeded, 33 clean
abbrev pub finding_code : Finding → ℕ
finding_code (Rule k) = k
finding_code Exceeded = 32
finding_code Clean = 33
