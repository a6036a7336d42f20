-- A call made and its answer written. Assumes nothing.
use mathlib.Core.List.{List}
use mathlib.Core.Path.{◌≡◌}
use Prim.Native.Nat.{ℕ}
use Rattle.steps.specs.Step.{Step}
use Rattle.field.specs.Part.{put}
use Rattle.model.specs.Trip as trip
use Rattle.script.specs.Script.{call_of}
use Rattle.script.specs.Kind.{number_of}
use Rattle.script.specs.Next.{made_call}
use Rattle.script.specs.declared.kind.Kind.{Kind}
use Rattle.script.specs.declared.Call.{Call}
use Rattle.answers.specs.Answers.{encode}
use Rattle.replay.specs.Replayed.{Called}

-- the call of a kind
pub called : (call : Call) {kind : Kind} {c : trip.Call} {a : trip.Answer} {s o s' o' : List ℕ} {place : ℕ}
    → call.kind ≡ kind → call_of (number_of kind) call.bytes.now ≡ c → Step c s a s' → o' ≡ put o place (encode a) → Called (made_call call) s o place s' o'
called call {a = a} is e st w = record { answer = a; step = rw (is, e) st; wrote = w }
