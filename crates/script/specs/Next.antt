-- The calls of a script, taken one after the other.
use Rattle.std.specs.Prelude.{true, false, List, ◌≡◌, ◌≤◌, ◌<◌, ℕ, Option, MatchOption, Result, MatchResult, get_or, take, drop}
use Rattle.model.specs.Trip as trip
use Rattle.script.specs.Script.{last_kind, call_of, head_length, bytes_length, call_length, whole}
use Rattle.script.specs.Kind.{number_of}
use Rattle.script.specs.declared.Call.{Call}
use Rattle.script.specs.declared.Calls.{Calls}
use Rattle.script.specs.declared.kind.UnknownKind.{UnknownKind}

-- the call, as the model has it
abbrev pub made_call : Call → trip.Call
made_call c = call_of (number_of c.kind) c.bytes.now

-- what is left of the script
abbrev pub rest_of : Calls → List ℕ
rest_of s = s.rest.now

-- the bytes of the call that a script begins with
abbrev pub bytes_of : List ℕ → List ℕ
bytes_of script = take (bytes_length script) (drop head_length script)

-- what a kind's number and bytes come to: the call, or an error where no kind has the number
abbrev pub Reads : ℕ → List ℕ → Result Call UnknownKind → Type 0
Reads number bytes r = MatchResult r (λ c. (number ≤ last_kind) × (made_call c ≡ call_of number bytes)) (λ e. (e.0 ≡ number) × (last_kind < number))

-- one step: the first call of what is left is taken off, also one of an unknown kind; at the end, no whole one is left
abbrev pub Next : Calls → Option (Result Call UnknownKind) → Calls → Type 0
Next s r t =
    MatchOption r (whole (rest_of s) ≡ false)
    (λ found. (whole (rest_of s) ≡ true) × (rest_of t ≡ drop (call_length (rest_of s)) (rest_of s)) × Reads (get_or (rest_of s) 0 0) (bytes_of (rest_of s)) found)
