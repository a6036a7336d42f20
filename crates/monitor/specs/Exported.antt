-- What THE THEOREM about the exported functions speaks of: a list of calls by C, and what C is given (document 01, "The trip book"; demand 3).
--     Given, struct_of         what C is given, and the struct of an answer of the model
--     Exported                what the contract of each exported call says
--     Calls                   a list of exported calls on an area
--     ExportedClaim           what the theorem says of it
-- The theorem, every_exported_list, is in proofs/Exported. Assumes nothing.
use Rattle.std.specs.Prelude.{Bool, true, false, cond, List, [], ◌∷◌, ◌≡◌, ℕ, pos, length}
use Rattle.model.specs.Trip.{empty, Call, clear, declare, sample, close, read, verdict, Answer, number, judged, refused, answers}
use Rattle.area.specs.Layout.{area_len}
use Rattle.steps.specs.Trace.{Claim}
use Rattle.monitor.specs.declared.RdeAnswer.{RdeAnswer}
use Rattle.monitor.specs.declared.RdeVerdictAnswer.{RdeVerdictAnswer}
use Rattle.monitor.specs.Reply.{judged_reply_of, Told, Judged, Steps}

-- what C is given: an rde_answer, or an rde_verdict_answer
pub data Given : Type 0 where
  plain : RdeAnswer → Given
  judgement : RdeVerdictAnswer → Given

-- the call that gives an rde_verdict_answer
abbrev pub judges : Call → Bool
judges clear = false
judges (declare r) = false
judges (sample r) = false
judges close = false
judges (read k) = false
judges verdict = true

-- the struct of an answer to a call: at a refusal its number, and 0 in every other field
unfoldable pub struct_of : Call → Answer → Given
struct_of c (number z) = plain (record { refusal = 0; value = z })
struct_of c (judged v) = judgement (judged_reply_of v)
struct_of c (refused k) = cond (judges c) (judgement (record { refusal = k; broken = 0; exceeded = 0; word = 0 })) (plain (record { refusal = k; value = pos 0 }))

unfoldable pub structs : List Call → List Answer → List Given
structs [] as' = []
structs (c ∷ cs) [] = []
structs (c ∷ cs) (a ∷ as') = struct_of c a ∷ structs cs as'

-- what the contracts of the exported calls say: the call, the area before, what C is given, the area after
pub data Exported : Call → List ℕ → Given → List ℕ → Type 0 where
  tells : {c : Call} {s s' : List ℕ} {r : RdeAnswer} → judges c ≡ false → Told (Steps c s s') r → Exported c s (plain r) s'
  gives : {s : List ℕ} {r : RdeVerdictAnswer} → Judged s r → Exported verdict s (judgement r) s

-- A list of exported calls on an area with what C is given: each finds the area as the one before left it. A call that is lent bytes of another length stands in
-- no list: `view` says where the area lies in or around what it was lent.
pub data Calls : List ℕ → List Call → List Given → List ℕ → Type 0 where
  none : {s : List ℕ} → Calls s [] [] s
  one : {s s' s'' : List ℕ} {c : Call} {g : Given} {cs : List Call} {gs : List Given} → Exported c s g s' → Calls s' cs gs s'' → Calls s (c ∷ cs) (g ∷ gs) s''
  beside : (view : List ℕ → List ℕ) (lent lent' : List ℕ) {s'' : List ℕ} {c : Call} {g : Given} {cs : List Call} {gs : List Given}
      → (length lent ≡ area_len → ⊥) → Exported c lent g lent' → Calls (view lent') cs gs s'' → Calls (view lent) cs gs s''

-- of a list of exported calls from a fresh area: what C was given and the area that it leaves
pub record ExportedClaim (cs : List Call) (given : List Given) (s : List ℕ) : Type 0 where
  -- each call gives the struct of what the reference model, fed the same list, answers
  pub given_structs : given ≡ structs cs (answers empty cs)
  -- the moves counted in the area and the lists that it keeps are the model's
  pub claim : Claim cs (answers empty cs) s
