-- What one call of a script does, what the whole replay promises, and what that comes to by the theorem about every list of calls.
use Rattle.std.specs.Prelude.{Bool, true, false, ◌&&◌, List, ◌∷◌, ◌≡◌, ℕ, ◌*◌, ◌/◌, ◌≤◌, leb, length, take, drop}
use Rattle.std.proofs.Common.{sym, ap, ◌∙◌, arith, length-take, take_all, leb-true}
use Rattle.area.specs.Layout.{area_len}
use Rattle.area.specs.Stands.{Stands}
use Rattle.steps.specs.Step.{Step, Run}
use Rattle.steps.specs.Trace.{Claim, runs, every_list, fresh_runs}
use Rattle.field.specs.Part.{put}
use Rattle.model.specs.Trip.{Trip, empty, Call, clear, Answer, answers, after}
use Rattle.replay.specs.declared.Progress.{Progress}
use Rattle.replay.specs.declared.Ending.{Ending}
use Rattle.replay.specs.declared.Ending.TheVariants.{NoRoom, ScriptEnd, UnknownKind}
use Rattle.laws.specs.Lists.{All}
use Rattle.script.specs.Script.{calls, erroneous, script_of}
use Rattle.script.specs.Encoded.{Encodable}
use Rattle.script.proofs.Encoded.{script_calls}
use Rattle.answers.specs.Answers.{answer_length, encode, encodes}

-- the calls of a script whose answers have room in so many bytes
abbrev pub fitting : List ℕ → ℕ → List Call
fitting script room = take (room / answer_length) (calls script)

-- whether every call of the script was made, and whether one of an unknown kind follows them
abbrev pub ended_of : Ending → Bool
ended_of NoRoom = false
ended_of ScriptEnd = true
ended_of UnknownKind = true

abbrev pub failed_of : Ending → Bool
failed_of NoRoom = false
failed_of ScriptEnd = false
failed_of UnknownKind = true

-- a call made on an area s, its answer written at a place of the output o
pub record Called (c : Call) (s o : List ℕ) (place : ℕ) (s' o' : List ℕ) : Type 0 where
  pub answer : Answer
  pub step : Step c s answer s'
  pub wrote : o' ≡ put o place (encode answer)

-- a script replayed on an area s into an output o
pub record Replayed (script s o : List ℕ) (r : Progress) (s' o' : List ℕ) : Type 0 where
  -- as many calls are made as have room for their answers
  pub made : r.made ≡ length (fitting script (length o))
  pub written : r.written ≡ answer_length * r.made
  -- whether these are all the calls of the script
  pub ended : ended_of r.ending ≡ leb (length (calls script)) (length o / answer_length)
  -- whether the script ended with an error: a call of a kind that is not known follows them
  pub failed : failed_of r.ending ≡ (ended_of r.ending && erroneous script)
  -- they are made in their order, each on the area as the call before left it, with these answers
  pub given : List Answer
  pub run : Run s (fitting script (length o)) given s'
  pub wrote : take r.written o' ≡ encodes given
  -- what lies past the answers is as before
  pub past : drop r.written o' ≡ drop r.written o

module _ {script s o : List ℕ} {r : Progress} {s' o' : List ℕ} (p : Replayed script s o r s' o') where
  -- The answers lie within the output.
  pub replayed_within : r.written ≤ length o
  replayed_within = omega (arith, p.written, p.made, length-take (length o / answer_length) (calls script))

  -- Where the script ended, every call of it was made.
  pub replayed_whole : ended_of r.ending ≡ true → fitting script (length o) ≡ calls script
  replayed_whole e = take_all (length o / answer_length) (calls script) (leb-true _ _ (sym p.ended ∙ e))

  -- On an area that stands for a trip: the bytes written are the reference model's answers, and the area stands for the model's last trip.
  pub replayed_model :
      (t : Trip) → Stands s t
      → (take r.written o' ≡ encodes (answers t (fitting script (length o)))) × Stands s' (after t (fitting script (length o)))
  replayed_model t st =
      let m = runs p.run t st in
      (p.wrote ∙ ap encodes m.0, m.1)

  module _ (cs : List Call) (begins : fitting script (length o) ≡ clear ∷ cs) (size : length s ≡ area_len) where
    -- Of a script that begins with clear, on an area of the right length, with any bytes in it: the claim about every list of calls holds of what was made,
    pub replayed_claim : Claim (clear ∷ cs) p.given s'
    replayed_claim = every_list size (rw begins at p.run)

    -- and the bytes written are the answers of the reference model from the empty trip, for whose last trip the area stands.
    pub replayed_fresh : (take r.written o' ≡ encodes (answers empty (clear ∷ cs))) × Stands s' (after empty (clear ∷ cs))
    replayed_fresh = (p.wrote ∙ ap encodes replayed_claim.answered, (fresh_runs size (rw begins at p.run)).1)

  -- Every list of calls from a fresh area has a script (crates/script/proofs/Encoded.antt); replayed to its end, it gives the bytes of the reference model's answers to the list.
  pub replayed_list : (cs : List Call) → All Encodable (clear ∷ cs) → script ≡ script_of (clear ∷ cs) → length s ≡ area_len → ended_of r.ending ≡ true
      → take r.written o' ≡ encodes (answers empty (clear ∷ cs))
  replayed_list cs e is size all = (replayed_fresh cs (replayed_whole all ∙ ap calls is ∙ script_calls (clear ∷ cs) e) size).0
