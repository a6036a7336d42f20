-- THE THEOREM about the exported functions: of every list of calls by C from a fresh area, the structs that C is given are those of the reference model's answers
-- to the same list (document 01, "The trip book"; demand 3).
--     every_exported_list     the theorem
--     exported_beside         a call lent another length
-- Assumes nothing.
use Rattle.std.specs.Prelude.{false, List, [], ◌∷◌, ◌≡◌, refl, ℕ, length}
use Rattle.std.proofs.Common.{ap, subst, ◌∙◌}
use Rattle.std.specs.Prelude.{ℤ, Result, Ok, Err}
use Rattle.model.specs.declared.Refusal.{Refusal}
use Rattle.model.specs.declared.Verdict.{Verdict}
use Rattle.model.specs.Answers.{answer_of, verdict_answer_of}
use Rattle.model.specs.Trip.{Call, clear, verdict, Answer, refused}
use Rattle.area.specs.Layout.{area_len}
use Rattle.steps.specs.Step.{Step, Run, done, call, aside}
use Rattle.steps.specs.Trace.{Claim, every_list}
use Rattle.monitor.specs.Reply.{reply_of, verdict_reply_of}
use Rattle.monitor.specs.Exported.{Given, plain, judgement, judges, struct_of, structs, Exported, tells, gives, Calls, none, one, beside, ExportedClaim}

-- an exported call is a step, and gives the struct of its answer
record Stepped (c : Call) (s : List ℕ) (g : Given) (s' : List ℕ) : Type 0 where
  pub answer : Answer
  pub step : Step c s answer s'
  pub is : g ≡ struct_of c answer

plain_struct : (c : Call) (a : Result ℤ Refusal) → judges c ≡ false → plain (reply_of a) ≡ struct_of c (answer_of a)
unfolding struct_of
plain_struct c (Ok z) e = refl
plain_struct c (Err r) e = rw e

verdict_struct : (a : Result Verdict Refusal) → judgement (verdict_reply_of a) ≡ struct_of verdict (verdict_answer_of a)
unfolding struct_of
verdict_struct (Ok v) = refl
verdict_struct (Err r) = refl

stepped : {c : Call} {s s' : List ℕ} {g : Given} → Exported c s g s' → Stepped c s g s'
stepped (tells {c = c} e t) = record { answer = answer_of t.told; step = t.promise; is = ap plain t.is ∙ plain_struct c t.told e }
stepped (gives j) = record { answer = verdict_answer_of j.told; step = j.promise; is = ap judgement j.is ∙ verdict_struct j.told }

-- An exported call that is lent bytes of another length, which stands in no list: C is given the struct of refusal 11, and no byte is changed.
pub exported_beside : {c : Call} {lent lent' : List ℕ} {g : Given} → (length lent ≡ area_len → ⊥) → Exported c lent g lent' → (g ≡ struct_of c (refused 11)) × (lent' ≡ lent)
exported_beside {c = c} wrong e =
    let f = stepped e in
    let eleven = f.step.wrong.when wrong in
    (f.is ∙ ap (struct_of c) eleven, (f.step.kept 11 eleven).0)

-- so a list of exported calls is a run, and gives the structs of its answers
record Made (s : List ℕ) (cs : List Call) (gs : List Given) (s' : List ℕ) : Type 0 where
  pub answers : List Answer
  pub run : Run s cs answers s'
  pub is : gs ≡ structs cs answers

made : {s s' : List ℕ} {cs : List Call} {gs : List Given} → Calls s cs gs s' → Made s cs gs s'
unfolding structs
made none = record { answers = []; run = done; is = refl }
made (one e more) =
    let f = stepped e in
    let m = made more in
    record { answers = f.answer ∷ m.answers; run = call f.step m.run; is = cc }
made (beside view lent lent' wrong e more) =
    let m = made more in
    record { answers = m.answers; run = aside view lent lent' wrong (stepped e).step m.run; is = m.is }

-- Every list of exported calls from a fresh area: rde_clear on an area of the right length, with any bytes in it, then any calls.
pub every_exported_list : {s s' : List ℕ} {cs : List Call} {given : List Given} → length s ≡ area_len → Calls s (clear ∷ cs) given s' → ExportedClaim (clear ∷ cs) given s'
every_exported_list {s' = s'} {cs = cs} size run =
    let m = made run in
    let c = every_list size m.run in
    record {
      given_structs = m.is ∙ ap (structs (clear ∷ cs)) c.answered;
      claim = subst (λ (as' : List Answer). Claim (clear ∷ cs) as' s') c.answered c;
    }
