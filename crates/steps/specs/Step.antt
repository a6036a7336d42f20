-- What each call promises, and lists of calls.
use Rattle.std.specs.Prelude.{List, [], ◌∷◌, ◌≡◌, ℕ, ◌<◌, pos, length}
use Rattle.std.specs.Prelude.{Some}
use Rattle.model.specs.Records.{record_length}
use Rattle.model.specs.Trip.{Trip, empty, Call, clear, record_of, Answer, number, refused, answer, next}
use Rattle.area.specs.Layout.{area_len, parts_of, format_mark, format_number}
use Rattle.area.specs.Stands.{damaged, Stands}

-- P exactly when Q
pub record Exactly (P Q : Type 0) : Type 0 where
  pub when : Q → P
  pub only : P → Q

-- the call lends a record, of another length than a record's
pub record WrongRecord (c : Call) : Type 0 where
  pub bytes : List ℕ
  pub lent : record_of c ≡ Some bytes
  pub other : length bytes ≡ record_length → ⊥

-- what one call promises: area s before, answer a, area s' after
pub record Step (c : Call) (s : List ℕ) (a : Answer) (s' : List ℕ) : Type 0 where
  -- 11 exactly when the area has another length
  pub wrong : Exactly (a ≡ refused 11) (length s ≡ area_len → ⊥)
  -- 1 exactly when the area has its length and the call's record another, whatever the area holds
  pub sized : Exactly (a ≡ refused 1) ((length s ≡ area_len) × WrongRecord c)
  -- no refusal changes a byte, whatever the area holds; a refusal's number is not 0
  pub kept : (k : ℕ) → a ≡ refused k → (s' ≡ s) × (0 < k)
  -- clear makes an area of any bytes fresh
  pub fresh : c ≡ clear → length s ≡ area_len → (a ≡ number (pos 0)) × Stands s' empty
  -- any other call refuses an area without the format mark, where neither 11 nor 1 is due
  pub unmarked : (c ≡ clear → ⊥) → length s ≡ area_len → (WrongRecord c → ⊥) → (format_mark (parts_of s) ≡ format_number → ⊥) → a ≡ refused damaged
  -- the answer is the reference model's, and the area stands for its next trip
  pub model : (t : Trip) → Stands s t → (a ≡ answer t c) × Stands s' (next t c)

-- A list of calls on an area with the answers given: each call finds the area as the call before left it. A call that is lent bytes of another
-- length stands in no list: `view` says where the area lies in or around what it was lent.
pub data Run : List ℕ → List Call → List Answer → List ℕ → Type 0 where
  done : {s : List ℕ} → Run s [] [] s
  call : {s s' s'' : List ℕ} {c : Call} {a : Answer} {cs : List Call} {as' : List Answer} → Step c s a s' → Run s' cs as' s'' → Run s (c ∷ cs) (a ∷ as') s''
  aside : (view : List ℕ → List ℕ) (lent lent' : List ℕ) {s'' : List ℕ} {c : Call} {a : Answer} {cs : List Call} {as' : List Answer}
      → (length lent ≡ area_len → ⊥) → Step c lent a lent' → Run (view lent') cs as' s'' → Run (view lent) cs as' s''
