-- Every list of calls has a script: decoding gives the list back.
--     script_calls        the calls of the script of a list of calls are that list
--     script_ends         and it ends without an error
--     script_bytes        it is a list of bytes, so that a caller can lend it
-- Assumes nothing.
use Rattle.std.specs.Prelude.{true, false, ◌≡◌, refl, ℕ, zero, suc, ◌/◌, ◌+◌, ◌^◌, ◌≤◌, ◌<◌, take, drop}
use mathlib.Core.List.{List, [], ◌∷◌, ◌++◌, append_assoc}
use Rattle.std.proofs.Math.Path.{ap}
use Rattle.std.proofs.Common.{◌∙◌, arith, length-append, take_at, drop_at, take_all, drop-drop}
use borrow.Author.Tests.{le-leb}
use Rattle.std.proofs.Math.ListN.{length}
use Rattle.model.specs.Numbers.{le_val, le_at, le_bytes}
use Rattle.model.specs.Trip.{Call, clear, declare, sample, close, read, verdict, record_of}
use Rattle.laws.specs.Lists.{All}
use Rattle.field.specs.Le.{bytes_length_lem, val_bytes}
use Rattle.script.specs.Script.{window_number, last_kind, call_of, head_length, bytes_length, call_length, ready, first, decode, fails, calls, erroneous, entry, entry_of, script_of}
use Rattle.script.specs.Encoded.{Encodable, OfBytes}

-- A script that begins with the entry of a kind and bytes.
module _ (kind : ℕ) (bytes rest : List ℕ) (short : length bytes < 2 ^ 64) where
  abbrev script : List ℕ
  script = entry kind bytes ++ rest

  size : bytes_length script ≡ length bytes
  unfolding entry le_at
  size =
      let n = length bytes in
      ap (λ (l : List ℕ). le_val (take 8 l)) (append_assoc (le_bytes 8 n) bytes rest) ∙ ap le_val (take_at (le_bytes 8 n) (bytes ++ rest) 8 (bytes_length_lem 8 n))
      ∙ val_bytes 8 n (omega arith)

  behind : drop head_length script ≡ bytes ++ rest
  unfolding entry
  behind = rw append_assoc (drop_at (le_bytes 8 (length bytes)) (bytes ++ rest) 8 (bytes_length_lem 8 (length bytes)))

  long : length script ≡ head_length + length bytes + length rest
  unfolding entry
  long = rw (length-append, length-append) (omega (arith, bytes_length_lem 8 (length bytes)))

  is_first : first script ≡ call_of kind bytes
  unfolding first entry
  is_first = ap (call_of kind) (rw (size, behind) (take_at bytes rest (length bytes) refl))

  is_rest : drop (call_length script) script ≡ rest
  is_rest = rw (size, ← drop-drop (length bytes) head_length script, behind) (drop_at bytes rest (length bytes) refl)

  is_ready : kind ≤ last_kind → ready script ≡ true
  unfolding entry
  is_ready h = rw (size, le-leb kind last_kind h, le-leb (head_length + length bytes) (length script) (omega (arith, long)))

  -- it is the first call, and the rest follows
  one : {c : Call} → kind ≤ last_kind → call_of kind bytes ≡ c → (m : ℕ) → (decode (suc m) script ≡ c ∷ decode m rest) × (fails (suc m) script ≡ fails m rest)
  unfolding decode fails
  one h e m = (rw (is_ready h, is_first, is_rest, e), rw (is_ready h, is_rest))

-- the entry of a call
record Entry (c : Call) : Type 0 where
  pub kind : ℕ
  pub bytes : List ℕ
  pub is : entry_of c ≡ entry kind bytes
  pub known : kind ≤ last_kind
  pub short : length bytes < 2 ^ 64
  pub call : call_of kind bytes ≡ c

entry_of_lem : (c : Call) → Encodable c → Entry c
unfolding entry_of call_of
entry_of_lem clear e = record { kind = 0; bytes = []; is = refl; known = omega arith; short = omega arith; call = refl }
entry_of_lem (declare r) e = record { kind = 1; bytes = r; is = refl; known = omega arith; short = e; call = refl }
entry_of_lem (sample r) e = record { kind = 2; bytes = r; is = refl; known = omega arith; short = e; call = refl }
entry_of_lem close e = record { kind = 3; bytes = []; is = refl; known = omega arith; short = omega arith; call = refl }
entry_of_lem (read k) e = record { kind = 4; bytes = le_bytes 4 k; is = refl; known = omega arith; short = omega (arith, bytes_length_lem 4 k); call = ap read (number k e) }
  where
    number : (k : ℕ) → k < 2 ^ 32 → window_number (le_bytes 4 k) ≡ k
    number k h = unfold window_number in ap le_val (take_all 4 (le_bytes 4 k) (omega (arith, bytes_length_lem 4 k))) ∙ val_bytes 4 k (omega arith)
entry_of_lem verdict e = record { kind = 5; bytes = []; is = refl; known = omega arith; short = omega arith; call = refl }

-- a list of calls has fewer calls than its script has bytes
script_long : (cs : List Call) → All Encodable cs → length cs ≤ length (script_of cs)
unfolding script_of All
script_long [] e = omega arith
script_long (c ∷ cs) e =
    let n = entry_of_lem c e.0 in
    rw n.is (omega (arith, long n.kind n.bytes (script_of cs) n.short, script_long cs e.1))

decoded : (cs : List Call) → All Encodable cs → (m : ℕ) → length cs ≤ m → (decode m (script_of cs) ≡ cs) × (fails m (script_of cs) ≡ false)
unfolding script_of All decode fails le_at le_val
decoded [] e zero h = (refl, refl)
decoded [] e (suc m) h = (refl, refl)
decoded (c ∷ cs) e zero h = absurd (omega arith)
decoded (c ∷ cs) e (suc m) h =
    let n = entry_of_lem c e.0 in
    let o = one n.kind n.bytes (script_of cs) n.short n.known n.call m in
    let d = decoded cs e.1 m (omega arith) in
    rw n.is (o.0 ∙ ap (λ (l : List Call). c ∷ l) d.0, o.1 ∙ d.1)

pub script_calls : (cs : List Call) → All Encodable cs → calls (script_of cs) ≡ cs
script_calls cs e = (decoded cs e (length (script_of cs)) (script_long cs e)).0

pub script_ends : (cs : List Call) → All Encodable cs → erroneous (script_of cs) ≡ false
script_ends cs e = (decoded cs e (length (script_of cs)) (script_long cs e)).1

-- Such a script is one of bytes, where the records are.

below_256 : (n v : ℕ) → All (λ b. b < 256) (le_bytes n v)
unfolding All le_bytes
below_256 zero v = tt
below_256 (suc n) v = (omega arith, below_256 n (v / 256))

all_append : (xs ys : List ℕ) → All (λ b. b < 256) xs → All (λ b. b < 256) ys → All (λ b. b < 256) (xs ++ ys)
unfolding All
all_append [] ys a b = b
all_append (x ∷ xs) ys a b = (a.0, all_append xs ys a.1 b)

entry_bytes : (kind : ℕ) (bytes : List ℕ) → kind < 256 → All (λ b. b < 256) bytes → All (λ b. b < 256) (entry kind bytes)
unfolding entry All
entry_bytes kind bytes h b = (h, all_append (le_bytes 8 (length bytes)) bytes (below_256 8 (length bytes)) b)

call_bytes : (c : Call) → OfBytes c → All (λ b. b < 256) (entry_of c)
unfolding entry_of record_of All
call_bytes clear b = entry_bytes 0 [] (omega arith) tt
call_bytes (declare r) b = entry_bytes 1 r (omega arith) (b r refl)
call_bytes (sample r) b = entry_bytes 2 r (omega arith) (b r refl)
call_bytes close b = entry_bytes 3 [] (omega arith) tt
call_bytes (read k) b = entry_bytes 4 (le_bytes 4 k) (omega arith) (below_256 4 k)
call_bytes verdict b = entry_bytes 5 [] (omega arith) tt

pub script_bytes : (cs : List Call) → All OfBytes cs → All (λ b. b < 256) (script_of cs)
unfolding script_of All
script_bytes [] b = tt
script_bytes (c ∷ cs) b = all_append (entry_of c) (script_of cs) (call_bytes c b.0) (script_bytes cs b.1)
