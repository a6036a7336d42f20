-- What a call of a script and the number of a window rest on. Assumes nothing.
use Rattle.std.specs.Prelude.{◌≡◌, true, false, List, Result, ℕ, ◌^◌, ◌≤◌, ◌<◌, min, length, get_or, take, drop}
use Rattle.std.proofs.Common.{ap, ◌∙◌, arith, length-take, length-drop, take_all, drop-drop, get_or-take}
use Rattle.std.proofs.lemmas.List.{drop-take, take_min}
use mir.Syntax.{w32}
use mir.Val.{Fits}
use native.Mathlib.Nat.{min_comm, pow-le-pow_right}
use borrow.Author.Tests.{le-leb, lt-leb}
use Rattle.model.specs.Numbers.{le_val, le_at}
use Rattle.script.specs.Script.{window_number, head_length, bytes_length, call_length, whole}
use Rattle.script.specs.Next.{bytes_of, Reads}
use Rattle.script.specs.declared.Call.{Call}
use Rattle.script.specs.declared.kind.UnknownKind.{UnknownKind}

-- A script, cut behind the head of its first call, and the length of that call's bytes, read in the head.
module _ (script head behind : List ℕ) (n : ℕ) (long : head_length ≤ length script) (front : head ≡ take head_length script) (back : behind ≡ drop head_length script)
    (read : n ≡ le_at 8 head 1) where
  size : n ≡ bytes_length script
  unfolding le_at
  size =
      let bytes = drop 1 script in
      rw front at read ∙ ap (λ (l : List ℕ). le_val (take 8 l)) (drop-take 1 8 script) ∙ ap le_val (take_all 8 (take 8 bytes) (omega (arith, length-take 8 bytes)))

  -- fewer bytes than the head says
  pub cut_off : length behind < n → whole script ≡ false
  cut_off l = lt-leb (call_length script) (length script) (omega (arith, size, ap length back, length-drop head_length script))

  -- the whole call, and what follows it
  pub taken : (bytes rest : List ℕ) (r : Result Call UnknownKind) → n ≤ length behind → bytes ≡ take n behind → rest ≡ drop n behind → Reads (get_or head 0 0) bytes r
      → (whole script ≡ true) × (rest ≡ drop (call_length script) script) × Reads (get_or script 0 0) (bytes_of script) r
  taken bytes rest r l b e k =
      let z : 0 < head_length = omega arith in (
        le-leb (call_length script) (length script) (omega (arith, size, ap length back, length-drop head_length script)),
        e ∙ rw (back, size) (drop-drop (bytes_length script) head_length script),
        rw (b, back, front, get_or-take, size) at k,
      )

-- a window's number is in the first four bytes, or in all where they are fewer
pub number_of_first : (bytes : List ℕ) (n : ℕ) → n ≡ min (length bytes) 4 → le_at n bytes 0 ≡ window_number bytes
unfolding le_at window_number
number_of_first bytes n e = rw (e, min_comm) (ap le_val (take_min 4 bytes))

pub fits_four : (bytes : List ℕ) (n v : ℕ) → n ≡ min (length bytes) 4 → v < 256 ^ n → Fits w32 v
fits_four bytes n v e k = record { fits = omega (arith, pow-le-pow_right {n = 256} (omega arith) {i = n} {j = 4} (omega arith)) }
