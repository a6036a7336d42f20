-- The call at a place of a script, read from the whole script. Assumes nothing.
use Rattle.std.specs.Prelude.{Bool, true, false, not, ◌&&◌, List, ◌≡◌, ℕ, ◌+◌, ◌-◌, ◌≤◌, ◌<◌, leb, length, get_or, take, drop}
use Rattle.std.proofs.Common.{true≢false, length-drop, get_or-drop, leb-true, leb-false, le-leb}
use Rattle.std.proofs.Math.Path.{refl}
use native.Mathlib.Omega.{arith}
use Rattle.std.proofs.Math.Seq.{drop-drop}
use Rattle.std.proofs.lemmas.Bool.{lt-leb}
use Rattle.model.specs.Numbers.{le_at}
use Rattle.laws.specs.Tests.{both}
use Rattle.script.specs.Script.{last_kind, call_of, head_length, bytes_length, call_length, whole, known, ready, first}

module _ (script : List ℕ) (from : ℕ) where
  -- the length of the call's bytes
  size_at : bytes_length (drop from script) ≡ le_at 8 script (from + 1)
  unfolding le_at
  size_at = rw (drop-drop 1 from script) refl

  pub whole_at : head_length ≤ length script - from → leb (le_at 8 script (from + 1)) (length script - from - head_length) ≡ whole (drop from script)
  whole_at h = rw (length-drop, size_at) (by (leb (le_at 8 script (from + 1)) (length script - from - head_length)) refl)
    where
      by : (b : Bool) → leb (le_at 8 script (from + 1)) (length script - from - head_length) ≡ b → b ≡ leb (head_length + le_at 8 script (from + 1)) (length script - from)
      by true e = rw (le-leb (head_length + le_at 8 script (from + 1)) (length script - from) (omega (arith, leb-true (le_at 8 script (from + 1)) (length script - from - head_length) e)))
      by false e = rw (lt-leb (head_length + le_at 8 script (from + 1)) (length script - from) (omega (arith, leb-false (le_at 8 script (from + 1)) (length script - from - head_length) e)))

  -- fewer bytes than a kind and a length
  pub none_at : length script - from < head_length → false ≡ whole (drop from script)
  none_at h = rw (lt-leb (call_length (drop from script)) (length (drop from script)) (rw length-drop (omega arith)))

  -- a call to make: it is whole, and its kind is known
  pub ready_at : whole (drop from script) ≡ true → leb (get_or script from 0) last_kind ≡ ready (drop from script)
  ready_at w =
      let z : from + 0 ≡ from = omega arith in
      rw (w, get_or-drop from script 0 0, z)

  pub unready_at : whole (drop from script) ≡ false → false ≡ ready (drop from script)
  unready_at w = rw w

  -- none to make: it is not whole, or its kind is not known
  pub failed_at : ready (drop from script) ≡ false → whole (drop from script) ≡ (whole (drop from script) && not (known (drop from script)))
  failed_at e = by (whole (drop from script)) (known (drop from script)) e
    where
      by : (w k : Bool) → w && k ≡ false → w ≡ (w && not k)
      by true true e = let z : ◌≡◌ {A = Bool} true false = e in absurd (true≢false z)
      by true false e = refl
      by false k e = refl

  pub ready_whole : ready (drop from script) ≡ true → whole (drop from script) ≡ true
  ready_whole e = (both _ _ e).0

  pub inside : whole (drop from script) ≡ true → from ≤ length script → from + call_length (drop from script) ≤ length script
  inside w h = omega (arith, leb-true (call_length (drop from script)) (length (drop from script)) w, length-drop from script)

  pub length_at : from + call_length (drop from script) ≡ from + head_length + le_at 8 script (from + 1)
  length_at = rw size_at (omega arith)

  -- the call between its bytes' start and end
  pub first_at : (n : ℕ) → n ≡ le_at 8 script (from + 1)
      → first (drop from script) ≡ call_of (get_or script from 0) (take (from + head_length + n - (from + head_length)) (drop (from + head_length) script))
  unfolding first
  first_at n e =
      let l : from + head_length + n - (from + head_length) ≡ le_at 8 script (from + 1) = omega arith in
      let z : from + 0 ≡ from = omega arith in
      rw (get_or-drop from script 0 0, z, size_at, drop-drop head_length from script, l)
