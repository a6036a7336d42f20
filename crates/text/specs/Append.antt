-- What it means to append a text to another.
--     Appended             a text behind another, in a room
--     pushed               a text pushed behind another
--     then, restated       one text behind another; the same text by another name
-- Assumes nothing.
use Rattle.std.specs.Prelude.{◌≡◌, List, ◌++◌, ℕ, ◌+◌, ◌≤◌, length}
use Rattle.std.proofs.Common.{ap, ◌∙◌, append_assoc, length-append, arith}

-- behind what stood before now stands `text`, and both together take no more than `room` bytes more
pub record Appended (before : List ℕ) (room : ℕ) (text : List ℕ) (after : List ℕ) : Type 0 where
  pub bytes : after ≡ before ++ text
  pub within : length after ≤ length before + room

-- a text pushed behind another
pub pushed : {a b s : List ℕ} → b ≡ a ++ s → Appended a (length s) s b
pushed {a} {s = s} e = record { bytes = e; within = rw e (omega (arith, length-append a s)) }

-- one text behind another
pub then : {a b c s t : List ℕ} {m n : ℕ} → Appended a m s b → Appended b n t c → Appended a (m + n) (s ++ t) c
then {a} {b} {c} {s} {t} f g = record { bytes = g.bytes ∙ ap (λ (l : List ℕ). l ++ t) f.bytes ∙ append_assoc a s t; within = omega (arith, f.within, g.within) }

-- the same text by another name, in more room
pub restated : {a b s t : List ℕ} {m n : ℕ} → Appended a m s b → s ≡ t → m ≤ n → Appended a n t b
restated {a} f e h = record { bytes = f.bytes ∙ ap (λ (l : List ℕ). a ++ l) e; within = omega (arith, f.within) }
