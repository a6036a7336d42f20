-- The laws of the report's lines and texts, one for each way out of a function. Assumes nothing.
use mathlib.Core.Path.{◌≡◌, sym, ap, ◌∙◌}
use mathlib.Core.List.{List, [], ◌++◌, append_assoc}
use Prim.Native.Nat.{ℕ, ◌≤◌}
use Rattle.model.specs.declared.Finding.{Finding}
use Rattle.model.specs.declared.Verdict.{Verdict}
use Rattle.model.specs.Report.{ascii, hexadecimal, decimal, finding_text, accepted_text, refused_text}
use Rattle.text.specs.Append.{Appended, then, restated}
use Rattle.report_text.specs.Lines.{samples_line, broken_line, verdict_line}

-- the ways out of `push_finding`: the text of the variant that the finding is
pub finding_is :
    {a b : List ℕ} {m : ℕ} (f g : Finding) → f ≡ g
    → Appended a m (finding_text g) b → m ≤ 25 → Appended a 25 (finding_text f) b
finding_is f g e h l = restated h (ap finding_text (sym e)) l

-- the lines from their parts
pub samples_line_lem :
    {a b c : List ℕ} (n : ℕ)
    → Appended a 28 (ascii "samples " ++ decimal n) b → Appended b 1 (ascii "\n") c
    → Appended a 29 (samples_line n) c
unfolding samples_line
samples_line_lem n f g = then f g

pub broken_line_lem :
    {a b c d : List ℕ} (mask : ℕ)
    → Appended a 7 (ascii "broken ") b → Appended b 8 (hexadecimal 8 mask) c → Appended c 1 (ascii "\n") d
    → Appended a 16 (broken_line mask) d
unfolding broken_line
broken_line_lem mask f g h = then (then f g) h

pub verdict_line_lem :
    {a b c d : List ℕ} (f : Finding)
    → Appended a 8 (ascii "verdict ") b → Appended b 25 (finding_text f) c → Appended c 1 (ascii "\n") d
    → Appended a 34 (verdict_line f) d
unfolding verdict_line
verdict_line_lem f g h i = then (then g h) i

-- the texts from their lines and parts
pub accepted_text_lem :
    {a b c d : List ℕ} (n : ℕ) (v : Verdict)
    → a ≡ [] → Appended a 29 (samples_line n) b → Appended b 16 (broken_line v.broken) c → Appended c 34 (verdict_line v.finding) d
    → d ≡ accepted_text n v
unfolding samples_line broken_line verdict_line accepted_text
accepted_text_lem n v e f g h = (then (then f g) h).bytes ∙ rw e (simp append_assoc)

pub refused_text_lem :
    {a b c d : List ℕ} (r k : ℕ)
    → a ≡ [] → Appended a 28 (ascii "refused " ++ decimal r) b → Appended b 24 (ascii " at " ++ decimal k) c → Appended c 1 (ascii "\n") d
    → d ≡ refused_text r k
unfolding refused_text
refused_text_lem r k e f g h = (then (then f g) h).bytes ∙ rw e (simp append_assoc)
