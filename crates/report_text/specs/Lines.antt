-- The lines of the report. Assumes nothing.
use Rattle.std.specs.Prelude.{List, ◌++◌, ℕ}
use Rattle.model.specs.declared.Finding.{Finding}
use Rattle.model.specs.Report.{ascii, decimal, hexadecimal, finding_text}

unfoldable pub samples_line : ℕ → List ℕ
samples_line n = ascii "samples " ++ decimal n ++ ascii "\n"

unfoldable pub broken_line : ℕ → List ℕ
broken_line mask = ascii "broken " ++ hexadecimal 8 mask ++ ascii "\n"

unfoldable pub verdict_line : Finding → List ℕ
verdict_line f = ascii "verdict " ++ finding_text f ++ ascii "\n"
