-- `put_told` of a verdict meets its contract. Assumes nothing.
use mathlib.Core.Path.{◌≡◌, ◌∙◌}
use borrow.Author.Rules.{rules}
use Rattle.model.specs.Answers.{finding_code}
use Rattle.model.specs.Numbers.{bit}
use Rattle.answers.specs.Answers.{encode}
use Rattle.answers.proofs.Bytes.{byte_fields, bit_below}
use Rattle.answers.proofs.VerdictTold.put_told.Goals as goal

pub returns : goal.returns
unfolding encode
returns c =
    let x = c.args in
    let exceeded : c.from.result ≡ bit x.self.exceeded = search rules in
    c.put_le.ensures
    ∙ rw (c.put-3.ensures, c.put-2.ensures, c.put.ensures, exceeded, c.from-3.ensures, c.from-2.ensures)
    (byte_fields x.out.now x.at x.self.broken (bit x.self.exceeded) (finding_code x.self.finding) (bit_below x.self.exceeded))
