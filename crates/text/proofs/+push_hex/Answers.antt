-- The ways out of `push_hex`.
use borrow.Author.Rules.{rules}
use Rattle.text.proofs.Laws.{hex_none, hex_last}
use Rattle.text.proofs.+push_hex.Goals as goal

pub returns-then-k-gt0 : goal.returns-then-k-gt0
returns-then-k-gt0 g t c = search (rules, hex_last)

pub returns-else-k-gt0 : goal.returns-else-k-gt0
returns-else-k-gt0 g t c = search (rules, hex_none)
