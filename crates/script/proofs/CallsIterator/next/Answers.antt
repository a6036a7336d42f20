-- `Calls::next` meets its contract. Assumes nothing.
use Rattle.std.proofs.Common.{rules}
use Rattle.script.proofs.Next.{taken}
use Rattle.script.proofs.CallsIterator.next.Goals as goal

pub returns-clause-steps : goal.returns-clause-steps
returns-clause-steps c =
    let h = c.in_ok-head in
    let b = c.in_ok-bytes in
    taken c.args.self.now.rest.now h.head.now h.behind.now _ (search rules) (search rules) (search rules) c.get-length.ensures b.bytes.now b.rest.now _ (search rules) (search rules) (search rules) c.decode.ensures
