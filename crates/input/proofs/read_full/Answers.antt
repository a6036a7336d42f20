-- `read_full` meets its contract: each read gives the bytes that follow. Assumes nothing.
use borrow.Author.Rules.{rules}
use Rattle.std.proofs.Common.{subst, sym}
use Rattle.std.specs.Io.KnownBytes.{Consumes}
use Rattle.std.proofs.KnownBytes.{Consumes-trans}
use Rattle.input.proofs.Laws.{take_read}
use Rattle.input.proofs.read_full.Goals as goal

pub loop-len-preserved : goal.loop-len-preserved
loop-len-preserved g c =
    let before = c.loop-len.invariant in
    let read = c.in-Ok.ensures in
    let more = take_read c.loop-len.len _ c.in-Ok.n c.loop-len.buf c.read.new.buf before.0 read.bound.0 in
    (search rules, search rules, subst (Consumes _ _) (sym more) (Consumes-trans _ _ _ _ _ before.2 read.bytes.0))
