-- `read_full` ends, and what it has read lies within the buffer. Assumes nothing.
use Rattle.std.proofs.Common.{length, take, ◌-◌, ◌≤◌, ◌≡◌}
use Rattle.std.specs.Io.KnownBytes.{Consumes}
use Rattle.input.proofs.read_full.Given as goal

abbrev pub invariant-loop-len : goal.invariant-loop-len
invariant-loop-len g l =
    (l.len ≤ length l.buf) × (length l.buf ≡ length l.fn.buf)
    × Consumes (g.R.Read.remaining l.initial.input) (g.R.Read.remaining l.input) (take l.len l.buf)

abbrev pub decreases-loop-len : goal.decreases-loop-len
decreases-loop-len g l = length l.fn.buf - l.len
