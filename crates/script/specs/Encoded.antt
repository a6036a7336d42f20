-- What a caller can lend: a record of 2^64 bytes or more, or a window's number of 2^32 or more, no caller can.
--     Encodable           what a caller can lend
--     OfBytes             the record that a call lends is of bytes
-- proofs/Encoded has the laws: every list of calls has a script. Assumes nothing.
use Rattle.std.specs.Prelude.{◌≡◌, ℕ, ◌^◌, ◌<◌}
use mathlib.Core.List.{List}
use Rattle.std.specs.Prelude.{Some}
use Rattle.std.proofs.Math.ListN.{length}
use Rattle.model.specs.Trip.{Call, clear, declare, sample, close, read, verdict, record_of}
use Rattle.laws.specs.Lists.{All}

-- what a caller can lend
abbrev pub Encodable : Call → Type 0
Encodable clear = Unit {0}
Encodable (declare r) = length r < 2 ^ 64
Encodable (sample r) = length r < 2 ^ 64
Encodable close = Unit {0}
Encodable (read k) = k < 2 ^ 32
Encodable verdict = Unit {0}

-- the record that the call lends is of bytes
abbrev pub OfBytes : Call → Type 0
OfBytes c = (r : List ℕ) → record_of c ≡ Some r → All (λ b. b < 256) r
