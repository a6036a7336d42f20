-- `slots::copy_record` meets its contract. Assumes nothing.
use Rattle.std.proofs.Common.{refl, ◌+◌, arith}
use Rattle.field.specs.Part.{put_lent}
use Rattle.model.specs.Records.{record_length}
use Rattle.slots.proofs.copy_record.Goals as goal

pub returns : goal.returns
returns c =
    let e = put_lent c.args.part.now c.args.at record_length (c.args.at + record_length) c.args.bytes.now refl (omega arith) (omega arith) in
    rw c.copy_from_slice.ensures.after e.0
