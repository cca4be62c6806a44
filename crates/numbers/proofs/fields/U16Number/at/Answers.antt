use Rattle.std.proofs.Common.{arith}
use Rattle.numbers.specs.FieldsLaws.{number_read}
use Rattle.numbers.proofs.fields.U16Number.at.Goals as goal

pub returns : goal.returns
returns c =
    let b = c.bytes_at in
    let n = c.from_le_bytes in
    omega (arith, number_read 1 c.args.bytes.now b.result _ c.args.place n.result b.ensures (omega arith) n.ensures)
