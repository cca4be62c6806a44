use Rattle.std.proofs.Common.{w32, arith}
use Rattle.laws.specs.SignedBits.{read_as}
use Rattle.numbers.specs.FieldsLaws.{read_there, signed_at_read}
use Rattle.numbers.proofs.fields.I32Number.at.Goals as goal

pub returns : goal.returns
returns c =
    let n = read_there 4 c.args.bytes.now _ c.args.place c.at.result (omega arith) c.at.ensures in
    let read = signed_at_read w32 c.at.result _ c.cast_signed.result c.cast_signed.ensures c.at.type_inv n in
    read_as w32 c.cast_signed.result _ c.cast_signed.type_inv read
