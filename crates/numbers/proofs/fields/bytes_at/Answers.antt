use Rattle.std.proofs.Common.{◌<◌, length, drop, arith}
use Rattle.numbers.specs.FieldsLaws.{padding_more, padding_past, padding_end, rest_from}
use Rattle.numbers.proofs.fields.bytes_at.Goals.{then-i-rest, else-i-rest}
use Rattle.numbers.proofs.fields.bytes_at.Goals as goal

pub loop-i-preserved : goal.loop-i-preserved
loop-i-preserved g c =
    elim c.if-i-rest.branch [
      | then-i-rest w ↦
          rw w.padded-is
          (padding_more _ _ _ _ c.loop-i.invariant _ _ (omega arith) (omega arith) c.loop-i-test.true (omega (arith, w.if-i-rest.true)))
      | else-i-rest w ↦ rw w.padded-is (padding_past _ _ _ _ c.loop-i.invariant (omega (arith, w.if-i-rest.false)))
    ]

pub returns : goal.returns
returns g c =
    let rest = rest_from c.args.place c.min.result c.args.bytes.now c.min.ensures in
    let short : length (drop c.args.place c.args.bytes.now) < g.row.SIZE = rw rest at c.in_default.ensures.cases in
    padding_end g.row.SIZE (drop c.args.place c.args.bytes.now) c.loop-i.i c.loop-i.padded (rw rest at c.loop-i.invariant) c.loop-i-test.false short
