use Rattle.numbers.specs.FieldsLaws.{Padding}
use Rattle.numbers.proofs.fields.bytes_at.Given as goal

abbrev pub invariant-loop-i : goal.invariant-loop-i
invariant-loop-i g l = Padding g.row.SIZE l.rest l.i l.padded
