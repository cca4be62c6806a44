use Rattle.hexwrite.specs.DigitsLaws.{WritingBytes}
use Rattle.hexwrite.proofs.digits.put_bytes.Given as goal

abbrev pub invariant-loop-i : goal.invariant-loop-i
invariant-loop-i l = WritingBytes l.at l.bytes l.initial.text l.text l.i
