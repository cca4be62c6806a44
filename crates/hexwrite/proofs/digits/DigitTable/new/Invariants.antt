use Rattle.hexwrite.specs.DigitsLaws.{Digits}
use Rattle.hexwrite.proofs.digits.DigitTable.new.Given as goal

abbrev pub invariant-loop-value : goal.invariant-loop-value
invariant-loop-value l = Digits l.characters l.value
