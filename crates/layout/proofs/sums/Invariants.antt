use Rattle.layout.specs.SumsLaws.{SumsRightBefore}
use Rattle.layout.proofs.sums.Given as goal

abbrev pub invariant-loop-i : goal.invariant-loop-i
invariant-loop-i l = SumsRightBefore l.image l.count l.i l.offset
