use Rattle.contents.specs.ChecksLaws.{LinesRightBefore}
use Rattle.contents.proofs.checks.lines_verdict.Given as goal

abbrev pub invariant-loop-i : goal.invariant-loop-i
invariant-loop-i l = LinesRightBefore l.size l.contents l.count l.i l.previous l.offset
