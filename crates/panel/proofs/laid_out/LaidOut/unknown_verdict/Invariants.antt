use Rattle.panel.specs.Verdict.{unknown_verdict}
use Rattle.panel.specs.VerdictLaws.{Passing}
use Rattle.panel.specs.Kinds.{level_number}
use Rattle.panel.proofs.laid_out.LaidOut.unknown_verdict.Given as goal

abbrev pub invariant-loop-i : goal.invariant-loop-i
invariant-loop-i l = Passing (unknown_verdict (level_number l.level)) l.self.image.now l.i
