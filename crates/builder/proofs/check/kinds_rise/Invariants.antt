use Rattle.builder.specs.CheckLaws.{KindsRiseBefore}
use Rattle.builder.proofs.check.kinds_rise.Given as goal

abbrev pub invariant-loop-i : goal.invariant-loop-i
invariant-loop-i g l = KindsRiseBefore (g.L.Lines.lines l.lines) l.previous l.i
