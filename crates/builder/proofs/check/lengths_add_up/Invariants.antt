use Rattle.builder.specs.CheckLaws.{Adding}
use Rattle.builder.proofs.check.lengths_add_up.Given as goal

abbrev pub invariant-loop-i : goal.invariant-loop-i
invariant-loop-i g l = Adding (g.L.Lines.lines l.lines) l.bytes l.left l.i
