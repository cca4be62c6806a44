use Rattle.builder.specs.WriteLaws.{Writing}
use Rattle.builder.proofs.write.put_contents.Given as goal

abbrev pub invariant-loop-i : goal.invariant-loop-i
invariant-loop-i g l = Writing (g.L.Lines.lines l.lines) l.bodies l.initial.image l.start l.i l.image
