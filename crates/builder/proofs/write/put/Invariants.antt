use Rattle.builder.specs.WriteLaws.{Putting}
use Rattle.builder.proofs.write.put.Given as goal

abbrev pub invariant-loop-i : goal.invariant-loop-i
invariant-loop-i l = Putting l.place l.bytes l.initial.image l.i l.image
