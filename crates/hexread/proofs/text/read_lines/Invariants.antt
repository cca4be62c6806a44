use Prim.Native.Nat.{◌-◌}
use lib.ListN.{length}
use Rattle.hexread.specs.TextLaws.{Reading}
use Rattle.hexread.proofs.text.read_lines.Given as goal

abbrev pub invariant-loop-start : goal.invariant-loop-start
invariant-loop-start l = Reading l.text l.initial.image l.room l.image l.start l.size l.line

abbrev pub decreases-loop-start : goal.decreases-loop-start
decreases-loop-start l = length l.text - l.start
