use Rattle.std.proofs.Common.{arith}
use Rattle.builder.specs.CheckLaws.{rising_low}
use Rattle.builder.proofs.check.kinds_rise.Goals as goal

pub returns-then-kind-previous : goal.returns-then-kind-previous
returns-then-kind-previous g c = rising_low _ _ _ c.loop-i.invariant _ c.line-kind.ensures (omega arith) (omega arith)
