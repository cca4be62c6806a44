use Rattle.std.proofs.Common.{arith}
use Rattle.builder.specs.CheckLaws.{adding_short, adding_more}
use Rattle.builder.proofs.check.lengths_add_up.Goals as goal

pub returns-then-left-length : goal.returns-then-left-length
returns-then-left-length g c = adding_short _ _ _ _ c.loop-i.invariant _ c.line-length.ensures (omega arith) (omega arith)

pub loop-i-preserved : goal.loop-i-preserved
loop-i-preserved g c = adding_more _ _ _ _ c.loop-i.invariant _ c.line-length.ensures (omega arith) (omega arith)
