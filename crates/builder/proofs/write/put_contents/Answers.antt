use Rattle.std.proofs.Common.{rules, arith}
use Rattle.builder.specs.WriteLaws.{body_within, line_fits, kind_fits, writing_more, writing_end}
use Rattle.builder.proofs.write.put_contents.Goals as goal

pub body_sum-sum-requires : goal.body_sum-sum-requires
body_sum-sum-requires g c = body_within _ _ _ _ _ _ c.loop-i.invariant _ c.line-line.ensures (omega arith)

pub overflow_cast-line : goal.overflow_cast-line
overflow_cast-line g c = record { fits = omega (arith, kind_fits _ _ _ _ _ _ c.loop-i.invariant _ c.line-line.ensures (omega arith)) }

pub overflow_cast-line-in-loop-i : goal.overflow_cast-line-in-loop-i
overflow_cast-line-in-loop-i g c = record { fits = omega (arith, line_fits _ _ _ _ _ _ c.loop-i.invariant _ c.line-line.ensures (omega arith)) }

pub overflow_add-start : goal.overflow_add-start
overflow_add-start g c = record { fits = omega (arith, line_fits _ _ _ _ _ _ c.loop-i.invariant _ c.line-line.ensures (omega arith)) }

pub loop-i-preserved : goal.loop-i-preserved
loop-i-preserved g c =
    writing_more _ _ _ _ _ _ c.loop-i.invariant _ c.line-line.ensures (omega arith) _ _ _ c.count-count.ensures c.body_sum-sum.ensures c.put_line.ensures
    (omega arith)

pub returns : goal.returns
returns g c = search (rules, writing_end)
