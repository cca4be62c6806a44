use Rattle.std.proofs.Common.{rules}
use Rattle.hexdigits.specs.PairsLaws.{adding_first, sum_odd, sum_more, sum_failed, sum_all}
use Rattle.hexdigits.proofs.digits.digits_sum.Goals as goal

pub returns-then-characters-ne0 : goal.returns-then-characters-ne0
returns-then-characters-ne0 c = search (rules, sum_odd)

pub loop-i-init : goal.loop-i-init
loop-i-init c = search (rules, adding_first)

pub loop-i-preserved : goal.loop-i-preserved
loop-i-preserved c =
    sum_more _ _ _ _ _ c.loop-i.invariant _ _ _ _ _ (search rules) (search rules) c.digit-high.ensures c.digit-low.ensures
    (search rules) c.max.ensures c.max-largest.ensures

pub returns-then-largest-ge16 : goal.returns-then-largest-ge16
returns-then-largest-ge16 c = search (rules, sum_failed)

pub returns : goal.returns
returns c = search (rules, sum_all)
