use Rattle.std.specs.Int.{w64}
use Rattle.std.proofs.Common.{sym, ◌∙◌, SFits, to_z-of_z, rules}
use Rattle.std.proofs.lemmas.Iterator.Adapters.{YieldsList-from_rev_slice}
use Rattle.std.proofs.lemmas.Iterator.Consumers.{YieldsList-turn, YieldsList-end}
use Rattle.std.proofs.lemmas.List.{length_push}
use Rattle.reading.specs.ValueLaws.{passed_on}
use Rattle.reading.specs.PolynomialLaws.{step_bound, sum_of_none, sum_of_more, sum_of_all, sum_refused}
use Rattle.reading.proofs.polynomial.row_sum.Goals as goal

pub loop-coefficient-init : goal.loop-coefficient-init
loop-coefficient-init c = search (rules, sum_of_none)

pub loop-coefficient-preserved : goal.loop-coefficient-preserved
loop-coefficient-preserved c =
    let fits : SFits w64 c.in-Some.coefficient.now = search rules in
    let next : SFits w64 c.in_ok-sum.sum = search rules in
    let yields = YieldsList-from_rev_slice c.args.row.now cc in
    let turn = YieldsList-turn yields c.loop-coefficient.yielded _ c.loop-coefficient.yielded_by _ _ c.in-Some.coefficient c.in-Some.is c.next.ensures.steps in
    let step = rw (to_z-of_z fits) at c.step.ensures in
    let small = step_bound _ _ _ _ c.in_ok-sum.sum (sym step ∙ c.in_ok-sum.was) in
    rw (to_z-of_z next, length_push c.loop-coefficient.yielded c.in-Some.coefficient)
    (sum_of_more _ _ _ _ c.loop-coefficient.invariant turn step c.in_ok-sum.sum c.in_ok-sum.was small)

pub returns-in_err-sum : goal.returns-in_err-sum
returns-in_err-sum c =
    let fits : SFits w64 c.in-Some.coefficient.now = search rules in
    let yields = YieldsList-from_rev_slice c.args.row.now cc in
    let turn = YieldsList-turn yields c.loop-coefficient.yielded _ c.loop-coefficient.yielded_by _ _ c.in-Some.coefficient c.in-Some.is c.next.ensures.steps in
    let step = rw (to_z-of_z fits) at c.step.ensures in
    passed_on c.from_residual.ensures.1 ∙ sum_refused _ _ _ _ c.loop-coefficient.invariant turn step _ c.in_err-sum.was

pub returns : goal.returns
returns c =
    let yields = YieldsList-from_rev_slice c.args.row.now cc in
    let end = YieldsList-end yields c.loop-coefficient.yielded _ c.loop-coefficient.yielded_by _ _ c.in-None.is c.next.ensures.steps in
    sum_of_all _ _ _ _ c.loop-coefficient.invariant end.1
