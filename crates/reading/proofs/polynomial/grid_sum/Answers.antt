use Rattle.std.specs.Int.{w64}
use Rattle.std.proofs.Common.{sym, ◌∙◌, SFits, to_z-of_z, rules}
use Rattle.std.proofs.lemmas.Iterator.Adapters.{YieldsList-from_rev_slice}
use Rattle.std.proofs.lemmas.Iterator.Consumers.{YieldsList-turn, YieldsList-end}
use Rattle.std.proofs.lemmas.List.{length_push}
use Rattle.reading.specs.ValueLaws.{passed_on}
use Rattle.reading.specs.PolynomialLaws.{row_step_bound, sum_of_none, sum_of_more, sum_of_all, sum_refused}
use Rattle.reading.proofs.polynomial.grid_sum.Goals as goal

pub loop-row-init : goal.loop-row-init
loop-row-init c = search (rules, sum_of_none)

pub loop-row-preserved : goal.loop-row-preserved
loop-row-preserved c =
    let next : SFits w64 c.in_ok-sum.sum = search rules in
    let turn = YieldsList-turn (YieldsList-from_rev_slice c.args.grid cc) c.loop-row.yielded _ c.loop-row.yielded_by _ _ c.in-Some.row c.in-Some.is c.next.ensures.steps in
    let small = row_step_bound _ _ _ _ _ c.in_ok-sum.sum (sym c.row_step.ensures ∙ c.in_ok-sum.was) in
    rw (to_z-of_z next, length_push c.loop-row.yielded c.in-Some.row)
    (sum_of_more _ _ _ _ c.loop-row.invariant turn c.row_step.ensures c.in_ok-sum.sum c.in_ok-sum.was small)

pub returns-in_err-sum : goal.returns-in_err-sum
returns-in_err-sum c =
    let turn = YieldsList-turn (YieldsList-from_rev_slice c.args.grid cc) c.loop-row.yielded _ c.loop-row.yielded_by _ _ c.in-Some.row c.in-Some.is c.next.ensures.steps in
    passed_on c.from_residual.ensures.1 ∙ sum_refused _ _ _ _ c.loop-row.invariant turn c.row_step.ensures _ c.in_err-sum.was

pub returns : goal.returns
returns c =
    let end = YieldsList-end (YieldsList-from_rev_slice c.args.grid cc) c.loop-row.yielded _ c.loop-row.yielded_by _ _ c.in-None.is c.next.ensures.steps in
    sum_of_all _ _ _ _ c.loop-row.invariant end.1
