use Rattle.std.specs.Int.{w64}
use Rattle.std.proofs.Common.{◌∙◌, SFits, to_z-of_z, rules}
use Rattle.reading.specs.ValueLaws.{passed_on, value_passed, value_refused}
use Rattle.reading.specs.Polynomial.{row_step}
use Rattle.reading.specs.PolynomialLaws.{row_adds_nothing}
use Rattle.reading.proofs.polynomial.row_step.Goals as goal

pub returns-then-is_zero : goal.returns-then-is_zero
returns-then-is_zero c = search (rules, row_adds_nothing)

pub returns-in_err-row_sum : goal.returns-in_err-row_sum
unfolding row_step
returns-in_err-row_sum c = passed_on c.from_residual.ensures.1 ∙ value_refused c.row_sum.ensures _ c.in_err-row_sum.was

pub returns : goal.returns
unfolding row_step
returns c =
    let sum : SFits w64 c.in_ok-row_sum.field-0 = search rules in
    value_passed c.row_sum.ensures _ c.in_ok-row_sum.was (rw (to_z-of_z c.ranges.sum, to_z-of_z sum) at c.step.ensures)
