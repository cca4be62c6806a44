use Rattle.std.specs.Int.{w64}
use Rattle.std.proofs.Common.{sym, ◌∙◌, SFits, to_z-of_z, rules}
use Rattle.reading.specs.ValueLaws.{passed_on, value_passed, value_refused}
use Rattle.reading.specs.Polynomial.{set_result}
use Rattle.reading.specs.FrequencyLaws.{prescaled_bound}
use Rattle.reading.proofs.polynomial.set_result.Goals as goal

pub invariant_of-by_pressure : goal.invariant_of-by_pressure
invariant_of-by_pressure c =
    let fits : SFits w64 c.in_ok-prescaled.field-0 = search rules in
    rw (to_z-of_z fits) (record { small = prescaled_bound _ _ _ _ (sym c.prescaled.ensures ∙ c.in_ok-prescaled.was) })

pub invariant_of-by_temperature : goal.invariant_of-by_temperature
invariant_of-by_temperature c =
    let fits : SFits w64 c.in_ok-prescaled-2.field-0 = search rules in
    rw (to_z-of_z fits) (record { small = prescaled_bound _ _ _ _ (sym c.prescaled-2.ensures ∙ c.in_ok-prescaled-2.was) })

pub returns-in_err-prescaled : goal.returns-in_err-prescaled
unfolding set_result
returns-in_err-prescaled c =
    let x = rw (to_z-of_z c.ranges.fp, c.read_prescales-set.ensures) at c.prescaled.ensures in
    passed_on c.from_residual.ensures.1 ∙ value_refused x _ c.in_err-prescaled.was

pub returns-in_err-prescaled-2 : goal.returns-in_err-prescaled-2
unfolding set_result
returns-in_err-prescaled-2 c =
    let x = rw (to_z-of_z c.ranges.fp, c.read_prescales-set.ensures) at c.prescaled.ensures in
    let y = rw (to_z-of_z c.ranges.ft, c.read_prescales-set.ensures) at c.prescaled-2.ensures in
    value_passed x _ c.in_ok-prescaled.was (passed_on c.from_residual-in_err-prescaled-2.ensures.1 ∙ value_refused y _ c.in_err-prescaled-2.was)

pub returns-in_err-sum : goal.returns-in_err-sum
unfolding set_result
returns-in_err-sum c =
    let x = rw (to_z-of_z c.ranges.fp, c.read_prescales-set.ensures) at c.prescaled.ensures in
    let y = rw (to_z-of_z c.ranges.ft, c.read_prescales-set.ensures) at c.prescaled-2.ensures in
    let xp : SFits w64 c.in_ok-prescaled.field-0 = search rules in
    let xt : SFits w64 c.in_ok-prescaled-2.field-0 = search rules in
    let grid = rw (to_z-of_z xp, to_z-of_z xt, c.read_grid.ensures) at c.grid_sum.ensures in
    value_passed x _ c.in_ok-prescaled.was
    (value_passed y _ c.in_ok-prescaled-2.was (passed_on c.from_residual-in_err-sum.ensures.1 ∙ value_refused grid _ c.in_err-sum.was))

pub returns : goal.returns
unfolding set_result
returns c =
    let x = rw (to_z-of_z c.ranges.fp, c.read_prescales-set.ensures) at c.prescaled.ensures in
    let y = rw (to_z-of_z c.ranges.ft, c.read_prescales-set.ensures) at c.prescaled-2.ensures in
    let xp : SFits w64 c.in_ok-prescaled.field-0 = search rules in
    let xt : SFits w64 c.in_ok-prescaled-2.field-0 = search rules in
    let sum : SFits w64 c.in_ok-sum.sum = search rules in
    let grid = rw (to_z-of_z xp, to_z-of_z xt, c.read_grid.ensures) at c.grid_sum.ensures in
    value_passed x _ c.in_ok-prescaled.was
    (value_passed y _ c.in_ok-prescaled-2.was (value_passed grid _ c.in_ok-sum.was (rw (to_z-of_z sum) at c.limited.ensures)))
