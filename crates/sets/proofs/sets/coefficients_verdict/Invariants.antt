use Rattle.refusals.specs.FieldsVerdictLaws.{FieldsRightBefore}
use Rattle.sets.specs.Set.{coefficient_field}
use Rattle.sets.proofs.sets.coefficients_verdict.Given as goal

abbrev pub invariant-loop-i : goal.invariant-loop-i
invariant-loop-i l = FieldsRightBefore l.number (coefficient_field l.body) l.count l.i
