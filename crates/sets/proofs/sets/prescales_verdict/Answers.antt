use Rattle.std.proofs.Common.{refl}
use Rattle.refusals.specs.FieldsVerdictLaws.{verdict_is, field_right}
use Rattle.refusals.specs.TestsLaws.{fields}
use Rattle.sets.specs.Set.{set_fields}
use Rattle.sets.specs.SetLaws.{length_told, other_length_told, prescale_right, prescale_wrong, coefficients_verdict_is}
use Rattle.sets.proofs.sets.prescales_verdict.Goals as goal

ruleset laws = (fields, length_told, other_length_told, coefficients_verdict_is)

pub returns-then-body-count : goal.returns-then-body-count
unfolding set_fields
returns-then-body-count c = search laws depth 12

pub returns-in_err-prescale_verdict : goal.returns-in_err-prescale_verdict
unfolding set_fields
returns-in_err-prescale_verdict c =
    let a = c.args in
    let k = c.prescale_verdict in
    verdict_is _ _ _
    (field_right (search laws)
    (prescale_wrong a.number 4 a.pressure c.at.result c.at-2.result k.result k.ensures _ _ _ _
    c.requires.pressure c.at.ensures c.at-2.ensures refl _ _ _ c.in_err-prescale_verdict.was c.from_residual.ensures.1))

pub returns-in_err-prescale_verdict-2 : goal.returns-in_err-prescale_verdict-2
unfolding set_fields
returns-in_err-prescale_verdict-2 c =
    let a = c.args in
    let k = c.prescale_verdict in
    let l = c.prescale_verdict-2 in
    verdict_is _ _ _
    (field_right (search laws)
    (prescale_right a.number 4 a.pressure c.at.result c.at-2.result k.result k.ensures _ _ _ _
    c.requires.pressure c.at.ensures c.at-2.ensures refl _ _ c.in_ok-prescale_verdict.was
    (prescale_wrong a.number 16 a.temperature c.at-3.result c.at-4.result l.result l.ensures _ _ _ _
    c.requires.temperature c.at-3.ensures c.at-4.ensures refl _ _ _
    c.in_err-prescale_verdict-2.was c.from_residual-in_err-prescale_verdict-2.ensures.1)))

pub returns : goal.returns
unfolding set_fields
returns c =
    let a = c.args in
    let k = c.prescale_verdict in
    let l = c.prescale_verdict-2 in
    verdict_is _ _ _
    (field_right (search laws)
    (prescale_right a.number 4 a.pressure c.at.result c.at-2.result k.result k.ensures _ _ _ _
    c.requires.pressure c.at.ensures c.at-2.ensures refl _ _ c.in_ok-prescale_verdict.was
    (prescale_right a.number 16 a.temperature c.at-3.result c.at-4.result l.result l.ensures _ _ _ _
    c.requires.temperature c.at-3.ensures c.at-4.ensures refl _ _ c.in_ok-prescale_verdict-2.was (search laws))))
