use Rattle.std.proofs.Common.{◌≤◌, ◌∙◌, arith}
use Rattle.reading.specs.ValueLaws.{asked_of_refused, passed_on}
use Rattle.reading.specs.FrequencyLaws.{few_cycles, cycles_refused, reference_refused, frequency_refused, counted}
use Rattle.reading.proofs.frequency.frequency.Goals as goal

pub overflow_mul-cycles : goal.overflow_mul-cycles
overflow_mul-cycles c =
    let few : c.args.counts.sensor.0 ≤ 1048576 = few_cycles c.args.channel _ 0 (asked_of_refused _ _ _ c.outside.ensures c.ask.ensures) c.in_ok-ask.was in
    omega arith

pub returns-in_err-ask : goal.returns-in_err-ask
returns-in_err-ask c =
    let first = asked_of_refused _ _ _ c.outside.ensures c.ask.ensures in
    passed_on c.from_residual.ensures.1 ∙ cycles_refused _ _ _ first c.in_err-ask.was

pub returns-in_err-ask-2 : goal.returns-in_err-ask-2
returns-in_err-ask-2 c =
    let first = asked_of_refused _ _ _ c.outside.ensures c.ask.ensures in
    passed_on c.from_residual-in_err-ask-2.ensures.1 ∙ reference_refused _ _ _ first c.in_ok-ask.was c.ask-2.ensures c.in_err-ask-2.was

pub returns-in_err-ask-3 : goal.returns-in_err-ask-3
returns-in_err-ask-3 c =
    let first = asked_of_refused _ _ _ c.outside.ensures c.ask.ensures in
    let third = asked_of_refused _ _ _ c.outside-2.ensures c.ask-3.ensures in
    passed_on c.from_residual-in_err-ask-3.ensures.1
    ∙ frequency_refused _ _ _ first c.in_ok-ask.was c.ask-2.ensures c.in_ok-ask-2.was _ c.rounded_quotient-hertz.ensures third c.in_err-ask-3.was

pub returns : goal.returns
returns c =
    let first = asked_of_refused _ _ _ c.outside.ensures c.ask.ensures in
    let third = asked_of_refused _ _ _ c.outside-2.ensures c.ask-3.ensures in
    counted _ _ _ first c.in_ok-ask.was c.ask-2.ensures c.in_ok-ask-2.was _ c.rounded_quotient-hertz.ensures third c.in_ok-ask-3.was
