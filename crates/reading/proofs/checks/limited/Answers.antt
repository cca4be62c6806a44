use Rattle.std.proofs.Common.{◌∙◌, to_z-of_z}
use Rattle.reading.specs.ValueLaws.{asked_of_refused, passed_on, within_refused, within_passed}
use Rattle.reading.proofs.checks.limited.Goals as goal

pub returns-in_err-ask : goal.returns-in_err-ask
returns-in_err-ask c =
    let far = rw (to_z-of_z c.ranges.z) at c.beyond.ensures in
    passed_on c.from_residual.ensures.1 ∙ within_refused _ _ _ _ (asked_of_refused _ _ _ far c.ask.ensures) c.in_err-ask.was

pub returns : goal.returns
returns c =
    let far = rw (to_z-of_z c.ranges.z) at c.beyond.ensures in
    rw (to_z-of_z c.ranges.z) (within_passed _ _ _ _ (asked_of_refused _ _ _ far c.ask.ensures) c.in_ok-ask.was)
