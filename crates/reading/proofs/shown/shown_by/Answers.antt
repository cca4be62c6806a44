use Rattle.std.specs.Int.{w64}
use Rattle.std.specs.Int.Signed.{mag}
use Rattle.std.proofs.Common.{◌^◌, ◌<◌, ◌∙◌, to_z-of_z, arith}
use Rattle.laws.specs.SignedBits.{read_back}
use Rattle.reading.specs.ValueLaws.{passed_on, asked_of_refused}
use Rattle.reading.specs.MeasuredLaws.{untrimmed_shown, zero_near, zero_refused, trimmed_shown}
use Rattle.reading.proofs.shown.shown_by.Goals as goal

pub returns-in_default : goal.returns-in_default
returns-in_default c = rw (to_z-of_z c.ranges.pressure, to_z-of_z c.ranges.temperature) (untrimmed_shown _ _ _ _ c.in_default.is)

pub trimmed-requires : goal.trimmed-requires
trimmed-requires c =
    let h : mag c.in-Some.trim.zero < 2 ^ 63 = omega arith in
    let check = asked_of_refused _ _ _ (rw (read_back w64 _ h) at c.beyond.ensures) c.ask.ensures in
    (zero_near c.in-Some.trim.zero check c.in_ok-ask.was, rw (to_z-of_z c.ranges.pressure) c.requires)

pub returns-in_err-ask : goal.returns-in_err-ask
returns-in_err-ask c =
    let h : mag c.in-Some.trim.zero < 2 ^ 63 = omega arith in
    let check = asked_of_refused _ _ _ (rw (read_back w64 _ h) at c.beyond.ensures) c.ask.ensures in
    passed_on c.from_residual.ensures.1 ∙ zero_refused _ _ _ _ c.in-Some.is check c.in_err-ask.was

pub returns : goal.returns
returns c =
    let h : mag c.in-Some.trim.zero < 2 ^ 63 = omega arith in
    let check = asked_of_refused _ _ _ (rw (read_back w64 _ h) at c.beyond.ensures) c.ask.ensures in
    let trimmed = rw (to_z-of_z c.ranges.pressure) at c.trimmed.ensures in
    rw (to_z-of_z c.ranges.temperature, read_back w64 c.trimmed.result c.trimmed.type_inv, trimmed)
    (trimmed_shown _ _ _ _ c.in-Some.is check c.in_ok-ask.was)
