-- Mark, trim, and the whole way from counts to an answer.
use Rattle.std.specs.Prelude.{Bool, cond, ◌||◌, ℕ, ◌+◌, ◌^◌, leb, ℤ, pos, nat_abs, ◌+ℤ◌, ◌*ℤ◌, Err, None, Ok, Some}
use Rattle.std.specs.Int.Signed.{lt_z}
use Rattle.whole.specs.Rounded.{rounded}
use Rattle.refusals.specs.Refusals.{refusal}
use Rattle.bodies.specs.declared.Identity.{Identity}
use Rattle.bodies.specs.declared.Trim.{Trim}
use Rattle.reading.specs.declared.Counts.{Counts}
use Rattle.reading.specs.Answers.{Answer, Trimming, Value}
use Rattle.reading.specs.Frequency.{frequency_of}
use Rattle.reading.specs.Polynomial.{set_result}
use Rattle.reading.specs.Gauge.{Gauge}

-- z, in 1/65,536, lies outside the whole numbers from low to high
unfoldable pub outside : (z low high : ℤ) → Bool
outside z low high = lt_z z (low *ℤ pos 65536) || lt_z (high *ℤ pos 65536) z

-- 1 for the temperature, plus 2 for the pressure before trim
unfoldable pub mark_of : Identity → (pressure temperature : ℤ) → ℕ
mark_of identity pressure temperature =
    cond (outside temperature identity.tmin identity.tmax) 1 0
    + cond (outside pressure identity.pmin identity.pmax) 2 0

unfoldable pub trimmed_by : Trim → (pressure : ℤ) → ℤ
trimmed_by trim pressure = trim.zero +ℤ rounded (pos trim.span *ℤ pressure) (2 ^ 28)

-- a zero beyond 2^40 is no right trim, which a verdict has told before
unfoldable pub shown_by : Trimming → (pressure temperature : ℤ) → (mark : ℕ) → Answer
shown_by None pressure temperature mark = Ok (record { pressure = pressure; temperature = temperature; unit = 1; mark = mark })
shown_by (Some trim) pressure temperature mark =
    cond (leb (nat_abs trim.zero) (2 ^ 40))
    (Ok (record { pressure = trimmed_by trim pressure; temperature = temperature; unit = trim.unit; mark = mark }))
    (Err (refusal 15 0))

-- nothing is shown after a refusal
abbrev pub and_show : Value → (ℤ → Answer) → Answer
and_show (Ok z) next = next z
and_show (Err r) next = Err r

-- the frequency of the pressure channel, then of the temperature channel, then the pressure set, then the temperature set, then
-- what is shown
unfoldable pub measured_of : Counts → Gauge → Answer
measured_of counts gauge =
    and_show (frequency_of 1 counts.pressure.sensor.0 counts.pressure.reference.0)
    (λ fp. and_show (frequency_of 2 counts.temperature.sensor.0 counts.temperature.reference.0)
    (λ ft. and_show (set_result 2 1 gauge.pressure_set fp ft)
    (λ pressure. and_show (set_result 3 3 gauge.temperature_set fp ft)
    (λ temperature. shown_by gauge.trimming pressure temperature (mark_of gauge.identity pressure temperature)))))
