-- Each case of a reading's answer in document 01's numbers: the refusal's number and detail, or 0 and 0, and the values, 0 where
-- refused.
use Rattle.std.specs.Prelude.{ℕ, ℤ, pos, Err, Ok}
use Rattle.reading.specs.Answers.{Answer}

abbrev pub answer_number : Answer → ℕ
answer_number (Ok reading) = 0
answer_number (Err r) = r.number

abbrev pub answer_detail : Answer → ℕ
answer_detail (Ok reading) = 0
answer_detail (Err r) = r.detail

abbrev pub answer_pressure : Answer → ℤ
answer_pressure (Ok reading) = reading.pressure
answer_pressure (Err r) = pos 0

abbrev pub answer_temperature : Answer → ℤ
answer_temperature (Ok reading) = reading.temperature
answer_temperature (Err r) = pos 0

abbrev pub answer_unit : Answer → ℕ
answer_unit (Ok reading) = reading.unit
answer_unit (Err r) = 0

abbrev pub answer_mark : Answer → ℕ
answer_mark (Ok reading) = reading.mark
answer_mark (Err r) = 0
