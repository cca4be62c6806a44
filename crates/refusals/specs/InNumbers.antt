-- Each case of each answer in document 01's numbers: the refusal's number and detail, or 0 and 0, and the values, 0 where refused.
use Rattle.std.specs.Prelude.{ℕ, Err, Ok}
use Rattle.refusals.specs.Answers.{Verdict}
use Rattle.refusals.specs.Answers.{Filled}

abbrev pub verdict_number : Verdict → ℕ
verdict_number (Ok tt) = 0
verdict_number (Err r) = r.number

abbrev pub verdict_detail : Verdict → ℕ
verdict_detail (Ok tt) = 0
verdict_detail (Err r) = r.detail

abbrev pub filled_number : Filled → ℕ
filled_number (Ok n) = 0
filled_number (Err r) = r.number

abbrev pub filled_detail : Filled → ℕ
filled_detail (Ok n) = 0
filled_detail (Err r) = r.detail

abbrev pub filled_length : Filled → ℕ
filled_length (Ok n) = n
filled_length (Err r) = 0
