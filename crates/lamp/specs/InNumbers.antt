-- Each case of a panel's answers in document 01's numbers, and the values, 0 where refused.
use Rattle.std.specs.Prelude.{ℕ, Err, Ok}
use Rattle.panel.specs.Answers.{Identified}
use Rattle.lamp.specs.declared.questions.LoadState.{LoadState}
use Rattle.lamp.specs.declared.questions.LoadState.TheVariants.{UnderWay, Accepted, Refused}

abbrev pub state_number : LoadState → ℕ
state_number UnderWay = 0
state_number (Accepted size) = 0
state_number (Refused r) = r.number

abbrev pub state_detail : LoadState → ℕ
state_detail UnderWay = 0
state_detail (Accepted size) = 0
state_detail (Refused r) = r.detail

abbrev pub state_length : LoadState → ℕ
state_length UnderWay = 0
state_length (Accepted size) = size
state_length (Refused r) = 0

abbrev pub gauge_number : Identified → ℕ
gauge_number (Ok identity) = 0
gauge_number (Err r) = r.number

abbrev pub gauge_detail : Identified → ℕ
gauge_detail (Ok identity) = 0
gauge_detail (Err r) = r.detail

abbrev pub gauge_serial : Identified → ℕ
gauge_serial (Ok identity) = identity.serial
gauge_serial (Err r) = 0

abbrev pub gauge_year : Identified → ℕ
gauge_year (Ok identity) = identity.year
gauge_year (Err r) = 0

abbrev pub gauge_month : Identified → ℕ
gauge_month (Ok identity) = identity.month
gauge_month (Err r) = 0

abbrev pub gauge_day : Identified → ℕ
gauge_day (Ok identity) = identity.day
gauge_day (Err r) = 0
