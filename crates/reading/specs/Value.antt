-- A number on the way to a reading: known, or refused and then nothing after it is worked out.
use Rattle.std.specs.Prelude.{ℕ, leb, ℤ, nat_abs, Err, Ok}
use Rattle.refusals.specs.Answers.{Verdict}
use Rattle.refusals.specs.Refusals.{ask}
use Rattle.reading.specs.Answers.{Value}

-- a value, where the check before it is passed
abbrev pub given : Verdict → Value → Value
given (Ok tt) v = v
given (Err r) v = Err r

abbrev pub with_value : Value → (ℤ → Value) → Value
with_value (Ok z) next = next z
with_value (Err r) next = Err r

-- z, where it lies within `most` either side of 0
unfoldable pub within : (most number detail : ℕ) → ℤ → Value
within most number detail z = given (ask (leb (nat_abs z) most) number detail) (Ok z)
