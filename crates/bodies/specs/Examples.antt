-- Document 01: 29 February 2004 passes, 2003 is refused 11.
use Rattle.std.specs.Prelude.{List, ◌∷◌, ◌≡◌, refl, ℕ, ◌/◌, ◌%◌, replicate, Err, Ok}
use Rattle.numbers.specs.Fields.{little_endian, number_at, twos_complement}
use Rattle.refusals.specs.Refusals.{refusal}
use Rattle.refusals.specs.FieldsVerdict.{fields_verdict}
use Rattle.bodies.specs.Identity.{days_in, identity_fields, identity_verdict}

-- serial 7, 29 February of the year, all limits 0
abbrev pub leap_day : (year : ℕ) → List ℕ
leap_day year = 7 ∷ 0 ∷ 0 ∷ 0 ∷ year % 256 ∷ year / 256 ∷ 2 ∷ 29 ∷ replicate 16 0

pub leap_day_2004 : identity_verdict (leap_day 2004) ≡ Ok tt
unfolding little_endian number_at twos_complement days_in identity_fields fields_verdict
leap_day_2004 = refl

pub leap_day_2003 : identity_verdict (leap_day 2003) ≡ Err (refusal 11 0)
unfolding little_endian number_at twos_complement days_in identity_fields fields_verdict
leap_day_2003 = refl
