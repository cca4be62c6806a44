-- The bodies of the kinds that some level knows: when each is wrong, field by field, with the field's place in the body.
use Rattle.std.specs.Prelude.{List, ◌⊎◌, ◌≡◌, ℕ, ◌+◌, ◌*◌, ◌%◌, ◌^◌, ◌<◌, length, get_or, ◌<ℤ◌}
use Rattle.paper.specs.Words.{Not, Outside, Beyond}
use Rattle.paper.specs.Fields.{number, signed}

-- ---- 1, identity, 24 bytes: serial at 0, year at 4, month at 6, day at 7; TMIN at 8, TMAX at 12, PMIN at 16, PMAX at 20

abbrev pub LeapYear : (year : ℕ) → Type 0
LeapYear year = (year % 4 ≡ 0) × (Not (year % 100 ≡ 0) ⊎ (year % 400 ≡ 0))

-- "a real Gregorian date": April, June, September and November have 30 days, February 28, or 29 in a leap year, all others 31
abbrev pub NoSuchDay : (year month day : ℕ) → Type 0
NoSuchDay year month day =
    Outside 1 31 day
    ⊎ (((month ≡ 4) ⊎ (month ≡ 6) ⊎ (month ≡ 9) ⊎ (month ≡ 11)) × (30 < day))
    ⊎ ((month ≡ 2) × (29 < day))
    ⊎ ((month ≡ 2) × Not (LeapYear year) × (28 < day))

abbrev pub IdentityWrong : List ℕ → Type 0
IdentityWrong body =
    Not (length body ≡ 24)
    ⊎ Outside 1980 2099 (number 2 body 4)
    ⊎ Outside 1 12 (number 1 body 6)
    ⊎ NoSuchDay (number 2 body 4) (number 1 body 6) (number 1 body 7)
    ⊎ (signed 4 body 12 <ℤ signed 4 body 8)
    ⊎ (signed 4 body 20 <ℤ signed 4 body 16)

-- ---- 2 and 3, pressure set and temperature set, 28 + 8 N bytes: algorithms at 0 and 1, NP at 2, NT at 3, MP at 4, FP0 at 8,
-- MT at 16, FT0 at 20, then N = (NP + 1)(NT + 1) coefficients

abbrev pub pressure_order : List ℕ → ℕ
pressure_order body = number 1 body 2

abbrev pub temperature_order : List ℕ → ℕ
temperature_order body = number 1 body 3

abbrev pub coefficient_count : List ℕ → ℕ
coefficient_count body = (pressure_order body + 1) * (temperature_order body + 1)

-- "Multipliers are 1 to 2^30, offsets 0 to 6,553,600,000. Where an order is 0, its multiplier and offset are both 0 instead."
abbrev pub PrescaleWrong : (order multiplier offset : ℕ) → Type 0
PrescaleWrong order multiplier offset =
    (Not (order ≡ 0) × (Outside 1 (2 ^ 30) multiplier ⊎ (6553600000 < offset)))
    ⊎ ((order ≡ 0) × (Not (multiplier ≡ 0) ⊎ Not (offset ≡ 0)))

abbrev pub SetWrong : List ℕ → Type 0
SetWrong body =
    Not (number 1 body 0 ≡ 1)
    ⊎ Not (number 1 body 1 ≡ 1)
    ⊎ (4 < pressure_order body)
    ⊎ (4 < temperature_order body)
    ⊎ Not (length body ≡ 28 + 8 * coefficient_count body)
    ⊎ PrescaleWrong (pressure_order body) (number 4 body 4) (number 8 body 8)
    ⊎ PrescaleWrong (temperature_order body) (number 4 body 16) (number 8 body 20)
    ⊎ ((i : ℕ) × (i < coefficient_count body) × Beyond (2 ^ 34) (signed 8 body (28 + 8 * i)))

-- ---- 4, trim, 16 bytes: unit at 0, zeros at 1, 2 and 3, span at 4, zero at 8

abbrev pub TrimWrong : List ℕ → Type 0
TrimWrong body =
    Not (length body ≡ 16)
    ⊎ Outside 1 3 (number 1 body 0)
    ⊎ Not (number 1 body 1 ≡ 0)
    ⊎ Not (number 1 body 2 ≡ 0)
    ⊎ Not (number 1 body 3 ≡ 0)
    ⊎ Outside 1 (2 ^ 31) (number 4 body 4)
    ⊎ Beyond (2 ^ 40) (signed 8 body 8)

-- ---- 129, note, "1 to 64 bytes, each a field of 32 to 126"

abbrev pub NoteWrong : List ℕ → Type 0
NoteWrong body = Outside 1 64 (length body) ⊎ ((i : ℕ) × (i < length body) × Outside 32 126 (get_or body i 0))
