-- Laws of an identity: what is read, and the days of a month.
use Rattle.std.specs.Prelude.{◌≡◌, refl, cond, List, [], ◌∷◌, ℕ, zero, suc, ◌-◌, ◌≤◌, ℤ, take}
use Rattle.std.proofs.Common.{arith, get_or}
use Rattle.numbers.specs.Fields.{number_at, signed_at}
use Rattle.numbers.specs.FieldsLaws.{number_within}
use Rattle.bodies.specs.declared.Identity.{Identity}
use Rattle.bodies.specs.Identity.{identity_of, leap_year, month_lengths, days_in}

pub identity_read : (body : List ℕ) {serial year month day : ℕ} {tmin tmax pmin pmax : ℤ}
    → serial ≡ number_at 4 body 0 → year ≡ number_at 2 body 4 → month ≡ number_at 1 body 6 → day ≡ number_at 1 body 7
    → tmin ≡ signed_at 4 body 8 → tmax ≡ signed_at 4 body 12 → pmin ≡ signed_at 4 body 16 → pmax ≡ signed_at 4 body 20
    → ◌≡◌ {A = Identity}
    (record { serial = serial; year = year; month = month; day = day; tmin = tmin; tmax = tmax; pmin = pmin; pmax = pmax })
    (identity_of body)
unfolding identity_of
identity_read body a b c d e f g h = rw (a, b, c, d, e, f, g, h)

-- the first 24 bytes say all of it
pub identity_of_whole : (body : List ℕ) → identity_of (take 24 body) ≡ identity_of body
unfolding identity_of
identity_of_whole body =
    rw (
      number_within 4 body 0 24 (omega arith),
      number_within 2 body 4 24 (omega arith),
      number_within 1 body 6 24 (omega arith),
      number_within 1 body 7 24 (omega arith),
      number_within 4 body 8 24 (omega arith),
      number_within 4 body 12 24 (omega arith),
      number_within 4 body 16 24 (omega arith),
      number_within 4 body 20 24 (omega arith),
    )

-- February's days depend on the year, and those of the other months are listed
pub days_february : (year month : ℕ) {days : ℕ} → days ≡ cond (leap_year year) 29 28 → month ≡ 2 → days ≡ days_in year month
unfolding days_in
days_february year month e two = rw two e

pub days_listed : (year month : ℕ) → 1 ≤ month → (month ≡ 2 → ⊥)
    → get_or (31 ∷ 28 ∷ 31 ∷ 30 ∷ 31 ∷ 30 ∷ 31 ∷ 31 ∷ 30 ∷ 31 ∷ 30 ∷ 31 ∷ []) (month - 1) 0 ≡ days_in year month
unfolding days_in
days_listed year month h other = by (month - 1) (λ e. other (omega arith))
  where
    by : (i : ℕ) → (i ≡ 1 → ⊥)
        → get_or (31 ∷ 28 ∷ 31 ∷ 30 ∷ 31 ∷ 30 ∷ 31 ∷ 31 ∷ 30 ∷ 31 ∷ 30 ∷ 31 ∷ []) i 0 ≡ get_or (month_lengths year) i 0
    by zero n = refl
    by (suc zero) n = absurd (n refl)
    by (suc (suc i)) n = refl

-- of a year and a month that were read
pub days_of : (days y m year month : ℕ) → days ≡ days_in y m → y ≡ year → m ≡ month → days ≡ days_in year month
days_of days y m year month h e f = rw (e, f) at h
