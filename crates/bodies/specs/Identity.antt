-- Kind 1, identity, 24 bytes.
use Rattle.std.specs.Prelude.{Bool, not, cond, ◌&&◌, ◌||◌, List, [], ◌∷◌, ℕ, ◌-◌, ◌%◌, leb, eqb, length, get_or}
use Rattle.std.specs.Int.Signed.{le_z}
use Rattle.numbers.specs.Fields.{number_at, signed_at}
use Rattle.refusals.specs.Answers.{Verdict}
use Rattle.refusals.specs.FieldsVerdict.{Field, field, fields_verdict}
use Rattle.bodies.specs.declared.Identity.{Identity}

-- what it says
unfoldable pub identity_of : List ℕ → Identity
identity_of body =
    record {
      serial = number_at 4 body 0;
      year = number_at 2 body 4;
      month = number_at 1 body 6;
      day = number_at 1 body 7;
      tmin = signed_at 4 body 8;
      tmax = signed_at 4 body 12;
      pmin = signed_at 4 body 16;
      pmax = signed_at 4 body 20;
    }

-- the Gregorian calendar
abbrev pub leap_year : (year : ℕ) → Bool
leap_year year = eqb (year % 4) 0 && (not (eqb (year % 100) 0) || eqb (year % 400) 0)

abbrev pub month_lengths : (year : ℕ) → List ℕ
month_lengths year = 31 ∷ cond (leap_year year) 29 28 ∷ 31 ∷ 30 ∷ 31 ∷ 30 ∷ 31 ∷ 31 ∷ 30 ∷ 31 ∷ 30 ∷ 31 ∷ []

unfoldable pub days_in : (year month : ℕ) → ℕ
days_in year month = get_or (month_lengths year) (month - 1) 0

-- any serial passes; a minimum above its maximum is told at the maximum
unfoldable pub identity_fields : List ℕ → List Field
identity_fields body =
    field (length body) (eqb (length body) 24)
    ∷ field 4 (leb 1980 (number_at 2 body 4) && leb (number_at 2 body 4) 2099)
    ∷ field 6 (leb 1 (number_at 1 body 6) && leb (number_at 1 body 6) 12)
    ∷ field 7 (leb 1 (number_at 1 body 7) && leb (number_at 1 body 7) (days_in (number_at 2 body 4) (number_at 1 body 6)))
    ∷ field 12 (le_z (signed_at 4 body 8) (signed_at 4 body 12))
    ∷ field 20 (le_z (signed_at 4 body 16) (signed_at 4 body 20))
    ∷ []

abbrev pub identity_verdict : List ℕ → Verdict
identity_verdict body = fields_verdict 11 (identity_fields body)
