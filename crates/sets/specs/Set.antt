-- Kinds 2 and 3, pressure set and temperature set, 28 + 8 N bytes.
use Rattle.std.specs.Prelude.{Bool, cond, ◌&&◌, List, [], ◌∷◌, ℕ, zero, suc, ◌+◌, ◌*◌, ◌^◌, leb, eqb, ℤ, pos, nat_abs, length}
use Rattle.numbers.specs.Fields.{number_at, signed_at}
use Rattle.refusals.specs.Answers.{Verdict}
use Rattle.refusals.specs.FieldsVerdict.{Field, field, fields_verdict, fields_from}
use Rattle.sets.specs.declared.Prescales.{Prescales}

-- the orders NP and NT
abbrev pub pressure_order : List ℕ → ℕ
pressure_order body = number_at 1 body 2

abbrev pub temperature_order : List ℕ → ℕ
temperature_order body = number_at 1 body 3

-- NP, MP, FP0 and NT, MT, FT0
unfoldable pub prescales_of : List ℕ → Prescales
prescales_of body =
    record {
      pressure = record { order = pressure_order body; multiplier = number_at 4 body 4; offset = number_at 8 body 8 };
      temperature = record { order = temperature_order body; multiplier = number_at 4 body 16; offset = number_at 8 body 20 };
    }

-- N, the size of a set, and the coefficients, from A0 on
abbrev pub coefficient_count : List ℕ → ℕ
coefficient_count body = (pressure_order body + 1) * (temperature_order body + 1)

abbrev pub set_size : List ℕ → ℕ
set_size body = 28 + 8 * coefficient_count body

abbrev pub coefficient_place : (i : ℕ) → ℕ
coefficient_place i = 28 + 8 * i

abbrev pub coefficient_at : List ℕ → (i : ℕ) → ℤ
coefficient_at body i = signed_at 8 body (coefficient_place i)

-- ---- is it right

-- a multiplier is 1 to 2^30 and an offset 0 to 6,553,600,000; both are 0 where the order is 0
abbrev pub multiplier_right : (order multiplier : ℕ) → Bool
multiplier_right order multiplier = cond (eqb order 0) (eqb multiplier 0) (leb 1 multiplier && leb multiplier (2 ^ 30))

abbrev pub offset_right : (order offset : ℕ) → Bool
offset_right order offset = cond (eqb order 0) (eqb offset 0) (leb offset 6553600000)

-- both of one channel, the multiplier's place first
abbrev pub prescale_fields : (order multiplier offset place : ℕ) → List Field
prescale_fields order multiplier offset place =
    field place (multiplier_right order multiplier) ∷ field (place + 4) (offset_right order offset) ∷ []

-- a coefficient is -2^34 to 2^34
abbrev pub coefficient_field : List ℕ → (i : ℕ) → Field
coefficient_field body i = field (coefficient_place i) (leb (nat_abs (coefficient_at body i)) (2 ^ 34))

abbrev pub coefficient_fields : List ℕ → (count : ℕ) → List Field
coefficient_fields body count = fields_from (coefficient_field body) count 0

-- the algorithms of both prescales, the orders, the length, multiplier and offset of each, the coefficients;
-- a body of less than four bytes is wrong in its length
unfoldable pub set_fields : List ℕ → List Field
set_fields body =
    field (length body) (leb 4 (length body))
    ∷ field 0 (eqb (number_at 1 body 0) 1)
    ∷ field 1 (eqb (number_at 1 body 1) 1)
    ∷ field 2 (leb (pressure_order body) 4)
    ∷ field 3 (leb (temperature_order body) 4)
    ∷ field (length body) (eqb (length body) (set_size body))
    ∷ field 4 (multiplier_right (pressure_order body) (number_at 4 body 4))
    ∷ field 8 (offset_right (pressure_order body) (number_at 8 body 8))
    ∷ field 16 (multiplier_right (temperature_order body) (number_at 4 body 16))
    ∷ field 20 (offset_right (temperature_order body) (number_at 8 body 20))
    ∷ coefficient_fields body (coefficient_count body)

-- 12 for the pressure set, 13 for the temperature set
abbrev pub set_verdict : (number : ℕ) → List ℕ → Verdict
set_verdict number body = fields_verdict number (set_fields body)

-- ---- the grid

-- five rows of five, in the body's order, absent places 0: row 0 is A0, A1, .., row 1 is B0, ..
-- A body too short for its orders, which no verdict accepts, fills no place.
abbrev pub grid_place : List ℕ → (row place : ℕ) → ℤ
grid_place body row place =
    cond (leb (set_size body) (length body) && leb row (pressure_order body) && leb place (temperature_order body))
    (coefficient_at body (row * (temperature_order body + 1) + place))
    (pos 0)

-- the places left of a row from one on, and the rows left from one on
unfoldable pub row_from : List ℕ → (row left place : ℕ) → List ℤ
row_from body row zero place = []
row_from body row (suc left) place = grid_place body row place ∷ row_from body row left (place + 1)

unfoldable pub rows_from : List ℕ → (left row : ℕ) → List (List ℤ)
rows_from body zero row = []
rows_from body (suc left) row = row_from body row 5 0 ∷ rows_from body left (row + 1)

abbrev pub grid_of : List ℕ → List (List ℤ)
grid_of body = rows_from body 5 0
