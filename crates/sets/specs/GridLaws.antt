-- A place of the grid, and the invariants of the loops that fill a row and the grid.
use Rattle.std.specs.Prelude.{◌≡◌, refl, ◌&&◌, List, ◌∷◌, ℕ, suc, ◌+◌, ◌*◌, ◌≤◌, ◌<◌, leb, ℤ, pos, length, replicate}
use Rattle.std.proofs.Math.Bool.{and-false}
use Rattle.std.proofs.Common.{mul-le-mul, mul-le-mul_right, suc-mul, arith, le-leb, Fits}
use Rattle.std.proofs.lemmas.Bool.{lt-leb}
use Rattle.std.specs.Int.{w64}
use Rattle.numbers.specs.Fields.{signed_at}
use Rattle.laws.specs.Loops.{FilledTo, filled_all}
use Rattle.sets.specs.Set.{pressure_order, temperature_order, set_size, coefficient_place, grid_place, row_from, rows_from, grid_of}
use Rattle.sets.specs.Preconditions.{GridRow}

-- ---- a place

module _ (body : List ℕ) (rows places row place : ℕ) (g : GridRow body rows places row) where
  pub row_start_small : row * places ≤ 1024
  row_start_small = let h : row ≤ 4 = omega arith in mul-le-mul h g.few_places

  -- the coefficient of a place that the orders have stands within the body
  pub place_there : row < rows → place < places → coefficient_place (row * places + place) + 8 ≤ length body
  place_there h k = omega (arith, g.long, mul-le-mul_right places h, suc-mul row places)

  pub absent_row : rows ≤ row → pos 0 ≡ grid_place body row place
  absent_row h = rw (lt-leb row (pressure_order body) (omega arith), and-false (leb (set_size body) (length body)))

  pub absent_place : places ≤ place → pos 0 ≡ grid_place body row place
  absent_place h =
      rw (
        lt-leb place (temperature_order body) (omega arith),
        and-false (leb (set_size body) (length body) && leb row (pressure_order body)),
      )

  pub present_place : (z : ℤ) → row < rows → place < places → z ≡ signed_at 8 body (coefficient_place (row * places + place)) → z ≡ grid_place body row place
  present_place z h k e =
      rw (
        le-leb (set_size body) (length body) (rw (g.rows_are, g.places_are) at g.long),
        le-leb row (pressure_order body) (omega arith),
        le-leb place (temperature_order body) (omega arith),
        ← g.places_are,
      )
      e

-- a body that is too short for its orders
pub too_short : (body : List ℕ) (x y : ℕ) → x ≡ pressure_order body → y ≡ temperature_order body
    → length body < 28 + 8 * ((x + 1) * (y + 1)) → replicate 5 (replicate 5 (pos 0)) ≡ grid_of body
unfolding rows_from row_from
too_short body x y e f h = rw (lt-leb (set_size body) (length body) (rw (e, f) at h))

-- the length that orders ask for has room
module _ (rows places : ℕ) (h : rows ≤ 256) (k : places ≤ 256) where
  pub count_fits : Fits w64 (rows * places)
  count_fits = record { fits = omega (arith, mul-le-mul h k) }

  pub coefficients_fit : Fits w64 (8 * (rows * places))
  coefficients_fit = record { fits = omega (arith, mul-le-mul h k) }

  pub length_fits : Fits w64 (28 + 8 * (rows * places))
  length_fits = record { fits = omega (arith, mul-le-mul h k) }

module _ (body : List ℕ) where
  pub row_next : (row place left : ℕ) (z : ℤ) → z ≡ grid_place body row place → row_from body row (suc left) place ≡ z ∷ row_from body row left (place + 1)
  unfolding row_from
  row_next row place left z e = rw e

  pub row_filled : (row place : ℕ) (l : List ℤ) → FilledTo 5 (row_from body row) l place → 5 ≤ place → l ≡ row_from body row 5 0
  unfolding row_from
  row_filled row place l k h = filled_all 5 (row_from body row) l place k h (λ j. refl)

  pub rows_next : (row left : ℕ) (l : List ℤ) → l ≡ row_from body row 5 0 → rows_from body (suc left) row ≡ l ∷ rows_from body left (row + 1)
  unfolding rows_from
  rows_next row left l e = rw e

  pub rows_filled : (row : ℕ) (l : List (List ℤ)) → FilledTo 5 (rows_from body) l row → 5 ≤ row → l ≡ rows_from body 5 0
  unfolding rows_from
  rows_filled row l k h = filled_all 5 (rows_from body) l row k h (λ j. refl)
