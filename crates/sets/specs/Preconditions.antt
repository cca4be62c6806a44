-- Preconditions of the private functions that judge and read a set.
use Rattle.std.specs.Prelude.{◌≡◌, List, ℕ, ◌+◌, ◌*◌, ◌≤◌, ◌<◌, length}
use Rattle.sets.specs.Set.{pressure_order, temperature_order}

-- x and y are the orders that the code read from the body, and at most 4
pub record OrdersRead (body : List ℕ) (x y : ℕ) : Type 0 where
  pub pressure : x ≡ pressure_order body
  pub temperature : y ≡ temperature_order body
  pub low_pressure : x ≤ 4
  pub low_temperature : y ≤ 4

-- the row is one of the grid's five, rows and places are as many as the body's orders say, and the body is long enough for them
pub record GridRow (body : List ℕ) (rows places row : ℕ) : Type 0 where
  pub rows_are : rows ≡ pressure_order body + 1
  pub places_are : places ≡ temperature_order body + 1
  pub few_places : places ≤ 256
  pub long : 28 + 8 * (rows * places) ≤ length body
  pub in_grid : row < 5
