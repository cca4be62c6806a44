-- The sum of a set: each row in XT, then the rows' sums in XP. `kind` is the set's, 2 or 3.
use Rattle.std.specs.Prelude.{List, [], ◌∷◌, ℕ, ◌+◌, ◌^◌, ℤ, pos, ◌+ℤ◌, ◌*ℤ◌, Ok}
use Rattle.limits.specs.Limits.{largest_sum, largest_result}
use Rattle.whole.specs.Rounded.{rounded}
use Rattle.reading.specs.Answers.{Value}
use Rattle.reading.specs.Value.{with_value, within}
use Rattle.reading.specs.Frequency.{prescaled_of}
use Rattle.reading.specs.Gauge.{Set}

-- a nested sum, from the last term down to the first; the sum of none is 0, so that the last term's step gives the term itself
unfoldable pub nested_sum : {Term : Type 0} → (step : Term → (sum : ℤ) → Value) → List Term → Value
nested_sum step [] = Ok (pos 0)
nested_sum step (term ∷ terms) = with_value (nested_sum step terms) (step term)

-- the next lower coefficient plus (running sum × x / 2^24) rounded: 25
unfoldable pub step_of : (kind : ℕ) → (x coefficient sum : ℤ) → Value
step_of kind x coefficient sum = within largest_sum 25 kind (coefficient +ℤ rounded (sum *ℤ x) (2 ^ 24))

abbrev pub row_sum : (kind : ℕ) → (x : ℤ) → List ℤ → Value
row_sum kind x row = nested_sum (step_of kind x) row

-- the rows are summed the same way with XP: a row's sum is the coefficient
unfoldable pub row_step : (kind : ℕ) → (xp xt : ℤ) → (row : List ℤ) → (sum : ℤ) → Value
row_step kind xp xt row sum = with_value (row_sum kind xt row) (λ coefficient. step_of kind xp coefficient sum)

abbrev pub grid_sum : (kind : ℕ) → (xp xt : ℤ) → List (List ℤ) → Value
grid_sum kind xp xt grid = nested_sum (row_step kind xp xt) grid

-- XP and XT by the set's own prescales, the sum of the grid, its limit: 26. `first` is the detail of XP, and XT has the next
unfoldable pub set_result : (kind first : ℕ) → Set → (fp ft : ℤ) → Value
set_result kind first set fp ft =
    with_value (prescaled_of first set.prescales.pressure fp)
    (λ xp. with_value (prescaled_of (first + 1) set.prescales.temperature ft)
    (λ xt. with_value (grid_sum kind xp xt set.grid)
    (λ sum. within largest_result 26 kind sum)))
