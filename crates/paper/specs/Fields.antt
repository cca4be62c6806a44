-- "All numbers are little-endian." Bytes past the end of a list count as 0.
use Rattle.std.specs.Prelude.{cond, List, ℕ, zero, suc, ◌+◌, ◌*◌, ◌^◌, leb, ℤ, pos, ◌-ℤ◌, get_or}

-- the number in `width` bytes from a place on, the low byte first
unfoldable pub number : (width : ℕ) → List ℕ → (place : ℕ) → ℕ
number zero bytes place = 0
number (suc width) bytes place = get_or bytes place 0 + 256 * number width bytes (place + 1)

-- the same where the field is called signed: from half of all patterns on it lies below 0
unfoldable pub signed : (width : ℕ) → List ℕ → (place : ℕ) → ℤ
signed width bytes place =
    cond (leb (256 ^ width) (2 * number width bytes place))
    (pos (number width bytes place) -ℤ pos (256 ^ width))
    (pos (number width bytes place))

-- the sum of `count` numbers of a list from a place on
unfoldable pub sum_from : (count : ℕ) → List ℕ → (place : ℕ) → ℕ
sum_from zero numbers place = 0
sum_from (suc count) numbers place = get_or numbers place 0 + sum_from count numbers (place + 1)
