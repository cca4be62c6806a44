-- Numbers among bytes: little-endian, and two's complement where signed.
use Rattle.std.specs.Prelude.{ℕ, ◌+◌, ◌*◌, ◌^◌, cond, List, [], ◌∷◌, take, drop, ℤ, pos, ◌-ℤ◌, nat_lt}

-- the number that bytes spell, the low byte first
unfoldable pub little_endian : List ℕ → ℕ
little_endian [] = 0
little_endian (b ∷ l) = b + 256 * little_endian l

-- the number of w bytes at a place; bytes past the end count as 0
unfoldable pub number_at : (w : ℕ) → List ℕ → (place : ℕ) → ℕ
number_at w l place = little_endian (take w (drop place l))

-- one of `all` patterns as a signed number: the lower half is itself, the upper half lies below zero
unfoldable pub twos_complement : (all pattern : ℕ) → ℤ
twos_complement all pattern = cond (nat_lt (2 * pattern) all) (pos pattern) (pos pattern -ℤ pos all)

abbrev pub signed_at : (w : ℕ) → List ℕ → (place : ℕ) → ℤ
signed_at w l place = twos_complement (256 ^ w) (number_at w l place)
