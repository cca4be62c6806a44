-- The numbers that the show program prints, words before them, and the page that they are printed on.
use Rattle.std.specs.Prelude.{cond, List, [], ◌∷◌, ◌++◌, ℕ, zero, suc, ◌+◌, ◌/◌, ◌%◌, ltb, length, take}
use Rattle.laws.specs.Characters.{characters}
use Rattle.display.specs.declared.words.Page.{Page}

abbrev pub digit : ℕ → ℕ
digit n = 48 + n

-- n in decimal, without zeros before it; `most` counts down the digits that there may be
unfoldable pub decimal_in : (most n : ℕ) → List ℕ
decimal_in zero n = []
decimal_in (suc most) n = cond (ltb n 10) (digit n ∷ []) (decimal_in most (n / 10) ++ digit (n % 10) ∷ [])

abbrev pub decimal : ℕ → List ℕ
decimal n = decimal_in (suc n) n

-- words, and a number after them
unfoldable pub field : List ℕ → ℕ → List ℕ
field words n = words ++ decimal n

-- and a second number after a blank
unfoldable pub pair : List ℕ → (first second : ℕ) → List ℕ
pair words first second = field words first ++ field (characters " ") second

-- month or day after a hyphen, in two digits
unfoldable pub two_digits : ℕ → List ℕ
two_digits n = field (characters "-") (n / 10) ++ digit (n % 10) ∷ []

-- ---- the page, and the room that these take on it

unfoldable pub printed : Page → List ℕ
printed page = take page.end page.bytes

-- the digits of a number of 64 bits
abbrev pub number_room : ℕ
number_room = 20

abbrev pub field_room : List ℕ → ℕ
field_room words = length words + number_room

abbrev pub pair_room : List ℕ → ℕ
pair_room words = field_room words + field_room (characters " ")

abbrev pub two_digits_room : ℕ
two_digits_room = field_room (characters "-") + 1
