-- The HEX text that is written of an image: upper case, LF, 16 data bytes in each record but perhaps the last, then the end record.
use Rattle.std.specs.Prelude.{cond, List, [], ◌∷◌, ◌++◌, ℕ, zero, suc, ◌+◌, ◌-◌, ◌*◌, ◌/◌, ◌%◌, ltb, leb, eqb, length, take, drop}
use Rattle.limits.specs.Limits.{largest_image}
use Rattle.laws.specs.Sums.{total}
use Rattle.refusals.specs.Refusals.{Outcome, checked, ask, and_then}

-- the character of a number below 16
unfoldable pub hex_digit : ℕ → ℕ
hex_digit n = cond (ltb n 10) (48 + n) (55 + n)

unfoldable pub spell : List ℕ → List ℕ
spell [] = []
spell (b ∷ bytes) = hex_digit (b / 16) ∷ hex_digit (b % 16) ∷ spell bytes

-- the byte that makes the sum 0 modulo 256
unfoldable pub checksum : List ℕ → ℕ
checksum bytes = (256 - total bytes % 256) % 256

-- a record's bytes but for the checksum
unfoldable pub head_and_data : (address type : ℕ) → List ℕ → List ℕ
head_and_data address type d = length d ∷ address / 256 ∷ address % 256 ∷ type ∷ d

unfoldable pub record_text : (address type : ℕ) → List ℕ → List ℕ
record_text address type d = 58 ∷ spell (head_and_data address type d ++ checksum (head_and_data address type d) ∷ []) ++ 10 ∷ []

-- the records of what is left of an image from an address on, and the end record; `most` counts down the records that there may be
unfoldable pub writing : (most address : ℕ) → List ℕ → List ℕ
writing zero address image = record_text 0 1 []
writing (suc most) address [] = record_text 0 1 []
writing (suc most) address (b ∷ image) =
    record_text address 0 (take 16 (b ∷ image)) ++ writing most (address + 16) (drop 16 (b ∷ image))

unfoldable pub text_of : (image : List ℕ) → List ℕ
text_of image = writing (length image) 0 image

-- how long the text of n bytes is: 44 for each full record, 12 + 2 r for one of r bytes, 12 for the end
unfoldable pub text_length : (n : ℕ) → ℕ
text_length n = n / 16 * 44 + cond (eqb (n % 16) 0) 0 (12 + n % 16 * 2) + 12

-- an image written into a buffer of `size` bytes: 4 where it is too large, then 17 where its text has no room
unfoldable pub write_image : (size : ℕ) (image : List ℕ) → Outcome
write_image size image =
    checked
    (and_then (ask (leb (length image) largest_image) 4 0) (ask (leb (text_length (length image)) size) 17 0))
    (text_of image)
