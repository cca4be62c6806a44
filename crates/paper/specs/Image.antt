-- "The image: contents, then bodies." What its bytes say, and when 5 to 8 are given.
use Rattle.std.specs.Prelude.{List, [], ◌∷◌, ◌⊎◌, ◌≡◌, ℕ, zero, suc, ◌+◌, ◌*◌, ◌%◌, ◌≤◌, ◌<◌, length, take, drop}
use Rattle.paper.specs.Words.{Not, Outside, Lowest}
use Rattle.paper.specs.Fields.{number, sum_from}
use Rattle.paper.specs.Table.{Row, row}

module _ (image : List ℕ) where
  -- "Byte 0 is 0x51, byte 1 the number n of contents lines."
  abbrev pub line_count : ℕ
  line_count = number 1 image 1

  -- "Then n lines of 8 bytes: kind, a zero byte, offset (2 bytes), length (2), sum of the body's bytes modulo 65,536 (2)."
  abbrev pub kind_of : (line : ℕ) → ℕ
  kind_of line = number 1 image (2 + 8 * line)

  abbrev pub zero_byte_of : (line : ℕ) → ℕ
  zero_byte_of line = number 1 image (2 + 8 * line + 1)

  abbrev pub offset_of : (line : ℕ) → ℕ
  offset_of line = number 2 image (2 + 8 * line + 2)

  abbrev pub length_of : (line : ℕ) → ℕ
  length_of line = number 2 image (2 + 8 * line + 4)

  abbrev pub sum_of : (line : ℕ) → ℕ
  sum_of line = number 2 image (2 + 8 * line + 6)

  -- a kind is there where a contents line has it,
  pub record HasKind (kind : ℕ) : Type 0 where
    pub line : ℕ
    pub there : line < line_count
    pub named : kind_of line ≡ kind

  -- and its body is the bytes that the line states, by offset and length
  pub record HasBody (kind : ℕ) (body : List ℕ) : Type 0 where
    pub has : HasKind kind
    pub is : body ≡ take (length_of has.line) (drop (offset_of has.line) image)

  -- 5: "image below 2 or above 4,096 bytes, or byte 0 wrong"
  abbrev pub StartWrong : Type 0
  StartWrong = Outside 2 4096 (length image) ⊎ Not (number 1 image 0 ≡ 0x51)

  -- 6: "n is 0, above 16, or contents overrun the image"
  abbrev pub CountWrong : Type 0
  CountWrong = Outside 1 16 line_count ⊎ (length image < 2 + 8 * line_count)

  -- 7: "Kinds strictly rise" from 1 on. "The first offset is 2 + 8n, each next is the end of the body before, the last body ends
  -- with the image." Named is the first line that breaks this, or n if only the end is wrong.
  abbrev pub kind_before : (line : ℕ) → ℕ
  kind_before zero = 0
  kind_before (suc line) = kind_of line

  abbrev pub end_before : (line : ℕ) → ℕ
  end_before zero = 2 + 8 * line_count
  end_before (suc line) = offset_of line + length_of line

  abbrev pub LineWrong : (line : ℕ) → Type 0
  LineWrong line = (kind_of line ≤ kind_before line) ⊎ Not (zero_byte_of line ≡ 0) ⊎ Not (offset_of line ≡ end_before line)

  abbrev pub BreaksLayout : (line : ℕ) → Type 0
  BreaksLayout line = ((line < line_count) × LineWrong line) ⊎ ((line ≡ line_count) × Not (end_before line_count ≡ length image))

  -- 8: "body sum wrong"
  abbrev pub SumWrong : (line : ℕ) → Type 0
  SumWrong line = (line < line_count) × Not (sum_from (length_of line) image (offset_of line) % 65536 ≡ sum_of line)

  -- "A layout is good where none of 5 to 8 would be given."
  abbrev pub layout_table : List Row
  layout_table =
      row 5 0 StartWrong
      ∷ row 6 0 CountWrong
      ∷ record { number = 7; given = Lowest BreaksLayout }
      ∷ record { number = 8; given = Lowest SumWrong }
      ∷ []
