-- The text that the writer makes, said of the text alone: "upper case, LF, 16 data bytes in each record but perhaps the last, then `:00000001FF`".
-- Nothing here is the writer's. That the writer agrees is proved in WritingLaws.antt.
use Rattle.std.specs.Prelude.{◌≡◌, List, [], ◌∷◌, ◌++◌, ℕ, ◌+◌, ◌<◌, length, get_or}
use Rattle.laws.specs.Characters.{characters}
use Rattle.hexformat.specs.Format.{Fields, bytes, Spelled, Balanced, IsData}

-- no digit is one of a to f, which are the characters from 97 on
abbrev pub UpperCase : (digits : List ℕ) → Type 0
UpperCase digits = (i : ℕ) → get_or digits i 0 < 97

-- the line of a record: a colon, its bytes spelled in upper case, and LF; its bytes add up to 0 modulo 256
pub record WrittenLine (fields : Fields) (line : List ℕ) : Type 0 where
  pub digits : List ℕ
  pub is : line ≡ 58 ∷ digits ++ 10 ∷ []
  pub spelled : Spelled (bytes fields) digits
  pub upper : UpperCase digits
  pub balanced : Balanced fields

abbrev pub end_line : List ℕ
end_line = characters ":00000001FF\n"

-- the text of an image's bytes from an address on: full records, of 16 data bytes each, perhaps a shorter one, which is the last, then the end
pub data WrittenFrom : (address : ℕ) (image text : List ℕ) → Type 0 where
  end : {address : ℕ} → WrittenFrom address [] end_line
  full : {address : ℕ} {image text line : List ℕ} {fields : Fields}
      → WrittenLine fields line → IsData address fields → length fields.contents ≡ 16 → WrittenFrom (address + 16) image text
      → WrittenFrom address (fields.contents ++ image) (line ++ text)
  last : {address : ℕ} {line : List ℕ} {fields : Fields}
      → WrittenLine fields line → IsData address fields → length fields.contents < 16
      → WrittenFrom address fields.contents (line ++ end_line)

abbrev pub Written : (image text : List ℕ) → Type 0
Written image text = WrittenFrom 0 image text
