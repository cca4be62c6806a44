-- Intel's hexadecimal text, as document 01 takes it, said of the text alone: what a record is, how its line is spelled, which texts are good.
-- Nothing here is the reader's. That the reader agrees is proved in Agrees.antt.
use Rattle.std.specs.Prelude.{◌≡◌, List, [], ◌∷◌, ◌++◌, ℕ, ◌+◌, ◌-◌, ◌/◌, ◌%◌, ◌≤◌, ◌<◌, length}
use Rattle.laws.specs.Sums.{total}

-- ---- characters

-- a hexadecimal digit: 0 to 9 are the characters from 48 on, ten to fifteen are A to F, from 65 on, or a to f, from 97 on
pub data Digit (character value : ℕ) : Type 0 where
  decimal : value < 10 → character ≡ 48 + value → Digit character value
  upper_case : 10 ≤ value → value < 16 → character ≡ 65 + (value - 10) → Digit character value
  lower_case : 10 ≤ value → value < 16 → character ≡ 97 + (value - 10) → Digit character value

-- bytes as pairs of digits, the high digit first; so each byte is below 256
pub data Spelled : (bytes digits : List ℕ) → Type 0 where
  nothing : Spelled [] []
  pair : {byte high low : ℕ} {bytes digits : List ℕ}
      → Digit high (byte / 16) → Digit low (byte % 16) → Spelled bytes digits → Spelled (byte ∷ bytes) (high ∷ low ∷ digits)

-- LF, or CR LF
pub data LineEnd : List ℕ → Type 0 where
  lf : LineEnd (10 ∷ [])
  crlf : LineEnd (13 ∷ 10 ∷ [])

-- ---- a record

pub record Fields : Type 0 where
  pub type : ℕ
  pub address : ℕ
  pub contents : List ℕ
  pub checksum : ℕ

-- its bytes: count, address, high byte first, type, data as counted, checksum
abbrev pub bytes : Fields → List ℕ
bytes fields =
    length fields.contents ∷ fields.address / 256 ∷ fields.address % 256 ∷ fields.type ∷ fields.contents ++ fields.checksum ∷ []

-- a line in the form of a record: a colon, the bytes spelled, and a line end
pub record Form (fields : Fields) (line : List ℕ) : Type 0 where
  pub digits : List ℕ
  pub ending : List ℕ
  pub is : line ≡ 58 ∷ digits ++ ending
  pub spelled : Spelled (bytes fields) digits
  pub ends : LineEnd ending

-- the checksum: all bytes add up to 0 modulo 256
abbrev pub Balanced : Fields → Type 0
Balanced fields = total (bytes fields) % 256 ≡ 0

-- type 00: data, 1 to 255 bytes, from this address on
pub record IsData (address : ℕ) (fields : Fields) : Type 0 where
  pub type_00 : fields.type ≡ 0
  pub some : 1 ≤ length fields.contents
  pub at_most : length fields.contents ≤ 255
  pub starts : fields.address ≡ address

-- type 01: the end, with count 0 and address 0
pub record IsEnd (fields : Fields) : Type 0 where
  pub type_01 : fields.type ≡ 1
  pub count_0 : length fields.contents ≡ 0
  pub address_0 : fields.address ≡ 0

-- ---- a text

-- so many lines of data records that hold this image: the first starts at address 0, and each next where the one before ended
pub data DataLines : (count : ℕ) (image text : List ℕ) → Type 0 where
  none : DataLines 0 [] []
  next : {count : ℕ} {image text line : List ℕ} {fields : Fields}
      → DataLines count image text → Form fields line → Balanced fields → IsData (length image) fields
      → DataLines (count + 1) (image ++ fields.contents) (text ++ line)

-- a good text of an image: lines of data records that hold it, then the line of an end record, and nothing after that
pub record GoodText (image text : List ℕ) : Type 0 where
  pub count : ℕ
  pub front : List ℕ
  pub last : List ℕ
  pub end : Fields
  pub is : text ≡ front ++ last
  pub holds : DataLines count image front
  pub formed : Form end last
  pub balanced : Balanced end
  pub ends : IsEnd end
