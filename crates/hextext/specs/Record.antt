-- A line of a HEX text, judged as a record.
use Rattle.std.specs.Prelude.{Bool, true, false, cond, ◌&&◌, List, [], ◌∷◌, ℕ, ◌+◌, ◌-◌, ◌*◌, ◌%◌, ltb, leb, eqb, length, take, drop, get_or, Err, Ok}
use Rattle.laws.specs.Sums.{total}
use Rattle.hextext.specs.declared.Header.{Header}
use Rattle.hextext.specs.Answers.{TextLine, LineRecord}
use Rattle.hextext.specs.declared.Record.TheVariants.{Data, End}

-- the value of a hexadecimal digit in either case, and 16 for any other character
unfoldable pub digit : ℕ → ℕ
digit c =
    cond (leb 48 c && leb c 57) (c - 48)
    (cond (leb 65 c && leb c 70) (c - 55)
    (cond (leb 97 c && leb c 102) (c - 87) 16))

unfoldable pub all_digits : List ℕ → Bool
all_digits [] = true
all_digits (c ∷ l) = ltb (digit c) 16 && all_digits l

-- the bytes that pairs of digits spell, the high digit first
unfoldable pub bytes_of : List ℕ → List ℕ
bytes_of [] = []
bytes_of (a ∷ []) = []
bytes_of (a ∷ b ∷ l) = (digit a * 16 + digit b) ∷ bytes_of l

-- the bytes of a line: those after its colon
unfoldable pub record_bytes : List ℕ → List ℕ
record_bytes line = bytes_of (drop 1 line)

-- a record's bytes: count, address, high byte first, type, data as counted, checksum
abbrev pub count_of : List ℕ → ℕ
count_of bytes = get_or bytes 0 0

abbrev pub address_of : List ℕ → ℕ
address_of bytes = get_or bytes 1 0 * 256 + get_or bytes 2 0

abbrev pub type_of : List ℕ → ℕ
type_of bytes = get_or bytes 3 0

unfoldable pub data_of : List ℕ → List ℕ
data_of bytes = take (count_of bytes) (drop 4 bytes)

-- form: a colon, then pairs of digits, as many as the first of them counts and five more
unfoldable pub formed : List ℕ → Bool
formed [] = false
formed (c ∷ l) = eqb c 58 && (all_digits l && eqb (length l) ((count_of (bytes_of l) + 5) * 2))

-- checksum: all bytes add up to 0 modulo 256
unfoldable pub summed : List ℕ → Bool
summed bytes = eqb (total bytes % 256) 0

abbrev pub header : (count address type : ℕ) → Header
header count address type = record { count = count; address = address; kind = type }

-- a line judged by itself: form (1), then checksum (2)
unfoldable pub line_of : List ℕ → TextLine
line_of line =
    cond (formed line)
    (cond (summed (record_bytes line)) (Ok (header (count_of (record_bytes line)) (address_of (record_bytes line)) (type_of (record_bytes line)))) (Err 2))
    (Err 1)

-- type, count and address (3), then room (4), with `at` bytes of image before this record
unfoldable pub typed : (room at count address type : ℕ) → LineRecord
typed room at count address type =
    cond (eqb type 0)
    (cond (ltb 0 count && eqb address at) (cond (leb (at + count) room) (Ok (Data count)) (Err 4)) (Err 3))
    (cond (eqb type 1 && (eqb count 0 && eqb address 0)) (Ok End) (Err 3))

unfoldable pub placed : (room at : ℕ) → TextLine → LineRecord
placed room at (Ok h) = typed room at h.count h.address h.kind
placed room at (Err number) = Err number

-- a line judged in its place: by itself first
unfoldable pub judge : (room at : ℕ) → List ℕ → LineRecord
judge room at line = placed room at (line_of line)
