-- What is asked of a line beside its record: a data byte, whether it ends at a place.
use Rattle.std.specs.Prelude.{cond, ◌&&◌, List, ℕ, ◌+◌, ◌%◌, eqb, get_or, Option, Some, None}
use Rattle.hextext.specs.Record.{record_bytes, data_of}

-- data byte i of a line, 0 after the last. In a record it is below 256 as it stands
unfoldable pub data_byte : (line : List ℕ) (i : ℕ) → ℕ
data_byte line i = get_or (data_of (record_bytes line)) i 0 % 256

-- where the next line starts, if a line ends at `end`: with LF, or CR LF
unfoldable pub next_line : (text : List ℕ) (end : ℕ) → Option ℕ
next_line text end =
    cond (eqb (get_or text end 0) 10) (Some (end + 1))
    (cond (eqb (get_or text end 0) 13 && eqb (get_or text (end + 1) 0) 10) (Some (end + 2)) None)
