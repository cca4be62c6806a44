-- A contents line as one record.
use Rattle.std.specs.Prelude.{Bool, ◌&&◌, List, ℕ, ltb, eqb}
use Rattle.numbers.specs.Fields.{number_at}
use Rattle.image.specs.Contents.{kind_at, zero_at, offset_at, length_at, sum_at}
use Rattle.contents.specs.declared.ContentsLine.{ContentsLine}

-- the line that bytes begin with
abbrev pub line_in : List ℕ → ContentsLine
line_in bytes =
    record { kind = number_at 1 bytes 0; zero = number_at 1 bytes 1; offset = number_at 2 bytes 2; length = number_at 2 bytes 4; sum = number_at 2 bytes 6 }

-- line i of an image
abbrev pub line_at : List ℕ → ℕ → ContentsLine
line_at image i = record { kind = kind_at image i; zero = zero_at image i; offset = offset_at image i; length = length_at image i; sum = sum_at image i }

-- `line_right` of the layout, by the line itself
abbrev pub fits_after : ContentsLine → (previous offset : ℕ) → Bool
fits_after line previous offset = ltb previous line.kind && eqb line.zero 0 && eqb line.offset offset
