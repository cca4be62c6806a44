-- A HEX text taken line by line: what each line makes of what was read before it, and what the text comes to when no line is left.
use Rattle.std.specs.Prelude.{cond, List, [], ◌∷◌, ◌++◌, ℕ, ◌+◌, ◌-◌, eqb, length, take, get_or, Err, Ok}
use Rattle.refusals.specs.declared.Refusal.{Refusal}
use Rattle.refusals.specs.Refusals.{Outcome, result, refused, refusal}
use Rattle.hextext.specs.Answers.{LineRecord}
use Rattle.hextext.specs.declared.Record.TheVariants.{Data, End}
use Rattle.hextext.specs.Record.{record_bytes, data_of, judge}
use Rattle.hextext.specs.Text.{bare}

-- the lines of a text, each with its line end, with the characters of the first line already passed; a last line may have no line end
unfoldable pub lines_from : (passed text : List ℕ) → List (List ℕ)
lines_from [] [] = []
lines_from (b ∷ passed) [] = (b ∷ passed) ∷ []
lines_from passed (c ∷ text) = cond (eqb c 10) ((passed ++ c ∷ []) ∷ lines_from [] text) (lines_from (passed ++ c ∷ []) text)

abbrev pub lines_of : (text : List ℕ) → List (List ℕ)
lines_of text = lines_from [] text

-- lines one after the other, as a text
unfoldable pub joined : List (List ℕ) → List ℕ
joined [] = []
joined (line ∷ lines) = line ++ joined lines

-- a line without its line end
unfoldable pub line_inside : (line : List ℕ) → List ℕ
line_inside line = bare (take (length line - 1) line)

-- a line with its line end, judged in its place with `at` bytes of image before it; what does not end with LF is no record
unfoldable pub line_record : (room at : ℕ) (line : List ℕ) → LineRecord
line_record room at line = cond (eqb (get_or line (length line - 1) 0) 10) (judge room at (line_inside line)) (Err 1)

abbrev pub line_data : (line : List ℕ) → List ℕ
line_data line = data_of (record_bytes (line_inside line))

-- how far a text has come
pub data Progress : Type 0 where
  -- so many good lines, and the image that they say so far
  under_way : (lines : ℕ) (image : List ℕ) → Progress
  -- the end record was among them
  whole : (lines : ℕ) (image : List ℕ) → Progress
  stopped : Refusal → Progress

-- by the record of the next line
abbrev pub after_record : LineRecord → (lines : ℕ) (image bytes : List ℕ) → Progress
after_record (Ok (Data n)) lines image bytes = under_way (lines + 1) (image ++ bytes)
after_record (Ok End) lines image bytes = whole (lines + 1) image
after_record (Err n) lines image bytes = stopped (refusal n (lines + 1))

-- one more line. Nothing may follow the end record, and nothing comes after a fault
unfoldable pub after_line : (room : ℕ) (line : List ℕ) → Progress → Progress
after_line room line (under_way lines image) = after_record (line_record room (length image) line) lines image (line_data line)
after_line room line (whole lines image) = stopped (refusal 1 (lines + 1))
after_line room line (stopped r) = stopped r

unfoldable pub after_lines : (room : ℕ) → List (List ℕ) → Progress → Progress
after_lines room [] progress = progress
after_lines room (line ∷ lines) progress = after_lines room lines (after_line room line progress)

-- what it comes to when no line is left
abbrev pub at_end : Progress → Outcome
at_end (under_way lines image) = refused (refusal 1 (lines + 1))
at_end (whole lines image) = result image
at_end (stopped r) = refused r
