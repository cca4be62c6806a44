-- A HEX text read: its lines judged in order, each a record, until the end record.
use Rattle.std.specs.Prelude.{cond, List, [], ◌∷◌, ◌++◌, ℕ, suc, ◌+◌, ◌-◌, min, eqb, length, take, get_or, Err, Ok}
use Rattle.limits.specs.Limits.{largest_image}
use Rattle.refusals.specs.Refusals.{Outcome, result, refused, refusal}
use Rattle.hextext.specs.Answers.{LineRecord}
use Rattle.hextext.specs.declared.Record.TheVariants.{Data, End}
use Rattle.hextext.specs.Record.{record_bytes, data_of, judge}

-- how many characters the first line of a text has: those before its first LF, or all
unfoldable pub line_length : List ℕ → ℕ
line_length [] = 0
line_length (c ∷ text) = cond (eqb c 10) 0 (suc (line_length text))

-- a line without the one CR that may stand directly before its LF
unfoldable pub bare : List ℕ → List ℕ
bare line = cond (eqb (get_or line (length line - 1) 0) 13) (take (length line - 1) line) line

-- what the record of a line makes of the text, with the image before it and the rest of the text after its line end:
-- data go on to `next`, the end record wants nothing after it, a fault is refused at this line
unfoldable pub after : LineRecord → (line : ℕ) (image rest : List ℕ) → (next : Outcome) → Outcome
after (Ok (Data n)) line image rest next = next
after (Ok End) line image [] next = result image
after (Ok End) line image (c ∷ rest) next = refused (refusal 1 (line + 1))
after (Err n) line image rest next = refused (refusal n line)

-- reading on at a line, with the image so far, the characters of the line already passed, and the text ahead.
-- A line ends with LF; a text that stops before is refused at this line
unfoldable pub reading : (room line : ℕ) (image passed text : List ℕ) → Outcome
reading room line image passed [] = refused (refusal 1 line)
reading room line image passed (c ∷ text) =
    cond (eqb c 10)
    (after (judge room (length image) (bare passed)) line image text
    (reading room (line + 1) (image ++ data_of (record_bytes (bare passed))) [] text))
    (reading room line image (passed ++ c ∷ []) text)

-- a text read into a buffer of `size` bytes; an image has 4,096 at most
unfoldable pub read_text : (size : ℕ) (text : List ℕ) → Outcome
read_text size text = reading (min largest_image size) 1 [] [] text
