-- What each event makes of a panel and its buffer.
use Rattle.std.specs.Prelude.{ℕ, ◌+◌, ◌%◌, ◌^◌, min, cond, List, [], ◌∷◌, length, take, replicate, ◌==◌, slice_index, slice_set, Err, Ok}
use Rattle.std.proofs.Math.Seq.{paste}
use Rattle.limits.specs.Limits.{largest_image}
use Rattle.refusals.specs.Answers.{Verdict}
use Rattle.refusals.specs.Refusals.{result, refused, refusal}
use Rattle.hextext.specs.Answers.{LineRecord}
use Rattle.hextext.specs.declared.Record.TheVariants.{Data, End}
use Rattle.hextext.specs.Lines.{line_record, line_data}
use Rattle.panel.specs.Verdict.{verdict_of}
use Rattle.panel.specs.Load.{judged, load_text}
use Rattle.lamp.specs.declared.Panel.{Panel}
use Rattle.lamp.specs.Panel.{at_line, at_end_record, lines_of, size_of, under_way, text_whole, after_load, level_kept, Standing, standing, ended}

-- power-on, with an image of `size` bytes in the buffer, which is judged as a loaded one is; of 0 bytes, where none was kept
unfoldable pub powered_on : (level size : ℕ) (buffer : List ℕ) → Standing
powered_on level size buffer = ended (level_kept level) (length buffer) (judged (level_kept level) (result (take size buffer)))

-- a whole text
unfoldable pub text_loaded : (text : List ℕ) → Standing → Standing
text_loaded text s = ended s.panel.level (length s.buffer) (load_text s.panel.level (length s.buffer) text)

-- ---- a text by lines

unfoldable pub text_begun : Standing → Standing
text_begun s = standing (under_way s.panel.level 0 0 0) (replicate (length s.buffer) 0)

-- the number of the next line. A panel that its caller made up may hold any number, so it is taken modulo 2^64
abbrev pub next_line : Panel → ℕ
next_line panel = (lines_of panel + 1) % 2 ^ 64

-- a fault in the next line
abbrev pub stopped_panel : (number : ℕ) → Panel → Panel
stopped_panel number panel = after_load panel.level (refused (refusal number (next_line panel)))

abbrev pub stopped_by : (number : ℕ) → Standing → Standing
stopped_by number s = standing (stopped_panel number s.panel) (replicate (length s.buffer) 0)

-- data in their place: the image's first byte is kept in the panel, and 0 stands in its place
abbrev pub first_kept : (at : ℕ) (bytes : List ℕ) (first : ℕ) → ℕ
first_kept at bytes first = cond (at == 0) (slice_index bytes 0) first

abbrev pub first_withheld : (at : ℕ) (buffer : List ℕ) → List ℕ
first_withheld at buffer = cond (at == 0) (slice_set buffer 0 0) buffer

-- by the record of the next line
abbrev pub record_taken : LineRecord → (bytes : List ℕ) → Standing → Standing
record_taken (Ok (Data n)) bytes s =
    let at = size_of s.panel in
    standing (under_way s.panel.level (next_line s.panel) (at + n) (first_kept at bytes s.panel.first))
    (first_withheld at (paste s.buffer at bytes n))
record_taken (Ok End) bytes s =
    standing (text_whole s.panel.level (next_line s.panel) (size_of s.panel) s.panel.first) s.buffer
record_taken (Err number) bytes s = stopped_by number s

unfoldable pub next_taken : (line : List ℕ) → Standing → Standing
next_taken line s = record_taken (line_record (min largest_image (length s.buffer)) (size_of s.panel) line) (line_data line) s

-- one line of the text, with its line end. Nothing may follow the end record; where no text is under way nothing changes
unfoldable pub line_taken : (line : List ℕ) → Standing → Standing
line_taken line s =
    cond (s.panel.stage == at_line) (next_taken line s)
    (cond (s.panel.stage == at_end_record) (stopped_by 1 s) s)

unfoldable pub lines_taken : List (List ℕ) → Standing → Standing
lines_taken [] s = s
lines_taken (line ∷ lines) s = lines_taken lines (line_taken line s)

-- the first byte back in its place, and the image judged: the buffer stays so, or is cleared where the image is refused
abbrev pub image_judged : Verdict → (level : ℕ) (image buffer : List ℕ) → Standing
image_judged (Ok tt) level image buffer = standing (after_load level (result image)) buffer
image_judged (Err r) level image buffer = ended level (length buffer) (refused r)

abbrev pub restored : Standing → List ℕ
restored s = slice_set s.buffer 0 s.panel.first

unfoldable pub whole_judged : Standing → Standing
whole_judged s =
    let image = take (size_of s.panel) (restored s) in
    image_judged (verdict_of s.panel.level image) s.panel.level image (restored s)

-- no further line. A text without its end record is refused at the line after the last; where no text is under way nothing changes
unfoldable pub text_ended : Standing → Standing
text_ended s =
    cond (s.panel.stage == at_line) (stopped_by 1 s)
    (cond (s.panel.stage == at_end_record) (whole_judged s) s)
