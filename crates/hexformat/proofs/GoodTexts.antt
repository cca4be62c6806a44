-- What a good text is like.
use Rattle.std.specs.Prelude.{◌≡◌, List, [], ◌∷◌, ◌++◌, ℕ, suc, ◌+◌, ◌*◌, ◌≤◌, length}
use Rattle.std.proofs.Common.{sym, ◌∙◌, append-nil, append_assoc, arith, length-append}
use Rattle.refusals.specs.Refusals.{result}
use Rattle.hextext.specs.Text.{read_text}
use Rattle.laws.specs.Bytes.{Bytes}
use Rattle.laws.specs.BytesLaws.{bytes_nil, bytes_append, bytes_front}
use Rattle.hexformat.specs.Format.{LineEnd, lf, crlf, Fields, Form, DataLines, none, next, GoodText}
use Rattle.hexformat.specs.Faults.{WholeLine}
use Rattle.hexformat.specs.Damage.{WholeLines, none as no_lines, more}
use Rattle.hexformat.specs.SpelledLaws.{spelled_small, spelled_length}
use Rattle.hexformat.specs.ReadingLaws.{same_result, length_bytes, form_whole}
use Rattle.hexformat.proofs.FormatSaysLaws.{reads_good}
use Rattle.hexformat.proofs.Agrees.{read_exactly}

-- a text is a good text of one image at most
pub one_image : (image other text : List ℕ) → GoodText image text → GoodText other text → image ≡ other
one_image image other text good good' =
    let room : ℕ = length image + length other in
    same_result (sym (reads_good room good (omega arith)) ∙ reads_good room good' (omega arith))

-- ---- bytes

contents_bytes : {r : Fields} {l : List ℕ} → Form r l → Bytes r.contents
contents_bytes {r} f = bytes_front r.contents (r.checksum ∷ []) (λ i. spelled_small f.spelled (suc (suc (suc (suc i)))))

held_bytes : {count : ℕ} {image text : List ℕ} → DataLines count image text → Bytes image
held_bytes none = bytes_nil
held_bytes (next {image = image} {fields = r} lines f z d) = bytes_append image r.contents (held_bytes lines) (contents_bytes f)

-- the image of a good text is bytes
pub image_is_bytes : (image text : List ℕ) → GoodText image text → Bytes image
image_is_bytes image text good = held_bytes good.holds

-- ---- lines

lines_append : {one other : List ℕ} → WholeLines one → WholeLines other → WholeLines (one ++ other)
lines_append no_lines w = w
lines_append {other = other} (more {line = line} {text = text} v lines) w = rw (append_assoc line text other) (more v (lines_append lines w))

one_line : {l : List ℕ} → WholeLine l → WholeLines l
one_line {l} w = rw (append-nil l) at (more w no_lines)

held_lines : {count : ℕ} {image text : List ℕ} → DataLines count image text → WholeLines text
held_lines none = no_lines
held_lines (next lines f z d) = lines_append (held_lines lines) (one_line (form_whole f))

-- a good text is whole lines
pub text_is_lines : (image text : List ℕ) → GoodText image text → WholeLines text
text_is_lines image text good = rw good.is (lines_append (held_lines good.holds) (one_line (form_whole good.formed)))

-- ---- length

form_length : {r : Fields} {l : List ℕ} → Form r l → length l ≤ 13 + 2 * length r.contents
form_length {r} f =
    rw f.is (of f.ends)
  where
    of : {e : List ℕ} → LineEnd e → length (58 ∷ f.digits ++ e) ≤ 13 + 2 * length r.contents
    of lf = omega (arith, length-append f.digits (10 ∷ []), spelled_length f.spelled, length_bytes r)
    of crlf = omega (arith, length-append f.digits (13 ∷ 10 ∷ []), spelled_length f.spelled, length_bytes r)

held_length : {count : ℕ} {image text : List ℕ} → DataLines count image text → length text ≤ 15 * length image
held_length none = omega arith
held_length (next {image = image} {text = text} {line = line} {fields = r} lines f z d) =
    omega (arith, held_length lines, form_length f, d.some, length-append image r.contents, length-append text line)

-- a good text has at most 15 characters for each byte of its image, and 13 for the end
pub text_length_bound : (image text : List ℕ) → GoodText image text → length text ≤ 15 * length image + 13
text_length_bound image text good =
    rw good.is (omega (arith, held_length good.holds, form_length good.formed, good.ends.count_0, length-append good.front good.last))

-- so a text that is read has 61,453 characters at most
pub read_length_bound : (size : ℕ) (image text : List ℕ) → read_text size text ≡ result image → length text ≤ 61453
read_length_bound size image text e =
    let good = (read_exactly size text image).0 e in
    omega (arith, good.1, text_length_bound image text good.0)
