-- Worked examples: document 01's bytes 51 01, each way to be refused, and for each theorem with hypotheses a case that meets them.
use Rattle.std.specs.Prelude.{◌≡◌, refl, true, ◌⊎◌, List, [], ◌∷◌, ◌++◌, ℕ, zero, suc, ◌*◌, ◌≤◌, length, replicate, Ok}
use Rattle.std.proofs.Common.{◌∙◌, arith}
use Rattle.laws.specs.Bytes.{Bytes}
use Rattle.laws.specs.Cases.{never}
use Rattle.laws.specs.Characters.{characters}
use Rattle.laws.specs.Sums.{total}
use Rattle.refusals.specs.Answers.{Filled}
use Rattle.refusals.specs.Refusals.{result, refused, refusal, Fills}
use Rattle.hextext.specs.Record.{digit, all_digits, bytes_of, formed}
use Rattle.hextext.specs.Text.{bare, read_text}
use Rattle.hextext.specs.Written.{hex_digit, spell, checksum, head_and_data, record_text, writing, text_of, text_length, write_image}
use Rattle.hexformat.specs.Format.{upper_case, LineEnd, lf, crlf, Fields, bytes, Form, Balanced, IsData, IsEnd, none, next, GoodText}
use Rattle.hexformat.specs.Faults.{Refuses, stops, breaks, goes_on, no_form, not_balanced, neither, no_room}
use Rattle.hexformat.specs.Damage.{IsRefused, SameDigit, SpareReturn, WholeLines, none as no_lines, LastData}
use Rattle.hexformat.specs.SpelledLaws.{spelled_of}
use Rattle.hexformat.specs.ReadingLaws.{form_whole}
use Rattle.hexformat.proofs.JudgedLaws.{form_formed}
use Rattle.hexformat.proofs.Agrees.{read_exactly, refused_exactly, refused_known, one_fault}
use Rattle.hexformat.proofs.GoodTexts.{one_image, image_is_bytes, text_is_lines, text_length_bound, read_length_bound}
use Rattle.hexformat.proofs.RoundTrip.{written_is_good, written_reads_back, read_reads_back, is_written, there_and_back, length_of_full_records, length_with_a_rest}
use Rattle.hexformat.proofs.Damaged.{character_replaced, digit_changed, characters_exchanged, character_lost, character_added, cut_off, line_lost, line_doubled, lines_exchanged}

-- ---- lines

abbrev image : List ℕ
image = 0x51 ∷ 0x01 ∷ []

-- the record of these data, with this checksum
abbrev data_fields : (contents : List ℕ) (checksum : ℕ) → Fields
data_fields contents checksum = record { type = 0; address = 0; contents = contents; checksum = checksum }

abbrev end_fields : Fields
end_fields = record { type = 1; address = 0; contents = []; checksum = 0xFF }

-- a line that is computed to have a record's form
form_of : (fields : Fields) (digits ending : List ℕ) (n : ℕ) → all_digits digits ≡ true → length digits ≡ n * 2 → bytes_of digits ≡ bytes fields
    → LineEnd ending
    → Form fields (58 ∷ digits ++ ending)
form_of fields digits ending n d e b ends = record { digits = digits; ending = ending; is = refl; spelled = rw b at (spelled_of digits n d e); ends = ends }

data_form : Form (data_fields image 0xAC) (characters ":020000005101AC\n")
unfolding bytes_of digit all_digits
data_form = form_of (data_fields image 0xAC) (characters "020000005101AC") (10 ∷ []) 7 refl refl refl lf

damaged_form : Form (data_fields image 0xAD) (characters ":020000005101AD\n")
unfolding bytes_of digit all_digits
damaged_form = form_of (data_fields image 0xAD) (characters "020000005101AD") (10 ∷ []) 7 refl refl refl lf

no_data_form : Form (data_fields [] 0) (characters ":0000000000\n")
unfolding bytes_of digit all_digits
no_data_form = form_of (data_fields [] 0) (characters "0000000000") (10 ∷ []) 5 refl refl refl lf

end_form : Form end_fields (characters ":00000001FF\n")
unfolding bytes_of digit all_digits
end_form = form_of end_fields (characters "00000001FF") (10 ∷ []) 5 refl refl refl lf

is_data_lem : IsData 0 (data_fields image 0xAC)
is_data_lem = record { type_00 = refl; some = omega arith; at_most = omega arith; starts = refl }

is_end_lem : IsEnd end_fields
is_end_lem = record { type_01 = refl; count_0 = refl; address_0 = refl }

-- ---- the starred example

abbrev text : List ℕ
text = characters ":020000005101AC\n:00000001FF\n"

-- bytes 51 01 write as :020000005101AC and the end
pub writes : text_of image ≡ characters ":020000005101AC\n:00000001FF\n"
unfolding text_of writing record_text head_and_data checksum spell hex_digit total
writes = refl

-- 28 characters
pub writes_28 : length (text_of image) ≡ 28
writes_28 = rw writes

are_bytes : Bytes image
are_bytes zero = omega arith
are_bytes (suc zero) = omega arith
are_bytes (suc (suc i)) = omega arith

good : GoodText image text
good = rw writes at (written_is_good image are_bytes (omega arith))

-- which read back
pub reads : read_text 4096 (characters ":020000005101AC\n:00000001FF\n") ≡ result image
reads = (read_exactly 4096 text image).1 (good, omega arith)

unbalanced : Balanced (data_fields image 0xAD) → ⊥
unfolding total
unbalanced e = omega arith

-- with AD instead of AC: refused 2 at line 1
pub refuses : read_text 4096 (characters ":020000005101AD\n:00000001FF\n") ≡ refused (refusal 2 1)
refuses =
    (refused_exactly 4096 (characters ":020000005101AD\n:00000001FF\n") 2 1).1
    (breaks (characters ":00000001FF\n") refl none (omega arith) (form_whole damaged_form) (not_balanced damaged_form unbalanced))

-- ---- other good texts

lower_case : GoodText image (characters ":020000005101ac\r\n:00000001ff\r\n")
unfolding total bytes_of digit all_digits
lower_case =
    record {
      count = 1;
      front = characters ":020000005101ac\r\n";
      last = characters ":00000001ff\r\n";
      end = end_fields;
      is = refl;
      holds = next none (form_of (data_fields image 0xAC) (characters "020000005101ac") (13 ∷ 10 ∷ []) 7 refl refl refl crlf) refl is_data_lem;
      formed = form_of end_fields (characters "00000001ff") (13 ∷ 10 ∷ []) 5 refl refl refl crlf;
      balanced = refl;
      ends = is_end_lem;
    }

-- lower case and CR LF are as good
pub reads_lower_case : read_text 4096 (characters ":020000005101ac\r\n:00000001ff\r\n") ≡ result image
reads_lower_case = (read_exactly 4096 (characters ":020000005101ac\r\n:00000001ff\r\n") image).1 (lower_case, omega arith)

-- the end record alone is an empty image
pub reads_empty : read_text 4096 (characters ":00000001FF\n") ≡ result []
unfolding text_of writing record_text head_and_data checksum spell hex_digit total
reads_empty = written_reads_back [] (λ i. omega arith) 4096 (omega arith) (omega arith)

-- ---- each other way to be refused

-- no text at all
pub refuses_nothing : read_text 4096 [] ≡ refused (refusal 1 1)
refuses_nothing = (refused_exactly 4096 [] 1 1).1 (stops [] refl none (omega arith) (λ i e. omega arith))

-- the end record missing
pub refuses_endless : read_text 4096 (characters ":020000005101AC\n") ≡ refused (refusal 1 2)
unfolding total
refuses_endless =
    (refused_exactly 4096 (characters ":020000005101AC\n") 1 2).1
    (stops [] refl (next none data_form refl is_data_lem) (omega arith) (λ i e. omega arith))

-- an LF too much after it
pub refuses_more : read_text 4096 (characters ":00000001FF\n\n") ≡ refused (refusal 1 2)
unfolding total
refuses_more = (refused_exactly 4096 (characters ":00000001FF\n\n") 1 2).1 (goes_on 10 [] refl none (omega arith) end_form refl is_end_lem)

-- an empty line
pub refuses_empty_line : read_text 4096 (characters "\n:00000001FF\n") ≡ refused (refusal 1 1)
unfolding formed bare
refuses_empty_line =
    (refused_exactly 4096 (characters "\n:00000001FF\n") 1 1).1
    (breaks (characters ":00000001FF\n") refl none (omega arith) (record { inside = []; is = refl; no_line_feed = λ i e. omega arith })
    (no_form (λ fields f. never (form_formed [] fields f))))

-- a data record without data
pub refuses_no_data : read_text 4096 (characters ":0000000000\n:00000001FF\n") ≡ refused (refusal 3 1)
unfolding total
refuses_no_data =
    (refused_exactly 4096 (characters ":0000000000\n:00000001FF\n") 3 1).1
    (breaks (characters ":00000001FF\n") refl none (omega arith) (form_whole no_data_form)
    (neither no_data_form refl (λ d. omega (arith, d.some)) (λ d. omega (arith, d.type_01))))

-- two bytes for a buffer of one
pub refuses_room : read_text 1 (characters ":020000005101AC\n:00000001FF\n") ≡ refused (refusal 4 1)
unfolding total
refuses_room =
    let line = form_whole data_form in
    (refused_exactly 1 text 4 1).1 (breaks (characters ":00000001FF\n") refl none (omega arith) line (no_room data_form refl is_data_lem (omega arith)))

-- ---- hypotheses that can be met, theorem by theorem

read_met : GoodText image text × (length image ≤ 4096)
read_met = (read_exactly 4096 text image).0 reads

refused_met : Refuses 4096 (characters ":020000005101AD\n:00000001FF\n") 2 1
refused_met = (refused_exactly 4096 (characters ":020000005101AD\n:00000001FF\n") 2 1).0 refuses

refused_known_met : (1 ≤ 2) × (2 ≤ 4) × (1 ≤ 1)
refused_known_met = refused_known 4096 (characters ":020000005101AD\n:00000001FF\n") (refusal 2 1) refuses

one_fault_met : ◌≡◌ {A = ℕ} 2 2 × ◌≡◌ {A = ℕ} 1 1
one_fault_met = one_fault 4096 (characters ":020000005101AD\n:00000001FF\n") 2 1 2 1 refused_met refused_met

one_image_met : image ≡ image
one_image_met = one_image image image text good good

image_is_bytes_met : Bytes image
image_is_bytes_met = image_is_bytes image text good

text_is_lines_met : WholeLines text
text_is_lines_met = text_is_lines image text good

text_length_bound_met : 28 ≤ 43
text_length_bound_met = text_length_bound image text good

read_length_bound_met : 28 ≤ 61453
read_length_bound_met = read_length_bound 4096 image text reads

written_reads_back_met : read_text 2 (text_of image) ≡ result image
written_reads_back_met = written_reads_back image are_bytes 2 (omega arith) (omega arith)

read_reads_back_met : read_text 4096 (text_of image) ≡ result image
read_reads_back_met = read_reads_back 4096 (characters ":020000005101ac\r\n:00000001ff\r\n") image reads_lower_case

is_written_met : write_image 28 image ≡ result (text_of image)
unfolding text_length
is_written_met = is_written 28 image (omega arith) (omega arith)

-- written into 30 bytes, and read into 3
there_and_back_met : (answer : Filled) (buffer : List ℕ) → Fills (read_text 3 text) (7 ∷ 7 ∷ 7 ∷ []) answer buffer
    → (answer ≡ Ok 2) × (buffer ≡ 0x51 ∷ 0x01 ∷ 0 ∷ [])
unfolding text_length
there_and_back_met answer buffer reads =
    let e : write_image 30 image ≡ result text = is_written 30 image (omega arith) (omega arith) ∙ rw writes in
    there_and_back image (replicate 30 7) (text ++ 0 ∷ 0 ∷ []) (7 ∷ 7 ∷ 7 ∷ []) buffer 28 answer are_bytes
    (record { answers = rw e; holds = rw e }) reads (omega arith)

length_of_full_records_met : length (text_of (replicate 16 7)) ≡ 56
length_of_full_records_met = length_of_full_records (replicate 16 7) 1 refl

length_with_a_rest_met : length (text_of image) ≡ 28
length_with_a_rest_met = length_with_a_rest image 0 2 (omega arith) (omega arith) refl

-- A replaced by a
character_replaced_met : let other : List ℕ = characters ":020000005101aC\n:00000001FF\n" in
    IsRefused (read_text 4096 other) ⊎ (SameDigit 65 97 × (read_text 4096 other ≡ result image))
character_replaced_met = character_replaced 4096 image (characters ":020000005101") (characters "C\n:00000001FF\n") 65 97 good (λ e. omega arith)

-- C changed to D
digit_changed_met : IsRefused (read_text 4096 (characters ":020000005101AD\n:00000001FF\n"))
digit_changed_met =
    digit_changed 4096 image (characters ":020000005101A") (characters "\n:00000001FF\n") 67 68 12 13 good
    (upper_case (omega arith) (omega arith) refl) (upper_case (omega arith) (omega arith) refl) (λ e. omega arith)

-- 10 for 01
characters_exchanged_met : let other : List ℕ = characters ":020000005110AC\n:00000001FF\n" in
    IsRefused (read_text 4096 other) ⊎ (SameDigit 48 49 × (read_text 4096 other ≡ result image))
characters_exchanged_met = characters_exchanged 4096 image (characters ":0200000051") (characters "AC\n:00000001FF\n") 48 49 good (λ e. omega arith)

-- without the last LF, and with one more
character_lost_met : let other : List ℕ = characters ":020000005101AC\n:00000001FF" in
    IsRefused (read_text 4096 other) ⊎ (SpareReturn 10 [] × (read_text 4096 other ≡ result image))
character_lost_met = character_lost 4096 image (characters ":020000005101AC\n:00000001FF") [] 10 good

character_added_met : let other : List ℕ = characters ":020000005101AC\n:00000001FF\n\n" in
    IsRefused (read_text 4096 other) ⊎ (SpareReturn 10 [] × (read_text 4096 other ≡ result image))
character_added_met = character_added 4096 image text [] 10 good

cut_off_met : IsRefused (read_text 4096 (characters ":020000005101AC\n:00000001FF"))
cut_off_met = cut_off 4096 image (characters ":020000005101AC\n:00000001FF") [] 10 good

line_lost_met : let end : List ℕ = characters ":00000001FF\n" in
    IsRefused (read_text 4096 end) ⊎ ((kept : List ℕ) × LastData image (characters ":020000005101AC\n") end kept × (read_text 4096 end ≡ result kept))
line_lost_met = line_lost 4096 image [] (characters ":00000001FF\n") no_lines (characters ":020000005101AC\n") (form_whole data_form) good

line_doubled_met : IsRefused (read_text 4096 (characters ":020000005101AC\n:020000005101AC\n:00000001FF\n"))
line_doubled_met = line_doubled 4096 image [] (characters ":00000001FF\n") no_lines (characters ":020000005101AC\n") (form_whole data_form) good

lines_exchanged_met : IsRefused (read_text 4096 (characters ":00000001FF\n:020000005101AC\n"))
lines_exchanged_met =
    lines_exchanged 4096 image [] [] no_lines (characters ":020000005101AC\n") (characters ":00000001FF\n") (form_whole data_form) (form_whole end_form) good
