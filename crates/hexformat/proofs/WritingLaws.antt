-- The text that is written of an image is the one that the writer is to make, and no other is.
use Rattle.std.specs.Prelude.{◌≡◌, refl, ◌↔◌, ℕ, zero, suc, ◌+◌, ◌/◌, ◌%◌, ◌≤◌, ◌<◌, length, take, drop}
use Rattle.std.proofs.Common.{sym, ap, ◌∙◌, le_of_lt, lt-ltb, le-ltb, length-append, length-take, length-drop, take-append-drop, drop_of_length-le, take_all, take_at, drop_at}
use mathlib.Core.List.{List, [], ◌∷◌, ◌++◌}
use native.Mathlib.Omega.{arith}
use Rattle.std.proofs.Math.Seq.{get_or-append_seam}
use Rattle.limits.specs.Limits.{largest_image}
use Rattle.laws.specs.Bytes.{Bytes}
use Rattle.laws.specs.BytesLaws.{bytes_take, bytes_drop}
use Rattle.laws.specs.Cases.{split}
use Rattle.laws.specs.Sums.{total}
use Rattle.laws.specs.SumsLaws.{total_append}
use Rattle.hextext.specs.Written.{hex_digit, spell, checksum, head_and_data, record_text, writing, text_of}
use Rattle.hexformat.specs.Format.{Digit, decimal, upper_case, lower_case, Spelled, nothing, pair, Fields, bytes, IsData}
use Rattle.hexformat.specs.Writing.{UpperCase, WrittenLine, end_line, WrittenFrom, end, full, last, Written}
use Rattle.hexformat.specs.SpelledLaws.{spelled_small}
use Rattle.hexformat.proofs.WrittenLaws.{spelled_written, written, written_balanced, written_bytes, writing_nothing}

-- ---- digits

upper_once : {c n : ℕ} → Digit c n → c < 97 → c ≡ hex_digit n
unfolding hex_digit
upper_once {c} {n} (decimal h e) k = rw (lt-ltb n 10 h) e
upper_once {c} {n} (upper_case g h e) k = rw (le-ltb n 10 g) (omega arith)
upper_once {c} {n} (lower_case g h e) k = absurd (omega arith)

spelled_once : {b l : List ℕ} → Spelled b l → UpperCase l → l ≡ spell b
unfolding spell
spelled_once nothing u = refl
spelled_once (pair h l s) u = rw (upper_once h (u 0), upper_once l (u 1), spelled_once s (λ i. u (suc (suc i))))

digit_upper : (n : ℕ) → n < 16 → hex_digit n < 97
unfolding hex_digit
digit_upper n h = split 10 n (λ k. rw (le-ltb n 10 k) (omega arith)) (λ k. rw (lt-ltb n 10 k) (omega arith))

spell_upper : (b : List ℕ) → Bytes b → UpperCase (spell b)
unfolding spell
spell_upper [] w i = omega arith
spell_upper (b ∷ l) w zero = let h = w 0 in digit_upper (b / 16) (omega arith)
spell_upper (b ∷ l) w (suc zero) = digit_upper (b % 16) (omega arith)
spell_upper (b ∷ l) w (suc (suc i)) = spell_upper l (λ j. w (suc j)) i

-- ---- a record

-- every line of a record's fields is the one that is written of them
module _ {fields : Fields} {line : List ℕ} (w : WrittenLine fields line) where
  abbrev before : List ℕ
  before = head_and_data fields.address fields.type fields.contents

  checksum_once : fields.checksum ≡ checksum before
  unfolding head_and_data checksum total
  checksum_once =
      let small = rw (get_or-append_seam before fields.checksum [] 0) at (spelled_small w.spelled (length before)) in
      let sum = rw (total_append before (fields.checksum ∷ [])) at w.balanced in
      omega arith

  line_once : line ≡ record_text fields.address fields.type fields.contents
  unfolding record_text head_and_data
  line_once = rw (← checksum_once, ← spelled_once w.spelled w.upper) w.is

-- and the one that is written is such a line
line_written : (address : ℕ) (d : List ℕ) → address < 65536 → length d < 256 → Bytes d → WrittenLine (written address 0 d) (record_text address 0 d)
unfolding head_and_data record_text
line_written address d ha hd b =
    let c = written_bytes address 0 d ha (omega arith) hd b in
    record {
      digits = spell (bytes (written address 0 d));
      is = refl;
      spelled = spelled_written (bytes (written address 0 d)) c;
      upper = spell_upper (bytes (written address 0 d)) c;
      balanced = written_balanced address 0 d;
    }

-- ---- the text

end_written : record_text 0 1 [] ≡ end_line
unfolding record_text spell hex_digit checksum head_and_data total
end_written = refl

writing_more : (most address : ℕ) (z : List ℕ) → 1 ≤ length z
    → writing (suc most) address z ≡ record_text address 0 (take 16 z) ++ writing most (address + 16) (drop 16 z)
unfolding writing
writing_more most address [] some = absurd (omega arith)
writing_more most address (b ∷ z) some = refl

-- the line of a data record, which holds the first 16 bytes, and the text of the rest
line_then : {address : ℕ} {line text : List ℕ} {fields : Fields} (most : ℕ) (z : List ℕ) → WrittenLine fields line → IsData address fields
    → take 16 z ≡ fields.contents → text ≡ writing most (address + 16) (drop 16 z) → line ++ text ≡ writing (suc most) address z
line_then {address} most z l d t e =
    rw (
      writing_more most address z (omega (arith, d.some, ap length t, length-take 16 z)),
      t,
      e,
      line_once l,
      d.starts,
      d.type_00,
    )

written_once : {address : ℕ} {image text : List ℕ} → WrittenFrom address image text → (most : ℕ) → length image ≤ most → text ≡ writing most address image
written_once {address} end most h = sym (writing_nothing most address ∙ end_written)
written_once (full {image = rest} {fields = fields} l d s w) zero h = absurd (omega (arith, length-append fields.contents rest))
written_once (full {image = rest} {fields = fields} l d s w) (suc most) h =
    line_then most (fields.contents ++ rest) l d (take_at fields.contents rest 16 s)
    (rw (drop_at fields.contents rest 16 s) (written_once w most (omega (arith, length-append fields.contents rest))))
written_once (last l d s) zero h = absurd (omega (arith, d.some))
written_once (last {address = address} {fields = fields} l d s) (suc most) h =
    line_then most fields.contents l d (take_all 16 fields.contents (le_of_lt s))
    (rw (drop_of_length-le fields.contents (le_of_lt s)) (sym (writing_nothing most (address + 16) ∙ end_written)))

written_so : (most address : ℕ) (z : List ℕ) → Bytes z → address + length z ≤ 65536 → length z ≤ most → WrittenFrom address z (writing most address z)
unfolding writing
written_so zero address [] b room h = rw end_written end
written_so zero address (c ∷ z) b room h = absurd (omega arith)
written_so (suc most) address [] b room h = rw end_written end
written_so (suc most) address (c ∷ z) b room h =
    let y : List ℕ = c ∷ z in
    let lt = length-take 16 y in
    let ld = length-drop 16 y in
    let l = line_written address (take 16 y) (omega arith) (omega arith) (bytes_take 16 y b) in
    let d : IsData address (written address 0 (take 16 y)) = record { type_00 = refl; some = omega arith; at_most = omega arith; starts = refl } in
    split 16 (length y)
    (λ (m : 16 ≤ length y).
    rw (take-append-drop 16 y) at (full l d (omega arith) (written_so most (address + 16) (drop 16 y) (bytes_drop 16 y b) (omega arith) (omega arith))))
    (λ (m : length y < 16).
    let whole = take_all 16 y (le_of_lt m) in
    rw (drop_of_length-le y (le_of_lt m), writing_nothing most (address + 16), end_written, whole) (rw whole at (last l d (omega arith))))

-- `text_of` is the text that the writer is to make of an image, and no other text is
pub written_exactly : (image text : List ℕ) → Bytes image → length image ≤ largest_image → (text ≡ text_of image) ↔ Written image text
unfolding text_of
written_exactly image text b h = (
  λ e. rw e (written_so (length image) 0 image b (omega arith) (omega arith)),
  λ w. written_once w (length image) (omega arith),
)
