-- The text that is written: its records, and how long it is.
use Rattle.std.specs.Prelude.{◌≡◌, refl, length, take, drop}
use Rattle.std.proofs.Common.{ap, ◌∙◌, arith, le_of_lt, lt-ltb, le-ltb, length-append, length-take, length-drop, take-append-drop, drop_of_length-le}
use mathlib.Core.List.{List, [], ◌∷◌, ◌++◌, append-nil, append_assoc}
use Prim.Native.Nat.{ℕ, zero, suc, ◌+◌, ◌%◌, ◌/◌, ◌≤◌, ◌<◌}
use Rattle.laws.specs.Cases.{split}
use Rattle.laws.specs.Sums.{total}
use Rattle.laws.specs.SumsLaws.{total_append}
use Rattle.hextext.specs.Written.{hex_digit, spell, checksum, head_and_data, record_text, writing}
use Rattle.laws.specs.Bytes.{Bytes}
use Rattle.laws.specs.BytesLaws.{bytes_nil, bytes_cons, bytes_append, bytes_take, bytes_drop}
use Rattle.hexformat.specs.Format.{Digit, decimal, upper_case, Spelled, nothing, pair, lf, Fields, bytes, Form, Balanced, DataLines, next, GoodText}

-- ---- a record

digit_written : (n : ℕ) → n < 16 → Digit (hex_digit n) n
unfolding hex_digit
digit_written n h =
    split 10 n
    (λ k. rw (le-ltb n 10 k) (upper_case k h (omega arith)))
    (λ k. rw (lt-ltb n 10 k) (decimal k refl))

pub spelled_written : (b : List ℕ) → Bytes b → Spelled b (spell b)
unfolding spell
spelled_written [] w = nothing
spelled_written (b ∷ l) w =
    let h = w 0 in
    pair (digit_written (b / 16) (omega arith)) (digit_written (b % 16) (omega arith)) (spelled_written l (λ i. w (suc i)))

-- the record that is written of some data
abbrev pub written : (address type : ℕ) → List ℕ → Fields
written address type d = record { type = type; address = address; contents = d; checksum = checksum (head_and_data address type d) }

module _ (address type : ℕ) (d : List ℕ) where
  pub written_balanced : Balanced (written address type d)
  unfolding head_and_data checksum total
  written_balanced =
      let h : List ℕ = head_and_data address type d in
      rw (total_append h (checksum h ∷ [])) (omega arith)

  pub written_bytes : address < 65536 → type < 256 → length d < 256 → Bytes d → Bytes (bytes (written address type d))
  unfolding head_and_data checksum
  written_bytes ha ht hd w =
      let h : List ℕ = head_and_data address type d in
      let a : Bytes h =
      bytes_cons (length d) (address / 256 ∷ address % 256 ∷ type ∷ d) hd
      (bytes_cons (address / 256) (address % 256 ∷ type ∷ d) (omega arith)
      (bytes_cons (address % 256) (type ∷ d) (omega arith) (bytes_cons type d ht w))) in
      bytes_append h (checksum h ∷ []) a (bytes_cons (checksum h) [] (omega arith) bytes_nil)

  written_form : address < 65536 → type < 256 → length d < 256 → Bytes d → Form (written address type d) (record_text address type d)
  unfolding head_and_data record_text
  written_form ha ht hd w =
      record {
        digits = spell (bytes (written address type d));
        ending = 10 ∷ [];
        is = refl;
        spelled = spelled_written (bytes (written address type d)) (written_bytes ha ht hd w);
        ends = lf;
      }

-- ---- the text

end_good : {count : ℕ} {image before : List ℕ} → DataLines count image before → GoodText image (before ++ record_text 0 1 [])
end_good {count} {image} {before} lines =
    record {
      count = count;
      front = before;
      last = record_text 0 1 [];
      end = written 0 1 [];
      is = refl;
      holds = lines;
      formed = written_form 0 1 [] (omega arith) (omega arith) (omega arith) bytes_nil;
      balanced = written_balanced 0 1 [];
      ends = record { type_01 = refl; count_0 = refl; address_0 = refl };
    }

pub writing_nothing : (most address : ℕ) → writing most address [] ≡ record_text 0 1 []
unfolding writing
writing_nothing zero address = refl
writing_nothing (suc most) address = refl

module _ (most : ℕ) {count : ℕ} {x before : List ℕ} (z : List ℕ) (lines : DataLines count x before) where
  abbrev piece : List ℕ
  piece = take 16 z

  abbrev line : List ℕ
  line = record_text (length x) 0 piece

  one_more : Bytes z → length x + length z ≤ 65536 → 0 < length z → DataLines (count + 1) (x ++ piece) (before ++ line)
  one_more w h p =
      let lt = length-take 16 z in
      next lines
      (written_form (length x) 0 piece (omega arith) (omega arith) (omega arith) (bytes_take 16 z w))
      (written_balanced (length x) 0 piece)
      (record { type_00 = refl; some = omega arith; at_most = omega arith; starts = refl })

  rest_written : writing most (length (x ++ piece)) (drop 16 z) ≡ writing most (length x + 16) (drop 16 z)
  rest_written =
      split 16 (length z)
      (λ (m : 16 ≤ length z). ap (λ (n : ℕ). writing most n (drop 16 z)) (omega (arith, length-append x piece, length-take 16 z)))
      (λ (m : length z < 16). rw (drop_of_length-le z (le_of_lt m), writing_nothing most (length (x ++ piece)), writing_nothing most (length x + 16)))

  then_good : GoodText (x ++ piece ++ drop 16 z) (before ++ line ++ writing most (length (x ++ piece)) (drop 16 z))
      → GoodText (x ++ z) (before ++ (line ++ writing most (length x + 16) (drop 16 z)))
  then_good g =
      let whole : x ++ piece ++ drop 16 z ≡ x ++ z = append_assoc x piece (drop 16 z) ∙ ap (λ (m : List ℕ). x ++ m) (take-append-drop 16 z) in
      let text : before ++ line ++ writing most (length (x ++ piece)) (drop 16 z) ≡ before ++ (line ++ writing most (length x + 16) (drop 16 z)) =
      append_assoc before line (writing most (length (x ++ piece)) (drop 16 z)) ∙ ap (λ (m : List ℕ). before ++ (line ++ m)) rest_written in
      rw (whole, text) at g

-- what is written after lines that hold the image's first bytes x, of the rest y
pub writing_good : (most : ℕ) {count : ℕ} {x before : List ℕ} (y : List ℕ) → DataLines count x before → Bytes y → length x + length y ≤ 65536
    → length y ≤ most
    → GoodText (x ++ y) (before ++ writing most (length x) y)
unfolding writing
writing_good zero {x = x} [] lines w h k = rw (append-nil x) (end_good lines)
writing_good zero (b ∷ y) lines w h k = absurd (omega arith)
writing_good (suc most) {x = x} [] lines w h k = rw (append-nil x) (end_good lines)
writing_good (suc most) {x = x} {before = before} (b ∷ y) lines w h k =
    let ld = length-drop 16 (b ∷ y) in
    let lt = length-take 16 (b ∷ y) in
    let la = length-append x (take 16 (b ∷ y)) in
    then_good most (b ∷ y) lines
    (writing_good most (drop 16 (b ∷ y)) (one_more most (b ∷ y) lines w h (omega arith)) (bytes_drop 16 (b ∷ y) w) (omega arith) (omega arith))
