-- The reader at a line: how the characters of a line are gathered, and what it makes of a record.
use Rattle.std.specs.Prelude.{◌≡◌, true, ℕ, zero, suc, ◌+◌, ◌*◌, ◌%◌, ◌/◌, ◌<◌, Err}
use Rattle.std.proofs.Common.{sym, ◌∙◌, length-append}
use Rattle.std.proofs.Math.Path.{ap}
use mathlib.Core.List.{List, [], ◌∷◌, ◌++◌, append_assoc}
use native.Mathlib.Omega.{arith}
use borrow.Author.Tests.{eq-eqb, ne_eqb}
use Rattle.std.proofs.Math.ListN.{length}
use Rattle.std.proofs.Math.Seq.{take-append_seam}
use Rattle.laws.specs.Sums.{total}
use Rattle.refusals.specs.declared.Refusal.{Refusal}
use Rattle.refusals.specs.Refusals.{result, refused}
use Rattle.hextext.specs.Record.{record_bytes, data_of, formed, summed, typed, line_of, placed, judge}
use Rattle.hextext.specs.Text.{after, reading}
use Rattle.hextext.proofs.WithoutLaws.{Without, without_append, without_one, digits_without, bare_without}
use Rattle.hextext.proofs.TextLaws.{reading_line}
use Rattle.hextext.specs.Answers.{LineRecord}
use Rattle.hexformat.specs.Format.{Spelled, LineEnd, lf, crlf, Fields, bytes, Form, Balanced}
use Rattle.hexformat.specs.Faults.{NoLineFeed, WholeLine}
use Rattle.hexformat.specs.BareLaws.{bare_return}
use Rattle.hexformat.specs.SpelledLaws.{spelled_digits, spelled_bytes, spelled_length}

-- ---- two answers

pub refused_not : {X : Type 0} {r : Refusal} {y : List ℕ} → refused r ≡ result y → X
refused_not e = let z : ◌≡◌ {A = ℕ} 0 1 = cc in absurd (omega arith)

pub same_result : {x y : List ℕ} → result x ≡ result y → x ≡ y
same_result e = cc

-- ---- a line in the form of a record

module _ {b l : List ℕ} (s : Spelled b l) where
  pub colon_without : (c : ℕ) → 0 < c → c < 48 → Without c (58 ∷ l)
  colon_without c p q zero e = omega arith
  colon_without c p q (suc i) e = digits_without l c (spelled_digits s) p q i e

  return_without : NoLineFeed (58 ∷ l ++ 13 ∷ [])
  return_without =
      without_append 10 (58 ∷ l) (13 ∷ []) (colon_without 10 (omega arith) (omega arith))
      (without_one 10 13 (omega arith) (λ (e : 13 ≡ 10). omega arith))

  -- the reader at a colon, digits and a line end
  reading_spelled : (room line : ℕ) (image text : List ℕ) {e : List ℕ} → LineEnd e → reading room line image [] ((58 ∷ l ++ e) ++ text)
      ≡ after (judge room (length image) (58 ∷ l)) line image text (reading room (line + 1) (image ++ data_of b) [] text)
  unfolding record_bytes
  reading_spelled room line image text lf =
      rw (
        append_assoc (58 ∷ l) (10 ∷ []) text,
        reading_line room line image [] (58 ∷ l) text (colon_without 10 (omega arith) (omega arith)),
        bare_without (58 ∷ l) (colon_without 13 (omega arith) (omega arith)),
        spelled_bytes s,
      )
  reading_spelled room line image text crlf =
      let q : (58 ∷ l ++ 13 ∷ 10 ∷ []) ++ text ≡ (58 ∷ l ++ 13 ∷ []) ++ 10 ∷ text = simp append_assoc in
      rw (q, reading_line room line image [] (58 ∷ l ++ 13 ∷ []) text return_without, bare_return (58 ∷ l), spelled_bytes s)

-- a record's line with its text after it
module _ (r : Fields) where
  pub length_bytes : length (bytes r) ≡ length r.contents + 5
  length_bytes = omega (arith, length-append r.contents (r.checksum ∷ []))

  pub data_bytes : data_of (bytes r) ≡ r.contents
  unfolding data_of
  data_bytes = take-append_seam r.contents (r.checksum ∷ [])

  module _ {l : List ℕ} (s : Spelled (bytes r) l) where
    pub formed_spelled : formed (58 ∷ l) ≡ true
    unfolding formed
    formed_spelled =
        let q : length l ≡ (length r.contents + 5) * 2 = spelled_length s ∙ ap (λ (n : ℕ). n * 2) length_bytes in
        rw (spelled_digits s, spelled_bytes s, eq-eqb (length l) ((length r.contents + 5) * 2) q)

    pub judge_balanced : (room at : ℕ) → Balanced r → judge room at (58 ∷ l) ≡ typed room at (length r.contents) r.address r.type
    unfolding judge placed line_of summed record_bytes
    judge_balanced room at z =
        let q : r.address / 256 * 256 + r.address % 256 ≡ r.address = omega arith in
        rw (formed_spelled, spelled_bytes s, eq-eqb (total (bytes r) % 256) 0 z, q)

    pub judge_unbalanced : (room at : ℕ) → (Balanced r → ⊥) → judge room at (58 ∷ l) ≡ Err 2
    unfolding judge placed line_of summed record_bytes
    judge_unbalanced room at z = rw (formed_spelled, spelled_bytes s, ne_eqb (total (bytes r) % 256) 0 z)

-- the reader at a record's line, judged as `judged`
pub reading_form : (room line : ℕ) (image text : List ℕ) {r : Fields} {l : List ℕ} (f : Form r l) (judged : LineRecord)
    → judge room (length image) (58 ∷ f.digits) ≡ judged
    → reading room line image [] (l ++ text) ≡ after judged line image text (reading room (line + 1) (image ++ r.contents) [] text)
reading_form room line image text {r} f judged e =
    rw (f.is, reading_spelled f.spelled room line image text f.ends, e, data_bytes r)

-- a record's line is a whole line
pub form_whole : {r : Fields} {l : List ℕ} → Form r l → WholeLine l
form_whole {l = l} f = of f.ends f.is
  where
    of : {e : List ℕ} → LineEnd e → l ≡ 58 ∷ f.digits ++ e → WholeLine l
    of lf q = record { inside = 58 ∷ f.digits; is = q; no_line_feed = colon_without f.spelled 10 (omega arith) (omega arith) }
    of crlf q =
        record {
          inside = 58 ∷ f.digits ++ 13 ∷ [];
          is = q ∙ sym (append_assoc (58 ∷ f.digits) (13 ∷ []) (10 ∷ []));
          no_line_feed = return_without f.spelled;
        }
