-- The writer's definition says what document 01 says: when it refuses 4 and 17, and what it writes.
use Rattle.std.specs.Prelude.{◌≡◌, refl, List, [], ◌∷◌, ◌↔◌, ℕ, ◌*◌, ◌/◌, ◌%◌, ◌+◌, ◌≤◌, ◌<◌, leb, length}
use Rattle.std.proofs.Math.Path.{sym}
use Rattle.std.proofs.Common.{arith}
use Rattle.limits.specs.Limits.{largest_image}
use Rattle.paper.specs.Table.{row, NoneGiven, FirstGiven}
use Rattle.paper.specs.Writer.{TextLength, full_records, and_one_more, writer_table}
use Rattle.laws.specs.Bytes.{Bytes}
use Rattle.laws.specs.Cases.{split}
use Rattle.refusals.specs.Answers.{Verdict}
use Rattle.refusals.specs.Refusals.{refusal, result, refused, ask, and_then}
use Rattle.hextext.specs.Written.{text_of, text_length, write_image}
use Rattle.hextext.specs.WrittenLaws.{text_length_full, text_length_rest}
use Rattle.hexformat.specs.Writing.{Written}
use Rattle.hexformat.proofs.WritingLaws.{written_exactly as text-exactly}
use Rattle.agreement.specs.TableLaws.{Gives, Single, row_once, judged_alone, gives_then, filling_refused_exactly, filled_exactly}
use Rattle.agreement.specs.TestsLaws.{Fails, fails_le, fails_as, ask_judges}

-- ---- how long the text is

length_is : (n : ℕ) → TextLength n (text_length n)
length_is n =
    split (n % 16) 0
    (λ (h : n % 16 ≤ 0).
    let e : 16 * (n / 16) ≡ n = omega arith in
    rw (rw e at (text_length_full (n / 16))) (full_records (n / 16) (sym e)))
    (λ (h : 0 < n % 16).
    let e : 16 * (n / 16) + n % 16 ≡ n = omega arith in
    rw (rw e at (text_length_rest (n / 16) (n % 16) h (omega arith))) (and_one_more (n / 16) (n % 16) h (omega arith) (sym e)))

length_once : {n characters : ℕ} → TextLength n characters → text_length n ≡ characters
length_once (full_records full e) = rw e (text_length_full full)
length_once (and_one_more full r h k e) = rw e (text_length_rest full r h k)

-- ---- 4, then 17, then the text

module _ (size : ℕ) (image : List ℕ) where
  abbrev TooLong : Type 0
  TooLong = (characters : ℕ) × TextLength (length image) characters × (size < characters)

  room_fails : Fails (leb (text_length (length image)) size) TooLong
  room_fails =
      fails_as (λ h. (text_length (length image), length_is (length image), h)) (λ (characters, t, h). rw (length_once t) h)
      (fails_le (text_length (length image)) size)

  abbrev small : Verdict
  small = ask (leb (length image) largest_image) 4 0

  abbrev fits : Verdict
  fits = ask (leb (text_length (length image)) size) 17 0

  writer_gives : Gives (writer_table size image) (and_then small fits)
  writer_gives =
      gives_then (row 4 0 (largest_image < length image)) (row 17 0 TooLong ∷ []) small fits
      (ask_judges 4 0 (leb (length image) largest_image) (fails_le (length image) largest_image))
      (λ e. judged_alone (row 17 0 TooLong) fits (ask_judges 17 0 (leb (text_length (length image)) size) room_fails))

  writer_single : Single (writer_table size image)
  writer_single = (row_once 0 (largest_image < length image), (row_once 0 TooLong, tt))

  pub write_refused_exactly : (number detail : ℕ)
      → (write_image size image ≡ refused (refusal number detail)) ↔ FirstGiven (writer_table size image) number detail
  unfolding write_image
  write_refused_exactly = filling_refused_exactly (writer_table size image) writer_single (and_then small fits) writer_gives (text_of image)

  pub written_exactly : (text : List ℕ) → Bytes image → (write_image size image ≡ result text) ↔ (NoneGiven (writer_table size image) × Written image text)
  unfolding write_image
  written_exactly text b =
      let so = filled_exactly (writer_table size image) writer_single (and_then small fits) writer_gives (text_of image) text in
      let is : NoneGiven (writer_table size image) → (text ≡ text_of image) ↔ Written image text =
      λ n. text-exactly image text b (split (length image) largest_image (λ h. h) (λ h. absurd (n.0 0 (refl, h)))) in
      (λ e. let f = so.0 e in (f.0, (is f.0).0 (sym f.1)), λ f. so.1 (f.0, sym ((is f.0).1 f.1)))
