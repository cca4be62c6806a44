-- What is written of an image is a good text of it, of the right length, and reads back the same.
use Rattle.std.specs.Prelude.{◌≡◌, true, false, List, ◌++◌, ℕ, ◌+◌, ◌-◌, ◌*◌, ◌≤◌, ◌<◌, leb, length, take, replicate, Ok}
use Rattle.std.proofs.Common.{ap, ◌∙◌, arith, leb-true, le-leb, take_at}
use Rattle.limits.specs.Limits.{largest_image}
use Rattle.laws.specs.Bytes.{Bytes}
use Rattle.laws.specs.Cases.{decide}
use Rattle.refusals.specs.Answers.{Filled}
use Rattle.refusals.specs.Refusals.{result, Fills}
use Rattle.hextext.specs.Text.{read_text}
use Rattle.hextext.specs.Written.{text_of, text_length, write_image}
use Rattle.hextext.specs.WrittenLaws.{length_text_of, text_length_full, text_length_rest}
use Rattle.hexformat.specs.Format.{GoodText, none}
use Rattle.hexformat.proofs.Agrees.{read_exactly}
use Rattle.hexformat.proofs.GoodTexts.{image_is_bytes}
use Rattle.hexformat.proofs.WrittenLaws.{writing_good}

module _ (image : List ℕ) (are_bytes : Bytes image) where
  -- what is written of an image is a good text of it
  pub written_is_good : length image ≤ largest_image → GoodText image (text_of image)
  unfolding text_of
  written_is_good h = writing_good (length image) image none are_bytes (omega arith) (omega arith)

  -- what is written of an image reads back as the same image
  pub written_reads_back : (size : ℕ) → length image ≤ largest_image → length image ≤ size → read_text size (text_of image) ≡ result image
  written_reads_back size h k = (read_exactly size (text_of image) image).1 (written_is_good h, omega arith)

-- what is read of any text, and written anew, reads back as the same image
pub read_reads_back : (size : ℕ) (text image : List ℕ) → read_text size text ≡ result image → read_text size (text_of image) ≡ result image
read_reads_back size text image e =
    let good = (read_exactly size text image).0 e in
    let fits = good.1 in
    written_reads_back image (image_is_bytes image text good.0) size (omega arith) (omega arith)

-- an image of 4,096 bytes or less whose text has room is written
pub is_written : (size : ℕ) (image : List ℕ) → length image ≤ largest_image → text_length (length image) ≤ size → write_image size image ≡ result (text_of image)
unfolding write_image
is_written size image h k = rw (le-leb (length image) largest_image h, le-leb (text_length (length image)) size k)

-- ---- the two contracts together

-- the writer's answer n: the image is not too large, and the buffer begins with its text
record TextWritten (image before after : List ℕ) (n : ℕ) : Type 0 where
  small : length image ≤ largest_image
  begins : take n after ≡ text_of image

text_written : (image before after : List ℕ) (n : ℕ) → Fills (write_image (length before) image) before (Ok n) after → TextWritten image before after n
unfolding write_image
text_written image before after n fills =
    decide (leb (length image) largest_image)
    (λ (p : leb (length image) largest_image ≡ true).
    decide (leb (text_length (length image)) (length before))
    (λ (q : leb (text_length (length image)) (length before) ≡ true).
    let e : Ok n ≡ Ok (length (text_of image)) = rw (p, q) at fills.answers in
    let m : length (text_of image) ≡ n = cc in
    let a : after ≡ text_of image ++ replicate (length before - length (text_of image)) 0 = rw (p, q) at fills.holds in
    record {
      small = leb-true (length image) largest_image p;
      begins = rw a (take_at (text_of image) (replicate (length before - length (text_of image)) 0) n m);
    })
    (λ (q : leb (text_length (length image)) (length before) ≡ false).
    let z : ◌≡◌ {A = ℕ} 0 1 = cc (rw (p, q) at fills.answers) in absurd (omega arith)))
    (λ (p : leb (length image) largest_image ≡ false). let z : ◌≡◌ {A = ℕ} 0 1 = cc (rw p at fills.answers) in absurd (omega arith))

-- whatever writing and then reading may answer by their contracts, it is the same image again:
-- where the writer answers n characters and the reader reads those into a buffer that the image fits, the answer is the image's length, and the buffer
-- holds the image and zeros after it
pub there_and_back : (image text text' buffer buffer' : List ℕ) (n : ℕ) (answer : Filled) → Bytes image
    → Fills (write_image (length text) image) text (Ok n) text'
    → Fills (read_text (length buffer) (take n text')) buffer answer buffer'
    → length image ≤ length buffer
    → (answer ≡ Ok (length image)) × (buffer' ≡ image ++ replicate (length buffer - length image) 0)
there_and_back image text text' buffer buffer' n answer b writes reads h =
    let w = text_written image text text' n writes in
    let r : read_text (length buffer) (take n text') ≡ result image = rw w.begins (written_reads_back image b (length buffer) w.small h) in
    (rw r at reads.answers, rw r at reads.holds)

-- ---- how long the text is

-- the text of an image is as long as is said before it is written
pub text_length_lem : (image : List ℕ) → length (text_of image) ≡ text_length (length image)
text_length_lem = length_text_of

-- n full records and the end
pub length_of_full_records : (image : List ℕ) (n : ℕ) → length image ≡ 16 * n → length (text_of image) ≡ 44 * n + 12
length_of_full_records image n e = length_text_of image ∙ ap text_length e ∙ text_length_full n

-- n full records, one of r bytes and the end
pub length_with_a_rest : (image : List ℕ) (n r : ℕ) → 0 < r → r < 16 → length image ≡ 16 * n + r → length (text_of image) ≡ 44 * n + (12 + 2 * r) + 12
length_with_a_rest image n r h k e = length_text_of image ∙ ap text_length e ∙ text_length_rest n r h k
