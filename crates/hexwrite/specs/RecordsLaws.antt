-- The records of an image in order: what the loop keeps, and the answer.
use Rattle.std.specs.Prelude.{◌≡◌, ℕ, ◌+◌, ◌*◌, ◌<◌, ◌≤◌, List, [], ◌++◌, length, take, drop, Err, Ok}
use Rattle.std.proofs.Math.Path.{refl}
use Rattle.std.proofs.Common.{ap, ◌∙◌, append_assoc, arith, length-append, length-take, length-drop, drop-drop}
use borrow.Author.Tests.{le-leb, lt-leb}
use Rattle.limits.specs.Limits.{largest_image}
use Rattle.refusals.specs.Refusals.{refusal}
use Rattle.refusals.specs.RefusalsLaws.{Begins}
use Rattle.hextext.specs.Written.{record_text, text_of, text_length, write_image}
use Rattle.hextext.specs.WrittenLaws.{length-record_text, length_text_of}
use Rattle.laws.specs.BufferWrites.{WrittenAt}
use Rattle.hexwrite.specs.RecordLaws.{WroteRecord}
use Rattle.hexwrite.specs.TextLaws.{text_from, text_none, text_more, length_from, length_room}

-- ---- the loop over the records of data

-- the first `at` bytes of d, and then the text of what is left of x from `start` on, are the text of x
pub record Writing (x d₀ d : List ℕ) (start at : ℕ) : Type 0 where
  pub kept : length d ≡ length d₀
  pub inside : at ≤ length d
  pub is : take at d ++ text_from start (drop start x) ≡ text_of x

pub writing_first : (x d : List ℕ) → Writing x d d 0 0
unfolding text_of text_from
writing_first x d = record { kept = refl; inside = omega arith; is = refl }

module _ (x d₀ d : List ℕ) (start at : ℕ) (h : Writing x d₀ d start at) (room : text_length (length x) ≤ length d₀) where
  left : at + text_length (length (drop start x)) ≡ text_length (length x)
  left =
      let l = length-append (take at d) (text_from start (drop start x)) in
      let t = length-take at d in
      let e = ap length h.is ∙ length_text_of x in
      omega (arith, h.inside, length_from start (drop start x))

  -- a piece p written where the text of what is left begins with it
  written_piece : (p q d' : List ℕ) → text_from start (drop start x) ≡ p ++ q → WrittenAt at p d d' → take (at + length p) d' ++ q ≡ text_of x
  written_piece p q d' e w = rw w.is (append_assoc (take at d) p q ∙ (rw e at h.is))

  -- bytes that are the first n of what is left have room as one record
  module _ (n : ℕ) (bytes : List ℕ) (cut : bytes ≡ take n (drop start x)) where
    pub part_fits : at + 12 + length bytes * 2 ≤ length d
    part_fits = rw cut (omega (arith, length-take n (drop start x), length_room (length (drop start x)), left, h.kept))

    pub part_small : n < 256 → length bytes < 256
    part_small m = rw cut (omega (arith, length-take n (drop start x)))

  pub writing_more : (bytes : List ℕ) (next : ℕ) (d' : List ℕ) → bytes ≡ take 16 (drop start x) → start < length x → length d' ≡ length d
      → WroteRecord at start 0 bytes d next d' → Writing x d₀ d' (start + 16) next
  writing_more bytes next d' cut k same w =
      let p : List ℕ = record_text start 0 bytes in
      let e : next ≡ at + length p = omega (arith, w.follows, length-record_text start 0 bytes) in
      let t : text_from start (drop start x) ≡ p ++ text_from (start + 16) (drop (start + 16) x) =
      rw cut (text_more start (drop start x) (omega (arith, length-drop start x)) ∙ rw (drop-drop 16 start x)) in
      record {
        kept = same ∙ h.kept;
        inside = omega (arith, w.follows, part_fits 16 bytes cut);
        is = rw e (written_piece p (text_from (start + 16) (drop (start + 16) x)) d' t w.wrote);
      }

  pub end_fits : at + 12 + 0 * 2 ≤ length d
  end_fits = omega (arith, length_room (length (drop start x)), left, h.kept)

  pub writing_end : (next : ℕ) (d' : List ℕ) → length x ≤ start → WroteRecord at 0 1 [] d next d' → take (text_length (length x)) d' ≡ text_of x
  writing_end next d' k w =
      let none : length (drop start x) ≤ 0 = omega (arith, length-drop start x) in
      let t = text_none start (drop start x) none in
      let e : text_length (length x) ≡ at + length (record_text 0 1 []) = omega (arith, left, length_from start (drop start x), ap length t) in
      rw e (w.wrote.is ∙ rw t at h.is)

-- ---- the answer

module _ (x d : List ℕ) where
  pub writes_too_large : largest_image < length x → Begins (write_image (length d) x) (Err (refusal 4 0)) d
  unfolding write_image
  writes_too_large h = rw (lt-leb (length x) largest_image h) (record { answers = refl; begins = refl })

  module _ (h : length x ≤ largest_image) (n : ℕ) (e : n ≡ text_length (length x)) where
    pub writes_no_room : length d < n → Begins (write_image (length d) x) (Err (refusal 17 0)) d
    unfolding write_image
    writes_no_room k = rw (le-leb (length x) largest_image h, lt-leb (text_length (length x)) (length d) (omega arith)) (record { answers = refl; begins = refl })

    pub writes_text : (d' : List ℕ) → n ≤ length d → take (text_length (length x)) d' ≡ text_of x → Begins (write_image (length d) x) (Ok n) d'
    unfolding write_image
    writes_text d' k w =
        rw (le-leb (length x) largest_image h, le-leb (text_length (length x)) (length d) (omega arith))
        (record { answers = rw (e, length_text_of x); begins = rw e w })
