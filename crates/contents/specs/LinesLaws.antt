-- Laws of a contents line: its fields among its eight bytes, and the part of an image that it is.
use Rattle.std.specs.Prelude.{List, ◌≡◌, ℕ, ◌+◌, ◌-◌, ◌*◌, ◌^◌, ◌≤◌, ◌<◌, min, length, take, drop}
use Rattle.std.proofs.Common.{◌∙◌, add-zero, arith, drop_of_length-le}
use Rattle.std.specs.Borrow.{Bor}
use Rattle.laws.specs.Cases.{split}
use Rattle.numbers.specs.Fields.{number_at}
use Rattle.numbers.specs.FieldsLaws.{number_within, number_from}
use Rattle.numbers.specs.Slices.{IsPart}
use Rattle.image.specs.Contents.{line_place}
use Rattle.contents.specs.declared.ContentsLine.{ContentsLine}
use Rattle.contents.specs.Lines.{line_in, line_at}

-- ---- a line as a part of an image

part_is_line : (image : List ℕ) (i : ℕ) → line_in (take 8 (drop (line_place i) image)) ≡ line_at image i
part_is_line image i =
    let place = line_place i in
    let field : (w at : ℕ) → at + w ≤ 8 → number_at w (take 8 (drop place image)) at ≡ number_at w image (place + at) =
    λ w at h. number_within w (drop place image) at 8 h ∙ number_from w image place at in
    rw (field 1 0 (omega arith), field 1 1 (omega arith), field 2 2 (omega arith), field 2 4 (omega arith), field 2 6 (omega arith), add-zero place)

module _ (image : List ℕ) (i : ℕ) {r : ContentsLine} where
  -- eight bytes lent by their place
  pub whole_line : (part : List ℕ) → part ≡ take (line_place i + 8 - line_place i) (drop (line_place i) image) → r ≡ line_in part → r ≡ line_at image i
  whole_line part p e =
      let eight : line_place i + 8 - line_place i ≡ 8 = omega arith in
      e ∙ rw (p, eight) (part_is_line image i)

-- eight bytes from a line's place on, or from the highest place where that would wrap: no slice reaches so far
pub line_of_part : (image part : Bor (List ℕ)) (i place : ℕ) {r : ContentsLine} → r ≡ line_in part.now → IsPart image part place 8
    → place ≡ min (min (8 * i) (2 ^ 64 - 1) + 2) (2 ^ 64 - 1) → length image.now < 2 ^ 63 → r ≡ line_at image.now i
line_of_part image part i place e p f few =
    split (line_place i) (2 ^ 63)
    (λ (h : line_place i ≤ 2 ^ 63). let near : place ≡ line_place i = omega arith in e ∙ rw (p.holds, near) (part_is_line image.now i))
    (λ (h : 2 ^ 63 < line_place i).
    let past = drop_of_length-le image.now {i = place} (omega arith) in
    let far = drop_of_length-le image.now {i = line_place i} (omega arith) in
    e ∙ rw (p.holds, past) (rw far at (part_is_line image.now i)))
