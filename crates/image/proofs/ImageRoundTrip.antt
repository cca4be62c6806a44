-- An image, its sections, their image: an image of bytes with a good layout is, byte for byte, the image of its own sections, which fit.
use Rattle.std.specs.Prelude.{List, ◌∷◌, ◌++◌, ◌≡◌, refl, drop, Ok}
use Rattle.std.proofs.Math.Path.{sym}
use Rattle.std.proofs.Common.{ap, ◌∙◌, add-zero, take-append-drop, drop-drop, length-take-le}
use Prim.Native.Nat.{ℕ, zero, suc, ◌+◌, ◌%◌, ◌≤◌}
use Rattle.std.proofs.Math.Nat.{zero-add}
use native.Mathlib.Omega.{arith}
use Rattle.std.proofs.Math.ListN.{length, length-drop}
use Rattle.std.proofs.Math.Seq.{drop-length}
use Rattle.laws.specs.Bytes.{Bytes}
use Rattle.laws.specs.BytesLaws.{bytes_drop}
use Rattle.laws.specs.Lists.{drop_two}
use Rattle.laws.specs.Sums.{total}
use Rattle.numbers.specs.FieldsLaws.{byte_at_lem, number_small}
use Rattle.image.specs.Contents.{line_count, line_place, kind_at, zero_at, offset_at, length_at, sum_at, lines_verdict}
use Rattle.image.specs.Layout.{body_at, sums_verdict, layout_verdict}
use Rattle.image.specs.Sections.{Section, sections_from, sections, contents_from, bodies_of, image_of, Rising, Fit}
use Rattle.image.proofs.LineLaws.{line_spelled}
use Rattle.image.specs.ContentsLaws.{line_passed, lines_ended}
use Rattle.image.specs.LayoutLaws.{sum_passed, layout_passed}
use Rattle.image.proofs.SectionsRoundTrip.{HoldsSections}
use Rattle.image.specs.Find.{body_of}
use Rattle.image.specs.OrderLaws.{sections_ascend, told_by_bodies}

count_from : (image : List ℕ) (left i : ℕ) → length (sections_from image left i) ≡ left
unfolding sections_from
count_from image zero i = refl
count_from image (suc left) i = ap suc (count_from image left (i + 1))

-- a section for each line
pub sections_count : (image : List ℕ) → length (sections image) ≡ line_count image
unfolding sections
sections_count image = count_from image (line_count image) 0

-- ---- the image holds its sections

rising_back : (size : ℕ) (image : List ℕ) (left i previous offset : ℕ) → Bytes image → lines_verdict size image left i previous offset ≡ Ok tt
    → Rising previous (sections_from image left i)
unfolding sections_from
rising_back size image zero i previous offset b e = tt
rising_back size image (suc left) i previous offset b e =
    let p = line_passed size image left i previous offset e in
    let small = number_small 1 image (line_place i) b in
    (p.right.rises, omega arith, rising_back size image left (i + 1) (kind_at image i) (offset + length_at image i) b p.others)

-- a line before the others, whose body stands before theirs
module _ (image : List ℕ) (i offset : ℕ) (ss : List Section) (h : HoldsSections image (i + 1) (offset + length_at image i) ss)
    (starts : offset_at image i ≡ offset) where
  body_long : length (body_at image i) ≡ length_at image i
  body_long = rw starts (length-take-le (length_at image i) (drop offset image) (omega (arith, length-drop offset image, h.within)))

  bodies_more : drop offset image ≡ body_at image i ++ bodies_of ss
  bodies_more = rw (starts, ← h.bodies, ← drop-drop (length_at image i) offset image) (sym (take-append-drop (length_at image i) (drop offset image)))

  holds_more : Bytes image → line_place (i + 1) ≤ length image → zero_at image i ≡ 0 → total (body_at image i) % 65536 ≡ sum_at image i
      → HoldsSections image i offset (record { kind = kind_at image i; body = body_at image i } ∷ ss)
  unfolding contents_from bodies_of
  holds_more b room z sum =
      let last : i + 1 + length ss ≡ i + suc (length ss) = omega arith in
      record {
        contents = rw (line_spelled image i b room z, h.contents, last, body_long, sum, starts);
        bodies = bodies_more;
        within = omega (arith, h.within);
      }

holds_back : (image : List ℕ) (left i previous offset : ℕ) → Bytes image → line_place (i + left) ≤ length image
    → lines_verdict (length image) image left i previous offset ≡ Ok tt → sums_verdict image left i ≡ Ok tt
    → HoldsSections image i offset (sections_from image left i)
unfolding sections_from contents_from bodies_of
holds_back image zero i previous offset b room e f =
    let end = lines_ended (length image) image i previous offset e in
    record { contents = rw (add-zero i); bodies = rw end (drop-length image); within = omega arith }
holds_back image (suc left) i previous offset b room e f =
    let p = line_passed (length image) image left i previous offset e in
    let q = sum_passed image left i f in
    let h = holds_back image left (i + 1) (kind_at image i) (offset + length_at image i) b (omega arith) p.others q.others in
    holds_more image i offset (sections_from image left (i + 1)) h p.right.starts b (omega arith) p.right.zero_is q.right

-- ---- the whole image

module _ (image : List ℕ) (b : Bytes image) (good : layout_verdict image ≡ Ok tt) where
  held : HoldsSections image 0 (line_place (line_count image)) (sections image)
  unfolding sections
  held =
      let g = layout_passed image good in
      holds_back image (line_count image) 0 0 (line_place (line_count image)) b (rw (zero-add (line_count image)) g.contents.counted.room) g.contents.lines
      g.sums

  pub sections_fit : Fit (sections image)
  sections_fit =
      let g = layout_passed image good in
      let count = sections_count image in
      let long = ap length held.bodies in
      record {
        some = omega (arith, g.contents.counted.some);
        few = omega (arith, g.contents.counted.few);
        rising = unfold sections in rising_back (length image) image (line_count image) 0 0 (line_place (line_count image)) b g.contents.lines;
        room = omega (arith, g.contents.counted.room, g.contents.started.most, length-drop (line_place (line_count image)) image);
      }

  pub sections_bytes : Bytes (bodies_of (sections image))
  sections_bytes = rw (← held.bodies) (bytes_drop (line_place (line_count image)) image b)

  pub image_of_sections : image_of (sections image) ≡ image
  unfolding image_of
  image_of_sections =
      let start = (layout_passed image good).contents.started in
      let none = zero-add (length (sections image)) in
      sym
      (drop_two image 0 start.enough
      ∙ rw (← byte_at_lem image 0, start.marked, ← byte_at_lem image 1, held.contents, none, sections_count image, held.bodies))

-- so one is told by its bodies: where each kind has the same body in two such images, or none in either, these are equal byte for byte
pub same_bodies_same_image : (image image' : List ℕ) → Bytes image → Bytes image' → layout_verdict image ≡ Ok tt → layout_verdict image' ≡ Ok tt
    → ((kind : ℕ) → body_of kind (sections image) ≡ body_of kind (sections image')) → image ≡ image'
same_bodies_same_image image image' b b' good good' same =
    let sections-same = told_by_bodies 0 0 (sections image) (sections image') (sections_ascend image good) (sections_ascend image' good') same in
    sym (image_of_sections image b good) ∙ ap image_of sections-same ∙ image_of_sections image' b' good'
