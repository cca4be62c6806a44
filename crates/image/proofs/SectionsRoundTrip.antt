-- Sections, their image, its sections: the image of fit sections has a good layout, and its sections are those given.
use Rattle.std.specs.Prelude.{List, [], ◌∷◌, ◌++◌, ◌≡◌, ℕ, ◌+◌, ◌*◌, ◌/◌, ◌%◌, ◌≤◌, ◌<◌, Ok}
use Rattle.std.proofs.Math.Path.{refl, ap}
use Rattle.std.proofs.Common.{zero-add, eq-eqb}
use native.Mathlib.Omega.{arith}
use Rattle.std.proofs.Math.ListN.{length, drop, length-append, length-drop}
use Rattle.std.proofs.Math.Seq.{drop-drop, drop_at, take-append_seam, drop-append_seam}
use Rattle.laws.specs.Bytes.{Bytes}
use Rattle.laws.specs.BytesLaws.{bytes_nil, bytes_cons, bytes_append}
use Rattle.laws.specs.Sums.{total}
use Rattle.numbers.specs.Fields.{little_endian, number_at}
use Rattle.refusals.specs.VerdictLaws.{ask_passes}
use Rattle.image.specs.Contents.{line_count, line_place, kind_at, lines_verdict}
use Rattle.image.specs.Layout.{body_at, sums_verdict, layout_verdict}
use Rattle.image.specs.Sections.{Section, sections_from, sections, two_bytes, contents_from, bodies_of, image_of, Rising, Fit}
use Rattle.image.proofs.LineLaws.{LineSays, line_says}
use Rattle.image.specs.ContentsLaws.{right_passes}
use Rattle.image.specs.LayoutLaws.{layout_passes}

-- the image holds the sections ss: their lines from line i on, and their bodies from `offset` to its end
pub record HoldsSections (image : List ℕ) (i offset : ℕ) (ss : List Section) : Type 0 where
  pub contents : drop (line_place i) image ≡ contents_from offset ss ++ drop (line_place (i + length ss)) image
  pub bodies : drop offset image ≡ bodies_of ss
  pub within : offset ≤ length image

-- ---- the first section, and the others

module _ (image : List ℕ) (i offset : ℕ) (s : Section) (ss : List Section) (h : HoldsSections image i offset (s ∷ ss)) where
  first_says : LineSays image i s.kind offset (length s.body) (total s.body % 65536)
  unfolding contents_from
  first_says =
      line_says image (contents_from (offset + length s.body) ss ++ drop (line_place (i + length (s ∷ ss))) image) i s.kind offset (length s.body)
      (total s.body % 65536) h.contents

  first_body : body_at image i ≡ s.body
  unfolding bodies_of
  first_body = rw (first_says.offset_is, first_says.size_is, h.bodies) (take-append_seam s.body (bodies_of ss))

  others : HoldsSections image (i + 1) (offset + length s.body) ss
  unfolding contents_from bodies_of
  others =
      let next : line_place (i + 1) ≡ line_place i + 8 = omega arith in
      let last : i + 1 + length ss ≡ i + length (s ∷ ss) = omega arith in
      let long = ap length h.bodies in
      record {
        contents = rw (next, ← drop-drop 8 (line_place i) image, h.contents, last);
        bodies = rw (← drop-drop (length s.body) offset image, h.bodies) (drop-append_seam s.body (bodies_of ss));
        within = omega (arith, h.within, length-drop offset image, length-append s.body (bodies_of ss));
      }

-- ---- what the checks say, and what is read

sections_held : (image : List ℕ) (i offset : ℕ) (ss : List Section) → HoldsSections image i offset ss → sections_from image (length ss) i ≡ ss
unfolding sections_from
sections_held image i offset [] h = refl
sections_held image i offset (s ∷ ss) h =
    rw (
      (first_says image i offset s ss h).kind_is,
      first_body image i offset s ss h,
      sections_held image (i + 1) (offset + length s.body) ss (others image i offset s ss h),
    )

lines_held : (image : List ℕ) (i previous offset : ℕ) (ss : List Section) → Rising previous ss → HoldsSections image i offset ss
    → lines_verdict (length image) image (length ss) i previous offset ≡ Ok tt
unfolding lines_verdict bodies_of
lines_held image i previous offset [] r h =
    let long = ap length h.bodies in
    ask_passes 7 i (eq-eqb offset (length image) (omega (arith, h.within, length-drop offset image)))
lines_held image i previous offset (s ∷ ss) r h =
    let says = first_says image i offset s ss h in
    let rises : previous < kind_at image i = rw says.kind_is r.0 in
    rw (right_passes image i previous offset (record { rises = rises; zero_is = says.zero_is; starts = says.offset_is }), says.kind_is, says.size_is)
    (lines_held image (i + 1) s.kind (offset + length s.body) ss r.2 (others image i offset s ss h))

sums_held : (image : List ℕ) (i offset : ℕ) (ss : List Section) → HoldsSections image i offset ss → sums_verdict image (length ss) i ≡ Ok tt
unfolding sums_verdict
sums_held image i offset [] h = refl
sums_held image i offset (s ∷ ss) h =
    rw (first_body image i offset s ss h, (first_says image i offset s ss h).sum_is, eq-eqb (total s.body % 65536) (total s.body % 65536) refl)
    (sums_held image (i + 1) (offset + length s.body) ss (others image i offset s ss h))

-- ---- the whole image

pub contents_length : (offset : ℕ) (ss : List Section) → length (contents_from offset ss) ≡ 8 * length ss
unfolding contents_from
contents_length offset [] = refl
contents_length offset (s ∷ ss) = let h = contents_length (offset + length s.body) ss in omega arith

module _ (ss : List Section) where
  pub image_length : length (image_of ss) ≡ line_place (length ss) + length (bodies_of ss)
  unfolding image_of
  image_length =
      let c = contents_length (line_place (length ss)) ss in
      omega (arith, length-append (contents_from (line_place (length ss)) ss) (bodies_of ss))

  pub image_count : line_count (image_of ss) ≡ length ss
  unfolding image_of number_at little_endian
  image_count = omega arith

  image_marked : number_at 1 (image_of ss) 0 ≡ 0x51
  unfolding image_of number_at little_endian
  image_marked = refl

  pub image_bodies : drop (line_place (length ss)) (image_of ss) ≡ bodies_of ss
  unfolding image_of
  image_bodies =
      drop_at (0x51 ∷ length ss ∷ contents_from (line_place (length ss)) ss) (bodies_of ss) (line_place (length ss))
      (let c = contents_length (line_place (length ss)) ss in omega arith)

  image_holds : HoldsSections (image_of ss) 0 (line_place (length ss)) ss
  unfolding image_of
  image_holds =
      record {
        contents = rw (zero-add (length ss), image_bodies);
        bodies = image_bodies;
        within = omega (arith, image_length);
      }

  -- whatever the sections are, their image gives them back
  pub sections_of_image : sections (image_of ss) ≡ ss
  unfolding sections
  sections_of_image = rw image_count (sections_held (image_of ss) 0 (line_place (length ss)) ss image_holds)

  pub image_good : Fit ss → layout_verdict (image_of ss) ≡ Ok tt
  image_good fit =
      let long = image_length in
      let count = image_count in
      layout_passes (image_of ss)
      (record {
        contents =
            record {
              started = record { enough = omega arith; most = omega (arith, fit.room); marked = image_marked };
              counted = record { some = omega (arith, fit.some); few = omega (arith, fit.few); room = omega arith };
              lines = rw image_count (lines_held (image_of ss) 0 0 (line_place (length ss)) ss fit.rising image_holds);
            };
        sums = rw image_count (sums_held (image_of ss) 0 (line_place (length ss)) ss image_holds);
      })

-- ---- the image of bytes is one of bytes

bytes_two : (n : ℕ) (l : List ℕ) → n < 65536 → Bytes l → Bytes (two_bytes n ++ l)
bytes_two n l h b = bytes_cons (n % 256) (n / 256 ∷ l) (omega arith) (bytes_cons (n / 256) l (omega arith) b)

bytes_contents : (offset previous : ℕ) (ss : List Section) → Rising previous ss → offset + length (bodies_of ss) < 65536 → Bytes (contents_from offset ss)
unfolding contents_from bodies_of
bytes_contents offset previous [] r h = bytes_nil
bytes_contents offset previous (s ∷ ss) r h =
    let size = length s.body in
    let sum = total s.body % 65536 in
    let long = length-append s.body (bodies_of ss) in
    let rest = contents_from (offset + size) ss in
    bytes_cons s.kind (0 ∷ two_bytes offset ++ two_bytes size ++ two_bytes sum ++ rest) (omega (arith, r.1))
    (bytes_cons 0 (two_bytes offset ++ two_bytes size ++ two_bytes sum ++ rest) (omega arith)
    (bytes_two offset (two_bytes size ++ two_bytes sum ++ rest) (omega arith)
    (bytes_two size (two_bytes sum ++ rest) (omega arith)
    (bytes_two sum rest (omega arith) (bytes_contents (offset + size) s.kind ss r.2 (omega arith))))))

pub image_bytes : (ss : List Section) → Fit ss → Bytes (bodies_of ss) → Bytes (image_of ss)
unfolding image_of
image_bytes ss fit b =
    bytes_append (0x51 ∷ length ss ∷ contents_from (line_place (length ss)) ss) (bodies_of ss)
    (bytes_cons 0x51 (length ss ∷ contents_from (line_place (length ss)) ss) (omega arith)
    (bytes_cons (length ss) (contents_from (line_place (length ss)) ss) (omega (arith, fit.few))
    (bytes_contents (line_place (length ss)) 0 ss fit.rising (omega (arith, fit.room)))))
    b
