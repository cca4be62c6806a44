-- The image's bytes as they are written: what stands before a place is the image so far.
use Rattle.std.specs.Prelude.{◌≡◌, List, [], ◌∷◌, ◌++◌, ℕ, suc, slice_index, slice_set, ◌+◌, ◌/◌, ◌%◌, ◌≤◌, ◌<◌, take, drop, get_or, Ok}
use Rattle.std.proofs.Math.Path.{refl}
use Rattle.std.proofs.Common.{sym, ap, ◌∙◌, append_assoc, append-nil, add-zero, add-one, add_assoc, arith, length-drop, length-set, drop_of_length-le, length-take-le, take-suc, take-suc-set, take_all, drop-drop}
use Rattle.std.proofs.Math.ListN.{length}
use Rattle.std.specs.Int.{w16, to_le_bytes}
use Rattle.laws.specs.Sums.{total}
use Rattle.refusals.specs.Refusals.{result}
use Rattle.refusals.specs.RefusalsLaws.{Begins}
use Rattle.image.specs.Contents.{line_place}
use Rattle.image.specs.Sections.{contents_line, contents_from, image_of}
use Rattle.builder.specs.declared.KindAndLength.{KindAndLength}
use Rattle.builder.specs.Build.{sections_of, lengths_total}
use Rattle.builder.specs.Lines.{no_line}
use Rattle.builder.specs.BuildLaws.{AcceptedLines, sections_counted, bodies_whole, line_small}
use Rattle.builder.specs.CheckLaws.{lines_left, total_left}

-- ---- bytes in a row

-- i of the bytes are put, from `place` on
pub record Putting (place : ℕ) (bytes before : List ℕ) (i : ℕ) (image : List ℕ) : Type 0 where
  pub upto : i ≤ length bytes
  pub kept : length image ≡ length before
  pub wrote : take (place + i) image ≡ take place before ++ take i bytes

pub putting_first : (place : ℕ) (bytes image : List ℕ) → Putting place bytes image 0 image
putting_first place bytes image = record { upto = omega arith; kept = refl; wrote = rw (add-zero place) (sym (append-nil (take place image))) }

module _ (place : ℕ) (bytes before : List ℕ) (i : ℕ) (image : List ℕ) (p : Putting place bytes before i image) where
  pub putting_more : (to from : ℕ) → to ≡ place + i → from ≡ i → place + length bytes ≤ length before → i < length bytes
      → Putting place bytes before (i + 1) (slice_set image to (slice_index bytes from))
  putting_more to from e f room k =
      let next : place + (i + 1) ≡ suc (place + i) = omega arith in
      let there : place + i < length image = omega (arith, p.kept) in
      record {
        upto = omega arith;
        kept = length-set image to (slice_index bytes from) ∙ p.kept;
        wrote = rw (e, f, next, take-suc-set image (place + i) (slice_index bytes i) there, p.wrote, add-one i, take-suc bytes i 0 k)
            (append_assoc (take place before) (take i bytes) (slice_index bytes i ∷ []));
      }

  pub putting_end : length bytes ≤ i → take (place + length bytes) image ≡ take place before ++ bytes
  putting_end k =
      let end : i ≡ length bytes = omega (arith, p.upto) in
      rw end at (rw (take_all i bytes k) at p.wrote)

-- ---- the contents lines

high_byte : (n : ℕ) → n < 65536 → n / 256 % 256 ≡ n / 256
high_byte n h = omega arith

pub line_spelled : (kind offset size sum : ℕ) (o s m : List ℕ) → o ≡ to_le_bytes w16 offset → s ≡ to_le_bytes w16 size → m ≡ to_le_bytes w16 sum
    → offset < 65536 → size < 65536 → sum < 65536
    → kind ∷ 0 ∷ get_or o 0 0 ∷ get_or o 1 0 ∷ get_or s 0 0 ∷ get_or s 1 0 ∷ get_or m 0 0 ∷ get_or m 1 0 ∷ [] ≡ contents_line kind offset size sum
line_spelled kind offset size sum o s m e f g a b c = rw (e, f, g, high_byte offset a, high_byte size b, high_byte sum c) refl

-- the line of the next body, and the lines after it
contents_more : (lines : List KindAndLength) (bodies : List ℕ) (offset start i sum : ℕ) (line : KindAndLength) → line ≡ get_or lines i no_line
    → i < length lines → start + line.length ≤ length bodies → sum ≡ total (take line.length (drop start bodies)) % 65536
    → contents_from offset (sections_of (drop i lines) (drop start bodies))
    ≡ contents_line line.kind offset line.length sum
    ++ contents_from (offset + line.length) (sections_of (drop (i + 1) lines) (drop (start + line.length) bodies))
unfolding contents_from sections_of
contents_more lines bodies offset start i sum line l h within e =
    let left : line.length ≤ length (drop start bodies) = omega (arith, length-drop start bodies) in
    let long = length-take-le line.length (drop start bodies) left in
    rw (lines_left lines i line l h, e, long, drop-drop line.length start bodies)

-- the contents lines stand after the first two bytes
abbrev pub ContentsPut : (lines : List KindAndLength) (bodies before after : List ℕ) → Type 0
ContentsPut lines bodies before after =
    let first = line_place (length lines) in
    take first after ≡ take 2 before ++ contents_from first (sections_of lines bodies)

-- i lines are written, and the bodies of those left begin at `start`
pub record Writing (lines : List KindAndLength) (bodies before : List ℕ) (start i : ℕ) (image : List ℕ) : Type 0 where
  pub accepted : AcceptedLines (length before) lines bodies
  pub upto : i ≤ length lines
  pub rest : take (line_place i) image ++ contents_from (line_place (length lines) + start) (sections_of (drop i lines) (drop start bodies))
      ≡ take 2 before ++ contents_from (line_place (length lines)) (sections_of lines bodies)
  pub left : start + lengths_total (drop i lines) ≡ length bodies
  pub long : length image ≡ length before

pub writing_first : (lines : List KindAndLength) (bodies image : List ℕ) → AcceptedLines (length image) lines bodies → Writing lines bodies image 0 0 image
writing_first lines bodies image a = record {
  accepted = a;
  upto = omega arith;
  rest = rw (add-zero (line_place (length lines)));
  left = omega (arith, a.whole);
  long = refl;
}

module _ (lines : List KindAndLength) (bodies before : List ℕ) (start i : ℕ) (image : List ℕ) (w : Writing lines bodies before start i image) where
  module _ (line : KindAndLength) (l : line ≡ get_or lines i no_line) (h : i < length lines) where
    pub body_within : start + line.length ≤ length bodies
    body_within = omega (arith, total_left lines i line l h, w.left)

    pub line_fits : start + line.length ≤ 4096
    line_fits = omega (arith, body_within, w.accepted.limit)

    pub kind_fits : line.kind < 256
    kind_fits = let small = line_small 0 lines i w.accepted.rise in rw l (omega arith)

    pub writing_more : (image' : List ℕ) (count sum : ℕ) → count ≡ length lines → sum ≡ total (take line.length (drop start bodies)) % 65536
        → take (line_place i + 8) image'
        ≡ take (line_place i) image ++ contents_line line.kind (line_place count + start) line.length sum
        → length image' ≡ length image → Writing lines bodies before (start + line.length) (i + 1) image'
    writing_more image' count sum c e put kept = record {
      accepted = w.accepted;
      upto = omega arith;
      rest =
          let next : line_place (i + 1) ≡ line_place i + 8 = omega arith in
          let first = line_place (length lines) in
          let more = contents_more lines bodies (first + start) start i sum line l h body_within e in
          rw (next, put, c, ← add_assoc first start line.length) (append_assoc (take (line_place i) image) _ _ ∙ (rw more at w.rest));
      left = omega (arith, total_left lines i line l h, w.left);
      long = kept ∙ w.long;
    }

  pub writing_end : length lines ≤ i → ContentsPut lines bodies before image
  unfolding contents_from sections_of
  writing_end h =
      let end : i ≡ length lines = omega (arith, w.upto) in
      rw end at (sym (append-nil (take (line_place i) image)) ∙ (rw (drop_of_length-le lines h) at w.rest))

-- ---- the whole image

-- its three parts after one another: after the first two bytes the buffer is `started`, after the contents `listed`, and after the bodies `image`
pub image_written : (lines : List KindAndLength) (bodies before started listed image : List ℕ) → AcceptedLines (length before) lines bodies
    → length started ≡ length before → length listed ≡ length started → length image ≡ length listed
    → take 2 started ≡ 0x51 ∷ length lines ∷ [] → ContentsPut lines bodies started listed
    → take (line_place (length lines) + length bodies) image ≡ take (line_place (length lines)) listed ++ bodies
    → Begins (result (image_of (sections_of lines bodies))) (Ok (line_place (length lines) + length bodies)) image
unfolding image_of
image_written lines bodies before started listed image a k₁ k₂ k₃ e f g =
    let counted = sections_counted lines bodies in
    let whole = bodies_whole lines bodies a.whole in
    let size = line_place (length lines) + length bodies in
    let all : take size image ≡ image_of (sections_of lines bodies) = rw (counted, whole) (g ∙ rw (f, e)) in
    let room : size ≤ length image = omega (arith, a.room) in
    record { answers = ap Ok (sym (length-take-le size image room) ∙ ap length all); begins = all }
