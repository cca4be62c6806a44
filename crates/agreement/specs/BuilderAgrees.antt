-- The builder's definition says what document 01 says: when it refuses 18, 19 and 17, and which image it builds.
use Rattle.std.specs.Prelude.{List, ◌↔◌, ◌≡◌, refl, ℕ, zero, suc, ◌+◌, ◌*◌, ◌≤◌, ◌<◌, eqb, length, drop, get_or, Ok}
use Rattle.std.proofs.Common.{inl, sym, ap, ◌∙◌, add-zero, zero-add, arith, eqb-true, length-drop, length-take-le, ext_get_or}
use Rattle.std.proofs.lemmas.Bool.{eqb-false}
use Rattle.paper.specs.Table.{NoneGiven, FirstGiven}
use Rattle.paper.specs.Image.{layout_table}
use Rattle.paper.specs.Builder.{builder_table, IsImageOf}
use Rattle.laws.specs.Bytes.{Bytes}
use Rattle.laws.specs.Cases.{split, decide}
use Rattle.refusals.specs.Refusals.{refusal, result, refused}
use Rattle.image.specs.Contents.{line_count, line_place, kind_at, offset_at, length_at}
use Rattle.image.specs.Layout.{body_at, layout_verdict}
use Rattle.image.specs.LayoutLaws.{body_within}
use Rattle.image.specs.Sections.{sections_from, sections, bodies_of, image_of}
use Rattle.image.proofs.SectionsRoundTrip.{image_bodies}
use Rattle.image.proofs.ImageRoundTrip.{sections_count, image_of_sections}
use Rattle.builder.specs.declared.KindAndLength.{KindAndLength}
use Rattle.builder.specs.Build.{sections_of, build_verdict, build_image}
use Rattle.builder.specs.Lines.{lines_given, lines_of, no_line}
use Rattle.builder.specs.BuildLaws.{bodies_whole, lines_counted, lines_again}
use Rattle.builder.specs.GivenLaws.{given_counted, given_line}
use Rattle.builder.specs.Built.{kept_to, built_good, built_sections, built_bytes, good_built}
use Rattle.agreement.specs.TableLaws.{filling_refused_exactly, filled_exactly}
use Rattle.agreement.specs.FieldsAgree.{number_same}
use Rattle.agreement.specs.LayoutAgrees.{layout_accepted_exactly}
use Rattle.agreement.specs.BuilderTableLaws.{builder_gives, builder_single}

-- ---- refused

pub build_refused_exactly : (size : ℕ) (kinds lengths bodies : List ℕ) (number detail : ℕ)
    → (build_image size (lines_given kinds lengths) bodies ≡ refused (refusal number detail))
    ↔ FirstGiven (builder_table size kinds lengths bodies) number detail
unfolding build_image
build_refused_exactly size kinds lengths bodies =
    filling_refused_exactly (builder_table size kinds lengths bodies) (builder_single size kinds lengths bodies)
    (build_verdict size (lines_given kinds lengths) bodies) (builder_gives size kinds lengths bodies)
    (image_of (sections_of (lines_given kinds lengths) bodies))

-- ---- the image

line_said : (image : List ℕ) (left i j : ℕ) → j < left
    → get_or (lines_of (sections_from image left i)) j no_line ≡ record { kind = kind_at image (i + j); length = length (body_at image (i + j)) }
unfolding lines_of sections_from
line_said image zero i j h = absurd (omega arith)
line_said image (suc left) i zero h = rw (add-zero i)
line_said image (suc left) i (suc j) h = let next : i + 1 + j ≡ i + suc j = omega arith in rw next at (line_said image left (i + 1) j (omega arith))

-- in a good layout the lines of the sections are the contents lines
line_is : (image : List ℕ) → layout_verdict image ≡ Ok tt → (i : ℕ) → i < line_count image
    → get_or (lines_of (sections image)) i no_line ≡ record { kind = kind_at image i; length = length_at image i }
unfolding sections
line_is image good i h =
    let within = body_within image good i h in
    let long : length (body_at image i) ≡ length_at image i =
    length-take-le (length_at image i) (drop (offset_at image i) image) (omega (arith, length-drop (offset_at image i) image)) in
    rw (zero-add i, long) at (line_said image (line_count image) 0 i h)

-- the image is that of the lines where its sections have these kinds and lengths, and the bodies joined are these
module _ (kinds lengths bodies image : List ℕ) (even : length kinds ≡ length lengths) (b : Bytes image) (good : layout_verdict image ≡ Ok tt) where
  bodies_are : drop (line_place (line_count image)) image ≡ bodies_of (sections image)
  bodies_are = rw (image_of_sections image b good, sections_count image) at (image_bodies (sections image))

  is_image : NoneGiven (layout_table image) → lines_of (sections image) ≡ lines_given kinds lengths → bodies_of (sections image) ≡ bodies
      → IsImageOf kinds lengths bodies image
  is_image table same joined =
      let count : line_count image ≡ length kinds =
      sym (sections_count image) ∙ sym (lines_counted (sections image)) ∙ ap length same ∙ given_counted kinds lengths even in
      let line : (i : ℕ) → i < length kinds
      → ◌≡◌ {A = KindAndLength} (record { kind = kind_at image i; length = length_at image i })
      (record { kind = get_or kinds i 0; length = get_or lengths i 0 }) =
      λ i h. sym (line_is image good i (omega arith)) ∙ ap (λ (l : List KindAndLength). get_or l i no_line) same ∙ given_line kinds lengths even i in
      record {
        bytes = b;
        good = table;
        count = rw number_same count;
        kind = λ i h. rw number_same (ap (λ (l : KindAndLength). l.kind) (line i h));
        size = λ i h. rw number_same (ap (λ (l : KindAndLength). l.length) (line i h));
        joined = rw (← count) (bodies_are ∙ joined);
      }

  lines_same : IsImageOf kinds lengths bodies image → lines_of (sections image) ≡ lines_given kinds lengths
  lines_same is =
      let count : line_count image ≡ length kinds = rw number_same at is.count in
      let counted = lines_counted (sections image) ∙ sections_count image in
      ext_get_or no_line (lines_of (sections image)) (lines_given kinds lengths) (counted ∙ count ∙ sym (given_counted kinds lengths even))
      (λ i h.
      let within : i < length kinds = omega arith in
      let kind : kind_at image i ≡ get_or kinds i 0 = rw number_same at (is.kind i within) in
      let size : length_at image i ≡ get_or lengths i 0 = rw number_same at (is.size i within) in
      line_is image good i (omega arith) ∙ rw (kind, size) (sym (given_line kinds lengths even i)))

  bodies_same : IsImageOf kinds lengths bodies image → bodies_of (sections image) ≡ bodies
  bodies_same is = let count : line_count image ≡ length kinds = rw number_same at is.count in sym bodies_are ∙ rw count is.joined

module _ (size : ℕ) (kinds lengths bodies image : List ℕ) where
  even_of : NoneGiven (builder_table size kinds lengths bodies) → length kinds ≡ length lengths
  even_of none =
      decide (eqb (length kinds) (length lengths)) (eqb-true (length kinds) (length lengths))
      (λ f. absurd (none.0 0 (refl, inl (eqb-false (length kinds) (length lengths) f))))

  image_made : Bytes bodies → NoneGiven (builder_table size kinds lengths bodies) → build_image size (lines_given kinds lengths) bodies ≡ result image
      → IsImageOf kinds lengths bodies image
  image_made b none made =
      let given = lines_given kinds lengths in
      let good = built_good size given bodies image made in
      let whole = (kept_to size given bodies image made).whole in
      let same = built_sections size given bodies image made in
      is_image kinds lengths bodies image (even_of none) (built_bytes size given bodies image made b) good ((layout_accepted_exactly image).0 good)
      (rw same (lines_again given bodies whole))
      (rw same (bodies_whole given bodies whole))

  made_so : NoneGiven (builder_table size kinds lengths bodies) → IsImageOf kinds lengths bodies image
      → build_image size (lines_given kinds lengths) bodies ≡ result image
  made_so none is =
      let even = even_of none in
      let good = (layout_accepted_exactly image).1 is.good in
      let long = length-drop (2 + 8 * length kinds) image in
      let joined = ap length is.joined in
      let room : length image ≤ size = split (length image) size (λ h. h) (λ h. absurd (none.1.1.0 0 (refl, omega arith))) in
      rw (lines_same kinds lengths bodies image even is.bytes good is, bodies_same kinds lengths bodies image even is.bytes good is) at
      (good_built size image is.bytes good room)

  pub built_exactly : Bytes bodies
      → (build_image size (lines_given kinds lengths) bodies ≡ result image) ↔ (
      NoneGiven (builder_table size kinds lengths bodies) × IsImageOf kinds lengths bodies image)
  unfolding build_image
  built_exactly b =
      let given = lines_given kinds lengths in
      let so =
      filled_exactly (builder_table size kinds lengths bodies) (builder_single size kinds lengths bodies) (build_verdict size given bodies)
      (builder_gives size kinds lengths bodies) (image_of (sections_of given bodies)) image in
      (λ made. let none = (so.0 made).0 in (none, image_made b none made), λ f. made_so f.0 f.1)
