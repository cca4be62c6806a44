-- What the builder's images are: exactly those with a good layout, and in each the sections given.
use Rattle.std.specs.Prelude.{◌≡◌, ◌↔◌, List, ℕ, ◌≤◌, length, Ok}
use Rattle.std.proofs.Common.{sym, ap, ◌∙◌, le_refl, arith}
use Rattle.laws.specs.Bytes.{Bytes}
use Rattle.refusals.specs.Refusals.{result}
use Rattle.refusals.specs.VerdictLaws.{checked_result}
use Rattle.image.specs.Layout.{layout_verdict}
use Rattle.image.specs.Sections.{sections, bodies_of, image_of, Fit}
use Rattle.image.proofs.SectionsRoundTrip.{image_length, image_good, image_bytes, sections_of_image}
use Rattle.image.proofs.ImageRoundTrip.{sections_fit, sections_bytes, image_of_sections}
use Rattle.image.specs.Find.{body_of, found}
use Rattle.image.proofs.FindLaws.{found_in_image}
use Rattle.builder.specs.declared.KindAndLength.{KindAndLength}
use Rattle.builder.specs.Build.{sections_of, build_verdict, build_image, Built}
use Rattle.builder.specs.Lines.{lines_of}
use Rattle.builder.specs.BuildLaws.{AcceptedLines, passed, passes, sections_counted, bodies_whole, sections_rise, lines_counted, lines_total, lines_rise, sections_again}

module _ (size : ℕ) (lines : List KindAndLength) (bodies image : List ℕ) (made : build_image size lines bodies ≡ result image) where
  checked_as : (build_verdict size lines bodies ≡ Ok tt) × (image_of (sections_of lines bodies) ≡ image)
  unfolding build_image
  checked_as = checked_result (build_verdict size lines bodies) (image_of (sections_of lines bodies)) image made

  pub kept_to : AcceptedLines size lines bodies
  kept_to = passed size lines bodies checked_as.0

  fit : Fit (sections_of lines bodies)
  fit =
      let counted = sections_counted lines bodies in
      let whole = ap length (bodies_whole lines bodies kept_to.whole) in
      record {
        some = omega (arith, kept_to.some);
        few = omega (arith, kept_to.few);
        rising = sections_rise 0 lines bodies kept_to.rise;
        room = omega (arith, kept_to.limit);
      }

  -- An accepted list of lines gives an image with a good layout.
  pub built_good : layout_verdict image ≡ Ok tt
  built_good = rw (← checked_as.1) (image_good (sections_of lines bodies) fit)

  -- Its sections are the sections given.
  pub built_sections : sections image ≡ sections_of lines bodies
  built_sections = rw (← checked_as.1) (sections_of_image (sections_of lines bodies))

  -- In it a kind has the body that was given under it, and none where none was given.
  pub built_found : (kind : ℕ) → found image kind ≡ body_of kind (sections_of lines bodies)
  built_found kind = rw (← checked_as.1) (found_in_image (sections_of lines bodies) kind fit)

  -- It is made of bytes where the bodies are.
  pub built_bytes : Bytes bodies → Bytes image
  built_bytes b = rw (← checked_as.1) (image_bytes (sections_of lines bodies) fit (rw (bodies_whole lines bodies kept_to.whole) b))

-- Each image with a good layout is built, byte for byte, from the lines of its own sections and their bodies joined.
pub good_built : (size : ℕ) (image : List ℕ) → Bytes image → layout_verdict image ≡ Ok tt → length image ≤ size
    → build_image size (lines_of (sections image)) (bodies_of (sections image)) ≡ result image
unfolding build_image
good_built size image b good room =
    let ss = sections image in
    let fit = sections_fit image b good in
    let same = image_of_sections image b good in
    let long = sym (image_length ss) ∙ ap length same in
    let counted = lines_counted ss in
    let p : AcceptedLines size (lines_of ss) (bodies_of ss) = record {
      some = omega (arith, fit.some);
      few = omega (arith, fit.few);
      rise = lines_rise 0 ss fit.rising;
      whole = lines_total ss;
      limit = omega (arith, fit.room);
      room = omega arith;
    } in
    rw (passes size (lines_of ss) (bodies_of ss) p, sections_again ss, same)

-- The builder's images are exactly those with a good layout.
pub built_exactly : (image : List ℕ) → Built image ↔ (Bytes image × (layout_verdict image ≡ Ok tt))
built_exactly image = (
  λ b. (built_bytes b.size b.lines b.bodies image b.made b.bytes, built_good b.size b.lines b.bodies image b.made),
  λ g. record {
    size = length image;
    lines = lines_of (sections image);
    bodies = bodies_of (sections image);
    bytes = sections_bytes image g.0 g.1;
    made = good_built (length image) image g.0 g.1 (le_refl (length image));
  },
)
