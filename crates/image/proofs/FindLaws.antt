-- Laws of what is found: in the image of fit sections, and where.
use Rattle.std.specs.Prelude.{List, ◌≡◌, ℕ, Ok}
use Rattle.std.proofs.Common.{ap, ◌∙◌}
use Rattle.image.specs.Contents.{line_count}
use Rattle.image.specs.Layout.{layout_verdict}
use Rattle.image.specs.Sections.{Section, sections, image_of, Fit}
use Rattle.image.specs.Find.{body_of, found, offset_from, found_offset}
use Rattle.image.proofs.SectionsRoundTrip.{image_good, sections_of_image}

-- in an image with a good layout, what its sections hold
pub found_good : (image : List ℕ) (kind : ℕ) → layout_verdict image ≡ Ok tt → found image kind ≡ body_of kind (sections image)
unfolding found
found_good image kind e = rw e

pub offset_good : (image : List ℕ) (kind : ℕ) → layout_verdict image ≡ Ok tt → found_offset image kind ≡ offset_from image (line_count image) 0 kind
unfolding found_offset
offset_good image kind e = rw e

pub found_in_image : (ss : List Section) (kind : ℕ) → Fit ss → found (image_of ss) kind ≡ body_of kind ss
found_in_image ss kind fit = found_good (image_of ss) kind (image_good ss fit) ∙ ap (body_of kind) (sections_of_image ss)
