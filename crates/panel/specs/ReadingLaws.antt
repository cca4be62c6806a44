-- The bodies of kinds 1, 2, 3 in an accepted image are those of its first three lines.
use Rattle.std.specs.Prelude.{◌≡◌, List, ℕ, Ok}
use Rattle.std.proofs.Common.{arith}
use Rattle.image.specs.Layout.{body_at, layout_verdict}
use Rattle.image.specs.Sections.{sections}
use Rattle.panel.specs.Verdict.{missing_verdict}
use Rattle.panel.specs.Reading.{body_in}
use Rattle.panel.specs.GoodLayoutLaws.{first_three}

module _ (image : List ℕ) (good : layout_verdict image ≡ Ok tt) (present : missing_verdict (sections image) ≡ Ok tt) where
  pub first_body : body_at image 0 ≡ body_in 1 (sections image)
  first_body = rw ((first_three image good present).bodies 0 (omega arith))

  pub second_body : body_at image 1 ≡ body_in 2 (sections image)
  second_body = rw ((first_three image good present).bodies 1 (omega arith))

  pub third_body : body_at image 2 ≡ body_in 3 (sections image)
  third_body = rw ((first_three image good present).bodies 2 (omega arith))
