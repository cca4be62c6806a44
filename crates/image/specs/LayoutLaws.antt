-- What the check of sums says, and the whole layout: from the facts to the verdict, and back.
use Rattle.std.specs.Prelude.{List, ◌≡◌, ℕ, suc, ◌+◌, ◌%◌, ◌≤◌, ◌<◌, eqb, length, Ok}
use Rattle.std.proofs.Common.{zero-add, eqb-true}
use Rattle.laws.specs.Sums.{total}
use Rattle.refusals.specs.Refusals.{ask}
use Rattle.refusals.specs.VerdictLaws.{asked, first_passed, next_passed}
use Rattle.image.specs.Contents.{line_count, line_place, offset_at, length_at, sum_at, contents_verdict}
use Rattle.image.specs.Layout.{body_at, sums_verdict, all_sums, layout_verdict}
use Rattle.image.specs.ContentsLaws.{ContentsGood, contents_pass, contents_passed, bodies_within}

-- ---- the sums

-- the first of the lines left, line i, states the right sum, and the others pass
pub record FirstSumRight (image : List ℕ) (left i : ℕ) : Type 0 where
  pub right : total (body_at image i) % 65536 ≡ sum_at image i
  pub others : sums_verdict image left (i + 1) ≡ Ok tt

pub sum_passed : (image : List ℕ) (left i : ℕ) → sums_verdict image (suc left) i ≡ Ok tt → FirstSumRight image left i
unfolding sums_verdict
sum_passed image left i e =
    let sum = total (body_at image i) % 65536 in
    record {
      right = eqb-true sum (sum_at image i) (asked _ 8 i (first_passed (ask (eqb sum (sum_at image i)) 8 i) _ e));
      others = next_passed (ask (eqb sum (sum_at image i)) 8 i) _ e;
    }

-- ---- the whole layout

-- none of 5 to 8 is given
pub record LayoutGood (image : List ℕ) : Type 0 where
  pub contents : ContentsGood (length image) image
  pub sums : all_sums image ≡ Ok tt

module _ (image : List ℕ) where
  pub layout_passes : LayoutGood image → layout_verdict image ≡ Ok tt
  unfolding layout_verdict
  layout_passes g = rw (contents_pass (length image) image g.contents, g.sums)

  pub layout_passed : layout_verdict image ≡ Ok tt → LayoutGood image
  unfolding layout_verdict
  layout_passed e =
      record {
        contents = contents_passed (length image) image (first_passed (contents_verdict (length image) image) _ e);
        sums = next_passed (contents_verdict (length image) image) _ e;
      }

  -- every body stands inside the image
  pub body_within : layout_verdict image ≡ Ok tt → (i : ℕ) → i < line_count image → offset_at image i + length_at image i ≤ length image
  body_within e i h =
      rw (zero-add i)
      at (bodies_within (length image) image (line_count image) 0 0 (line_place (line_count image)) (layout_passed e).contents.lines i h)
