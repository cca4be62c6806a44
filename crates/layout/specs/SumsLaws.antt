-- One law for each way out of the check of sums and of the whole layout.
use Rattle.std.specs.Prelude.{List, ◌≡◌, ℕ, ◌+◌, ◌-◌, ◌%◌, ◌≤◌, ◌<◌, length, take, drop, Err, Ok}
use Rattle.std.proofs.Math.Path.{sym}
use Rattle.std.proofs.Common.{◌∙◌, add-zero, arith}
use Rattle.std.proofs.Math.Nat.{sub-zero}
use borrow.Author.Tests.{eq-eqb, ne_eqb}
use Rattle.laws.specs.Loops.{one_left, none_left}
use Rattle.laws.specs.Sums.{total}
use Rattle.refusals.specs.declared.Refusal.{Refusal}
use Rattle.refusals.specs.Answers.{Verdict}
use Rattle.refusals.specs.Refusals.{refusal}
use Rattle.image.specs.Contents.{line_count, line_place, kind_at, offset_at, length_at, sum_at, lines_verdict, contents_verdict}
use Rattle.image.specs.Layout.{body_at, sums_verdict, all_sums, layout_verdict}
use Rattle.image.specs.ContentsLaws.{FirstLineRight, line_passed, contents_passed, bodies_within}
use Rattle.contents.specs.declared.ContentsLine.{ContentsLine}
use Rattle.contents.specs.Lines.{line_in, line_at}
use Rattle.contents.specs.LinesLaws.{whole_line}

-- the first i bodies have the right sum, so those left decide; the lines left are right, with the next body at `offset`
pub record SumsRightBefore (image : List ℕ) (count i offset : ℕ) : Type 0 where
  pub rest : sums_verdict image (count - i) i ≡ all_sums image
  pub previous : ℕ
  pub right : lines_verdict (length image) image (count - i) i previous offset ≡ Ok tt
  pub room : line_place count ≤ length image
  pub within : offset ≤ length image

module _ (image : List ℕ) (count : ℕ) (good : contents_verdict (length image) image ≡ Ok tt) (c : count ≡ line_count image) where
  pub lines_few : count ≤ 16
  lines_few = omega (arith, (contents_passed (length image) image good).counted.few)

  pub sums_first : SumsRightBefore image count 0 (line_place count)
  sums_first =
      let g = contents_passed (length image) image good in
      record {
        rest = rw (sub-zero count, c);
        previous = 0;
        right = rw (sub-zero count, c) g.lines;
        room = omega (arith, g.counted.room);
        within = omega (arith, g.counted.room);
      }

module _ (image : List ℕ) (count i offset : ℕ) (j : SumsRightBefore image count i offset) (more : i < count) where
  pub line_there : line_place i + 8 ≤ length image
  line_there = omega (arith, j.room)

  module _ (part : List ℕ) (line : ContentsLine) (p : part ≡ take (line_place i + 8 - line_place i) (drop (line_place i) image)) (e : line ≡ line_in part) where
    line_is : line ≡ line_at image i
    line_is = whole_line image i part p e

    passed : FirstLineRight (length image) image (count - (i + 1)) i j.previous offset
    passed = line_passed (length image) image (count - (i + 1)) i j.previous offset (rw (one_left count i more) at j.right)

    starts : offset_at image i ≡ offset
    starts = passed.right.starts

    pub body_there : offset + line.length ≤ length image
    body_there =
        rw (line_is, ← starts, ← add-zero i) (bodies_within (length image) image (count - i) i j.previous offset j.right 0 (omega arith))

    module _ (body : List ℕ) (sum : ℕ) (b : body ≡ take (offset + line.length - offset) (drop offset image)) (s : sum ≡ total body % 65536) where
      sum_is : sum ≡ total (body_at image i) % 65536
      sum_is =
          let long : offset + line.length - offset ≡ line.length = omega arith in
          let size : line.length ≡ length_at image i = rw line_is in
          s ∙ rw (b, long, size, starts)

      pub sums_stop : (sum ≡ line.sum → ⊥) → (r : Verdict) → r ≡ Err (refusal 8 i) → r ≡ all_sums image
      unfolding sums_verdict
      sums_stop n r e =
          let wrong = ne_eqb (total (body_at image i) % 65536) (sum_at image i) (λ q. n (sum_is ∙ q ∙ sym (rw line_is))) in
          e ∙ rw (one_left count i more, wrong) at j.rest

      pub sums_more : sum ≡ line.sum → SumsRightBefore image count (i + 1) (offset + line.length)
      unfolding sums_verdict
      sums_more e =
          let right = eq-eqb (total (body_at image i) % 65536) (sum_at image i) (sym sum_is ∙ e ∙ rw line_is) in
          record {
            rest = rw (one_left count i more, right) at j.rest;
            previous = kind_at image i;
            right = rw line_is passed.others;
            room = j.room;
            within = body_there;
          }

pub sums_end : (image : List ℕ) (count i offset : ℕ) → SumsRightBefore image count i offset → count ≤ i → Ok tt ≡ all_sums image
unfolding sums_verdict
sums_end image count i offset j end = rw (none_left count i end) at j.rest

-- ---- the contents, then the sums

module _ (image : List ℕ) (judged : Verdict) (c : judged ≡ contents_verdict (length image) image) where
  pub contents_decide : (q : Refusal) → judged ≡ Err q → judged ≡ layout_verdict image
  unfolding layout_verdict
  contents_decide q e = rw (← c, e)

  pub contents_good : judged ≡ Ok tt → contents_verdict (length image) image ≡ Ok tt
  contents_good e = sym c ∙ e

  pub sums_decide : judged ≡ Ok tt → (sums : Verdict) → sums ≡ all_sums image → sums ≡ layout_verdict image
  unfolding layout_verdict
  sums_decide e sums s = rw (← c, e) s

pub ruleset loop_laws = (lines_few, sums_first, line_there, sums_more)
