-- The loop over the lines: what it keeps, and one law for each way out of it.
use Rattle.std.specs.Prelude.{Bool, true, false, not, List, ◌≡◌, ℕ, ◌+◌, ◌-◌, ◌*◌, ◌≤◌, ◌<◌, Err, Ok}
use Rattle.std.proofs.Math.Path.{sym}
use Rattle.std.proofs.Common.{◌∙◌, arith}
use Rattle.std.proofs.Math.Nat.{sub-zero}
use borrow.Author.Tests.{eq-eqb, ne_eqb, not-true, not-false}
use Rattle.std.proofs.Math.Dec.{eqb}
use Rattle.laws.specs.Bytes.{Bytes}
use Rattle.laws.specs.Loops.{one_left, none_left}
use Rattle.numbers.specs.FieldsLaws.{number_small}
use Rattle.refusals.specs.Answers.{Verdict}
use Rattle.refusals.specs.Refusals.{refusal, ask}
use Rattle.refusals.specs.VerdictLaws.{ask_passes, ask_refuses}
use Rattle.image.specs.Contents.{line_count, line_place, lines_verdict, all_lines}
use Rattle.contents.specs.declared.ContentsLine.{ContentsLine}
use Rattle.contents.specs.Lines.{line_at, fits_after}

-- a count is one byte
pub few_lines : (contents : List ℕ) (count : ℕ) → Bytes contents → count ≡ line_count contents → count < 256
few_lines contents count b c = rw c (number_small 1 contents 1 b)

-- the first i lines are right, so those left decide
pub record LinesRightBefore (size : ℕ) (contents : List ℕ) (count i previous offset : ℕ) : Type 0 where
  pub rest : lines_verdict size contents (count - i) i previous offset ≡ all_lines size contents
  pub few : count < 256
  pub passed : i ≤ count
  pub near : offset ≤ line_place count + 65535 * i

module _ (size : ℕ) (contents : List ℕ) (count : ℕ) where
  pub lines_first : Bytes contents → count ≡ line_count contents → LinesRightBefore size contents count 0 0 (line_place count)
  lines_first b c = record { rest = rw (sub-zero count, c); few = few_lines contents count b c; passed = omega arith; near = omega arith }

  module _ (i previous offset : ℕ) (j : LinesRightBefore size contents count i previous offset) where
    module _ (line : ContentsLine) (l : line ≡ line_at contents i) (right : Bool) (t : right ≡ fits_after line previous offset) (more : i < count) where
      pub lines_stop : not right ≡ true → (r : Verdict) → r ≡ Err (refusal 7 i) → r ≡ all_lines size contents
      unfolding lines_verdict
      lines_stop f r e = let wrong = sym (rw l at t) ∙ not-true right f in e ∙ rw (one_left count i more, wrong) at j.rest

      pub lines_more : not right ≡ false → line.length < 65536 → LinesRightBefore size contents count (i + 1) line.kind (offset + line.length)
      unfolding lines_verdict
      lines_more f small =
          let good = sym (rw l at t) ∙ not-false right f in
          record {
            rest = rw l (rw (one_left count i more, good) at j.rest);
            few = j.few;
            passed = omega arith;
            near = omega (arith, j.near);
          }

    module _ (end : count ≤ i) where
      ended : ask (eqb offset size) 7 i ≡ all_lines size contents
      unfolding lines_verdict
      ended = rw (none_left count i end) at j.rest

      pub end_wrong : (r : Verdict) → r ≡ Err (refusal 7 count) → (offset ≡ size → ⊥) → r ≡ all_lines size contents
      end_wrong r e n =
          let last : count ≡ i = omega (arith, j.passed) in
          e ∙ rw last (sym (ask_refuses 7 i (ne_eqb offset size n)) ∙ ended)

      pub end_right : offset ≡ size → Ok tt ≡ all_lines size contents
      end_right f = sym (ask_passes 7 i (eq-eqb offset size f)) ∙ ended

pub ruleset loop_laws = (few_lines, lines_first, lines_stop, lines_more, end_wrong, end_right)
