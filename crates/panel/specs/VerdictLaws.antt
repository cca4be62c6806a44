-- A law for each return of the checks of a panel.
use Rattle.std.specs.Prelude.{◌≡◌, Bool, not, List, ℕ, ◌+◌, ◌-◌, ◌≤◌, ◌<◌, Err, Ok}
use Rattle.std.proofs.Common.{sym, ◌∙◌}
use Rattle.std.proofs.Math.Bool.{true, false}
use Rattle.std.proofs.Math.Nat.{sub-zero}
use borrow.Author.Tests.{not-true, not-false}
use Rattle.laws.specs.Loops.{one_left, none_left}
use Rattle.refusals.specs.declared.Refusal.{Refusal}
use Rattle.refusals.specs.Answers.{Verdict}
use Rattle.refusals.specs.Refusals.{refusal}
use Rattle.image.specs.Contents.{line_count, kind_at}
use Rattle.image.specs.Layout.{layout_verdict}
use Rattle.image.specs.Sections.{Section, sections_from, sections}
use Rattle.image.specs.OrderLaws.{sections_ascend}
use Rattle.contents.specs.declared.ContentsLine.{ContentsLine}
use Rattle.contents.specs.Lines.{line_at}
use Rattle.panel.specs.Levels.{kinds_of_level, knows, may_pass}
use Rattle.panel.specs.Verdict.{unknown_verdict, bodies_verdict}
use Rattle.panel.specs.BodiesLaws.{line_verdict, section_by_section, bodies_in_order}

-- ---- a walk over the lines: i of them are passed

pub record Passing (verdict : List Section → Verdict) (image : List ℕ) (i : ℕ) : Type 0 where
  pub rest : verdict (sections_from image (line_count image - i) i) ≡ verdict (sections image)

pub passing_first : (verdict : List Section → Verdict) (image : List ℕ) → Passing verdict image 0
unfolding sections
passing_first verdict image = record { rest = rw (sub-zero (line_count image)) }

-- ---- 9

module _ (image : List ℕ) (level i : ℕ) (p : Passing (unknown_verdict level) image i) where
  module _ (line : ContentsLine) (more : i < line_count image) (l : line ≡ line_at image i) (b : Bool) (e : b ≡ may_pass level line.kind) where
    pub passing_more : not b ≡ false → Passing (unknown_verdict level) image (i + 1)
    unfolding unknown_verdict sections_from
    passing_more t =
        let passed : may_pass level (kind_at image i) ≡ true = rw l at (sym e ∙ not-false b t) in
        record { rest = rw (one_left (line_count image) i more, passed) at p.rest }

    pub unknown_here : not b ≡ true → Err (refusal 9 line.kind) ≡ unknown_verdict level (sections image)
    unfolding unknown_verdict sections_from
    unknown_here t =
        let stopped : may_pass level (kind_at image i) ≡ false = rw l at (sym e ∙ not-true b t) in
        rw l (rw (one_left (line_count image) i more, stopped) at p.rest)

  pub none_unknown : line_count image ≤ i → Ok tt ≡ unknown_verdict level (sections image)
  unfolding unknown_verdict sections_from
  none_unknown end = rw (none_left (line_count image) i end) at p.rest

-- ---- 11 to 16

module _ (image : List ℕ) (level i : ℕ) (p : Passing (section_by_section (kinds_of_level level)) image i) where
  module _ (more : i < line_count image) (v : Verdict) (e : v ≡ line_verdict level image i) where
    pub bodies_more : v ≡ Ok tt → Passing (section_by_section (kinds_of_level level)) image (i + 1)
    unfolding section_by_section sections_from knows
    bodies_more a = record { rest = rw (one_left (line_count image) i more, ← e, a) at p.rest }

    pub body_refused : layout_verdict image ≡ Ok tt → (r : Refusal) → v ≡ Err r → v ≡ bodies_verdict level (sections image)
    unfolding section_by_section sections_from knows
    body_refused good r a =
        rw (bodies_in_order level (sections image) (sections_ascend image good), a) (rw (one_left (line_count image) i more, ← e, a) at p.rest)

  pub bodies_passed : layout_verdict image ≡ Ok tt → line_count image ≤ i → Ok tt ≡ bodies_verdict level (sections image)
  unfolding section_by_section sections_from
  bodies_passed good end = rw (bodies_in_order level (sections image) (sections_ascend image good)) (rw (none_left (line_count image) i end) at p.rest)
