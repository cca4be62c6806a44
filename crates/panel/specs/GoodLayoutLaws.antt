-- Laws of the contents lines of a good layout: their bytes are there, the first kinds stand at the first lines, and others after them.
use Rattle.std.specs.Prelude.{◌≡◌, refl, Bool, true, false, cond, not, List, ℕ, ◌+◌, ◌-◌, ◌≤◌, ◌<◌, eqb, ltb, length, Ok}
use Rattle.std.proofs.Math.Path.{sym}
use Rattle.std.proofs.Common.{◌∙◌}
use Rattle.std.proofs.Math.Option.{none, some}
use Rattle.std.proofs.Math.Nat.{sub-zero}
use native.Mathlib.Omega.{arith}
use borrow.Author.Tests.{eq-eqb, eqb-true, ne_eqb, not-false, le-ltb}
use Rattle.laws.specs.Cases.{split, decide, never}
use Rattle.laws.specs.Loops.{one_left, none_left}
use Rattle.refusals.specs.Answers.{Verdict}
use Rattle.refusals.specs.VerdictLaws.{asked, first_passed, next_passed}
use Rattle.image.specs.Contents.{line_count, line_place, kind_at}
use Rattle.image.specs.Layout.{body_at, layout_verdict}
use Rattle.image.specs.LayoutLaws.{layout_passed, body_within}
use Rattle.image.specs.Sections.{sections_from, sections}
use Rattle.image.specs.Find.{body_of, is_there}
use Rattle.image.specs.OrderLaws.{Ascending, sections_ascend, none_below}
use Rattle.contents.specs.declared.ContentsLine.{ContentsLine}
use Rattle.contents.specs.Lines.{line_at}
use Rattle.panel.specs.Verdict.{present_verdict, missing_verdict, sections_verdict, verdict_of}

-- ---- what is there

module _ (image : List ℕ) (good : layout_verdict image ≡ Ok tt) (line : ℕ) (more : line < line_count image) where
  pub line_room : line_place line + 8 ≤ length image
  line_room = omega (arith, (layout_passed image good).contents.counted.room)

  pub body_room : (said : ContentsLine) → said ≡ line_at image line → said.offset + said.length ≤ length image
  body_room said e = rw e (body_within image good line more)

-- ---- the first kinds

-- the lines before this one have kinds 1, 2, 3 and so on, and it and those after it have all others
pub record FirstKindsPresent (image : List ℕ) (line : ℕ) : Type 0 where
  pub good : layout_verdict image ≡ Ok tt
  pub enough : line ≤ line_count image
  pub bodies : (i : ℕ) → i < line → body_of (i + 1) (sections image) ≡ some (body_at image i)
  pub others : (kind : ℕ) → line < kind → body_of kind (sections image) ≡ body_of kind (sections_from image (line_count image - line) line)
  pub ascends : Ascending line (sections_from image (line_count image - line) line)

pub no_kinds_yet : (image : List ℕ) → layout_verdict image ≡ Ok tt → FirstKindsPresent image 0
unfolding sections
no_kinds_yet image good =
    record {
      good = good;
      enough = omega arith;
      bodies = λ i h. absurd (omega arith);
      others = λ kind h. rw (sub-zero (line_count image));
      ascends = rw (sub-zero (line_count image)) (sections_ascend image good);
    }

module _ (line : ℕ) (image : List ℕ) (l : FirstKindsPresent image line) where
  next_past : line_count image ≤ line → body_of (line + 1) (sections image) ≡ none
  unfolding body_of sections_from
  next_past end = l.others (line + 1) (omega arith) ∙ rw (none_left (line_count image) line end)

  module _ (more : line < line_count image) where
    rises : (line < kind_at image line) × Ascending (kind_at image line) (sections_from image (line_count image - (line + 1)) (line + 1))
    unfolding sections_from
    rises = rw (one_left (line_count image) line more) at l.ascends

    next_body : body_of (line + 1) (sections image) ≡ cond (eqb (line + 1) (kind_at image line)) (some (body_at image line)) none
    unfolding body_of sections_from
    next_body =
        l.others (line + 1) (omega arith)
        ∙ (let rest = sections_from image (line_count image - (line + 1)) (line + 1) in
        rw (one_left (line_count image) line more, none_below (kind_at image line) (line + 1) rest rises.1 (omega (arith, rises.0))))

    one_kind_more : kind_at image line ≡ line + 1 → FirstKindsPresent image (line + 1)
    unfolding body_of sections_from
    one_kind_more e =
        record {
          good = l.good;
          enough = omega arith;
          bodies =
              λ (i : ℕ) (h : i < line + 1).
              split line i
              (λ (k : line ≤ i). let same : i ≡ line = omega arith in rw (same, next_body, eq-eqb (line + 1) (kind_at image line) (sym e)))
              (λ (k : i < line). l.bodies i k);
          others =
              λ (kind : ℕ) (h : line + 1 < kind).
              l.others kind (omega arith) ∙ rw (one_left (line_count image) line more, ne_eqb kind (kind_at image line) (λ q. omega arith));
          ascends = rw e at rises.1;
        }

  pub no_next : line_count image ≤ line → ltb line (line_count image) ≡ is_there (body_of (line + 1) (sections image))
  no_next end = rw (next_past end, le-ltb line (line_count image) end)

  pub next_here : (said : ContentsLine) (kind : ℕ) → line < line_count image → said ≡ line_at image line → kind ≡ said.kind
      → eqb (line + 1) kind ≡ is_there (body_of (line + 1) (sections image))
  next_here said kind more e k = rw (k, next_body more, e) (decide (eqb (line + 1) (kind_at image line)) (λ q. rw q) (λ q. rw q))

  pub few_lines : line < 17
  few_lines = omega (arith, l.enough, (layout_passed image l.good).contents.counted.few)

  module _ (b : Bool) (e : b ≡ is_there (body_of (line + 1) (sections image))) (t : not b ≡ false) where
    pub next_kind_added : FirstKindsPresent image (line + 1)
    next_kind_added =
        let there : is_there (body_of (line + 1) (sections image)) ≡ true = sym e ∙ not-false b t in
        split (line_count image) line
        (λ (end : line_count image ≤ line). never (rw (next_past end) at there))
        (λ (more : line < line_count image).
        decide (eqb (line + 1) (kind_at image line))
        (λ f. one_kind_more more (sym (eqb-true (line + 1) (kind_at image line) f)))
        (λ f. never (rw (next_body more, f) at there)))

-- ---- a kind that need not be there

pub record IsLineOf (kind : ℕ) (image : List ℕ) (line : ℕ) : Type 0 where
  pub there : line < line_count image
  pub holds : body_of kind (sections image) ≡ some (body_at image line)

pub record HasNoLine (kind : ℕ) (image : List ℕ) : Type 0 where
  pub absent : body_of kind (sections image) ≡ none

-- what the walk keeps: no line before this one has the kind
pub record NotBefore (image : List ℕ) (kind line : ℕ) : Type 0 where
  pub later : body_of kind (sections_from image (line_count image - line) line) ≡ body_of kind (sections image)

module _ (image : List ℕ) (kind : ℕ) where
  pub not_before_first : (first : ℕ) → FirstKindsPresent image first → first < kind → NotBefore image kind first
  not_before_first first l h = record { later = sym (l.others kind h) }

  module _ (line : ℕ) (k : NotBefore image kind line) where
    module _ (more : line < line_count image) (said : ContentsLine) (e : said ≡ line_at image line) where
      pub not_before_next : (said.kind ≡ kind → ⊥) → NotBefore image kind (line + 1)
      unfolding body_of sections_from
      not_before_next n =
          let other : kind ≡ kind_at image line → ⊥ = λ same. n (rw e (sym same)) in
          record { later = rw (one_left (line_count image) line more, ne_eqb kind (kind_at image line) other) at k.later }

      pub kind_here : said.kind ≡ kind → IsLineOf kind image line
      unfolding body_of sections_from
      kind_here same =
          let this : kind ≡ kind_at image line = sym same ∙ rw e in
          record { there = more; holds = sym (rw (one_left (line_count image) line more, eq-eqb kind (kind_at image line) this) at k.later) }

    pub kind_nowhere : line_count image ≤ line → HasNoLine kind image
    unfolding body_of sections_from
    kind_nowhere end = record { absent = sym (rw (none_left (line_count image) line end) at k.later) }

-- ---- where a panel accepts

kind_added : (line : ℕ) (image : List ℕ) → FirstKindsPresent image line → present_verdict (line + 1) (sections image) ≡ Ok tt
    → FirstKindsPresent image (line + 1)
kind_added line image l e = next_kind_added line image l true (sym (asked _ 10 (line + 1) e)) refl

pub one_kind : (image : List ℕ) → layout_verdict image ≡ Ok tt → present_verdict 1 (sections image) ≡ Ok tt → FirstKindsPresent image 1
one_kind image good first = kind_added 0 image (no_kinds_yet image good) first

pub two_kinds : (image : List ℕ) → layout_verdict image ≡ Ok tt → present_verdict 1 (sections image) ≡ Ok tt → present_verdict 2 (sections image) ≡ Ok tt
    → FirstKindsPresent image 2
two_kinds image good first second = kind_added 1 image (one_kind image good first) second

pub ruleset first_kinds = (no_kinds_yet, one_kind, two_kinds)

pub first_three : (image : List ℕ) → layout_verdict image ≡ Ok tt → missing_verdict (sections image) ≡ Ok tt → FirstKindsPresent image 3
unfolding missing_verdict
first_three image good passed =
    let first : present_verdict 1 (sections image) ≡ Ok tt = search (first_passed) in
    let second : present_verdict 2 (sections image) ≡ Ok tt = search (first_passed, next_passed) in
    let third : present_verdict 3 (sections image) ≡ Ok tt = search (first_passed, next_passed) in
    kind_added 2 image (two_kinds image good first second) third

pub three_lines : (image : List ℕ) → layout_verdict image ≡ Ok tt → missing_verdict (sections image) ≡ Ok tt → 3 ≤ line_count image
three_lines image good passed = (first_three image good passed).enough

module _ (level : ℕ) (image : List ℕ) (passed : verdict_of level image ≡ Ok tt) where
  pub layout_good : layout_verdict image ≡ Ok tt
  unfolding verdict_of
  layout_good = search (first_passed, next_passed)

  pub none_missing : missing_verdict (sections image) ≡ Ok tt
  unfolding verdict_of sections_verdict
  none_missing = search (first_passed, next_passed)

pub accepted_first_kinds : (level : ℕ) (image : List ℕ) (v : Verdict) → v ≡ verdict_of level image → v ≡ Ok tt → FirstKindsPresent image 3
accepted_first_kinds level image v e a =
    let passed : verdict_of level image ≡ Ok tt = sym e ∙ a in
    first_three image (layout_good level image passed) (none_missing level image passed)
