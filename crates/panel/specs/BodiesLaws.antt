-- The bodies judged in one walk over the sections: where kinds rise, it comes to the bodies of the kinds in their order.
use Rattle.std.specs.Prelude.{◌≡◌, true, false, cond, ℕ, ◌≤◌, ◌<◌, Ok}
use Rattle.std.proofs.Math.Path.{refl, sym}
use Rattle.std.proofs.Common.{ap, ◌∙◌, arith}
use mathlib.Core.List.{List, [], ◌∷◌}
use Rattle.std.proofs.Math.Option.{none, some}
use borrow.Author.Tests.{eqb-true, eq-eqb, ne_eqb}
use Rattle.std.proofs.Math.Dec.{eqb}
use Rattle.laws.specs.Cases.{split, decide, never}
use Rattle.refusals.specs.Answers.{Verdict}
use Rattle.refusals.specs.Refusals.{and_then}
use Rattle.image.specs.Contents.{kind_at}
use Rattle.image.specs.Layout.{body_at}
use Rattle.image.specs.Sections.{Section}
use Rattle.image.specs.Find.{body_of}
use Rattle.image.specs.OrderLaws.{Ascending, none_below}
use Rattle.panel.specs.Levels.{is_among, kinds_of_level, knows}
use Rattle.panel.specs.Verdict.{kind_verdict, kinds_verdict, bodies_verdict}

-- a body, where its kind is among these
abbrev among_verdict : (kinds : List ℕ) → (kind : ℕ) → (body : List ℕ) → Verdict
among_verdict kinds kind body = cond (is_among kind kinds) (kind_verdict kind body) (Ok tt)

-- the body of a line, where the level knows its kind
abbrev pub line_verdict : (level : ℕ) → (image : List ℕ) → (line : ℕ) → Verdict
line_verdict level image line = cond (knows level (kind_at image line)) (kind_verdict (kind_at image line) (body_at image line)) (Ok tt)

-- section by section
unfoldable pub section_by_section : (kinds : List ℕ) → List Section → Verdict
section_by_section kinds [] = Ok tt
section_by_section kinds (s ∷ ss) = and_then (among_verdict kinds s.kind s.body) (section_by_section kinds ss)

-- kinds strictly rise above `previous`
abbrev Rise : (previous : ℕ) → List ℕ → Type 0
Rise previous [] = Unit {0}
Rise previous (kind ∷ kinds) = (previous < kind) × Rise kind kinds

not_among : (previous kind : ℕ) (kinds : List ℕ) → Rise previous kinds → kind ≤ previous → is_among kind kinds ≡ false
not_among previous kind [] rise h = refl
not_among previous kind (k ∷ kinds) rise h = rw (ne_eqb kind k (λ e. omega (arith, rise.0)), not_among k kind kinds rise.1 (omega (arith, rise.0)))

module _ (s : Section) (ss : List Section) where
  body_here : body_of s.kind (s ∷ ss) ≡ some s.body
  unfolding body_of
  body_here = rw (eq-eqb s.kind s.kind refl)

  body_later : (kind : ℕ) → (s.kind ≡ kind → ⊥) → body_of kind (s ∷ ss) ≡ body_of kind ss
  unfolding body_of
  body_later kind n = rw (ne_eqb kind s.kind (λ e. n (sym e)))

  -- kinds above a section's own do not meet it
  kinds_later : (previous : ℕ) (kinds : List ℕ) → Rise previous kinds → s.kind ≤ previous → kinds_verdict kinds (s ∷ ss) ≡ kinds_verdict kinds ss
  unfolding kinds_verdict
  kinds_later previous [] rise h = refl
  kinds_later previous (k ∷ kinds) rise h =
      rw (body_later k (λ e. omega (arith, rise.0)), kinds_later k kinds rise.1 (omega (arith, rise.0)))

  -- the lowest of the sections is judged first
  lowest_first : (previous : ℕ) (kinds : List ℕ) → Rise previous kinds → Ascending s.kind ss
      → kinds_verdict kinds (s ∷ ss) ≡ and_then (among_verdict kinds s.kind s.body) (kinds_verdict kinds ss)
  unfolding kinds_verdict
  lowest_first previous [] rise above = refl
  lowest_first previous (k ∷ kinds) rise above =
      split k s.kind
      (λ (h : k ≤ s.kind).
      let absent : body_of k ss ≡ none = none_below s.kind k ss above h in
      decide (eqb s.kind k)
      (λ (e : eqb s.kind k ≡ true).
      let same : k ≡ s.kind = sym (eqb-true s.kind k e) in
      let here : body_of k (s ∷ ss) ≡ some s.body = rw same body_here in
      let known : kind_verdict s.kind s.body ≡ kind_verdict k s.body = rw same in
      rw (here, absent, e, known, kinds_later k kinds rise.1 (omega arith)))
      (λ (e : eqb s.kind k ≡ false).
      let differs : s.kind ≡ k → ⊥ = λ same. never (sym e ∙ eq-eqb s.kind k same) in
      rw (body_later k differs, absent, e) (lowest_first k kinds rise.1 above)))
      (λ (h : s.kind < k).
      let none = not_among s.kind s.kind (k ∷ kinds) (h, rise.1) (omega arith) in
      rw (none) (kinds_later s.kind (k ∷ kinds) (h, rise.1) (omega arith)))

kinds_absent : (kinds : List ℕ) → kinds_verdict kinds [] ≡ Ok tt
unfolding kinds_verdict body_of
kinds_absent [] = refl
kinds_absent (k ∷ kinds) = kinds_absent kinds

-- where both rise
pub kinds_in_order : (kinds : List ℕ) → Rise 0 kinds → (previous : ℕ) (ss : List Section) → Ascending previous ss
    → kinds_verdict kinds ss ≡ section_by_section kinds ss
unfolding section_by_section
kinds_in_order kinds rise previous [] rising = kinds_absent kinds
kinds_in_order kinds rise previous (s ∷ ss) rising =
    lowest_first s ss 0 kinds rise rising.1
    ∙ ap (and_then (among_verdict kinds s.kind s.body)) (kinds_in_order kinds rise s.kind ss rising.1)

-- the kinds of each level rise
levels_rise : (level : ℕ) → Rise 0 (kinds_of_level level)
levels_rise level =
    decide (eqb level 1)
    (λ e. rw e (omega arith, (omega arith, (omega arith, tt))))
    (λ e.
    decide (eqb level 2)
    (λ f. rw (e, f) (omega arith, (omega arith, (omega arith, (omega arith, (omega arith, tt))))))
    (λ f. rw (e, f) tt))

pub bodies_in_order : (level : ℕ) (ss : List Section) → Ascending 0 ss → bodies_verdict level ss ≡ section_by_section (kinds_of_level level) ss
bodies_in_order level ss rising = kinds_in_order (kinds_of_level level) (levels_rise level) 0 ss rising
