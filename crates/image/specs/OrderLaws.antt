-- Laws of the order of kinds: it strictly rises in a good layout, a kind is not among those above it, and so sections are told by their bodies.
use Rattle.std.specs.Prelude.{List, [], ◌∷◌, ◌≡◌, refl, ℕ, zero, suc, ◌+◌, ◌≤◌, ◌<◌, length, Ok}
use Rattle.std.proofs.Math.Option.{none, some}
use Rattle.std.proofs.Common.{sym, ◌∙◌, le_refl, arith, eq-eqb, ne_eqb}
use Rattle.laws.specs.Cases.{split}
use Rattle.image.specs.Contents.{line_count, line_place, kind_at, length_at, lines_verdict}
use Rattle.image.specs.Layout.{layout_verdict}
use Rattle.image.specs.Sections.{Section, sections_from, sections}
use Rattle.image.specs.Find.{body_of}
use Rattle.image.specs.ContentsLaws.{line_passed}
use Rattle.image.specs.LayoutLaws.{layout_passed}

-- kinds strictly rise above `previous`
abbrev pub Ascending : (previous : ℕ) → List Section → Type 0
Ascending previous [] = Unit {0}
Ascending previous (s ∷ ss) = (previous < s.kind) × Ascending s.kind ss

lines_ascend : (size : ℕ) (image : List ℕ) (left i previous offset : ℕ) → lines_verdict size image left i previous offset ≡ Ok tt
    → Ascending previous (sections_from image left i)
unfolding sections_from
lines_ascend size image zero i previous offset e = tt
lines_ascend size image (suc left) i previous offset e =
    let p = line_passed size image left i previous offset e in
    (p.right.rises, lines_ascend size image left (i + 1) (kind_at image i) (offset + length_at image i) p.others)

pub sections_ascend : (image : List ℕ) → layout_verdict image ≡ Ok tt → Ascending 0 (sections image)
unfolding sections
sections_ascend image good =
    lines_ascend (length image) image (line_count image) 0 0 (line_place (line_count image)) (layout_passed image good).contents.lines

pub none_below : (previous kind : ℕ) (ss : List Section) → Ascending previous ss → kind ≤ previous → body_of kind ss ≡ none
unfolding body_of
none_below previous kind [] rising h = refl
none_below previous kind (s ∷ ss) rising h =
    rw (ne_eqb kind s.kind (λ e. omega (arith, rising.0))) (none_below s.kind kind ss rising.1 (omega (arith, rising.0)))

-- ---- sections of rising kinds are told by their bodies

module _ (kind : ℕ) (s : Section) (ss : List Section) where
  first_body : kind ≡ s.kind → body_of kind (s ∷ ss) ≡ some s.body
  unfolding body_of
  first_body e = rw (eq-eqb kind s.kind e)

  later_body : s.kind < kind → body_of kind (s ∷ ss) ≡ body_of kind ss
  unfolding body_of
  later_body h = rw (ne_eqb kind s.kind (λ e. omega arith))

-- a section's kind is there
never_none : {X : Type 0} (s : Section) (ss : List Section) → body_of s.kind (s ∷ ss) ≡ none → X
never_none s ss e = let z : ◌≡◌ {A = ℕ} 0 1 = cc (first_body s.kind s ss refl) in absurd (omega arith)

-- where all bodies are the same, the first kind is no lower, and the other sections have the same bodies
module _ (s t : Section) (ss ts : List Section) (rising : Ascending s.kind ss) (rising' : Ascending t.kind ts)
    (same : (kind : ℕ) → body_of kind (s ∷ ss) ≡ body_of kind (t ∷ ts)) where
  no_lower : t.kind ≤ s.kind
  no_lower =
      split t.kind s.kind (λ h. h)
      (λ (h : s.kind < t.kind). never_none s ss (same s.kind ∙ none_below s.kind s.kind (t ∷ ts) (h, rising') (le_refl s.kind)))

  others_same : s.kind ≡ t.kind → (kind : ℕ) → body_of kind ss ≡ body_of kind ts
  others_same e kind =
      split kind s.kind
      (λ (h : kind ≤ s.kind). none_below s.kind kind ss rising h ∙ sym (none_below t.kind kind ts rising' (omega arith)))
      (λ (h : s.kind < kind). sym (later_body kind s ss h) ∙ same kind ∙ later_body kind t ts (omega arith))

pub told_by_bodies : (previous previous' : ℕ) (ss ts : List Section) → Ascending previous ss → Ascending previous' ts
    → ((kind : ℕ) → body_of kind ss ≡ body_of kind ts) → ss ≡ ts
unfolding body_of
told_by_bodies previous previous' [] [] rising rising' same = refl
told_by_bodies previous previous' [] (t ∷ ts) rising rising' same = never_none t ts (sym (same t.kind))
told_by_bodies previous previous' (s ∷ ss) [] rising rising' same = never_none s ss (same s.kind)
told_by_bodies previous previous' (s ∷ ss) (t ∷ ts) rising rising' same =
    let low = no_lower s t ss ts rising.1 rising'.1 same in
    let high = no_lower t s ts ss rising'.1 rising.1 (λ kind. sym (same kind)) in
    let e : s.kind ≡ t.kind = omega arith in
    let body : s.body ≡ t.body = cc (first_body s.kind s ss refl, same s.kind, first_body s.kind t ts e) in
    let others = told_by_bodies s.kind t.kind ss ts rising.1 rising'.1 (others_same s t ss ts rising.1 rising'.1 same e) in
    λ i. record { kind = e i; body = body i } ∷ others i
