-- What a kind's contents line gives: the body of a kind among an image's sections is document 01's, the bytes that the line states.
use Rattle.std.specs.Prelude.{◌≡◌, refl, Bool, true, false, cond, List, [], eqb, Ok}
use Rattle.std.proofs.Common.{sym, ap, ◌∙◌}
use Rattle.std.proofs.Math.Option.{Option, none, some}
use Prim.Native.Nat.{ℕ, zero, suc, ◌+◌, ◌≤◌, ◌<◌}
use native.Mathlib.Omega.{arith}
use borrow.Author.Tests.{eqb-true, eq-eqb, ne_eqb}
use Rattle.paper.specs.Words.{Not}
use Rattle.paper.specs.Image.{HasKind, HasBody}
use Rattle.laws.specs.Cases.{split, decide}
use Rattle.image.specs.Contents.{line_count, kind_at}
use Rattle.image.specs.Layout.{body_at, layout_verdict}
use Rattle.image.specs.Sections.{sections_from, sections}
use Rattle.image.specs.Find.{body_of, is_there, or_else}
use Rattle.image.specs.OrderLaws.{Ascending, sections_ascend}
use Rattle.agreement.specs.TestsLaws.{Passes}
use Rattle.agreement.specs.FieldsAgree.{number_same}

-- kinds after a line are above those before it
pub later_above : (image : List ℕ) (left i previous line : ℕ) → Ascending previous (sections_from image left i) → i ≤ line → line < i + left
    → previous < kind_at image line
unfolding sections_from
later_above image zero i previous line rising h k = absurd (omega arith)
later_above image (suc left) i previous line rising h k =
    split line i
    (λ (l : line ≤ i). let same : line ≡ i = omega arith in rw same rising.0)
    (λ (l : i < line).
    let up = later_above image left (i + 1) (kind_at image i) line rising.1 (omega arith) (omega arith) in
    omega (arith, rising.0))

-- ---- what the first line of a kind gives, be it a body or an offset

module _ {A : Type 0} (image : List ℕ) (kind : ℕ) (given : (line : ℕ) → A)
    -- among the lines left from line i on
    (from : (left i : ℕ) → Option A)
    (ends : (i : ℕ) → from 0 i ≡ none)
    (goes_on : (left i : ℕ) → from (suc left) i ≡ cond (eqb kind (kind_at image i)) (some (given i)) (from left (i + 1))) where
  record At (left i : ℕ) (a : A) : Type 0 where
    line : ℕ
    below : line < i + left
    named : kind_at image line ≡ kind
    is : a ≡ given line

  at_of : (left i : ℕ) (a : A) → from left i ≡ some a → At left i a
  at_of zero i a e = let n : ◌≡◌ {A = ℕ} 0 1 = cc (ends i) in absurd (omega arith)
  at_of (suc left) i a e =
      decide (eqb kind (kind_at image i))
      (λ (t : eqb kind (kind_at image i) ≡ true).
      let same : given i ≡ a = cc (rw (goes_on left i, t) at e) in
      record { line = i; below = omega arith; named = sym (eqb-true kind (kind_at image i) t); is = sym same })
      (λ (f : eqb kind (kind_at image i) ≡ false).
      let at = at_of left (i + 1) a (rw (goes_on left i, f) at e) in
      record { line = at.line; below = omega (arith, at.below); named = at.named; is = at.is })

  of_at : (left i previous line : ℕ) → Ascending previous (sections_from image left i) → i ≤ line → line < i + left → kind_at image line ≡ kind
      → from left i ≡ some (given line)
  unfolding sections_from
  of_at zero i previous line rising h k e = absurd (omega arith)
  of_at (suc left) i previous line rising h k e =
      split line i
      (λ (l : line ≤ i).
      let same : line ≡ i = omega arith in
      let named : kind ≡ kind_at image i = rw same at (sym e) in
      rw (goes_on left i, eq-eqb kind (kind_at image i) named, same))
      (λ (l : i < line).
      let up = later_above image left (i + 1) (kind_at image i) line rising.1 (omega arith) (omega arith) in
      rw (goes_on left i, ne_eqb kind (kind_at image i) (λ q. omega arith)) (of_at left (i + 1) (kind_at image i) line rising.1 (omega arith) (omega arith) e))

  -- what is given is given by a line, whatever the layout,
  pub given_by_line : (a : A) → from (line_count image) 0 ≡ some a → (h : HasKind image kind) × (a ≡ given h.line)
  given_by_line a e =
      let at = at_of (line_count image) 0 a e in
      (record { line = at.line; there = rw number_same (omega (arith, at.below)); named = rw number_same at.named }, at.is)

  -- and a line gives it where kinds rise
  pub line_gives : layout_verdict image ≡ Ok tt → (h : HasKind image kind) → from (line_count image) 0 ≡ some (given h.line)
  line_gives good h =
      of_at (line_count image) 0 0 h.line (unfold sections in sections_ascend image good) (omega arith) (omega (arith, rw number_same at h.there))
      (rw number_same at h.named)

-- ---- bodies

module _ (image : List ℕ) (kind : ℕ) where
  abbrev body_from : (left i : ℕ) → Option (List ℕ)
  body_from left i = body_of kind (sections_from image left i)

  -- a body that is found is one that the image has, whatever the layout,
  pub found_is_had : (body : List ℕ) → body_of kind (sections image) ≡ some body → HasBody image kind body
  unfolding sections sections_from body_of
  found_is_had body e =
      let g = given_by_line image kind (body_at image) body_from (λ i. refl) (λ left i. refl) body e in
      record { has = g.0; is = rw number_same g.1 }

  pub none_had : Not (HasKind image kind) → body_of kind (sections image) ≡ none
  none_had f = by (body_of kind (sections image)) refl
    where
      by : (o : Option (List ℕ)) → body_of kind (sections image) ≡ o → o ≡ none
      by none e = refl
      by (some body) e = absurd (f (found_is_had body e).has)

  -- and the other way round in a good layout, whose kinds rise
  module _ (good : layout_verdict image ≡ Ok tt) where
    kind_found : (h : HasKind image kind) → body_of kind (sections image) ≡ some (body_at image h.line)
    unfolding sections sections_from body_of
    kind_found h = line_gives image kind (body_at image) body_from (λ i. refl) (λ left i. refl) good h

    pub had_is_found : (body : List ℕ) → HasBody image kind body → body_of kind (sections image) ≡ some body
    had_is_found body h = kind_found h.has ∙ ap some (sym (rw number_same at h.is))

    pub body_there : HasKind image kind → HasBody image kind (or_else [] (body_of kind (sections image)))
    body_there h = let e = kind_found h in rw e (found_is_had (body_at image h.line) e)

    pub none_found : body_of kind (sections image) ≡ none → Not (HasKind image kind)
    none_found e h = let z : ◌≡◌ {A = ℕ} 0 1 = cc (e, kind_found h) in omega arith

    -- so a kind has one body
    pub body_once : (body body' : List ℕ) → HasBody image kind body → HasBody image kind body' → body ≡ body'
    body_once body body' h h' = cc (had_is_found body h, had_is_found body' h')

    pub there_passes : Passes (is_there (body_of kind (sections image))) (HasKind image kind)
    there_passes = by (body_of kind (sections image)) refl
      where
        by : (o : Option (List ℕ)) → body_of kind (sections image) ≡ o → Passes (is_there o) (HasKind image kind)
        by none e =
            record {
              yes = λ f. let n : ◌≡◌ {A = Bool} true false = cc in let z : ◌≡◌ {A = ℕ} 0 1 = cc in absurd (omega arith);
              no = λ f h. let z : ◌≡◌ {A = ℕ} 0 1 = cc (e, kind_found h) in omega arith;
            }
        by (some body) e =
            record {
              yes = λ f. (found_is_had body e).has;
              no = λ f h. let n : ◌≡◌ {A = Bool} true false = cc in let z : ◌≡◌ {A = ℕ} 0 1 = cc in omega arith;
            }
