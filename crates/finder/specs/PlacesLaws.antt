-- Laws of places: in a good layout, what the lines say of a kind is what is found, and stands inside the image.
use Rattle.std.specs.Prelude.{List, ◌≡◌, refl, ℕ, zero, suc, ◌+◌, ◌≤◌, ◌<◌, eqb, length, take, drop, Err, None, Ok, Option, Some}
use Rattle.std.proofs.Math.Option.{none, some}
use Rattle.std.proofs.Math.Option as plain
use Rattle.std.proofs.Common.{◌∙◌, add-zero, zero-add, arith, length-drop, length-take-le}
use Rattle.laws.specs.Cases.{decide}
use Rattle.refusals.specs.declared.Refusal.{Refusal}
use Rattle.refusals.specs.Answers.{Verdict}
use Rattle.image.specs.Contents.{line_count, kind_at, offset_at, length_at}
use Rattle.image.specs.Layout.{layout_verdict}
use Rattle.image.specs.LayoutLaws.{body_within}
use Rattle.image.specs.Sections.{sections_from, sections}
use Rattle.image.specs.Find.{body_of, found, offset_from, found_offset}
use Rattle.image.proofs.FindLaws.{found_good, offset_good}
use Rattle.finder.specs.declared.Place.{Place}
use Rattle.finder.specs.Places.{stated_from, stated_place, placed}

-- ---- what a place says

abbrev pub offset_said : Option Place → plain.Option ℕ
offset_said (Some place) = some place.offset
offset_said None = none

abbrev pub body_said : List ℕ → Option Place → plain.Option (List ℕ)
body_said image (Some place) = some (take place.length (drop place.offset image))
body_said image None = none

abbrev pub Inside : List ℕ → Option Place → Type 0
Inside image (Some place) = place.offset + place.length ≤ length image
Inside image None = Unit {0}

offset_stated : (image : List ℕ) (left i kind : ℕ) → offset_from image left i kind ≡ offset_said (stated_from image left i kind)
unfolding offset_from stated_from
offset_stated image zero i kind = refl
offset_stated image (suc left) i kind = decide (eqb kind (kind_at image i)) (λ e. rw e) (λ e. rw e (offset_stated image left (i + 1) kind))

body_stated : (image : List ℕ) (left i kind : ℕ) → body_of kind (sections_from image left i) ≡ body_said image (stated_from image left i kind)
unfolding body_of sections_from stated_from
body_stated image zero i kind = refl
body_stated image (suc left) i kind = decide (eqb kind (kind_at image i)) (λ e. rw e) (λ e. rw e (body_stated image left (i + 1) kind))

-- whatever the layout, what the lines say of a kind is the body of that kind
pub body_said_lem : (image : List ℕ) (kind : ℕ) → body_of kind (sections image) ≡ body_said image (stated_place image kind)
unfolding sections
body_said_lem image kind = body_stated image (line_count image) 0 kind

inside_stated : (image : List ℕ) (left i kind : ℕ) → ((k : ℕ) → k < left → offset_at image (i + k) + length_at image (i + k) ≤ length image)
    → Inside image (stated_from image left i kind)
unfolding stated_from
inside_stated image zero i kind h = tt
inside_stated image (suc left) i kind h =
    decide (eqb kind (kind_at image i))
    (λ e. rw e (rw (add-zero i) at (h 0 (omega arith))))
    (λ e.
    let later : (k : ℕ) → k < left → offset_at image (i + 1 + k) + length_at image (i + 1 + k) ≤ length image =
    λ k l. let same : i + suc k ≡ i + 1 + k = omega arith in rw same at (h (suc k) (omega arith)) in
    rw e (inside_stated image left (i + 1) kind later))

-- ---- what is found, by its place

-- what is found under a kind stands at this place
pub record IsPlace (image : List ℕ) (kind : ℕ) (place : Option Place) : Type 0 where
  pub body_is : found image kind ≡ body_said image place
  pub offset_is : found_offset image kind ≡ offset_said place
  pub inside : Inside image place

module _ (image : List ℕ) (kind : ℕ) where
  -- in a good layout, what the lines say
  pub stated_is_place : layout_verdict image ≡ Ok tt → IsPlace image kind (stated_place image kind)
  stated_is_place e =
      record {
        body_is = found_good image kind e ∙ body_said_lem image kind;
        offset_is = offset_good image kind e ∙ offset_stated image (line_count image) 0 kind;
        inside = inside_stated image (line_count image) 0 kind (λ (k : ℕ) (h : k < line_count image). rw (zero-add k) (body_within image e k h));
      }

  pub ill_is_nowhere : (q : Refusal) → layout_verdict image ≡ Err q → IsPlace image kind None
  unfolding found found_offset
  ill_is_nowhere q e = record { body_is = rw e; offset_is = rw e; inside = tt }

  -- and no other
  pub only_place : (place : Option Place) → IsPlace image kind place → place ≡ placed (found_offset image kind) (found image kind)
  only_place (Some place) p =
      let long = length-take-le place.length (drop place.offset image) (omega (arith, p.inside, length-drop place.offset image)) in
      rw (p.offset_is, p.body_is, long)
  only_place None p = rw p.offset_is

  pub found_is_place : (place : Option Place) → place ≡ placed (found_offset image kind) (found image kind) → IsPlace image kind place
  found_is_place place p = go (layout_verdict image) refl
    where
      go : (v : Verdict) → layout_verdict image ≡ v → IsPlace image kind place
      go (Ok tt) e = rw (p, ← only_place (stated_place image kind) (stated_is_place e)) (stated_is_place e)
      go (Err q) e = rw (p, ← only_place None (ill_is_nowhere q e)) (ill_is_nowhere q e)
