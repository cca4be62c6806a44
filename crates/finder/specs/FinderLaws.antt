-- One law for each way out of the finder's functions.
use Rattle.std.specs.Prelude.{List, [], ◌≡◌, refl, ℕ, ◌+◌, ◌-◌, ◌≤◌, ◌<◌, min, length, take, drop, is_some, Err, None, Ok, Option, Some}
use Rattle.std.proofs.Common.{sym, ◌∙◌, arith}
use Rattle.std.proofs.Math.Nat.{sub-zero}
use borrow.Author.Tests.{eq-eqb, ne_eqb}
use Rattle.std.specs.Borrow.{Bor}
use Rattle.numbers.specs.Slices.{IsPart}
use Rattle.refusals.specs.declared.Refusal.{Refusal}
use Rattle.refusals.specs.Answers.{Verdict}
use Rattle.image.specs.Contents.{line_count, kind_at}
use Rattle.image.specs.Layout.{layout_verdict}
use Rattle.contents.specs.declared.ContentsLine.{ContentsLine}
use Rattle.contents.specs.Lines.{line_at}
use Rattle.laws.specs.Loops.{one_left, none_left}
use Rattle.image.specs.Find.{found, found_offset, is_there, or_else, Found}
use Rattle.finder.specs.declared.Place.{Place}
use Rattle.finder.specs.Places.{place_at, stated_from, stated_place, placed, start_of, length_of}
use Rattle.finder.specs.PlacesLaws.{body_said, IsPlace, stated_is_place, ill_is_nowhere, only_place, found_is_place}

-- ---- the loop over the lines

-- the first i lines are of other kinds, so those left decide
pub record LinesLeftDecide (image : List ℕ) (kind count i : ℕ) : Type 0 where
  pub rest : stated_from image (count - i) i kind ≡ stated_place image kind

pub looking_first : (image : List ℕ) (kind count : ℕ) → count ≡ line_count image → LinesLeftDecide image kind count 0
looking_first image kind count c = record { rest = rw (sub-zero count, c) }

module _ (image : List ℕ) (kind count i : ℕ) (l : LinesLeftDecide image kind count i) where
  module _ (line : ContentsLine) (e : line ≡ line_at image i) (more : i < count) where
    pub stated_here : line.kind ≡ kind → Some (place_at line.offset line.length) ≡ stated_place image kind
    unfolding stated_from
    stated_here f = rw e (rw (one_left count i more, eq-eqb kind (kind_at image i) (sym f ∙ rw e)) at l.rest)

    pub looking_more : (line.kind ≡ kind → ⊥) → LinesLeftDecide image kind count (i + 1)
    unfolding stated_from
    looking_more n = record { rest = rw (one_left count i more, ne_eqb kind (kind_at image i) (λ q. n (rw e (sym q)))) at l.rest }

  pub stated_nowhere : count ≤ i → None ≡ stated_place image kind
  unfolding stated_from
  stated_nowhere end = rw (none_left count i end) at l.rest

-- ---- places, parts, and yes or no

module _ (image r : Bor (List ℕ)) (place : Option Place) where
  pub part_there : (p : Place) → place ≡ Some p → IsPart image r p.offset p.length → IsPart image r (start_of place) (length_of place)
  part_there p e h = rw e h

  pub part_nowhere : place ≡ None → IsPart image r 0 0 → IsPart image r (start_of place) (length_of place)
  part_nowhere e p = rw e p

module _ (image : List ℕ) (kind : ℕ) (verdict : Verdict) (v : verdict ≡ layout_verdict image) where
  pub place_good : (place : Option Place) → verdict ≡ Ok tt → place ≡ stated_place image kind → place ≡ placed (found_offset image kind) (found image kind)
  place_good place e p = p ∙ only_place image kind (stated_place image kind) (stated_is_place image kind (sym v ∙ e))

  pub place_ill : (q : Refusal) → verdict ≡ Err q → None ≡ placed (found_offset image kind) (found image kind)
  place_ill q e = only_place image kind None (ill_is_nowhere image kind q (sym v ∙ e))

part_holds : (image : List ℕ) (kind : ℕ) (place : Option Place) → IsPlace image kind place
    → take (length_of place) (drop (start_of place) image) ≡ or_else [] (found image kind)
part_holds image kind (Some place) p = rw p.body_is
part_holds image kind None p = rw p.body_is

part_starts : (image : List ℕ) (kind : ℕ) (place : Option Place) → IsPlace image kind place
    → min (start_of place) (length image) ≡ or_else 0 (found_offset image kind)
part_starts image kind (Some place) p = rw p.offset_is (omega (arith, p.inside))
part_starts image kind None p = rw p.offset_is (omega arith)

pub part_found : (image r : Bor (List ℕ)) (kind : ℕ) (place : Option Place) → place ≡ placed (found_offset image.now kind) (found image.now kind)
    → IsPart image r (start_of place) (length_of place) → Found image r kind
part_found image r kind place e p =
    let there = found_is_place image.now kind place e in
    record {
      holds = p.holds ∙ part_holds image.now kind place there;
      block = p.block;
      place = p.place ∙ rw (part_starts image.now kind place there);
    }

-- so in a good layout the part at a stated place is what is found
pub stated_found : (image r : Bor (List ℕ)) (kind : ℕ) (place : Option Place) → layout_verdict image.now ≡ Ok tt → place ≡ stated_place image.now kind
    → IsPart image r (start_of place) (length_of place) → Found image r kind
stated_found image r kind place good e p = part_found image r kind place (place_good image.now kind (Ok tt) (sym good) place refl e) p

pub there_exactly : (image : List ℕ) (kind : ℕ) (place : Option Place) → place ≡ placed (found_offset image kind) (found image kind)
    → is_some place ≡ is_there (found image kind)
there_exactly image kind place p = rw (found_is_place image kind place p).body_is (said place)
  where
    said : (p : Option Place) → is_some p ≡ is_there (body_said image p)
    said (Some p) = refl
    said None = refl

pub ruleset loop_laws = (looking_first, stated_here, looking_more, stated_nowhere)
