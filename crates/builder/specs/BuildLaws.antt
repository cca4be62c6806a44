-- Lines and the sections that they cut the bodies into; what an accepted list of lines keeps to.
use Rattle.std.specs.Prelude.{◌≡◌, refl, Bool, true, ◌&&◌, List, [], ◌∷◌, ℕ, zero, suc, ◌≤◌, leb, ltb, eqb, length, drop, get_or, Ok}
use Rattle.std.proofs.Common.{ap, arith, length-append, length-drop, take-append-drop, length-take-le}
use borrow.Author.Tests.{leb-true, ltb-true, eqb-true, le-leb, lt-ltb, eq-eqb}
use Rattle.std.proofs.Math.Seq.{take-append_seam, drop-append_seam}
use Rattle.limits.specs.Limits.{largest_image, most_lines}
use Rattle.laws.specs.Cases.{both_left, both_right}
use Rattle.refusals.specs.Refusals.{ask}
use Rattle.refusals.specs.VerdictLaws.{asked, first_passed, next_passed}
use Rattle.image.specs.Sections.{Section, bodies_of, Rising}
use Rattle.builder.specs.declared.KindAndLength.{KindAndLength}
use Rattle.builder.specs.Build.{sections_of, kinds_rise, lengths_total, image_length, build_verdict}
use Rattle.builder.specs.Lines.{lines_of, no_line}

-- ---- from lines to sections

pub sections_counted : (lines : List KindAndLength) (bodies : List ℕ) → length (sections_of lines bodies) ≡ length lines
unfolding sections_of
sections_counted [] bodies = refl
sections_counted (l ∷ lines) bodies = ap suc (sections_counted lines (drop l.length bodies))

pub bodies_whole : (lines : List KindAndLength) (bodies : List ℕ) → lengths_total lines ≡ length bodies → bodies_of (sections_of lines bodies) ≡ bodies
unfolding bodies_of sections_of lengths_total
bodies_whole [] [] e = refl
bodies_whole [] (b ∷ bodies) e = absurd (omega arith)
bodies_whole (l ∷ lines) bodies e =
    let rest = bodies_whole lines (drop l.length bodies) (omega (arith, length-drop l.length bodies)) in
    rw rest (take-append-drop l.length bodies)

pub sections_rise : (previous : ℕ) (lines : List KindAndLength) (bodies : List ℕ) → kinds_rise previous lines ≡ true → Rising previous (sections_of lines bodies)
unfolding kinds_rise sections_of
sections_rise previous [] bodies e = tt
sections_rise previous (l ∷ lines) bodies e =
    let rest = both_right (ltb previous l.kind) _ e in (
      ltb-true previous l.kind (both_left _ _ e),
      leb-true l.kind 255 (both_left _ _ rest),
      sections_rise l.kind lines (drop l.length bodies) (both_right (leb l.kind 255) _ rest),
    )

pub line_small : (previous : ℕ) (lines : List KindAndLength) (i : ℕ) → kinds_rise previous lines ≡ true → (get_or lines i no_line).kind ≤ 255
unfolding kinds_rise
line_small previous [] i e = omega arith
line_small previous (l ∷ lines) zero e = leb-true l.kind 255 (both_left _ _ (both_right (ltb previous l.kind) _ e))
line_small previous (l ∷ lines) (suc i) e = line_small l.kind lines i (both_right (leb l.kind 255) _ (both_right (ltb previous l.kind) _ e))

-- ---- and back

pub lines_counted : (ss : List Section) → length (lines_of ss) ≡ length ss
unfolding lines_of
lines_counted [] = refl
lines_counted (s ∷ ss) = ap suc (lines_counted ss)

pub lines_total : (ss : List Section) → lengths_total (lines_of ss) ≡ length (bodies_of ss)
unfolding lines_of lengths_total bodies_of
lines_total [] = refl
lines_total (s ∷ ss) = omega (arith, lines_total ss, length-append s.body (bodies_of ss))

pub lines_rise : (previous : ℕ) (ss : List Section) → Rising previous ss → kinds_rise previous (lines_of ss) ≡ true
unfolding kinds_rise lines_of
lines_rise previous [] r = refl
lines_rise previous (s ∷ ss) r = rw (lt-ltb previous s.kind r.0, le-leb s.kind 255 r.1) (lines_rise s.kind ss r.2)

pub sections_again : (ss : List Section) → sections_of (lines_of ss) (bodies_of ss) ≡ ss
unfolding sections_of lines_of bodies_of
sections_again [] = refl
sections_again (s ∷ ss) = rw (take-append_seam s.body (bodies_of ss), drop-append_seam s.body (bodies_of ss), sections_again ss)

pub lines_again : (lines : List KindAndLength) (bodies : List ℕ) → lengths_total lines ≡ length bodies → lines_of (sections_of lines bodies) ≡ lines
unfolding sections_of lines_of lengths_total
lines_again [] bodies e = refl
lines_again (l ∷ lines) bodies e =
    rw (
      length-take-le l.length bodies (omega arith),
      lines_again lines (drop l.length bodies) (omega (arith, length-drop l.length bodies)),
    )

-- ---- 18, 19 and 17 passed

-- what 18 asks, and what 19 asks
abbrev pub lines_right : List KindAndLength → Bool
lines_right lines = leb 1 (length lines) && (leb (length lines) most_lines && kinds_rise 0 lines)

abbrev pub lengths_right : List KindAndLength → (bodies : List ℕ) → Bool
lengths_right lines bodies = eqb (lengths_total lines) (length bodies) && leb (image_length lines bodies) largest_image

-- what lines and bodies are for which none of 18, 19 and 17 is given
pub record AcceptedLines (size : ℕ) (lines : List KindAndLength) (bodies : List ℕ) : Type 0 where
  pub some : 1 ≤ length lines
  pub few : length lines ≤ most_lines
  pub rise : kinds_rise 0 lines ≡ true
  pub whole : lengths_total lines ≡ length bodies
  pub limit : image_length lines bodies ≤ largest_image
  pub room : image_length lines bodies ≤ size

module _ (size : ℕ) (lines : List KindAndLength) (bodies : List ℕ) where
  pub passed : build_verdict size lines bodies ≡ Ok tt → AcceptedLines size lines bodies
  unfolding build_verdict
  passed e =
      let first = asked (lines_right lines) 18 0 (first_passed _ _ e) in
      let rest = next_passed (ask (lines_right lines) 18 0) _ e in
      let second = asked (lengths_right lines bodies) 19 0 (first_passed _ _ rest) in
      let third = next_passed (ask (lengths_right lines bodies) 19 0) _ rest in
      let counted = both_right (leb 1 (length lines)) _ first in
      record {
        some = leb-true 1 (length lines) (both_left _ _ first);
        few = leb-true (length lines) most_lines (both_left _ _ counted);
        rise = both_right (leb (length lines) most_lines) _ counted;
        whole = eqb-true (lengths_total lines) (length bodies) (both_left _ _ second);
        limit = leb-true (image_length lines bodies) largest_image (both_right (eqb (lengths_total lines) (length bodies)) _ second);
        room = leb-true (image_length lines bodies) size (asked _ 17 0 third);
      }

  pub passes : AcceptedLines size lines bodies → build_verdict size lines bodies ≡ Ok tt
  unfolding build_verdict
  passes p =
      rw (
        le-leb 1 (length lines) p.some,
        le-leb (length lines) most_lines p.few,
        p.rise,
        eq-eqb (lengths_total lines) (length bodies) p.whole,
        le-leb (image_length lines bodies) largest_image p.limit,
        le-leb (image_length lines bodies) size p.room,
      )
