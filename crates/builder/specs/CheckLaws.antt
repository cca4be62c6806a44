-- The builder's checks: what their loops keep.
use Rattle.std.specs.Prelude.{◌≡◌, refl, Bool, true, false, not, ◌&&◌, List, ◌∷◌, ℕ, ◌+◌, ◌-◌, ◌≤◌, ◌<◌, leb, ltb, eqb, length, drop, get_or}
use Rattle.std.proofs.Math.Path.{sym}
use Rattle.std.proofs.Common.{◌∙◌, arith, add-one, drop-cons, drop_of_length-le}
use borrow.Author.Tests.{lt-ltb, le-ltb, le-leb, lt-leb, eq-eqb, ne_eqb, eqb-true, eqb-false, leb-true, not-false}
use Rattle.limits.specs.Limits.{most_lines}
use Rattle.laws.specs.Cases.{split, decide, both_left, both_right}
use Rattle.builder.specs.declared.KindAndLength.{KindAndLength}
use Rattle.builder.specs.Build.{kinds_rise, lengths_total}
use Rattle.builder.specs.Lines.{no_line}
use Rattle.builder.specs.BuildLaws.{lines_right}

-- line i, and those after it
pub lines_left : (lines : List KindAndLength) (i : ℕ) (line : KindAndLength) → line ≡ get_or lines i no_line → i < length lines
    → drop i lines ≡ line ∷ drop (i + 1) lines
lines_left lines i line e k = rw (e, add-one i) (drop-cons lines i no_line k)

pub total_left : (lines : List KindAndLength) (i : ℕ) (line : KindAndLength) → line ≡ get_or lines i no_line → i < length lines
    → lengths_total (drop i lines) ≡ line.length + lengths_total (drop (i + 1) lines)
unfolding lengths_total
total_left lines i line e k = rw (lines_left lines i line e k)

-- ---- 18

-- the kinds up to line i rise to `previous`, so it and those left decide
pub record KindsRiseBefore (lines : List KindAndLength) (previous i : ℕ) : Type 0 where
  pub rest : leb previous 255 && kinds_rise previous (drop i lines) ≡ kinds_rise 0 lines

pub rising_first : (lines : List KindAndLength) → KindsRiseBefore lines 0 0
rising_first lines = record { rest = refl }

-- where the greater of two is at most 255, so is the other
greater_decides : (a b : ℕ) (rest : Bool) → a < b → leb a 255 && (leb b 255 && rest) ≡ leb b 255 && rest
greater_decides a b rest h =
    split b 255
    (λ (k : b ≤ 255). let l : a ≤ 255 = omega arith in rw (le-leb a 255 l))
    (λ (k : 255 < b). rw (lt-leb b 255 k) (never_both (leb a 255)))
  where
    never_both : (t : Bool) → t && false ≡ false
    never_both true = refl
    never_both false = refl

module _ (lines : List KindAndLength) (previous i : ℕ) (h : KindsRiseBefore lines previous i) where
  module _ (line : KindAndLength) (e : line ≡ get_or lines i no_line) (k : i < length lines) where
    step : leb previous 255 && (ltb previous line.kind && (leb line.kind 255 && kinds_rise line.kind (drop (i + 1) lines))) ≡ kinds_rise 0 lines
    unfolding kinds_rise
    step = rw (lines_left lines i line e k) at h.rest

    pub rising_more : previous < line.kind → KindsRiseBefore lines line.kind (i + 1)
    rising_more l = record { rest = sym (greater_decides previous line.kind _ l) ∙ (rw (lt-ltb previous _ l) at step) }

    pub rising_low : line.kind ≤ previous → false ≡ kinds_rise 0 lines
    rising_low l = decide (leb previous 255) (λ t. rw (t, le-ltb previous _ l) at step) (λ t. rw t at step)

  pub rising_end : length lines ≤ i → leb previous 255 ≡ kinds_rise 0 lines
  unfolding kinds_rise
  rising_end k =
      decide (leb previous 255)
      (λ t. t ∙ (rw (drop_of_length-le lines k, t) at h.rest))
      (λ t. t ∙ (rw t at h.rest))

pub lines_few : (lines : List KindAndLength) (r : Bool) → r ≡ lines_right lines → not r ≡ false → length lines ≤ most_lines
lines_few lines r e t = leb-true (length lines) most_lines (both_left _ _ (both_right (leb 1 (length lines)) _ (sym e ∙ not-false r t)))

-- ---- 19

-- of `bytes` there is `left` when the lengths up to line i are taken off
pub record Adding (lines : List KindAndLength) (bytes left i : ℕ) : Type 0 where
  pub rest : lengths_total lines + left ≡ bytes + lengths_total (drop i lines)

pub adding_first : (lines : List KindAndLength) (bytes : ℕ) → Adding lines bytes bytes 0
adding_first lines bytes = record { rest = omega arith }

module _ (lines : List KindAndLength) (bytes left i : ℕ) (h : Adding lines bytes left i) where
  module _ (line : KindAndLength) (e : line ≡ get_or lines i no_line) (k : i < length lines) where
    pub adding_more : line.length ≤ left → Adding lines bytes (left - line.length) (i + 1)
    adding_more l = let t = total_left lines i line e k in let r = h.rest in record { rest = omega arith }

    pub adding_short : left < line.length → false ≡ eqb (lengths_total lines) bytes
    adding_short l = let t = total_left lines i line e k in let r = h.rest in sym (ne_eqb _ _ (λ (e : lengths_total lines ≡ bytes). omega arith))

  all_taken : length lines ≤ i → lengths_total lines + left ≡ bytes + 0
  unfolding lengths_total
  all_taken k = rw (drop_of_length-le lines k) at h.rest

  pub adding_end : length lines ≤ i → eqb left 0 ≡ eqb (lengths_total lines) bytes
  adding_end k =
      let r = all_taken k in
      decide (eqb left 0)
      (λ e. let z = eqb-true left 0 e in e ∙ sym (eq-eqb (lengths_total lines) bytes (omega arith)))
      (λ e. e ∙ sym (ne_eqb (lengths_total lines) bytes (λ f. eqb-false left 0 e (omega arith))))
