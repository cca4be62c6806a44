-- Laws of the builder's table: each test of the builder's definition fails exactly where document 01 gives 18, 19 and 17.
use Rattle.std.specs.Prelude.{true, false, List, [], ◌∷◌, ◌⊎◌, ◌≡◌, ℕ, zero, suc, ◌+◌, ◌*◌, ◌≤◌, ◌<◌, leb, length, get_or}
use Rattle.std.proofs.Math.Bool.{and_assoc}
use Rattle.std.proofs.Math.Logic.{inl, inr}
use Rattle.std.proofs.Common.{⊎_elim, sym, add-one, arith}
use borrow.Author.Tests.{leb-true, eqb-true, eqb-false}
use Rattle.std.proofs.Math.Dec.{eqb}
use Rattle.limits.specs.Limits.{largest_image, most_lines}
use Rattle.paper.specs.Words.{Not, Outside}
use Rattle.paper.specs.Fields.{sum_from}
use Rattle.paper.specs.Table.{row}
use Rattle.paper.specs.Builder.{KindWrong, builder_table}
use Rattle.laws.specs.Cases.{decide, never, both_left}
use Rattle.refusals.specs.Refusals.{ask, and_then}
use Rattle.refusals.specs.VerdictLaws.{asked}
use Rattle.builder.specs.declared.KindAndLength.{KindAndLength}
use Rattle.builder.specs.Build.{kinds_rise, image_length, build_verdict}
use Rattle.builder.specs.Lines.{paired, lines_given}
use Rattle.builder.specs.BuildLaws.{lines_right, lengths_right}
use Rattle.builder.specs.GivenLaws.{given_uneven, given_some, given_counted, given_total, lines_first}
use Rattle.agreement.specs.TableLaws.{Gives, Single, row_once, judged_alone, gives_then}
use Rattle.agreement.specs.TestsLaws.{Fails, fails_le, fails_lt, fails_eq, fails_and, fails_outside, fails_as, ask_judges}
use Rattle.agreement.specs.FieldsAgree.{sum_of_all}

-- ---- 18: the kinds

-- the kind of line i is not within 1 to 255, or not above that before it, which is `previous` for the first
abbrev WrongAfter : (previous : ℕ) (kinds : List ℕ) (i : ℕ) → Type 0
WrongAfter previous kinds i = Outside 1 255 (get_or kinds i 0) ⊎ (get_or kinds i 0 ≤ get_or (previous ∷ kinds) i 0)

abbrev SomeAfter : (previous : ℕ) (kinds : List ℕ) → Type 0
SomeAfter previous kinds = (i : ℕ) × (i < length kinds) × WrongAfter previous kinds i

first_or_later : (previous k : ℕ) (kinds : List ℕ) (i : ℕ) → i < length (k ∷ kinds) → WrongAfter previous (k ∷ kinds) i
    → (k ≤ previous) ⊎ ((255 < k) ⊎ SomeAfter k kinds)
first_or_later previous k kinds zero h (inl (inl low)) = inl (omega arith)
first_or_later previous k kinds zero h (inl (inr high)) = inr (inl high)
first_or_later previous k kinds zero h (inr falls) = inl falls
first_or_later previous k kinds (suc i) h w = inr (inr (i, omega arith, w))

wrong_first : (previous k : ℕ) (kinds : List ℕ) → (k ≤ previous) ⊎ ((255 < k) ⊎ SomeAfter k kinds) → SomeAfter previous (k ∷ kinds)
wrong_first previous k kinds (inl falls) = (0, omega arith, inr falls)
wrong_first previous k kinds (inr (inl high)) = (0, omega arith, inl (inr high))
wrong_first previous k kinds (inr (inr (i, h, w))) = (suc i, omega arith, w)

rise_fails : (previous : ℕ) (kinds lengths : List ℕ) → length kinds ≡ length lengths
    → Fails (kinds_rise previous (paired kinds lengths)) (SomeAfter previous kinds)
unfolding kinds_rise paired
rise_fails previous [] lengths e = record { bad = λ f. never (sym f); good = λ f (i, h, w). omega arith }
rise_fails previous (k ∷ kinds) [] e = absurd (omega arith)
rise_fails previous (k ∷ kinds) (l ∷ lengths) e =
    fails_as (wrong_first previous k kinds) (λ (i, h, w). first_or_later previous k kinds i h w)
    (fails_and (fails_lt previous k) (fails_and (fails_le k 255) (rise_fails k kinds lengths (omega arith))))

wrong_as : (kinds : List ℕ) (i : ℕ) → WrongAfter 0 kinds i → KindWrong kinds i
wrong_as kinds i (inl o) = inl o
wrong_as kinds zero (inr falls) = inl (inl (omega arith))
wrong_as kinds (suc i) (inr falls) = inr (i, sym (add-one i), falls)

as_wrong : (kinds : List ℕ) (i : ℕ) → KindWrong kinds i → WrongAfter 0 kinds i
as_wrong kinds i (inl o) = inl o
as_wrong kinds i (inr (before, e, falls)) = let next : i ≡ suc before = omega arith in inr (rw next (rw next at falls))

module _ (kinds lengths : List ℕ) where
  abbrev SomeWrong : Type 0
  SomeWrong = (i : ℕ) × (i < length kinds) × KindWrong kinds i

  abbrev LinesWrong : Type 0
  LinesWrong = Not (length kinds ≡ length lengths) ⊎ Outside 1 most_lines (length kinds) ⊎ SomeWrong

  lines_fail : Fails (lines_right (lines_given kinds lengths)) LinesWrong
  unfolding kinds_rise
  lines_fail =
      decide (eqb (length kinds) (length lengths))
      (λ (t : eqb (length kinds) (length lengths) ≡ true).
      let even = eqb-true (length kinds) (length lengths) t in
      let rise : Fails (kinds_rise 0 (paired kinds lengths)) SomeWrong =
      fails_as (λ (i, h, w). (i, h, wrong_as kinds i w)) (λ (i, h, w). (i, h, as_wrong kinds i w)) (rise_fails 0 kinds lengths even) in
      rw (given_counted kinds lengths even, ← lines_first kinds lengths even, ← and_assoc (leb 1 (length kinds)) (leb (length kinds) most_lines) _)
      (fails_as inr (⊎_elim (λ n. absurd (n even)) (λ w. w)) (fails_and (fails_outside 1 most_lines (length kinds)) rise)))
      (λ (f : eqb (length kinds) (length lengths) ≡ false).
      let uneven = eqb-false (length kinds) (length lengths) f in
      rw (given_uneven kinds lengths uneven) (record { bad = λ e. inl uneven; good = λ e. never e }))

-- ---- 18, 19, 17

module _ (size : ℕ) (kinds lengths bodies : List ℕ) where
  abbrev lines : List KindAndLength
  lines = lines_given kinds lengths

  abbrev LengthsWrong : Type 0
  LengthsWrong = Not (sum_from (length lengths) lengths 0 ≡ length bodies) ⊎ (largest_image < 2 + 8 * length kinds + length bodies)

  abbrev TooLong : Type 0
  TooLong = size < 2 + 8 * length kinds + length bodies

  module _ (e : length kinds ≡ length lengths) where
    lengths_fail : Fails (lengths_right lines bodies) LengthsWrong
    lengths_fail =
        rw (given_total kinds lengths e, given_counted kinds lengths e, sum_of_all lengths)
        (fails_and (fails_eq _ (length bodies)) (fails_le (2 + 8 * length kinds + length bodies) largest_image))

    room_fails : Fails (leb (image_length lines bodies) size) TooLong
    room_fails = rw (given_counted kinds lengths e) (fails_le (2 + 8 * length kinds + length bodies) size)

  pub builder_gives : Gives (builder_table size kinds lengths bodies) (build_verdict size lines bodies)
  unfolding build_verdict
  builder_gives =
      let first = ask (lines_right lines) 18 0 in
      let second = ask (lengths_right lines bodies) 19 0 in
      let third = ask (leb (image_length lines bodies) size) 17 0 in
      gives_then (row 18 0 (LinesWrong kinds lengths)) (row 19 0 LengthsWrong ∷ row 17 0 TooLong ∷ []) first (and_then second third)
      (ask_judges 18 0 (lines_right lines) (lines_fail kinds lengths))
      (λ passed.
      let e = given_some kinds lengths (leb-true 1 (length lines) (both_left _ _ (asked (lines_right lines) 18 0 passed))) in
      gives_then (row 19 0 LengthsWrong) (row 17 0 TooLong ∷ []) second third
      (ask_judges 19 0 (lengths_right lines bodies) (lengths_fail e))
      (λ _. judged_alone (row 17 0 TooLong) third (ask_judges 17 0 (leb (image_length lines bodies) size) (room_fails e))))

  pub builder_single : Single (builder_table size kinds lengths bodies)
  builder_single = (row_once 0 (LinesWrong kinds lengths), (row_once 0 LengthsWrong, (row_once 0 TooLong, tt)))
