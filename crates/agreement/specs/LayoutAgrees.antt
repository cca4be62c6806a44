-- The layout's verdict is document 01's: the first of 5 to 8 that is given.
use Rattle.std.specs.Prelude.{Bool, true, false, ◌&&◌, ◌↔◌, ◌≡◌, refl, eqb, length, Err, Ok}
use Rattle.std.proofs.Math.Bool.{and_assoc}
use mathlib.Core.List.{List, [], ◌∷◌}
use Rattle.std.proofs.Common.{inl}
use Rattle.std.proofs.Math.Logic.{inr, ⊎_elim}
use Prim.Native.Nat.{ℕ, zero, suc, ◌+◌, ◌*◌, ◌%◌, ◌≤◌, ◌<◌}
use Rattle.std.proofs.Math.Numerals.{add-one}
use native.Mathlib.Omega.{arith}
use Rattle.std.proofs.Math.Dec.{leb}
use Rattle.limits.specs.Limits.{largest_image, most_lines}
use Rattle.paper.specs.Words.{Not, Lowest}
use Rattle.paper.specs.Fields.{number, sum_from}
use Rattle.paper.specs.Table.{Row, row, NoneGiven, FirstGiven}
use Rattle.paper.specs.Image.{line_count, kind_of, zero_byte_of, offset_of, length_of, sum_of, StartWrong, CountWrong, kind_before, end_before, BreaksLayout, SumWrong, layout_table}
use Rattle.laws.specs.Cases.{split}
use Rattle.numbers.specs.Fields.{number_at}
use Rattle.refusals.specs.Answers.{Verdict}
use Rattle.refusals.specs.Refusals.{refusal, ask, and_then}
use Rattle.refusals.specs.VerdictLaws.{both_asked}
use Rattle.image.specs.Contents.{line_right, start_verdict, count_verdict, lines_verdict, contents_verdict}
use Rattle.image.specs.Layout.{sums_verdict, layout_verdict}
use Rattle.image.specs.ContentsLaws.{passed_right}
use Rattle.agreement.specs.TableLaws.{Gives, Judges, judged_alone, gives_append, gives_then, Single, row_once, lowest_once, refused_exactly, accepted_exactly}
use Rattle.agreement.specs.TestsLaws.{Fails, fails_le, fails_lt, fails_eq, fails_and, fails_as, fails_outside, ask_judges}
use Rattle.agreement.specs.FieldsAgree.{number_same, sum_is}

-- ---- the lowest number with a property, looked for from below

abbrev pub NoneBelow : (ℕ → Type 0) → ℕ → Type 0
NoneBelow P i = (j : ℕ) → j < i → Not (P j)

pub none_next : (P : ℕ → Type 0) (i : ℕ) → NoneBelow P i → Not (P i) → NoneBelow P (suc i)
none_next P i below here j h p = split i j (λ (k : i ≤ j). let e : j ≡ i = omega arith in here (rw e at p)) (λ (k : j < i). below j k p)

abbrev pub lowest : (number : ℕ) → (ℕ → Type 0) → Row
lowest number P = record { number = number; given = Lowest P }

module _ (number : ℕ) (P : ℕ → Type 0) (i : ℕ) where
  -- a number is tested, then those above it
  pub lowest_then : (test : Bool) (w : Verdict) → Fails test (P i) → NoneBelow P i → (test ≡ true → Judges (lowest number P) w)
      → Judges (lowest number P) (and_then (ask test number i) w)
  lowest_then true w f below next = next refl
  lowest_then false w f below next = (refl, (f.bad refl, below))

  -- the last one is tested
  pub lowest_last : (test : Bool) → Fails test (P i) → NoneBelow P i → ((j : ℕ) → P j → j ≤ i) → Judges (lowest number P) (ask test number i)
  lowest_last true f below within = λ d g. none_next P i below (f.good refl) d (omega (arith, within d g.0)) g.0
  lowest_last false f below within = (refl, (f.bad refl, below))

-- ---- 5 to 8

module _ (image : List ℕ) where
  start_judges : Judges (row 5 0 (StartWrong image)) (start_verdict (length image) image)
  unfolding start_verdict
  start_judges =
      rw (both_asked (leb 2 (length image) && leb (length image) largest_image) (eqb (number_at 1 image 0) 0x51) 5 0, ← number_same)
      (ask_judges 5 0 _ (fails_and (fails_outside 2 largest_image (length image)) (fails_eq (number 1 image 0) 0x51)))

  count_judges : Judges (row 6 0 (CountWrong image)) (count_verdict (length image) image)
  unfolding count_verdict
  count_judges =
      rw (← number_same) (ask_judges 6 0 _ (fails_and (fails_outside 1 most_lines (line_count image)) (fails_le (2 + 8 * line_count image) (length image))))

  line_fails : (i : ℕ) → i < line_count image → Fails (line_right image i (kind_before image i) (end_before image i)) (BreaksLayout image i)
  line_fails i h =
      rw (← number_same, and_assoc)
      (fails_as (λ w. inl (h, w)) (⊎_elim (λ b. b.1) (λ b. absurd (omega (arith, b.0))))
      (fails_and (fails_lt (kind_before image i) (kind_of image i))
      (fails_and (fails_eq (zero_byte_of image i) 0) (fails_eq (offset_of image i) (end_before image i)))))

  lines_judge : (left i : ℕ) → i + left ≡ line_count image → NoneBelow (BreaksLayout image) i
      → Judges (lowest 7 (BreaksLayout image)) (lines_verdict (length image) image left i (kind_before image i) (end_before image i))
  unfolding lines_verdict
  lines_judge zero i h below =
      let last : i ≡ line_count image = omega arith in
      rw last
      (lowest_last 7 (BreaksLayout image) (line_count image) _
      (fails_as (λ w. inr (refl, w)) (⊎_elim (λ b. absurd (omega (arith, b.0))) (λ b. b.1))
      (fails_eq (end_before image (line_count image)) (length image)))
      (rw last at below)
      (λ j. ⊎_elim (λ b. omega (arith, b.0)) (λ b. omega (arith, b.0))))
  lines_judge (suc left) i h below =
      let fails = line_fails i (omega arith) in
      lowest_then 7 (BreaksLayout image) i (line_right image i (kind_before image i) (end_before image i)) _ fails below
      (λ e.
      let starts = (passed_right image i (kind_before image i) (end_before image i) e).starts in
      rw (← starts, ← number_same, add-one i)
      (lines_judge left (suc i) (omega arith) (none_next (BreaksLayout image) i below (fails.good e))))

  sum_fails : (i : ℕ) → i < line_count image
      → Fails (eqb (sum_from (length_of image i) image (offset_of image i) % 65536) (sum_of image i)) (SumWrong image i)
  sum_fails i h = fails_as (λ w. (h, w)) (λ w. w.1) (fails_eq (sum_from (length_of image i) image (offset_of image i) % 65536) (sum_of image i))

  sums_judge : (left i : ℕ) → i + left ≡ line_count image → NoneBelow (SumWrong image) i → Judges (lowest 8 (SumWrong image)) (sums_verdict image left i)
  unfolding sums_verdict
  sums_judge zero i h below = λ d g. below d (omega (arith, g.0.0)) g.0
  sums_judge (suc left) i h below =
      let fails = sum_fails i (omega arith) in
      rw (← number_same, ← sum_is (length_of image i) image (offset_of image i), add-one i)
      (lowest_then 8 (SumWrong image) i _ _ fails below
      (λ e. sums_judge left (suc i) (omega arith) (none_next (SumWrong image) i below (fails.good e))))

  -- the contents are judged by 5 to 7
  pub contents_gives : Gives
      (row 5 0 (StartWrong image) ∷ row 6 0 (CountWrong image) ∷ lowest 7 (BreaksLayout image) ∷ [])
      (contents_verdict (length image) image)
  unfolding contents_verdict
  contents_gives =
      let count = row 6 0 (CountWrong image) in
      let line = lowest 7 (BreaksLayout image) in
      let starts = start_verdict (length image) image in
      let counts = count_verdict (length image) image in
      let lines = lines_verdict (length image) image (line_count image) 0 0 (2 + 8 * line_count image) in
      rw (← number_same)
      (gives_then (row 5 0 (StartWrong image)) (count ∷ line ∷ []) starts (and_then counts lines) start_judges
      (λ a. gives_then count (line ∷ []) counts lines count_judges
      (λ b. judged_alone line lines (lines_judge (line_count image) 0 (omega arith) (λ j h. absurd (omega arith))))))

  pub layout_gives : Gives (layout_table image) (layout_verdict image)
  unfolding layout_verdict
  layout_gives =
      let contents = row 5 0 (StartWrong image) ∷ row 6 0 (CountWrong image) ∷ lowest 7 (BreaksLayout image) ∷ [] in
      let sum = lowest 8 (SumWrong image) in
      let sums = sums_verdict image (line_count image) 0 in
      rw (← number_same)
      (gives_append contents (sum ∷ []) (contents_verdict (length image) image) sums contents_gives
      (λ a. judged_alone sum sums (sums_judge (line_count image) 0 (omega arith) (λ j h. absurd (omega arith)))))

  pub layout_single : Single (layout_table image)
  layout_single =
      (row_once 0 (StartWrong image), (row_once 0 (CountWrong image), (lowest_once (BreaksLayout image), (lowest_once (SumWrong image), tt))))

  -- a layout is refused by a number with a detail exactly where document 01 says so, and good exactly where none of 5 to 8 is given
  pub layout_refused_exactly : (number detail : ℕ)
      → (layout_verdict image ≡ Err (refusal number detail)) ↔ FirstGiven (layout_table image) number detail
  layout_refused_exactly = refused_exactly (layout_table image) layout_single (layout_verdict image) layout_gives

  pub layout_accepted_exactly : (layout_verdict image ≡ Ok tt) ↔ NoneGiven (layout_table image)
  layout_accepted_exactly = accepted_exactly (layout_table image) layout_single (layout_verdict image) layout_gives
