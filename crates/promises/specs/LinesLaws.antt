-- A text taken line by line comes to what reading it whole comes to.
use Rattle.std.specs.Prelude.{◌≡◌, true, false, ℕ, suc, ◌+◌, ◌-◌, min, length, take, get_or, Err, Ok}
use Rattle.std.proofs.Math.Path.{refl, ap}
use Rattle.std.proofs.Common.{sym, ◌∙◌, arith, length-append}
use mathlib.Core.List.{List, [], ◌∷◌, ◌++◌, append_assoc}
use borrow.Author.Tests.{ne_eqb, eqb-true, eqb-false}
use Rattle.std.proofs.Math.Dec.{eqb}
use Rattle.std.proofs.Math.Seq.{take_at, get_or_at}
use Rattle.limits.specs.Limits.{largest_image}
use Rattle.laws.specs.Cases.{decide}
use Rattle.laws.specs.Lists.{ends_with}
use Rattle.refusals.specs.declared.Refusal.{Refusal}
use Rattle.refusals.specs.Refusals.{result, refused, refusal}
use Rattle.hextext.specs.Answers.{LineRecord}
use Rattle.hextext.specs.declared.Record.TheVariants.{Data, End}
use Rattle.hextext.specs.Record.{record_bytes, data_of, formed, judge}
use Rattle.hextext.proofs.RecordLaws.{judge_unformed}
use Rattle.hextext.specs.Text.{bare, after, reading, read_text}
use Rattle.hextext.proofs.WithoutLaws.{Without, formed_without}
use Rattle.hextext.proofs.TextLaws.{reading_line}
use Rattle.hextext.specs.Lines.{lines_from, lines_of, joined, line_inside, line_record, line_data, under_way, whole, stopped, after_record, after_line, after_lines, at_end}

-- ---- after a fault

pub stopped_stays : (room : ℕ) (lines : List (List ℕ)) (r : Refusal) → after_lines room lines (stopped r) ≡ stopped r
unfolding after_lines after_line
stopped_stays room [] r = refl
stopped_stays room (line ∷ lines) r = stopped_stays room lines r

-- ---- a line with its LF

module _ (l : List ℕ) where
  inside_size : length (l ++ 10 ∷ []) - 1 ≡ length l
  inside_size = omega (arith, length-append l (10 ∷ []))

  pub inside_is : line_inside (l ++ 10 ∷ []) ≡ bare l
  unfolding line_inside
  inside_is = rw (inside_size, take_at l (10 ∷ []) (length l) refl)

  pub record_is : (room at : ℕ) → line_record room at (l ++ 10 ∷ []) ≡ judge room at (bare l)
  unfolding line_record
  record_is room at = rw (inside_size, get_or_at l 10 [] 0 (length l) refl, inside_is)

-- ---- one without

-- the last of the characters passed is no LF
pub record NoLineFeedLast (l : List ℕ) : Type 0 where
  pub other : get_or l (length l - 1) 0 ≡ 10 → ⊥

no_line_feed_first : NoLineFeedLast []
no_line_feed_first = record { other = λ e. omega arith }

no_line_feed_more : (l : List ℕ) (c : ℕ) → (c ≡ 10 → ⊥) → NoLineFeedLast (l ++ c ∷ [])
no_line_feed_more l c h =
    let size : length (l ++ c ∷ []) - 1 ≡ length l = omega (arith, length-append l (c ∷ [])) in
    record { other = λ e. h (rw (size, get_or_at l c [] 0 (length l) refl) at e) }

pub record_unended : (room at : ℕ) (l : List ℕ) → NoLineFeedLast l → line_record room at l ≡ Err 1
unfolding line_record
record_unended room at l h = rw (ne_eqb (get_or l (length l - 1) 0) 10 h.other)

-- ---- some text ahead

-- the text ahead is a line at least, so that nothing good comes after the end record
goes_on : (room k : ℕ) (image passed : List ℕ) (c : ℕ) (text : List ℕ)
    → at_end (after_lines room (lines_from passed (c ∷ text)) (whole k image)) ≡ refused (refusal 1 (k + 1))
unfolding lines_from after_lines after_line
goes_on room k image passed c [] =
    decide (eqb c 10) (λ (q : eqb c 10 ≡ true). rw q)
    (λ (q : eqb c 10 ≡ false). rw q (one passed))
  where
    one : (l : List ℕ) → at_end (after_lines room (lines_from (l ++ c ∷ []) []) (whole k image)) ≡ refused (refusal 1 (k + 1))
    one [] = refl
    one (b ∷ l) = refl
goes_on room k image passed c (d ∷ text) =
    decide (eqb c 10) (λ (q : eqb c 10 ≡ true). rw (q, stopped_stays room (lines_from [] (d ∷ text)) (refusal 1 (k + 1))))
    (λ (q : eqb c 10 ≡ false). rw q (goes_on room k image (passed ++ c ∷ []) d text))

-- ---- the law

module _ (room : ℕ) where
  abbrev Same : (k : ℕ) (image passed text : List ℕ) → Type 0
  Same k image passed text = at_end (after_lines room (lines_from passed text) (under_way k image)) ≡ reading room (k + 1) image passed text

  -- by the record of the line that ends here
  same_after : (k : ℕ) (image bytes text : List ℕ) → Same (k + 1) (image ++ bytes) [] text → (record' : LineRecord)
      → at_end (after_lines room (lines_from [] text) (after_record record' k image bytes))
      ≡ after record' (k + 1) image text (reading room (k + 1 + 1) (image ++ bytes) [] text)
  unfolding after lines_from after_lines
  same_after k image bytes text h (Ok (Data n)) = h
  same_after k image bytes [] h (Ok End) = refl
  same_after k image bytes (c ∷ text) h (Ok End) = goes_on room (k + 1) image [] c text
  same_after k image bytes text h (Err n) = ap at_end (stopped_stays room (lines_from [] text) (refusal n (k + 1)))

  same_from : (k : ℕ) (image passed text : List ℕ) → NoLineFeedLast passed → Same k image passed text
  unfolding lines_from after_lines after_line reading
  same_from k image [] [] h = refl
  same_from k image (b ∷ passed) [] h = rw (record_unended room (length image) (b ∷ passed) h)
  same_from k image passed (c ∷ text) h =
      decide (eqb c 10)
      (λ (q : eqb c 10 ≡ true).
      let e = eqb-true c 10 q in
      rw (q, e, record_is passed room (length image), inside_is passed)
      (same_after k image (data_of (record_bytes (bare passed))) text
      (same_from (k + 1) (image ++ data_of (record_bytes (bare passed))) [] text no_line_feed_first)
      (judge room (length image) (bare passed))))
      (λ (q : eqb c 10 ≡ false). rw q (same_from k image (passed ++ c ∷ []) text (no_line_feed_more passed c (eqb-false c 10 q))))

-- the lines of a text, taken one by one, come to what the text is read as
pub lines_read : (size : ℕ) (text : List ℕ) → at_end (after_lines (min largest_image size) (lines_of text) (under_way 0 [])) ≡ read_text size text
unfolding read_text
lines_read size text = same_from (min largest_image size) 0 [] [] text no_line_feed_first

-- ---- any pieces

-- what is not refused is a line with its LF, in the form of a record
pub record IsLine (room at : ℕ) (line : List ℕ) (judged : LineRecord) : Type 0 where
  pub inside : List ℕ
  pub is : line ≡ inside ++ 10 ∷ []
  pub no_line_feed : Without 10 inside
  pub says : judge room at (bare inside) ≡ judged

is_line : (room at : ℕ) (line : List ℕ) (judged : LineRecord) → line_record room at line ≡ judged → (judged ≡ Err 1 → ⊥) → IsLine room at line judged
unfolding line_record line_inside
is_line room at line judged e good =
    decide (eqb (get_or line (length line - 1) 0) 10)
    (λ (q : eqb (get_or line (length line - 1) 0) 10 ≡ true).
    let l : List ℕ = take (length line - 1) line in
    let j : judge room at (bare l) ≡ judged = rw q at e in
    record {
      inside = l;
      is = ends_with line 10 (omega arith) (eqb-true _ 10 q);
      no_line_feed = formed_without l (decide (formed (bare l)) (λ (f : formed (bare l) ≡ true). f)
          (λ (f : formed (bare l) ≡ false). absurd (good (sym j ∙ judge_unformed room at (bare l) f))));
      says = j;
    })
    (λ (q : eqb (get_or line (length line - 1) 0) 10 ≡ false). absurd (good (sym (rw q at e))))

-- a text's first line, up to its LF
lines_at_lf : (passed l text : List ℕ) → Without 10 l → lines_from passed (l ++ 10 ∷ text) ≡ (passed ++ (l ++ 10 ∷ [])) ∷ lines_of text
unfolding lines_from
lines_at_lf passed [] text w = refl
lines_at_lf passed (c ∷ l) text w =
    rw (ne_eqb c 10 (w 0), lines_at_lf (passed ++ c ∷ []) l text (λ i. w (suc i)), append_assoc passed (c ∷ []) (l ++ 10 ∷ []))

module _ (room : ℕ) (image : List ℕ) where
  refused_not : {X : Type 0} {r : Refusal} → refused r ≡ result image → X
  refused_not e = let z : ◌≡◌ {A = ℕ} 0 1 = cc in absurd (omega arith)

  stopped_not : {X : Type 0} (lines : List (List ℕ)) (r : Refusal) → at_end (after_lines room lines (stopped r)) ≡ result image → X
  stopped_not lines r e = refused_not (rw (stopped_stays room lines r) at e)

  -- nothing may come after the end record
  only_end : (k : ℕ) (x : List ℕ) (lines : List (List ℕ)) → at_end (after_lines room lines (whole k x)) ≡ result image → (x ≡ image) × (lines ≡ [])
  unfolding after_lines after_line
  only_end k x [] e = (cc, refl)
  only_end k x (line ∷ lines) e = stopped_not lines (refusal 1 (k + 1)) e

  -- the text that the pieces make is read as the image, and its lines are the pieces
  record ReadsAsLines (k : ℕ) (x : List ℕ) (pieces : List (List ℕ)) : Type 0 where
    reads : reading room (k + 1) x [] (joined pieces) ≡ result image
    are_lines : lines_of (joined pieces) ≡ pieces

  pieces_from : (k : ℕ) (x : List ℕ) (pieces : List (List ℕ)) → at_end (after_lines room pieces (under_way k x)) ≡ result image → ReadsAsLines k x pieces
  unfolding after after_lines after_line joined lines_from
  pieces_from k x [] e = refused_not e
  pieces_from k x (line ∷ lines) e = by (λ h. pieces_from (k + 1) (x ++ line_data line) lines h) (line_record room (length x) line) refl
    where
      read_on : (judged : LineRecord) (l : IsLine room (length x) line judged) → reading room (k + 1) x [] (line ++ joined lines)
          ≡ after judged (k + 1) x (joined lines) (reading room (k + 1 + 1) (x ++ line_data line) [] (joined lines))
      read_on judged l =
          rw (
            l.is,
            append_assoc l.inside (10 ∷ []) (joined lines),
            reading_line room (k + 1) x [] l.inside (joined lines) l.no_line_feed,
            l.says,
            inside_is l.inside,
          )

      line_first : (judged : LineRecord) → IsLine room (length x) line judged → lines_of (joined lines) ≡ lines → lines_of (line ++ joined lines) ≡ line ∷ lines
      line_first judged l h =
          rw (l.is, append_assoc l.inside (10 ∷ []) (joined lines), lines_at_lf [] l.inside (joined lines) l.no_line_feed, h)

      by : (at_end (after_lines room lines (under_way (k + 1) (x ++ line_data line))) ≡ result image → ReadsAsLines (k + 1) (x ++ line_data line) lines)
          → (judged : LineRecord) → line_record room (length x) line ≡ judged → ReadsAsLines k x (line ∷ lines)
      by rest (Err n) q = stopped_not lines (refusal n (k + 1)) (rw q at e)
      by rest (Ok (Data n)) q =
          let l = is_line room (length x) line (Ok (Data n)) q (λ z. let w : ◌≡◌ {A = ℕ} 0 1 = cc in omega arith) in
          let r = rest (rw q at e) in
          record { reads = read_on (Ok (Data n)) l ∙ r.reads; are_lines = line_first (Ok (Data n)) l r.are_lines }
      by rest (Ok End) q =
          let l = is_line room (length x) line (Ok End) q (λ z. let w : ◌≡◌ {A = ℕ} 0 1 = cc in omega arith) in
          let o = only_end (k + 1) x lines (rw q at e) in
          let none : joined lines ≡ [] = rw o.1 in
          record { reads = rw (read_on (Ok End) l, none, o.0); are_lines = line_first (Ok End) l (rw o.1) }

module _ (size : ℕ) (pieces : List (List ℕ)) (image : List ℕ) (e : at_end (after_lines (min largest_image size) pieces (under_way 0 [])) ≡ result image) where
  -- pieces that come to an image are the lines of a text,
  pub pieces_are_lines : lines_of (joined pieces) ≡ pieces
  pieces_are_lines = (pieces_from (min largest_image size) image 0 [] pieces e).are_lines

  -- and that text says the image
  pub pieces_read : read_text size (joined pieces) ≡ result image
  unfolding read_text
  pieces_read = (pieces_from (min largest_image size) image 0 [] pieces e).reads
