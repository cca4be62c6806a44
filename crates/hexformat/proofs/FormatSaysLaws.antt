-- What the reader answers is what the format says of the text, both ways.
use Rattle.std.specs.Prelude.{◌≡◌, true, false, ℕ, suc, ◌+◌, ◌≤◌, eqb, Err, Ok}
use Rattle.std.proofs.Math.Path.{refl}
use Rattle.std.proofs.Common.{◌∙◌, eqb-true, ne_eqb, length-append}
use mathlib.Core.List.{List, [], ◌∷◌, ◌++◌, append-nil, append_assoc}
use native.Mathlib.Omega.{arith}
use Rattle.std.proofs.lemmas.Bool.{eqb-false}
use Rattle.std.proofs.Math.ListN.{length}
use Rattle.laws.specs.Cases.{decide}
use Rattle.refusals.specs.Refusals.{Outcome, result, refused, refusal}
use Rattle.hextext.specs.Record.{record_bytes, data_of}
use Rattle.hextext.specs.Text.{bare, after, reading}
use Rattle.hextext.specs.Answers.{LineRecord}
use Rattle.hextext.specs.declared.Record.TheVariants.{Data, End}
use Rattle.hexformat.specs.Format.{Fields, Form, Balanced, IsData, IsEnd, DataLines, none, next, GoodText}
use Rattle.hexformat.specs.Faults.{NoLineFeed, WholeLine, Breaks, no_form, not_balanced, neither, no_room, Refuses, stops, breaks, goes_on}
use Rattle.hexformat.specs.SpelledLaws.{spelled_small}
use Rattle.hextext.proofs.WithoutLaws.{without_append, without_one}
use Rattle.hextext.proofs.TextLaws.{reading_line}
use Rattle.hexformat.specs.ReadingLaws.{reading_form, judge_balanced, judge_unbalanced}
use Rattle.hexformat.proofs.JudgedLaws.{Judged, more, end, fault, judged, judge_no_form, typed_data, typed_full, typed_end, typed_other}

-- what the format says of an answer
abbrev pub FormatSays : (room : ℕ) (text : List ℕ) → Outcome → Type 0
FormatSays room text (result image) = GoodText image text × (length image ≤ room)
FormatSays room text (refused r) = Refuses room text r.number r.detail

-- ---- from the reader to the format

module _ {room count : ℕ} {image before : List ℕ} (lines : DataLines count image before) (fits : length image ≤ room) where
  step : (passed text taken : List ℕ) (answer : Outcome) {j : LineRecord} → NoLineFeed passed → Judged room image (passed ++ 10 ∷ []) taken j
      → (DataLines (count + 1) (image ++ taken) (before ++ (passed ++ 10 ∷ [])) → length (image ++ taken) ≤ room
      → FormatSays room (before ++ (passed ++ 10 ∷ []) ++ text) answer)
      → FormatSays room (before ++ (passed ++ 10 ∷ []) ++ text) (after j (count + 1) image text answer)
  unfolding after
  step passed text taken answer w (more {r = r} f z d t h) go =
      let long : length (image ++ r.contents) ≤ room = rw (length-append image r.contents) h in
      rw t at go (next lines f z d) long
  step passed [] taken answer w (end f z d) go =
      let good : GoodText image (before ++ (passed ++ 10 ∷ []) ++ []) =
      record {
        count = count;
        front = before;
        last = passed ++ 10 ∷ [];
        end = _;
        is = append-nil (before ++ (passed ++ 10 ∷ []));
        holds = lines;
        formed = f;
        balanced = z;
        ends = d;
      } in
      (good, fits)
  step passed (c ∷ text) taken answer w (end f z d) go =
      let e : count + 1 + 1 ≡ count + 2 = omega arith in
      rw e (goes_on c text refl lines fits f z d)
  step passed text taken answer w (fault b) go =
      breaks text refl lines fits (record { inside = passed; is = refl; no_line_feed = w }) b

format_says_from : (room count : ℕ) (image before passed text : List ℕ) → DataLines count image before → length image ≤ room → NoLineFeed passed
    → FormatSays room (before ++ passed ++ text) (reading room (count + 1) image passed text)
unfolding reading
format_says_from room count image before passed [] lines fits w = stops passed (append-nil (before ++ passed)) lines fits w
format_says_from room count image before passed (c ∷ text) lines fits w =
    decide (eqb c 10)
    (λ (q : eqb c 10 ≡ true).
    let taken : List ℕ = data_of (record_bytes (bare passed)) in
    let e : before ++ (passed ++ 10 ∷ []) ++ text ≡ before ++ passed ++ 10 ∷ text = simp append_assoc in
    rw (eqb-true c 10 q, ← e)
    (step lines fits passed text taken (reading room (count + 1 + 1) (image ++ taken) [] text) w (judged room image passed)
    (λ lines' fits'.
    rw (append-nil (before ++ (passed ++ 10 ∷ []))) at
    (format_says_from room (count + 1) (image ++ taken) (before ++ (passed ++ 10 ∷ [])) [] text lines' fits' (λ i e. omega arith)))))
    (λ (q : eqb c 10 ≡ false).
    let e : before ++ (passed ++ c ∷ []) ++ text ≡ before ++ passed ++ c ∷ text = simp append_assoc in
    rw (q, ← e)
    (format_says_from room count image before (passed ++ c ∷ []) text lines fits
    (without_append 10 passed (c ∷ []) w (without_one 10 c (omega arith) (eqb-false c 10 q)))))

pub format_says : (room : ℕ) (text : List ℕ) → FormatSays room text (reading room 1 [] [] text)
format_says room text = format_says_from room 0 [] [] [] text none (omega arith) (λ i e. omega arith)

-- ---- from the format to the reader

-- a count is a byte
pub count_small : {r : Fields} {l : List ℕ} → Form r l → length r.contents ≤ 255
count_small f = let h = spelled_small f.spelled 0 in omega arith

module _ (room line : ℕ) (image text : List ℕ) {l : List ℕ} where
  module _ {r : Fields} (f : Form r l) (z : Balanced r) where
    pub read_data : IsData (length image) r → length image + length r.contents ≤ room
        → reading room line image [] (l ++ text) ≡ reading room (line + 1) (image ++ r.contents) [] text
    unfolding after
    read_data d h =
        let typed-as = judge_balanced r f.spelled room (length image) z in
        reading_form room line image text f (Ok (Data (length r.contents))) (typed-as ∙ typed_data d room h)

    pub read_end : IsEnd r
        → reading room line image [] (l ++ text) ≡ after (Ok End) line image text (reading room (line + 1) (image ++ r.contents) [] text)
    read_end d = reading_form room line image text f (Ok End) (judge_balanced r f.spelled room (length image) z ∙ typed_end d room (length image))

  -- a line that breaks a rule is refused by its number
  read_breaks : {n : ℕ} → WholeLine l → Breaks room image l n → reading room line image [] (l ++ text) ≡ refused (refusal n line)
  unfolding after
  read_breaks v (no_form w) =
      rw (
        v.is,
        append_assoc v.inside (10 ∷ []) text,
        reading_line room line image [] v.inside text v.no_line_feed,
        judge_no_form room image v.inside (λ r f. w r (rw v.is f)),
      )
  read_breaks v (not_balanced {fields = r} f w) = reading_form room line image text f (Err 2) (judge_unbalanced r f.spelled room (length image) w)
  read_breaks v (neither {fields = r} f z d e) =
      reading_form room line image text f (Err 3) (judge_balanced r f.spelled room (length image) z ∙ typed_other (count_small f) d e room)
  read_breaks v (no_room {fields = r} f z d h) =
      reading_form room line image text f (Err 4) (judge_balanced r f.spelled room (length image) z ∙ typed_full d room h)

pub read_stops : (room line : ℕ) (image passed text : List ℕ) → NoLineFeed text → reading room line image passed text ≡ refused (refusal 1 line)
unfolding reading
read_stops room line image passed [] w = refl
read_stops room line image passed (c ∷ text) w = rw (ne_eqb c 10 (w 0)) (read_stops room line image (passed ++ c ∷ []) text (λ i. w (suc i)))

-- lines of data records that have room are read, and leave the reader at the next line with what they hold
read_lines : (room : ℕ) {count : ℕ} {image before : List ℕ} → DataLines count image before → length image ≤ room → (text : List ℕ)
    → reading room 1 [] [] (before ++ text) ≡ reading room (count + 1) image [] text
read_lines room none h text = refl
read_lines room (next {count = count} {image = image} {text = before} {line = l} {fields = r} lines f z d) h text =
    let long = length-append image r.contents in
    rw (append_assoc before l text)
    (read_lines room lines (omega arith) (l ++ text) ∙ read_data room (count + 1) image text f z d (omega arith))

pub read_last : (room line : ℕ) (image : List ℕ) {r : Fields} {l : List ℕ} → Form r l → Balanced r → IsEnd r
    → reading room line image [] l ≡ result image
unfolding after
read_last room line image {r} {l} f z d = rw (append-nil l) at (read_end room line image [] f z d)

pub reads_good : (room : ℕ) {image text : List ℕ} → GoodText image text → length image ≤ room → reading room 1 [] [] text ≡ result image
reads_good room {image} g h = rw g.is (read_lines room g.holds h g.last ∙ read_last room (g.count + 1) image g.formed g.balanced g.ends)

pub reads_refuses : (room : ℕ) {text : List ℕ} {n k : ℕ} → Refuses room text n k → reading room 1 [] [] text ≡ refused (refusal n k)
unfolding after
reads_refuses room (stops {count = count} {image = image} rest e lines h w) = rw (e, read_lines room lines h rest, read_stops room (count + 1) image [] rest w)
reads_refuses room (breaks {count = count} {image = image} {before = before} {line = l} rest e lines h v b) =
    rw (e, append_assoc before l rest, read_lines room lines h (l ++ rest), read_breaks room (count + 1) image rest v b)
reads_refuses room (goes_on {count = count} {image = image} {before = before} {line = l} c rest e lines h f z d) =
    let q : count + 1 + 1 ≡ count + 2 = omega arith in
    rw (e, append_assoc before l (c ∷ rest), read_lines room lines h (l ++ c ∷ rest), read_end room (count + 1) image (c ∷ rest) f z d, q)

-- ---- the numbers

breaks_known : {room n : ℕ} {image l : List ℕ} → Breaks room image l n → (1 ≤ n) × (n ≤ 4)
breaks_known (no_form f) = (omega arith, omega arith)
breaks_known (not_balanced f z) = (omega arith, omega arith)
breaks_known (neither f z d e) = (omega arith, omega arith)
breaks_known (no_room f z d h) = (omega arith, omega arith)

pub refuses_known : {room n k : ℕ} {text : List ℕ} → Refuses room text n k → (1 ≤ n) × (n ≤ 4) × (1 ≤ k)
refuses_known (stops rest e lines h w) = (omega arith, omega arith, omega arith)
refuses_known (breaks rest e lines h v b) = let k = breaks_known b in (k.0, k.1, omega arith)
refuses_known (goes_on c rest e lines h f z d) = (omega arith, omega arith, omega arith)
