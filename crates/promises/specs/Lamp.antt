-- A panel's history: after any events from power-on the lamp tells the truth, and a reading is by the last load that began, or there is none.
use Rattle.std.specs.Prelude.{true, false, cond, List, [], ◌∷◌, ◌↔◌, ◌≡◌, ℕ, ◌+◌, ◌-◌, ◌≤◌, ◌<◌, eqb, length, take, drop, get_or, Err, Ok}
use Rattle.std.proofs.Math.Path.{refl}
use Rattle.std.proofs.Common.{◌∙◌, arith, length-drop, length-take-le, get_or-drop}
use borrow.Author.Tests.{ne_eqb}
use Rattle.laws.specs.Cases.{decide}
use Rattle.numbers.specs.FieldsLaws.{byte_at_lem}
use Rattle.refusals.specs.InNumbers.{filled_number, filled_detail, filled_length}
use Rattle.refusals.specs.Refusals.{Outcome, result, refused, refusal, answer_to, held_after}
use Rattle.hextext.specs.Record.{record_bytes, count_of, formed}
use Rattle.hextext.proofs.RecordLaws.{byte_at, all_digits_at, formed_digits, formed_length, record_bytes_head, judge_unformed}
use Rattle.hextext.specs.Text.{bare}
use Rattle.hextext.specs.Lines.{lines_of, line_inside, line_record}
use Rattle.reading.specs.declared.Counts.{Counts}
use Rattle.reading.specs.declared.Reading.{Reading}
use Rattle.panel.specs.Verdict.{verdict_of}
use Rattle.panel.specs.Identified.{identified_by}
use Rattle.panel.specs.Levels.{is_level}
use Rattle.panel.specs.Reading.{reading_of}
use Rattle.panel.specs.Load.{load_text}
use Rattle.lamp.specs.Panel.{level_kept, is_lit, Standing}
use Rattle.lamp.specs.Panel.{ended as ended_load}
use Rattle.lamp.specs.Events.{powered_on, text_loaded, lines_taken, text_begun, text_ended, line_taken}
use Rattle.lamp.specs.Questions.{load_state, reading_shown, gauge_told}
use Rattle.lamp.specs.ForC.{status_for_c}
use Rattle.promises.specs.ByLinesLaws.{by_lines_whole, comes_to, pieces_taken_lem, of_first}
use Rattle.promises.specs.AnswersLaws.{load_refuses}
use Rattle.promises.specs.ZerosLaws.{first_taken, layout_refused, zeros_refused}
use Rattle.promises.specs.History.{Event, loads, begins, takes, ends, after, after_all, none, last_after, LoadSays}
use Rattle.promises.specs.HistoryLaws.{lamp_by_last, image_by_last, level_by_last}

-- ---- a load by lines

bare_long : (l : List ℕ) → length l ≤ length (bare l) + 1
unfolding bare
bare_long l =
    decide (eqb (get_or l (length l - 1) 0) 13)
    (λ (q : eqb (get_or l (length l - 1) 0) 13 ≡ true). rw q (omega (arith, length-take-le (length l - 1) l (omega arith))))
    (λ (q : eqb (get_or l (length l - 1) 0) 13 ≡ false). rw q (omega arith))

-- a record counts 255 data bytes at most
too_long : (l : List ℕ) → 521 < length l → formed l ≡ false
unfolding byte_at
too_long l h = decide (formed l) (λ (f : formed l ≡ true). absurd (omega (arith, formed_length l f, counted f))) (λ (f : formed l ≡ false). f)
  where
    counted : formed l ≡ true → count_of (record_bytes l) < 256
    counted f =
        let digits = formed_digits l f in
        let size = length-drop 1 l in
        let high = all_digits_at (drop 1 l) 0 digits (omega arith) in
        let low = all_digits_at (drop 1 l) 1 digits (omega arith) in
        rw (record_bytes_head l (omega arith)) (omega (arith, rw (get_or-drop 1 l 0 0) at high, rw (get_or-drop 1 l 1 0) at low))

-- the events of a load by pieces
abbrev pub pieces_taken : List (List ℕ) → List Event
pieces_taken [] = ends ∷ []
pieces_taken (piece ∷ pieces) = takes piece ∷ pieces_taken pieces

taken_is : (pieces : List (List ℕ)) (s : Standing) → after_all (pieces_taken pieces) s ≡ text_ended (lines_taken pieces s)
unfolding after_all lines_taken
taken_is [] s = refl
taken_is (piece ∷ pieces) s = taken_is pieces (line_taken piece s)

-- The lines of a text, taken one by one, make of a panel and its buffer what the whole text makes of them: whatever the text, the panel and the buffer.
pub by_lines_as_whole : (text : List ℕ) (s : Standing) → after_all (begins ∷ pieces_taken (lines_of text)) s ≡ after (loads text) s
unfolding after_all
by_lines_as_whole text s = taken_is (lines_of text) (text_begun s) ∙ by_lines_whole s text

-- And that is what a load answers: its number, detail and length, and its buffer.
module _ (text : List ℕ) (s : Standing) where
  abbrev loaded : Outcome
  loaded = load_text s.panel.level (length s.buffer) text

  pub whole_answers : ((status_for_c (after (loads text) s).panel).number ≡ filled_number (answer_to loaded))
      × ((status_for_c (after (loads text) s).panel).detail ≡ filled_detail (answer_to loaded))
      × ((status_for_c (after (loads text) s).panel).length ≡ filled_length (answer_to loaded))
      × ((after (loads text) s).buffer ≡ held_after (length s.buffer) loaded)
  unfolding text_loaded load_state
  whole_answers = by loaded refl
    where
      by : (o : Outcome) → loaded ≡ o → ((status_for_c (ended_load s.panel.level (length s.buffer) loaded).panel).number ≡ filled_number (answer_to loaded))
          × ((status_for_c (ended_load s.panel.level (length s.buffer) loaded).panel).detail ≡ filled_detail (answer_to loaded))
          × ((status_for_c (ended_load s.panel.level (length s.buffer) loaded).panel).length ≡ filled_length (answer_to loaded))
          × ((ended_load s.panel.level (length s.buffer) loaded).buffer ≡ held_after (length s.buffer) loaded)
      by (result image) e = rw e (refl, refl, refl, refl)
      by (refused r) e =
          let numbered = (load_refuses s.panel.level text s.buffer r e).0 in
          let not-zero = ne_eqb r.number 0 (λ z. omega arith) in
          rw (e, not-zero) (refl, refl, refl, refl)

-- A line that can be good has 523 characters at most, with its line end: a longer one is a fault of form.
pub longer_line_refused : (room at : ℕ) (line : List ℕ) → 523 < length line → line_record room at line ≡ Err 1
unfolding line_record line_inside
longer_line_refused room at line h =
    decide (eqb (get_or line (length line - 1) 0) 10)
    (λ (q : eqb (get_or line (length line - 1) 0) 10 ≡ true).
    let front : List ℕ = take (length line - 1) line in
    let size : length front ≡ length line - 1 = length-take-le (length line - 1) line (omega arith) in
    rw (q, judge_unformed room at (bare front) (too_long (bare front) (omega (arith, bare_long front)))))
    (λ (q : eqb (get_or line (length line - 1) 0) 10 ≡ false). rw q)

-- While a text is under way no panel of any level gives a reading by any part of the buffer from its start, for any counts.
pub none_under_way : (pieces : List (List ℕ)) (s : Standing) (level n : ℕ) (counts : Counts)
    → reading_of level (take n (lines_taken pieces (text_begun s)).buffer) counts ≡ Err (cond (is_level level) (refusal 5 0) (refusal 20 0))
none_under_way pieces s level n counts =
    let buffer : List ℕ = (lines_taken pieces (text_begun s)).buffer in
    let first : get_or buffer 0 0 ≡ 0 = rw (pieces_taken_lem s pieces) (of_first s.panel.level (length s.buffer) (comes_to (length s.buffer) pieces)) in
    zeros_refused (take n buffer) (byte_at_lem (take n buffer) 0 ∙ first_taken n buffer first) level counts

-- ---- all histories from power-on

-- no image is of no gauge
zeros_unknown : (level : ℕ) → identified_by level [] ≡ Err (cond (is_level level) (refusal 5 0) (refusal 20 0))
unfolding identified_by verdict_of
zeros_unknown level = decide (is_level level) (λ f. rw (f, layout_refused [] (byte_at_lem [] 0))) (λ f. rw f)

module _ (level n : ℕ) (buffer : List ℕ) (events : List Event) where
  abbrev pub stands_after : Standing
  stands_after = after_all events (powered_on level n buffer)

  -- the last load that began has ended, and said this image; the image kept at power-on where none has begun
  abbrev pub LastSays : (image : List ℕ) → Type 0
  LastSays image = LoadSays (level_kept level) (length buffer) (take n buffer) (last_after events none) image

  -- The lamp is green exactly while the last load that began has ended accepted.
  pub lamp_exactly : (is_lit stands_after.panel ≡ true) ↔ ((image : List ℕ) × LastSays image)
  lamp_exactly = lamp_by_last level n buffer events

  -- A reading is by the image of that load, and so are serial number and date.
  pub reading_by_last_load : (image : List ℕ) → LastSays image → (counts : Counts)
      → reading_shown stands_after counts ≡ reading_of (level_kept level) image counts
  reading_by_last_load image s counts = rw (level_by_last level n buffer events, image_by_last level n buffer events image s)

  pub gauge_by_last_load : (image : List ℕ) → LastSays image → gauge_told stands_after ≡ identified_by (level_kept level) image
  gauge_by_last_load image s = rw (level_by_last level n buffer events, image_by_last level n buffer events image s)

  -- After a refused or unfinished load there is none, until another load is accepted.
  pub no_reading_unlit : is_lit stands_after.panel ≡ false → (counts : Counts)
      → reading_shown stands_after counts ≡ Err (cond (is_level (level_kept level)) (refusal 5 0) (refusal 20 0))
  no_reading_unlit e counts = rw (e, level_by_last level n buffer events) (zeros_refused [] (byte_at_lem [] 0) (level_kept level) counts)

  pub no_gauge_unlit : is_lit stands_after.panel ≡ false → gauge_told stands_after ≡ Err (cond (is_level (level_kept level)) (refusal 5 0) (refusal 20 0))
  no_gauge_unlit e = rw (e, level_by_last level n buffer events) (zeros_unknown (level_kept level))

  -- A reading is shown only while the lamp is green.
  pub shown_only_lit : (counts : Counts) (r : Reading) → reading_shown stands_after counts ≡ Ok r → is_lit stands_after.panel ≡ true
  shown_only_lit counts r e =
      decide (is_lit stands_after.panel) (λ (lit : is_lit stands_after.panel ≡ true). lit)
      (λ (unlit : is_lit stands_after.panel ≡ false). let z : ◌≡◌ {A = ℕ} 0 1 = cc (e, no_reading_unlit unlit counts) in absurd (omega arith))
