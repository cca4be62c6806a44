-- Histories that meet the theorems on the lamp: good, then bad; good, then a text that stops; two gauges in turn.
use Rattle.std.specs.Prelude.{true, false, ℕ, ◌≤◌, min, length, Err, Ok}
use mathlib.Core.List.{List, [], ◌∷◌}
use Rattle.std.proofs.Math.Path.{◌≡◌, refl}
use native.Mathlib.Omega.{arith}
use Rattle.paper.specs.Words.{Not}
use Rattle.paper.specs.WorkedImage.{worked_image, untrimmed_image}
use Rattle.limits.specs.Limits.{largest_image}
use Rattle.laws.specs.Bytes.{Bytes}
use Rattle.laws.specs.Cases.{decide}
use Rattle.laws.specs.Characters.{characters}
use Rattle.refusals.specs.Refusals.{result, refusal}
use Rattle.hextext.specs.declared.Record.TheVariants.{Data}
use Rattle.hextext.specs.Record.{digit, all_digits, bytes_of, record_bytes, formed, summed, line_of, typed, placed, judge}
use Rattle.hextext.specs.Text.{bare, read_text}
use Rattle.hextext.specs.Text.{reading as reading_text}
use Rattle.hextext.specs.Lines.{line_inside, line_record, after_line, after_lines}
use Rattle.hextext.specs.Written.{text_of}
use Rattle.hexformat.proofs.Agrees.{read_exactly}
use Rattle.hexformat.proofs.RoundTrip.{written_reads_back}
use Rattle.laws.specs.Sums.{total}
use Rattle.reading.specs.declared.Counts.{Counts}
use Rattle.panel.specs.Verdict.{verdict_of}
use Rattle.panel.specs.Reading.{reading_of}
use Rattle.lamp.specs.Panel.{is_lit}
use Rattle.lamp.specs.Questions.{reading_shown, gauge_told}
use Rattle.panel.specs.Identified.{identified_by}
use Rattle.agreement.specs.VerdictAgrees.{verdict_accepted_exactly}
use Rattle.promises.specs.Instances.{worked_bytes}
use Rattle.promises.specs.WorkedReadings.{worked_accepted}
use Rattle.promises.specs.History.{Event, loads, begins, takes, ends, is_asked, by_pieces, last_after, TextSays}
use Rattle.promises.specs.HistoryLaws.{ended_says}
use Rattle.promises.specs.Lamp.{stands_after, LastSays, lamp_exactly, reading_by_last_load, gauge_by_last_load, no_reading_unlit}

-- a panel of level 2 with the largest buffer, and nothing kept
module _ (buffer : List ℕ) (size : length buffer ≡ 4096) where
  -- the text that the writer makes of an accepted image says it
  text_says : (image : List ℕ) → Bytes image → length image ≤ 4096 → verdict_of 2 image ≡ Ok tt → TextSays 2 (length buffer) (text_of image) image
  text_says image bytes small accepted =
      let read = (read_exactly (length buffer) (text_of image) image).0 (written_reads_back image bytes (length buffer) small (omega arith)) in
      (read.0, read.1, (verdict_accepted_exactly 2 image).0 accepted)

  -- ---- two gauges in turn

  abbrev in_turn : List Event
  in_turn = loads (text_of untrimmed_image) ∷ is_asked ∷ loads (text_of worked_image) ∷ is_asked ∷ []

  in_turn_says : LastSays 2 0 buffer in_turn worked_image
  unfolding last_after
  in_turn_says = text_says worked_image worked_bytes (omega arith) worked_accepted

  pub in_turn_lit : is_lit (stands_after 2 0 buffer in_turn).panel ≡ true
  in_turn_lit = (lamp_exactly 2 0 buffer in_turn).1 (worked_image, in_turn_says)

  pub in_turn_reading : (counts : Counts) → reading_shown (stands_after 2 0 buffer in_turn) counts ≡ reading_of 2 worked_image counts
  in_turn_reading = reading_by_last_load 2 0 buffer in_turn worked_image in_turn_says

  pub in_turn_gauge : gauge_told (stands_after 2 0 buffer in_turn) ≡ identified_by 2 worked_image
  in_turn_gauge = gauge_by_last_load 2 0 buffer in_turn worked_image in_turn_says

  -- ---- good, then bad

  abbrev then_bad : List Event
  then_bad = loads (text_of worked_image) ∷ is_asked ∷ loads [] ∷ is_asked ∷ []

  -- where no image is said there is no reading
  dark : (events : List Event) → ((image : List ℕ) → Not (LastSays 2 0 buffer events image)) → (counts : Counts)
      → reading_shown (stands_after 2 0 buffer events) counts ≡ Err (refusal 5 0)
  dark events nothing counts =
      decide (is_lit (stands_after 2 0 buffer events).panel)
      (λ (lit : is_lit (stands_after 2 0 buffer events).panel ≡ true). let s = (lamp_exactly 2 0 buffer events).0 lit in absurd (nothing s.0 s.1))
      (λ (unlit : is_lit (stands_after 2 0 buffer events).panel ≡ false). no_reading_unlit 2 0 buffer events unlit counts)

  empty_says_nothing : (image : List ℕ) → Not (TextSays 2 (length buffer) [] image)
  unfolding read_text reading_text
  empty_says_nothing image t =
      let read : read_text (length buffer) [] ≡ result image = (read_exactly (length buffer) [] image).1 (t.0, t.1) in
      let z : ◌≡◌ {A = ℕ} 0 1 = cc in
      omega arith

  pub then_bad_dark : (counts : Counts) → reading_shown (stands_after 2 0 buffer then_bad) counts ≡ Err (refusal 5 0)
  unfolding last_after
  then_bad_dark = dark then_bad empty_says_nothing

  -- ---- good, then a text that is under way, and one that stops

  abbrev first_line : List ℕ
  first_line = characters ":020000005101AC\n"

  abbrev then_under_way : List Event
  then_under_way = loads (text_of worked_image) ∷ is_asked ∷ begins ∷ takes first_line ∷ is_asked ∷ []

  pub then_under_way_dark : (counts : Counts) → reading_shown (stands_after 2 0 buffer then_under_way) counts ≡ Err (refusal 5 0)
  unfolding last_after
  then_under_way_dark = dark then_under_way (λ image s. s)

  abbrev then_stops : List Event
  then_stops = loads (text_of worked_image) ∷ is_asked ∷ begins ∷ takes first_line ∷ ends ∷ is_asked ∷ []

  first_line_good : line_record (min largest_image 4096) 0 first_line ≡ Ok (Data 2)
  unfolding line_record line_inside bare judge placed line_of typed formed summed all_digits digit bytes_of record_bytes total
  first_line_good = refl

  stops_says_nothing : (image : List ℕ) → Not (LastSays 2 0 buffer then_stops image)
  unfolding last_after after_lines after_line
  stops_says_nothing image s =
      let e = (ended_says 2 (length buffer) [] (by_pieces (first_line ∷ [])) image).1 s in
      let z : ◌≡◌ {A = ℕ} 0 1 = cc (rw (size, first_line_good) at e) in
      omega arith

  pub then_stops_dark : (counts : Counts) → reading_shown (stands_after 2 0 buffer then_stops) counts ≡ Err (refusal 5 0)
  then_stops_dark = dark then_stops stops_says_nothing
