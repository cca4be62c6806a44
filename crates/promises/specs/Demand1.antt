-- The first demand: every call answers, a refusal says its number and detail, and it leaves nothing behind. Said of every call that there
-- can be, by the called function's own contract. No call asks anything of its caller: that is contracts/Free.
use Rattle.std.specs.Prelude.{true, cond, List, [], ◌∷◌, ◌↔◌, ◌≡◌, refl, ℕ, length, take, drop, replicate, Err, Ok}
use Rattle.std.proofs.Math.Seq.{take-length}
use Rattle.paper.specs.Table.{row, NoneGiven, FirstGiven, Tells}
use Rattle.paper.specs.Image.{HasKind, layout_table}
use Rattle.paper.specs.Bodies.{IdentityWrong, SetWrong, TrimWrong, NoteWrong}
use Rattle.paper.specs.Verdict.{verdict_table}
use Rattle.refusals.specs.declared.Refusal.{Refusal}
use Rattle.refusals.specs.InNumbers.{verdict_number, verdict_detail, filled_number, filled_detail, filled_length}
use Rattle.refusals.specs.Refusals.{Outcome, refusal, Fills as FillsBuffer}
use Rattle.calls.specs.Call.{shared, next, EveryCall}
use Rattle.calls.specs.BuildReads as build
use Rattle.calls.specs.CallLaws.{lent_bytes}
use Rattle.hextext.specs.Text.{read_text}
use Rattle.hextext.specs.Written.{write_image}
use Rattle.image.specs.Layout.{layout_verdict}
use Rattle.builder.specs.Build.{build_image}
use Rattle.builder.specs.Lines.{lines_given, kinds_of, lengths_of}
use Rattle.builder.specs.GivenLaws.{given_again}
use Rattle.finder.specs.ForC.{place_for_c}
use Rattle.sets.specs.Set.{set_verdict}
use Rattle.bodies.specs.Identity.{identity_verdict}
use Rattle.bodies.specs.Trim.{trim_verdict}
use Rattle.bodies.specs.Note.{note_verdict}
use Rattle.reading.specs.declared.Counts.{Counts}
use Rattle.reading.specs.InNumbers.{answer_number, answer_detail, answer_pressure, answer_temperature, answer_unit, answer_mark}
use Rattle.panel.specs.Levels.{is_level}
use Rattle.panel.specs.Verdict.{verdict_of}
use Rattle.panel.specs.Reading.{reading_of}
use Rattle.panel.specs.Load.{load_text}
use Rattle.hexread.specs.contracts as hexread
use Rattle.hexread.proofs as hexread_proofs
use Rattle.hexwrite.specs.contracts as hexwrite
use Rattle.hexwrite.proofs as hexwrite_proofs
use Rattle.layout.specs.contracts as layout
use Rattle.layout.proofs as layout_proofs
use Rattle.finder.specs.contracts as finder
use Rattle.finder.proofs as finder_proofs
use Rattle.builder.specs.contracts as builder
use Rattle.builder.proofs as builder_proofs
use Rattle.sets.specs.contracts as sets
use Rattle.sets.proofs as sets_proofs
use Rattle.bodies.specs.contracts as bodies
use Rattle.bodies.proofs as bodies_proofs
use Rattle.panel.specs.contracts as panel
use Rattle.panel.proofs as panel_proofs
use Rattle.bjorkneve.specs.contracts as bjorkneve
use Rattle.bjorkneve.proofs as bjorkneve_proofs
use Rattle.agreement.specs.TableLaws.{judged_alone, Single, row_once, refused_exactly, accepted_exactly}
use Rattle.agreement.specs.LayoutAgrees.{layout_gives}
use Rattle.agreement.specs.BodiesAgree.{identity_judges, set_judges, trim_judges, note_judges}
use Rattle.agreement.specs.VerdictAgrees.{verdict_gives}
use Rattle.agreement.specs.OnPaper.{on_paper}
use Rattle.promises.specs.Answers.{AnswersRead, AnswersWrite, kinds_lent, lengths_lent, AnswersBuild, AnswersLoad, AnswersFind, FindsPart, AnswersReading}
use Rattle.promises.specs.AnswersLaws.{verdict_tells, fills_answer, fills_for_c_answer, read_refuses, read_results, write_refuses, write_results, build_refuses, build_results, kinds_lent_lem, lengths_lent_lem, load_refuses, load_results, find_answer, finds_part, has_answer, reading_answer}
use Rattle.promises.specs.ZerosLaws.{refused_zeros, part_starts, zeros_refused}

-- ---- every text

-- Reading a text answers its image, or the number and line of its first fault.
pub read_answers : EveryCall hexread.read.ended hexread_proofs.read.Reads.Learnt
    (λ call r b. AnswersRead call.arguments.0.now call.arguments.1.0.now (filled_number r) (filled_detail r) (filled_length r) b.1.0)
read_answers call r b learnt =
    let text = call.arguments.0.now in
    let before = call.arguments.1.0.now in
    fills_answer (read_text (length before) text) (read_refuses (length before) text) (read_results (length before) text) before b.1.0 r learnt

pub bjorkneve_read_answers : EveryCall bjorkneve.bjorkneve_read.ended bjorkneve_proofs.bjorkneve_read.Reads.Learnt
    (λ call r b. AnswersRead call.arguments.0.now call.arguments.1.0.now r.number r.detail r.length b.1.0)
bjorkneve_read_answers call r b learnt =
    let text = call.arguments.0.now in
    let before = call.arguments.1.0.now in
    fills_for_c_answer (read_text (length before) text) (read_refuses (length before) text) (read_results (length before) text) before b.1.0 r learnt

-- A load answers the image that the text says and the panel accepts, or the text's refusal, or the panel's on that image.
pub load_answers : EveryCall panel.load.ended panel_proofs.load.Reads.Learnt
    (λ call r b.
    AnswersLoad call.arguments.1.0 call.arguments.0.now call.arguments.1.1.0.now
    (filled_number r) (filled_detail r) (filled_length r) b.1.1.0)
load_answers call r b learnt =
    let text = call.arguments.0.now in
    let level = call.arguments.1.0 in
    let before = call.arguments.1.1.0.now in
    fills_answer (load_text level (length before) text) (load_refuses level text before) (load_results level text before) before b.1.1.0 r learnt

pub bjorkneve_load_answers : EveryCall bjorkneve.bjorkneve_load.ended bjorkneve_proofs.bjorkneve_load.Reads.Learnt
    (λ call r b.
    AnswersLoad call.arguments.1.0 call.arguments.0.now call.arguments.1.1.0.now
    r.number r.detail r.length b.1.1.0)
bjorkneve_load_answers call r b learnt =
    let text = call.arguments.0.now in
    let level = call.arguments.1.0 in
    let before = call.arguments.1.1.0.now in
    fills_for_c_answer (load_text level (length before) text) (load_refuses level text before) (load_results level text before) before b.1.1.0 r learnt

-- ---- every image

-- Writing an image answers its text, or 4 or 17.
pub write_answers : EveryCall hexwrite.write.ended hexwrite_proofs.write.Reads.Learnt
    (λ call r b. AnswersWrite call.arguments.0.now call.arguments.1.0.now (filled_number r) (filled_detail r) (filled_length r) b.1.0)
write_answers call r b learnt =
    let image = call.arguments.0.now in
    let before = call.arguments.1.0.now in
    fills_answer (write_image (length before) image) (write_refuses (length before) image)
    (write_results (length before) image (lent_bytes call (shared 0 tt))) before b.1.0 r learnt

pub bjorkneve_write_answers : EveryCall bjorkneve.bjorkneve_write.ended bjorkneve_proofs.bjorkneve_write.Reads.Learnt
    (λ call r b. AnswersWrite call.arguments.0.now call.arguments.1.0.now r.number r.detail r.length b.1.0)
bjorkneve_write_answers call r b learnt =
    let image = call.arguments.0.now in
    let before = call.arguments.1.0.now in
    fills_for_c_answer (write_image (length before) image) (write_refuses (length before) image)
    (write_results (length before) image (lent_bytes call (shared 0 tt))) before b.1.0 r learnt

-- A layout is good, or refused by the first of 5 to 8.
pub layout_answers : EveryCall layout.layout.ended layout_proofs.layout.Reads.Learnt
    (λ call r b. Tells (layout_table call.arguments.0.now) (verdict_number r) (verdict_detail r))
layout_answers call r b learnt =
    let image = call.arguments.0.now in
    rw learnt (verdict_tells (layout_table image) refl (layout_verdict image) (layout_gives image))

pub bjorkneve_layout_answers : EveryCall bjorkneve.bjorkneve_layout.ended bjorkneve_proofs.bjorkneve_layout.Reads.Learnt
    (λ call r b. Tells (layout_table call.arguments.0.now) r.number r.detail)
bjorkneve_layout_answers call r b learnt =
    let image = call.arguments.0.now in
    rw learnt (verdict_tells (layout_table image) refl (layout_verdict image) (layout_gives image))

-- A panel accepts an image, or refuses it by the first of 20, 5 to 13, 15, 16.
pub verdict_answers : EveryCall panel.verdict.ended panel_proofs.verdict.Reads.Learnt
    (λ call r b. Tells (verdict_table call.arguments.1.0 call.arguments.0.now) (verdict_number r) (verdict_detail r))
verdict_answers call r b learnt =
    let image = call.arguments.0.now in
    let level = call.arguments.1.0 in
    rw learnt (verdict_tells (verdict_table level image) refl (verdict_of level image) (verdict_gives level image))

pub bjorkneve_verdict_answers : EveryCall bjorkneve.bjorkneve_verdict.ended bjorkneve_proofs.bjorkneve_verdict.Reads.Learnt
    (λ call r b. Tells (verdict_table call.arguments.1.0 call.arguments.0.now) r.number r.detail)
bjorkneve_verdict_answers call r b learnt =
    let image = call.arguments.0.now in
    let level = call.arguments.1.0 in
    rw learnt (verdict_tells (verdict_table level image) refl (verdict_of level image) (verdict_gives level image))

-- A kind is found, and where its body stands, or it is not there. The part that the finder gives back is the caller's own memory.
pub has_answers : EveryCall finder.has.ended finder_proofs.has.Reads.Learnt
    (λ call r b. (r ≡ true) ↔ (NoneGiven (layout_table call.arguments.0.now) × HasKind call.arguments.0.now call.arguments.1.0))
has_answers call r b learnt = has_answer call.arguments.0.now call.arguments.1.0 r learnt

pub find_answers : EveryCall finder.find.ended finder_proofs.find.Reads.Learnt (λ call r b. FindsPart call.arguments.0 r call.arguments.1.0)
find_answers call r b learnt = finds_part call.arguments.0 r call.arguments.1.0 learnt

pub place_answers : EveryCall finder.place_of.ended finder_proofs.place_of.Reads.Learnt
    (λ call r b. AnswersFind call.arguments.0.now call.arguments.1.0 (place_for_c r).there (place_for_c r).offset (place_for_c r).length)
place_answers call r b learnt = find_answer call.arguments.0.now call.arguments.1.0 r learnt

pub bjorkneve_find_answers : EveryCall bjorkneve.bjorkneve_find.ended bjorkneve_proofs.bjorkneve_find.Reads.Learnt
    (λ call r b. AnswersFind call.arguments.0.now call.arguments.1.0 r.there r.offset r.length)
bjorkneve_find_answers call r b learnt = rw learnt (find_answer call.arguments.0.now call.arguments.1.0 _ refl)

-- A body is right, or refused by its own number with detail 0: 11 an identity, 15 a trim, 16 a note; a set by the number that the caller names.
pub identity_answers : EveryCall bodies.identity_verdict.ended bodies_proofs.identity_verdict.Reads.Learnt
    (λ call r b. Tells (row 11 0 (IdentityWrong call.arguments.0.now) ∷ []) (verdict_number r) (verdict_detail r))
identity_answers call r b learnt =
    let body = call.arguments.0.now in
    rw learnt (verdict_tells (row 11 0 (IdentityWrong body) ∷ []) refl (identity_verdict body) (judged_alone _ (identity_verdict body) (identity_judges body)))

pub trim_answers : EveryCall bodies.trim_verdict.ended bodies_proofs.trim_verdict.Reads.Learnt
    (λ call r b. Tells (row 15 0 (TrimWrong call.arguments.0.now) ∷ []) (verdict_number r) (verdict_detail r))
trim_answers call r b learnt =
    let body = call.arguments.0.now in
    rw learnt (verdict_tells (row 15 0 (TrimWrong body) ∷ []) refl (trim_verdict body) (judged_alone _ (trim_verdict body) (trim_judges body)))

pub note_answers : EveryCall bodies.note_verdict.ended bodies_proofs.note_verdict.Reads.Learnt
    (λ call r b. Tells (row 16 0 (NoteWrong call.arguments.0.now) ∷ []) (verdict_number r) (verdict_detail r))
note_answers call r b learnt =
    let body = call.arguments.0.now in
    rw learnt (verdict_tells (row 16 0 (NoteWrong body) ∷ []) refl (note_verdict body) (judged_alone _ (note_verdict body) (note_judges body)))

pub set_answers : EveryCall sets.set_verdict.ended sets_proofs.set_verdict.Reads.Learnt
    (λ call r b.
    let rows = row call.arguments.1.0 0 (SetWrong call.arguments.0.now) ∷ [] in
    ((r ≡ Ok tt) ↔ NoneGiven rows) × ((r ≡ Err (refusal call.arguments.1.0 0)) ↔ FirstGiven rows call.arguments.1.0 0))
set_answers call r b learnt =
    let body = call.arguments.0.now in
    let number = call.arguments.1.0 in
    let rows = row number 0 (SetWrong body) ∷ [] in
    let gives = judged_alone (row number 0 (SetWrong body)) (set_verdict number body) (set_judges number body) in
    let single : Single rows = (row_once 0 (SetWrong body), tt) in
    rw learnt (accepted_exactly rows single (set_verdict number body) gives, refused_exactly rows single (set_verdict number body) gives number 0)

-- ---- every contents line

-- Building an image answers the image of these lines and bodies, or the first of 18, 19, 17.
pub build_answers : EveryCall builder.build.ended build.Learnt
    (λ call r b.
    AnswersBuild (kinds_lent call.arguments.0.now) (lengths_lent call.arguments.0.now) call.arguments.1.0.now call.arguments.1.1.0.now
    (filled_number r) (filled_detail r) (filled_length r) b.1.1.0)
build_answers call r b learnt =
    let lines = call.arguments.0.now in
    let bodies = call.arguments.1.0.now in
    let before = call.arguments.1.1.0.now in
    rw (kinds_lent_lem lines, lengths_lent_lem lines)
    (fills_answer (build_image (length before) (lines_given (kinds_of lines) (lengths_of lines)) bodies)
    (build_refuses (length before) (kinds_of lines) (lengths_of lines) bodies)
    (build_results (length before) (kinds_of lines) (lengths_of lines) bodies (lent_bytes call (next (shared 1 tt))))
    before b.1.1.0 r (rw (given_again lines) learnt))

pub build_from_numbers_answers : EveryCall builder.build_from_numbers.ended builder_proofs.build_from_numbers.Reads.Learnt
    (λ call r b.
    AnswersBuild call.arguments.0.now call.arguments.1.0.now call.arguments.1.1.0.now call.arguments.1.1.1.0.now
    (filled_number r) (filled_detail r) (filled_length r) b.1.1.1.0)
build_from_numbers_answers call r b learnt =
    let kinds = call.arguments.0.now in
    let lengths = call.arguments.1.0.now in
    let bodies = call.arguments.1.1.0.now in
    let before = call.arguments.1.1.1.0.now in
    fills_answer (build_image (length before) (lines_given kinds lengths) bodies) (build_refuses (length before) kinds lengths bodies)
    (build_results (length before) kinds lengths bodies (lent_bytes call (next (next (shared 2 tt))))) before b.1.1.1.0 r learnt

pub bjorkneve_build_answers : EveryCall bjorkneve.bjorkneve_build.ended bjorkneve_proofs.bjorkneve_build.Reads.Learnt
    (λ call r b.
    AnswersBuild call.arguments.0.now call.arguments.1.0.now call.arguments.1.1.0.now call.arguments.1.1.1.0.now
    r.number r.detail r.length b.1.1.1.0)
bjorkneve_build_answers call r b learnt =
    let kinds = call.arguments.0.now in
    let lengths = call.arguments.1.0.now in
    let bodies = call.arguments.1.1.0.now in
    let before = call.arguments.1.1.1.0.now in
    fills_for_c_answer (build_image (length before) (lines_given kinds lengths) bodies) (build_refuses (length before) kinds lengths bodies)
    (build_results (length before) kinds lengths bodies (lent_bytes call (next (next (shared 2 tt))))) before b.1.1.1.0 r learnt

-- ---- every count

-- A reading is shown, or refused as the verdict is, or by the first of 21 to 26.
pub reading_answers : EveryCall panel.reading.ended panel_proofs.reading.Reads.Learnt
    (λ call r b.
    AnswersReading call.arguments.1.0 call.arguments.0.now (on_paper call.arguments.1.1.0)
    (answer_number r) (answer_detail r) (answer_pressure r) (answer_temperature r) (answer_unit r) (answer_mark r))
reading_answers call r b learnt = reading_answer call.arguments.1.0 call.arguments.0.now call.arguments.1.1.0 r learnt

pub bjorkneve_reading_answers : EveryCall bjorkneve.bjorkneve_reading.ended bjorkneve_proofs.bjorkneve_reading.Reads.Learnt
    (λ call r b.
    AnswersReading call.arguments.1.0 call.arguments.0.now
    (record {
      pressure_ns = call.arguments.1.1.0.pressure.sensor.0;
      pressure_nr = call.arguments.1.1.0.pressure.reference.0;
      temperature_ns = call.arguments.1.1.0.temperature.sensor.0;
      temperature_nr = call.arguments.1.1.0.temperature.reference.0;
    })
    r.number r.detail r.pressure r.temperature r.unit r.mark)
bjorkneve_reading_answers call r b learnt =
    rw learnt (reading_answer call.arguments.1.0 call.arguments.0.now call.arguments.1.1.0 _ refl)

-- ---- no old image stays behind

module _ (outcome : Outcome) (before after : List ℕ) (r : Refusal) (fills : FillsBuffer outcome before (Err r) after) where
  -- After a refusal no panel of any level gives a reading for any counts, not from the buffer and not from any part of it.
  pub no_reading_after : (level start n : ℕ) (counts : Counts)
      → reading_of level (take n (drop start after)) counts ≡ Err (cond (is_level level) (refusal 5 0) (refusal 20 0))
  no_reading_after level start n counts =
      rw (refused_zeros outcome before after r fills)
      (zeros_refused (take n (drop start (replicate (length before) 0))) (part_starts (length before) start n) level counts)

-- So a panel whose load was refused has no reading, whatever was loaded before.
pub no_reading_after_load : (level : ℕ) (text before after : List ℕ) (r : Refusal)
    → FillsBuffer (load_text level (length before) text) before (Err r) after
    → (panel : ℕ) (counts : Counts) → reading_of panel after counts ≡ Err (cond (is_level panel) (refusal 5 0) (refusal 20 0))
no_reading_after_load level text before after r fills panel counts =
    rw (take-length after) at (no_reading_after (load_text level (length before) text) before after r fills panel 0 (length after) counts)
