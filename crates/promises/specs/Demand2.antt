-- The second demand: reader, writer, image reader, builder and reading agree with document 01; what is written reads back; damage is found.
-- Each theorem goes both ways. What stands to the right of ↔ is document 01 as a relation (crates paper and hexformat), which cites
-- none of the definitions that the code is proved by. A theorem that is proved elsewhere stands here again, so that the demand is read in
-- one place.
use Rattle.std.specs.Prelude.{List, [], ◌∷◌, ◌++◌, ◌↔◌, ◌≡◌, refl, ℕ, ◌-◌, ◌≤◌, ◌<◌, min, pos, length, take, get_or, replicate, Err, Ok}
use Rattle.std.proofs.Math.Option.{none, some}
use Rattle.paper.specs.Words.{Not}
use Rattle.paper.specs.Fields.{number, signed}
use Rattle.paper.specs.Table.{NoneGiven, FirstGiven}
use Rattle.paper.specs.Writer.{writer_table}
use Rattle.paper.specs.Image.{offset_of, HasKind, HasBody, layout_table}
use Rattle.paper.specs.Bodies.{SetWrong}
use Rattle.paper.specs.Verdict.{verdict_table}
use Rattle.paper.specs.Builder.{builder_table, IsImageOf}
use Rattle.paper.specs.ReadingTable.{reading_table}
use Rattle.paper.specs.Manual.{coefficient, ShowsByManual}
use Rattle.refusals.specs.Answers.{Filled}
use Rattle.refusals.specs.Refusals.{result, refused, refusal, Fills}
use Rattle.calls.specs.Call.{Call, shared, next, EveryCall}
use Rattle.calls.specs.CallLaws.{lent_bytes}
use Rattle.hextext.specs.Text.{read_text}
use Rattle.hextext.specs.Written.{text_of, write_image}
use Rattle.hexformat.specs.Format.{Digit, GoodText}
use Rattle.hexformat.specs.Faults.{Refuses}
use Rattle.hexformat.specs.Writing.{Written}
use Rattle.hexformat.specs.Damage.{IsRefused}
use Rattle.hexformat.proofs.Agrees.{read_exactly, refused_exactly, one_fault}
use Rattle.hexformat.proofs.RoundTrip.{written_is_good, written_reads_back, there_and_back}
use Rattle.hexformat.proofs.Damaged.{digit_changed}
use Rattle.image.specs.Layout.{layout_verdict}
use Rattle.image.specs.Find.{found, found_offset}
use Rattle.builder.specs.Build.{build_image}
use Rattle.builder.specs.Lines.{lines_given}
use Rattle.sets.specs.Set.{prescales_of}
use Rattle.bodies.specs.Identity.{identity_of}
use Rattle.bodies.specs.Trim.{trim_of}
use Rattle.reading.specs.declared.Counts.{Counts}
use Rattle.reading.specs.declared.Reading.{Reading}
use Rattle.panel.specs.Verdict.{verdict_of}
use Rattle.panel.specs.Reading.{reading_of}
use Rattle.hexwrite.specs.contracts as hexwrite
use Rattle.builder.specs.contracts as builder
use Rattle.sets.specs.contracts as sets
use Rattle.sets.proofs as sets_proofs
use Rattle.bodies.specs.contracts as bodies
use Rattle.bodies.proofs as bodies_proofs
use Rattle.agreement.specs.FieldsAgree.{number_same, signed_same}
use Rattle.agreement.specs.WriterAgrees.{write_refused_exactly, written_exactly}
use Rattle.agreement.specs.LayoutAgrees.{layout_refused_exactly, layout_accepted_exactly}
use Rattle.agreement.specs.FinderAgrees.{found_exactly, absent_exactly, offset_exactly}
use Rattle.agreement.specs.BuilderAgrees.{build_refused_exactly, built_exactly}
use Rattle.agreement.specs.VerdictAgrees.{verdict_refused_exactly, verdict_accepted_exactly}
use Rattle.agreement.specs.OnPaper.{on_paper, ShowsReading}
use Rattle.agreement.proofs.ReadingAgrees.{reading_refused_exactly, reading_shown_exactly}
use Rattle.agreement.proofs.ManualAgrees.{grid_by_manual, shows_by_manual}

-- ---- the HEX reader

-- A text is read, and as which image, exactly where Intel's format says that it is a good text of that image, and the image has room.
pub text_read_exactly : (size : ℕ) (text image : List ℕ) → (read_text size text ≡ result image) ↔ (GoodText image text × (length image ≤ min 4096 size))
text_read_exactly = read_exactly

-- A text is refused by a number at a line exactly where that is its first fault.
pub text_refused_exactly : (size : ℕ) (text : List ℕ) (number line : ℕ)
    → (read_text size text ≡ refused (refusal number line)) ↔ Refuses (min 4096 size) text number line
text_refused_exactly = refused_exactly

-- A text has one first fault at most.
pub text_one_fault : (room : ℕ) (text : List ℕ) (number line number' line' : ℕ) → Refuses room text number line → Refuses room text number' line'
    → (number ≡ number') × (line ≡ line')
text_one_fault = one_fault

-- A good text in which one digit has another value is refused.
pub changed_digit_refused : (size : ℕ) (image before rest : List ℕ) (one other value changed : ℕ) → GoodText image (before ++ one ∷ rest)
    → Digit one value → Digit other changed → Not (value ≡ changed) → IsRefused (read_text size (before ++ other ∷ rest))
changed_digit_refused = digit_changed

-- ---- the HEX writer

-- An image is refused by 4 or 17 exactly where its row says so.
pub image_write_refused_exactly : (size : ℕ) (image : List ℕ) (number detail : ℕ)
    → (write_image size image ≡ refused (refusal number detail)) ↔ FirstGiven (writer_table size image) number detail
image_write_refused_exactly = write_refused_exactly

-- in every call of the writer
module _ (call : Call hexwrite.write.signature) where
  abbrev image : List ℕ
  image = call.arguments.0.now

  -- A text is written, and which, exactly where no row is given and it is the text that document 01 says.
  pub image_written_exactly : (size : ℕ) (text : List ℕ) → (write_image size image ≡ result text) ↔ (NoneGiven (writer_table size image) × Written image text)
  image_written_exactly size text = written_exactly size image text (lent_bytes call (shared 0 tt))

  -- What is written is a good text of the image,
  pub written_text_is_good : length image ≤ 4096 → GoodText image (text_of image)
  written_text_is_good = written_is_good image (lent_bytes call (shared 0 tt))

  -- and reads back the same,
  pub written_text_reads_back : (size : ℕ) → length image ≤ 4096 → length image ≤ size → read_text size (text_of image) ≡ result image
  written_text_reads_back = written_reads_back image (lent_bytes call (shared 0 tt))

  -- whatever writing and then reading may answer by their contracts.
  pub image_there_and_back : (text text' buffer buffer' : List ℕ) (n : ℕ) (answer : Filled)
      → Fills (write_image (length text) image) text (Ok n) text'
      → Fills (read_text (length buffer) (take n text')) buffer answer buffer'
      → length image ≤ length buffer
      → (answer ≡ Ok (length image)) × (buffer' ≡ image ++ replicate (length buffer - length image) 0)
  image_there_and_back text text' buffer buffer' n answer = there_and_back image text text' buffer buffer' n answer (lent_bytes call (shared 0 tt))

-- ---- the image reader

-- A layout is refused by 5 to 8, with their details, exactly where that is the first row given, and good exactly where none is.
pub layout_refused_by : (image : List ℕ) (number detail : ℕ)
    → (layout_verdict image ≡ Err (refusal number detail)) ↔ FirstGiven (layout_table image) number detail
layout_refused_by = layout_refused_exactly

pub layout_good : (image : List ℕ) → (layout_verdict image ≡ Ok tt) ↔ NoneGiven (layout_table image)
layout_good = layout_accepted_exactly

-- A kind's body is found exactly where the layout is good and the image has it, at the offset that its contents line states.
pub body_found : (image : List ℕ) (kind : ℕ) (body : List ℕ) → (found image kind ≡ some body) ↔ (NoneGiven (layout_table image) × HasBody image kind body)
body_found = found_exactly

pub body_absent : (image : List ℕ) (kind : ℕ) → (found image kind ≡ none) ↔ Not (NoneGiven (layout_table image) × HasKind image kind)
body_absent = absent_exactly

pub body_offset : (image : List ℕ) (kind offset : ℕ)
    → (found_offset image kind ≡ some offset) ↔ (NoneGiven (layout_table image) × ((h : HasKind image kind) × (offset ≡ offset_of image h.line)))
body_offset = offset_exactly

-- An image is refused at a level exactly by the first row given, and accepted exactly where none is.
pub verdict_refused_by : (level : ℕ) (image : List ℕ) (number detail : ℕ)
    → (verdict_of level image ≡ Err (refusal number detail)) ↔ FirstGiven (verdict_table level image) number detail
verdict_refused_by = verdict_refused_exactly

pub verdict_accepts : (level : ℕ) (image : List ℕ) → (verdict_of level image ≡ Ok tt) ↔ NoneGiven (verdict_table level image)
verdict_accepts = verdict_accepted_exactly

-- ---- the builder

-- Lines and bodies are refused by 18, 19 or 17 exactly by the first row given.
pub build_refused_by : (size : ℕ) (kinds lengths bodies : List ℕ) (number detail : ℕ)
    → (build_image size (lines_given kinds lengths) bodies ≡ refused (refusal number detail))
    ↔ FirstGiven (builder_table size kinds lengths bodies) number detail
build_refused_by = build_refused_exactly

-- In every call of the builder, an image is built, and which, exactly where no row is given and it is the image of these lines and bodies:
-- bytes with a good layout, with these kinds, lengths and bodies.
pub image_built_exactly : (call : Call builder.build_from_numbers.signature) (size : ℕ) (image : List ℕ)
    → (build_image size (lines_given call.arguments.0.now call.arguments.1.0.now) call.arguments.1.1.0.now ≡ result image)
    ↔ (NoneGiven (builder_table size call.arguments.0.now call.arguments.1.0.now call.arguments.1.1.0.now)
    × IsImageOf call.arguments.0.now call.arguments.1.0.now call.arguments.1.1.0.now image)
image_built_exactly call size image =
    built_exactly size call.arguments.0.now call.arguments.1.0.now call.arguments.1.1.0.now image
    (lent_bytes call (next (next (shared 2 tt))))

-- ---- the reading

-- A reading is refused by a number with a detail exactly where that is the first row given,
pub reading_refused_by : (level : ℕ) (image : List ℕ) (counts : Counts) (number detail : ℕ)
    → (reading_of level image counts ≡ Err (refusal number detail)) ↔ FirstGiven (reading_table level image (on_paper counts)) number detail
reading_refused_by = reading_refused_exactly

-- and shown exactly where none is and it is what document 01 works out: frequencies, X by each set's own prescale, the nested sums, mark and trim.
pub reading_shown : (level : ℕ) (image : List ℕ) (counts : Counts) (reading : Reading)
    → (reading_of level image counts ≡ Ok reading) ↔ (NoneGiven (reading_table level image (on_paper counts)) × ShowsReading image counts reading)
reading_shown = reading_shown_exactly

-- What is shown is the nested polynomial of the maker's manual, as it is printed, of the coefficients A0, A1, .. B0, .. in the image.
pub reading_by_manual : (level : ℕ) (image : List ℕ) (counts : Counts) (reading : Reading) → reading_of level image counts ≡ Ok reading
    → ShowsByManual image (on_paper counts) reading.pressure reading.temperature reading.unit reading.mark
reading_by_manual = shows_by_manual

-- ---- what a body says

-- An identity's fields, a trim's, a set's and its coefficients are read at the places that document 01 names.
pub identity_read : EveryCall bodies.read_identity.ended bodies_proofs.read_identity.Reads.Learnt
    (λ call r b.
    let body = call.arguments.0.now in
    (r.serial ≡ number 4 body 0) × (r.year ≡ number 2 body 4) × (r.month ≡ number 1 body 6) × (r.day ≡ number 1 body 7)
    × (r.tmin ≡ signed 4 body 8) × (r.tmax ≡ signed 4 body 12) × (r.pmin ≡ signed 4 body 16) × (r.pmax ≡ signed 4 body 20))
unfolding identity_of
identity_read call r b learnt = rw (learnt, number_same, signed_same) (refl, refl, refl, refl, refl, refl, refl, refl)

pub trim_read : EveryCall bodies.read_trim.ended bodies_proofs.read_trim.Reads.Learnt
    (λ call r b.
    let body = call.arguments.0.now in
    (r.unit ≡ number 1 body 0) × (r.span ≡ number 4 body 4) × (r.zero ≡ signed 8 body 8))
unfolding trim_of
trim_read call r b learnt = rw (learnt, number_same, signed_same) (refl, refl, refl)

pub set_read : EveryCall sets.read_prescales.ended sets_proofs.read_prescales.Reads.Learnt
    (λ call r b.
    let body = call.arguments.0.now in
    (r.pressure.order ≡ number 1 body 2) × (r.pressure.multiplier ≡ number 4 body 4) × (r.pressure.offset ≡ number 8 body 8)
    × (r.temperature.order ≡ number 1 body 3) × (r.temperature.multiplier ≡ number 4 body 16) × (r.temperature.offset ≡ number 8 body 20))
unfolding prescales_of
set_read call r b learnt = rw (learnt, number_same) (refl, refl, refl, refl, refl, refl)

-- row r is A0, A1, .. or B0, B1, ..; absent places are 0
pub grid_read : EveryCall sets.read_grid.ended sets_proofs.read_grid.Reads.Learnt
    (λ call r b.
    let body = call.arguments.0.now in
    Not (SetWrong body) → (row place : ℕ) → row < 5 → place < 5 → get_or (get_or r row []) place (pos 0) ≡ coefficient body row place)
grid_read call r b learnt right row place h k = rw learnt (grid_by_manual call.arguments.0.now right row place h k)
