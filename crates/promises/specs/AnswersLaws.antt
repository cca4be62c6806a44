-- From a definition to what a call answers: each function's refusals and results are document 01's.
use Rattle.std.specs.Prelude.{Bool, true, ◌&&◌, List, [], ◌∷◌, ◌↔◌, ℕ, ◌+◌, ◌≤◌, min, leb, length, Err, Ok, Option as Maybe}
use Rattle.std.proofs.Math.Logic.{inl, inr}
use Rattle.std.proofs.Math.Option.{Option, none, some}
use Rattle.std.proofs.Math.Path.{◌≡◌, refl}
use Rattle.std.proofs.Common.{sym, ap, ◌∙◌, arith, leb-true}
use Rattle.std.specs.Borrow.{Bor}
use Rattle.paper.specs.Table.{Row, NoneGiven, FirstGiven, Tells}
use Rattle.paper.specs.Writer.{writer_table}
use Rattle.paper.specs.Image.{HasKind, layout_table}
use Rattle.paper.specs.Verdict.{verdict_table}
use Rattle.paper.specs.Builder.{builder_table, IsImageOf}
use Rattle.paper.specs.ReadingTable.{reading_table}
use Rattle.hexformat.specs.Format.{GoodText}
use Rattle.hexformat.specs.Faults.{Refuses}
use Rattle.hexformat.specs.Writing.{Written}
use Rattle.hexformat.proofs.Agrees.{read_exactly, refused_exactly, refused_known}
use Rattle.laws.specs.Bytes.{Bytes}
use Rattle.laws.specs.Cases.{never, both_left, both_right}
use Rattle.refusals.specs.declared.Refusal.{Refusal}
use Rattle.refusals.specs.Answers.{Verdict}
use Rattle.refusals.specs.Answers.{Filled}
use Rattle.refusals.specs.declared.for_c.FilledForC.{FilledForC}
use Rattle.refusals.specs.InNumbers.{verdict_number, verdict_detail, filled_number, filled_detail, filled_length}
use Rattle.refusals.specs.Refusals.{Outcome, result, refused as is-refused, answer_to, Fills as FillsBuffer}
use Rattle.refusals.specs.ForC.{FillsForC}
use Rattle.refusals.specs.VerdictLaws.{checked_refused, checked_result}
use Rattle.hextext.specs.Text.{read_text}
use Rattle.hextext.specs.Written.{write_image}
use Rattle.image.specs.Find.{found as found_in, found_offset, is_there, Found}
use Rattle.builder.specs.Build.{build_image}
use Rattle.builder.specs.declared.KindAndLength.{KindAndLength}
use Rattle.builder.specs.Lines.{lines_given, kinds_of, lengths_of}
use Rattle.finder.specs.declared.Place.{Place}
use Rattle.finder.specs.Places.{placed}
use Rattle.finder.specs.ForC.{place_for_c}
use Rattle.reading.specs.declared.Counts.{Counts}
use Rattle.reading.specs.Answers.{Answer}
use Rattle.reading.specs.InNumbers.{answer_number, answer_detail, answer_pressure, answer_temperature, answer_unit, answer_mark}
use Rattle.panel.specs.Verdict.{verdict_of}
use Rattle.panel.specs.Reading.{reading_of}
use Rattle.panel.specs.Load.{judged, load_text}
use Rattle.agreement.specs.TableLaws.{Gives}
use Rattle.agreement.specs.WriterAgrees.{write_refused_exactly, written_exactly}
use Rattle.agreement.specs.FinderAgrees.{found_exactly, absent_exactly, offset_exactly}
use Rattle.agreement.specs.BuilderAgrees.{build_refused_exactly, built_exactly}
use Rattle.agreement.specs.VerdictAgrees.{verdict_refused_exactly, verdict_accepted_exactly}
use Rattle.agreement.specs.OnPaper.{on_paper}
use Rattle.agreement.proofs.ReadingAgrees.{reading_refused_exactly, reading_shown_exactly}
use Rattle.promises.specs.Answers.{Fills, refused, filled, kinds_lent, lengths_lent, LoadRefused, Loaded, AnswersFind, found, absent, FindsPart, found_part, absent_part, AnswersReading, not_shown, shown}

-- ---- every number of a table is from 1 on

abbrev pub numbered : List Row → Bool
numbered [] = true
numbered (r ∷ rows) = leb 1 r.number && numbered rows

pub first_numbered : (rows : List Row) → numbered rows ≡ true → (number detail : ℕ) → FirstGiven rows number detail → 1 ≤ number
first_numbered [] e number detail f = absurd f
first_numbered (r ∷ rows) e number detail (inl (n, g)) = rw n (leb-true 1 r.number (both_left (leb 1 r.number) (numbered rows) e))
first_numbered (r ∷ rows) e number detail (inr (n, f)) = first_numbered rows (both_right (leb 1 r.number) (numbered rows) e) number detail f

pub verdict_tells : (rows : List Row) → numbered rows ≡ true → (v : Verdict) → Gives rows v → Tells rows (verdict_number v) (verdict_detail v)
verdict_tells rows e (Ok tt) g = inr (refl, refl, g)
verdict_tells rows e (Err r) g = inl (first_numbered rows e r.number r.detail g, g)

-- ---- a lent buffer

module _ (o : Outcome) {R : (number detail : ℕ) → Type 0} {P : List ℕ → Type 0}
    (refuses : (r : Refusal) → o ≡ is-refused r → (1 ≤ r.number) × R r.number r.detail) (results : (x : List ℕ) → o ≡ result x → P x)
    (before after : List ℕ) where
  pub fills_answer : (answer : Filled) → FillsBuffer o before answer after
      → Fills R P before (filled_number answer) (filled_detail answer) (filled_length answer) after
  fills_answer answer f = by o refl
    where
      by : (p : Outcome) → o ≡ p → Fills R P before (filled_number answer) (filled_detail answer) (filled_length answer) after
      by (is-refused r) e = let given = refuses r e in rw (f.answers, e) (refused given.0 given.1 refl (rw e at f.holds))
      by (result x) e = rw (f.answers, e) (filled x (results x e) refl refl refl (rw e at f.holds))

  pub fills_for_c_answer : (r : FilledForC) → FillsForC o before r after → Fills R P before r.number r.detail r.length after
  fills_for_c_answer r f = rw f.answers (fills_answer (answer_to o) (record { answers = refl; holds = f.holds }))

module _ (size : ℕ) (text : List ℕ) where
  pub read_refuses : (r : Refusal) → read_text size text ≡ is-refused r → (1 ≤ r.number) × Refuses (min 4096 size) text r.number r.detail
  read_refuses r e = ((refused_known size text r e).0, (refused_exactly size text r.number r.detail).0 e)

  pub read_results : (image : List ℕ) → read_text size text ≡ result image → GoodText image text × (length image ≤ min 4096 size)
  read_results image e = (read_exactly size text image).0 e

module _ (size : ℕ) (image : List ℕ) where
  pub write_refuses : (r : Refusal) → write_image size image ≡ is-refused r → (1 ≤ r.number) × FirstGiven (writer_table size image) r.number r.detail
  write_refuses r e =
      let f = (write_refused_exactly size image r.number r.detail).0 e in
      (first_numbered (writer_table size image) refl r.number r.detail f, f)

  pub write_results : Bytes image → (text : List ℕ) → write_image size image ≡ result text → Written image text
  write_results b text e = ((written_exactly size image text b).0 e).1

module _ (size : ℕ) (kinds lengths bodies : List ℕ) where
  pub build_refuses : (r : Refusal) → build_image size (lines_given kinds lengths) bodies ≡ is-refused r
      → (1 ≤ r.number) × FirstGiven (builder_table size kinds lengths bodies) r.number r.detail
  build_refuses r e =
      let f = (build_refused_exactly size kinds lengths bodies r.number r.detail).0 e in
      (first_numbered (builder_table size kinds lengths bodies) refl r.number r.detail f, f)

  pub build_results : Bytes bodies → (image : List ℕ) → build_image size (lines_given kinds lengths) bodies ≡ result image
      → IsImageOf kinds lengths bodies image
  build_results b image e = ((built_exactly size kinds lengths bodies image b).0 e).1

-- the builder's own kinds and lengths of lines are these
pub kinds_lent_lem : (lines : List KindAndLength) → kinds_lent lines ≡ kinds_of lines
kinds_lent_lem [] = refl
kinds_lent_lem (l ∷ lines) = ap (λ (ks : List ℕ). l.kind ∷ ks) (kinds_lent_lem lines)

pub lengths_lent_lem : (lines : List KindAndLength) → lengths_lent lines ≡ lengths_of lines
lengths_lent_lem [] = refl
lengths_lent_lem (l ∷ lines) = ap (λ (ls : List ℕ). l.length ∷ ls) (lengths_lent_lem lines)

module _ (level : ℕ) (text before : List ℕ) where
  abbrev loaded : Outcome
  loaded = load_text level (length before) text

  pub load_refuses : (r : Refusal) → loaded ≡ is-refused r → (1 ≤ r.number) × LoadRefused level text before r.number r.detail
  unfolding load_text
  load_refuses r e = by (read_text (length before) text) refl e
    where
      by : (o : Outcome) → read_text (length before) text ≡ o → judged level o ≡ is-refused r
          → (1 ≤ r.number) × LoadRefused level text before r.number r.detail
      by (is-refused q) f g =
          let same : q ≡ r = cc in
          let known = read_refuses (length before) text r (rw same at f) in
          (known.0, inl known.1)
      by (result image) f g =
          let good = read_results (length before) text image f in
          let first = (verdict_refused_exactly level image r.number r.detail).0 (checked_refused (verdict_of level image) image r g) in
          (first_numbered (verdict_table level image) refl r.number r.detail first, inr (image, good.0, good.1, first))

  pub load_results : (image : List ℕ) → loaded ≡ result image → Loaded level text before image
  unfolding load_text
  load_results image e = by (read_text (length before) text) refl e
    where
      by : (o : Outcome) → read_text (length before) text ≡ o → judged level o ≡ result image → Loaded level text before image
      by (is-refused q) f g = let z : ◌≡◌ {A = ℕ} 0 1 = cc in absurd (omega arith)
      by (result x) f g =
          let c = checked_result (verdict_of level x) x image g in
          let good = read_results (length before) text image (rw c.1 at f) in
          (good.0, good.1, (verdict_accepted_exactly level image).0 (rw c.1 at c.0))

-- ---- a kind found

pub find_answer : (image : List ℕ) (kind : ℕ) (place : Maybe Place) → place ≡ placed (found_offset image kind) (found_in image kind)
    → AnswersFind image kind (place_for_c place).there (place_for_c place).offset (place_for_c place).length
find_answer image kind place e = rw e (by (found_offset image kind) (found_in image kind) refl refl)
  where
    by : (o : Option ℕ) (b : Option (List ℕ)) → found_offset image kind ≡ o → found_in image kind ≡ b
        → AnswersFind image kind (place_for_c (placed o b)).there (place_for_c (placed o b)).offset (place_for_c (placed o b)).length
    by (some offset) (some body) f g =
        let at = (offset_exactly image kind offset).0 f in
        let has = (found_exactly image kind body).0 g in
        found refl has.0 body has.1 at.1.0 at.1.1 refl
    by (some offset) none f g = let at = (offset_exactly image kind offset).0 f in absurd ((absent_exactly image kind).0 g (at.0, at.1.0))
    by none (some body) f g =
        let has = (found_exactly image kind body).0 g in
        let z : ◌≡◌ {A = ℕ} 0 1 = cc (f, (offset_exactly image kind _).1 (has.0, (has.1.has, refl))) in
        absurd (omega arith)
    by none none f g = absent refl ((absent_exactly image kind).0 g) refl refl

-- the part itself
module _ (image r : Bor (List ℕ)) (kind : ℕ) (f : Found image r kind) where
  pub finds_part : FindsPart image r kind
  finds_part = by (found_offset image.now kind) (found_in image.now kind) refl refl
    where
      by : (o : Option ℕ) (b : Option (List ℕ)) → found_offset image.now kind ≡ o → found_in image.now kind ≡ b → FindsPart image r kind
      by (some offset) (some body) e g =
          let at = (offset_exactly image.now kind offset).0 e in
          let has = (found_exactly image.now kind body).0 g in
          found_part has.0 (rw (f.holds, g) has.1) at.1.0 f.block (rw e at f.place ∙ ap (λ (n : ℕ). image.ref_ptr.1 + n) at.1.1)
      by (some offset) none e g = let at = (offset_exactly image.now kind offset).0 e in absurd ((absent_exactly image.now kind).0 g (at.0, at.1.0))
      by none (some body) e g =
          let has = (found_exactly image.now kind body).0 g in
          let z : ◌≡◌ {A = ℕ} 0 1 = cc (e, (offset_exactly image.now kind _).1 (has.0, (has.1.has, refl))) in
          absurd (omega arith)
      by none none e g = absent_part ((absent_exactly image.now kind).0 g) (rw g at f.holds) f.block (omega (arith, rw e at f.place))

-- yes or no
pub has_answer : (image : List ℕ) (kind : ℕ) (there : Bool) → there ≡ is_there (found_in image kind)
    → (there ≡ true) ↔ (NoneGiven (layout_table image) × HasKind image kind)
has_answer image kind there e = rw e (by (found_in image kind) refl)
  where
    by : (b : Option (List ℕ)) → found_in image kind ≡ b → (is_there b ≡ true) ↔ (NoneGiven (layout_table image) × HasKind image kind)
    by none g = (λ f. never f, λ h. absurd ((absent_exactly image kind).0 g h))
    by (some body) g = let has = (found_exactly image kind body).0 g in (λ f. (has.0, has.1.has), λ h. refl)

-- ---- a reading

pub reading_answer : (level : ℕ) (image : List ℕ) (counts : Counts) (a : Answer) → a ≡ reading_of level image counts
    → AnswersReading level image (on_paper counts) (answer_number a) (answer_detail a) (answer_pressure a) (answer_temperature a)
    (answer_unit a) (answer_mark a)
reading_answer level image counts (Ok reading) e =
    let s = (reading_shown_exactly level image counts reading).0 (sym e) in
    shown refl refl s.0 s.1
reading_answer level image counts (Err r) e =
    let f = (reading_refused_exactly level image counts r.number r.detail).0 (sym e) in
    not_shown (first_numbered (reading_table level image (on_paper counts)) refl r.number r.detail f) f refl refl refl refl
