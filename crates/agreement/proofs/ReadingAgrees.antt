-- A reading: shown as document 01 says, or refused by the first row of its table.
use Rattle.std.specs.Prelude.{true, ◌⊎◌, ◌↔◌, ◌≡◌, ℕ, ◌*◌, ◌^◌, ◌≤◌, leb, ℤ, pos, nat_abs, Err, Ok}
use mathlib.Core.List.{List, [], ◌++◌}
use Rattle.std.proofs.Common.{inl, inr, ap}
use Rattle.std.proofs.Math.Option.{Option, none, some}
use Rattle.std.proofs.Math.Path.{refl}
use Rattle.paper.specs.Words.{Not}
use Rattle.paper.specs.Table.{Row, NoneGiven, FirstGiven}
use Rattle.paper.specs.Image.{HasKind, HasBody}
use Rattle.paper.specs.Bodies.{SetWrong, TrimWrong}
use Rattle.paper.specs.Reading.{Counts as PaperCounts, Result, Untrimmed, Trimmed, Shows}
use Rattle.paper.specs.Verdict.{verdict_table}
use Rattle.paper.specs.ReadingTable.{channel_table, InSet, set_table, counts_table, reading_table}
use Rattle.laws.specs.Cases.{decide, positive}
use Rattle.refusals.specs.Answers.{Verdict}
use Rattle.refusals.specs.Refusals.{refusal}
use Rattle.image.specs.Sections.{sections}
use Rattle.image.specs.Find.{body_of}
use Rattle.bodies.specs.Identity.{identity_of}
use Rattle.bodies.specs.Trim.{trim_of}
use Rattle.reading.specs.declared.Counts.{Counts}
use Rattle.reading.specs.declared.Reading.{Reading}
use Rattle.reading.specs.Answers.{Answer}
use Rattle.reading.specs.Answers.{Value}
use Rattle.reading.specs.Gauge.{set_of}
use Rattle.reading.specs.Frequency.{frequency_of}
use Rattle.reading.specs.Polynomial.{set_result}
use Rattle.reading.specs.Measured.{and_show, mark_of, trimmed_by, shown_by, measured_of}
use Rattle.panel.specs.Verdict.{verdict_of}
use Rattle.panel.specs.Reading.{body_in, trimming_of, sections_reading, after_verdict, reading_of}
use Rattle.agreement.specs.OnPaper.{on_paper, ShowsReading}
use Rattle.agreement.specs.TableLaws.{Gives, none_append, none_before, none_after, first_append, first_stays, Single, single_append, row_once, none_or_first, first_once}
use Rattle.agreement.specs.TestsLaws.{fails_beyond}
use Rattle.agreement.specs.FieldsAgree.{signed_same}
use Rattle.agreement.specs.NearestLaws.{nearest_once}
use Rattle.agreement.specs.KindsAgree.{found_is_had, body_once, none_found, body_there}
use Rattle.agreement.specs.VerdictAgrees.{verdict_gives, verdict_single, verdict_accepted_exactly, Readable, accepted_readable}
use Rattle.agreement.specs.ValueLaws.{ValueGives}
use Rattle.agreement.specs.FrequencyAgrees.{Counted, frequency_gives}
use Rattle.agreement.specs.SetAgrees.{set_gives, result_once}
use Rattle.agreement.specs.ShownAgrees.{mark_is, mark_once, trim_is, shown_once}

-- an answer is a reading of which P holds, or refused as the table says
abbrev pub AnswerGives : List Row → (P : Reading → Type 0) → Answer → Type 0
AnswerGives rows P (Ok reading) = NoneGiven rows × P reading
AnswerGives rows P (Err r) = FirstGiven rows r.number r.detail

pub answer_after : (rows more : List Row) (P : Reading → Type 0) (a : Answer) → NoneGiven rows → AnswerGives more P a → AnswerGives (rows ++ more) P a
answer_after rows more P (Ok reading) n g = (none_append rows more n g.0, g.1)
answer_after rows more P (Err r) n g = first_append rows more r.number r.detail n g

-- a value, then what is shown of it
answer_then : (rows more : List Row) (P : ℤ → Type 0) (Q : Reading → Type 0) (v : Value) (next : ℤ → Answer) → ValueGives rows P v
    → ((z : ℤ) → P z → AnswerGives more Q (next z)) → AnswerGives (rows ++ more) Q (and_show v next)
answer_then rows more P Q (Ok z) next g f = answer_after rows more Q (next z) g.0 (f z g.1)
answer_then rows more P Q (Err r) next g f = first_stays rows more r.number r.detail g

-- ---- of an image that a panel accepts

module _ (image : List ℕ) (counts : Counts) (right : Readable image) where
  abbrev paper : PaperCounts
  paper = on_paper counts

  abbrev body : (kind : ℕ) → List ℕ
  body kind = body_in kind (sections image)

  there : (kind : ℕ) → HasKind image kind → HasBody image kind (body kind)
  there kind h = body_there image kind right.good h

  once : (kind : ℕ) (b b' : List ℕ) → HasBody image kind b → HasBody image kind b' → b ≡ b'
  once kind = body_once image kind right.good

  -- ---- from both results on: mark and trim

  zero_near : (trim : List ℕ) → Not (TrimWrong trim) → leb (nat_abs (trim_of trim).zero) (2 ^ 40) ≡ true
  unfolding trim_of
  zero_near trim ok =
      decide (leb (nat_abs (trim_of trim).zero) (2 ^ 40)) (λ e. e)
      (λ e. absurd (ok (inr (inr (inr (inr (inr (inr (rw signed_same ((fails_beyond (2 ^ 40) (trim_of trim).zero).bad e))))))))))

  module _ (fp ft : ℤ) (fp_is : Counted 1 paper.pressure_ns paper.pressure_nr fp) (ft_is : Counted 2 paper.temperature_ns paper.temperature_nr ft) where
    module _ (pressure temperature : ℤ) (pressure_is : Result (body 2) fp ft pressure) (temperature_is : Result (body 3) fp ft temperature) where
      abbrev mark : ℕ
      mark = mark_of (identity_of (body 1)) pressure temperature

      shows : (shown : ℤ) (unit : ℕ) → Untrimmed image pressure shown unit ⊎ Trimmed image pressure shown unit → Shows image paper shown temperature unit mark
      shows shown unit trim =
          record {
            identity = body 1;
            pressure_set = body 2;
            temperature_set = body 3;
            identity_is = there 1 right.has_identity;
            pressure_set_is = there 2 right.has_pressure_set;
            temperature_set_is = there 3 right.has_temperature_set;
            fp = fp;
            ft = ft;
            fp_is = fp_is.1;
            ft_is = ft_is.1;
            pressure = pressure;
            pressure_is = pressure_is;
            temperature_is = temperature_is;
            mark_is = mark_is (body 1) pressure temperature;
            trim_is = trim;
          }

      shown_gives : AnswerGives [] (ShowsReading image counts) (shown_by (trimming_of (body_of 4 (sections image))) pressure temperature mark)
      unfolding shown_by
      shown_gives = by (body_of 4 (sections image)) refl
        where
          by : (o : Option (List ℕ)) → body_of 4 (sections image) ≡ o
              → AnswerGives [] (ShowsReading image counts) (shown_by (trimming_of o) pressure temperature mark)
          by none e = (tt, shows pressure 1 (inl (record { no_trim = none_found image 4 right.good e; is = refl; in_psi = refl })))
          by (some trim) e =
              let has = found_is_had image 4 trim e in
              rw (zero_near trim (right.trim_right trim has))
              (tt, shows (trimmed_by (trim_of trim) pressure) (trim_of trim).unit (inr (trim_is image pressure trim has)))

    -- ---- a set of this image at these frequencies

    into : (kind : ℕ) → HasKind image kind → (P : List ℕ → ℤ → ℤ → Type 0) → P (body kind) fp ft → InSet image paper kind P
    into kind h P p = (body kind, fp, ft, there kind h, fp_is.1, ft_is.1, p)

    out : (kind : ℕ) → HasKind image kind → (P : List ℕ → ℤ → ℤ → Type 0) → InSet image paper kind P → P (body kind) fp ft
    out kind h P (b, f, g, b_is, f-is, g-is, p) =
        let same_body = once kind b (body kind) b_is (there kind h) in
        let same-fp = nearest_once (pos (7200000 * 65536 * paper.pressure_ns)) paper.pressure_nr fp_is.0 f fp f-is fp_is.1 in
        let same-ft = nearest_once (pos (7200000 * 65536 * paper.temperature_ns)) paper.temperature_nr ft_is.0 g ft g-is ft_is.1 in
        rw (same_body, same-fp, same-ft) at p

    set_in_image : (kind first : ℕ) → HasKind image kind → Not (SetWrong (body kind))
        → ValueGives (set_table image paper kind first) (λ (z : ℤ). Result (body kind) fp ft z)
        (set_result kind first (set_of (body kind)) fp ft)
    set_in_image kind first h ok = set_gives (body kind) ok fp ft kind first (InSet image paper kind) (into kind h) (out kind h)

  -- ---- the whole way

  pub sections_give : AnswerGives (counts_table image paper) (ShowsReading image counts) (sections_reading (sections image) counts)
  unfolding sections_reading measured_of
  sections_give =
      let last = set_table image paper 3 3 ++ [] in
      let sets = set_table image paper 2 1 ++ last in
      answer_then (channel_table 1 paper.pressure_ns paper.pressure_nr) (channel_table 2 paper.temperature_ns paper.temperature_nr ++ sets)
      (Counted 1 paper.pressure_ns paper.pressure_nr) (ShowsReading image counts)
      (frequency_of 1 paper.pressure_ns paper.pressure_nr) _ (frequency_gives 1 paper.pressure_ns paper.pressure_nr)
      (λ fp fp_is. answer_then (channel_table 2 paper.temperature_ns paper.temperature_nr) sets
      (Counted 2 paper.temperature_ns paper.temperature_nr) (ShowsReading image counts)
      (frequency_of 2 paper.temperature_ns paper.temperature_nr) _ (frequency_gives 2 paper.temperature_ns paper.temperature_nr)
      (λ ft ft_is. answer_then (set_table image paper 2 1) last (λ (z : ℤ). Result (body 2) fp ft z) (ShowsReading image counts)
      (set_result 2 1 (set_of (body 2)) fp ft) _
      (set_in_image fp ft fp_is ft_is 2 1 right.has_pressure_set (right.pressure_set_right (body 2) (there 2 right.has_pressure_set)))
      (λ pressure pressure_is. answer_then (set_table image paper 3 3) [] (λ (z : ℤ). Result (body 3) fp ft z) (ShowsReading image counts)
      (set_result 3 3 (set_of (body 3)) fp ft) _
      (set_in_image fp ft fp_is ft_is 3 3 right.has_temperature_set (right.temperature_set_right (body 3) (there 3 right.has_temperature_set)))
      (λ temperature temperature_is. shown_gives fp ft fp_is ft_is pressure temperature pressure_is temperature_is))))

  -- ---- one reading

  module _ (some-pressure : 1 ≤ paper.pressure_nr) (some-temperature : 1 ≤ paper.temperature_nr) where
    pub shows_once : (a b : Reading) → ShowsReading image counts a → ShowsReading image counts b → a ≡ b
    shows_once a b s t =
        let fp = nearest_once (pos (7200000 * 65536 * paper.pressure_ns)) paper.pressure_nr some-pressure s.fp t.fp s.fp_is t.fp_is in
        let ft = nearest_once (pos (7200000 * 65536 * paper.temperature_ns)) paper.temperature_nr some-temperature s.ft t.ft s.ft_is t.ft_is in
        let p-set = once 2 s.pressure_set t.pressure_set s.pressure_set_is t.pressure_set_is in
        let t-set = once 3 s.temperature_set t.temperature_set s.temperature_set_is t.temperature_set_is in
        let pressure : s.pressure ≡ t.pressure =
        result_once t.pressure_set (right.pressure_set_right t.pressure_set t.pressure_set_is) t.fp t.ft s.pressure t.pressure
        (rw (p-set, fp, ft) at s.pressure_is) t.pressure_is in
        let temperature : a.temperature ≡ b.temperature =
        result_once t.temperature_set (right.temperature_set_right t.temperature_set t.temperature_set_is) t.fp t.ft
        a.temperature b.temperature
        (rw (t-set, fp, ft) at s.temperature_is) t.temperature_is in
        let identity = once 1 s.identity t.identity s.identity_is t.identity_is in
        let mark : a.mark ≡ b.mark =
        mark_once t.identity t.pressure b.temperature a.mark b.mark (rw (identity, pressure, temperature) at s.mark_is) t.mark_is in
        let shown = shown_once image t.pressure (once 4) a.pressure b.pressure a.unit b.unit (rw pressure at s.trim_is) t.trim_is in
        rw (shown.0, temperature, shown.1, mark)

-- ---- the reading of an image

module _ (level : ℕ) (image : List ℕ) (counts : Counts) where
  abbrev rows : List Row
  rows = reading_table level image (on_paper counts)

  reading_gives : AnswerGives rows (ShowsReading image counts) (reading_of level image counts)
  unfolding reading_of
  reading_gives = by (verdict_of level image) refl (verdict_gives level image)
    where
      by : (v : Verdict) → verdict_of level image ≡ v → Gives (verdict_table level image) v
          → AnswerGives rows (ShowsReading image counts) (after_verdict v (sections_reading (sections image) counts))
      by (Ok tt) e g =
          answer_after (verdict_table level image) (counts_table image (on_paper counts)) (ShowsReading image counts)
          (sections_reading (sections image) counts) g
          (sections_give image counts (accepted_readable level image e))
      by (Err r) e g = first_stays (verdict_table level image) (counts_table image (on_paper counts)) r.number r.detail g

  rows_single : Single rows
  rows_single =
      single_append (verdict_table level image) (counts_table image (on_paper counts)) (verdict_single level image) (
        row_once 1 _,
        (
          row_once 1 _,
          (
            row_once 1 _,
            (
              row_once 2 _,
              (
                row_once 2 _,
                (
                  row_once 2 _,
                  (row_once 1 _, (row_once 2 _, (row_once 2 _, (row_once 2 _, (row_once 3 _, (row_once 4 _, (row_once 3 _, (row_once 3 _, tt)))))))),
                ),
              ),
            ),
          ),
        ),
      )

  -- a reading is refused by a number with a detail exactly where that is the first row given
  pub reading_refused_exactly : (number detail : ℕ) → (reading_of level image counts ≡ Err (refusal number detail)) ↔ FirstGiven rows number detail
  reading_refused_exactly number detail = (λ e. rw e at reading_gives, λ f. by (reading_of level image counts) reading_gives f)
    where
      by : (a : Answer) → AnswerGives rows (ShowsReading image counts) a → FirstGiven rows number detail → a ≡ Err (refusal number detail)
      by (Ok reading) g f = absurd (none_or_first rows number detail g.0 f)
      by (Err r) g f = let same = first_once rows rows_single r.number r.detail number detail g f in rw (← same.0, ← same.1)

  -- and shown exactly where no row is given and it is what document 01 works out
  pub reading_shown_exactly : (reading : Reading) → (reading_of level image counts ≡ Ok reading) ↔ (NoneGiven rows × ShowsReading image counts reading)
  reading_shown_exactly reading = (λ e. rw e at reading_gives, λ g. by (reading_of level image counts) reading_gives g)
    where
      by : (a : Answer) → AnswerGives rows (ShowsReading image counts) a → NoneGiven rows × ShowsReading image counts reading → a ≡ Ok reading
      by (Ok other) g h =
          let counted = none_after (verdict_table level image) (counts_table image (on_paper counts)) h.0 in
          let accepted = (verdict_accepted_exactly level image).1 (none_before (verdict_table level image) (counts_table image (on_paper counts)) h.0) in
          ap Ok (shows_once image counts (accepted_readable level image accepted)
          (positive (λ e. counted.1.0 1 (refl, e))) (positive (λ e. counted.1.1.1.1.0 2 (refl, e))) other reading g.1 h.1)
      by (Err r) g h = absurd (none_or_first rows r.number r.detail h.0 g)
