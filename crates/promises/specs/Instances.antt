-- For each theorem of the demands with hypotheses, a case that meets them: the worked image, in which every number matters.
use Rattle.std.specs.Prelude.{List, [], ◌∷◌, ◌++◌, ◌≡◌, refl, ℕ, ◌-◌, ◌≤◌, ◌<◌, pos, length, take, replicate, Err, Ok}
use Rattle.std.proofs.Common.{inl, inr, ⊎_elim, sym, ap, ◌∙◌, arith}
use Rattle.std.proofs.Math.Option.{none}
use Rattle.paper.specs.Words.{Not}
use Rattle.paper.specs.Verdict.{Knows}
use Rattle.laws.specs.Bytes.{Bytes}
use Rattle.refusals.specs.Refusals.{result, answer_to, held_after, refusal, Fills}
use Rattle.calls.specs.Call.{Call}
use Rattle.calls.specs.LendLaws.{lendable}
use Rattle.hextext.specs.Text.{reading as reading_text, read_text}
use Rattle.hextext.specs.Written.{text_of, text_length, write_image}
use Rattle.hexformat.specs.ComputedBytes.{computed_bytes}
use Rattle.hexformat.proofs.RoundTrip.{is_written, text_length_lem}
use Rattle.image.specs.Layout.{layout_verdict}
use Rattle.image.specs.Sections.{Section, sections, bodies_of, image_of}
use Rattle.image.specs.Find.{body_of}
use Rattle.image.specs.OrderLaws.{sections_ascend}
use Rattle.image.proofs.ImageRoundTrip.{sections_bytes}
use Rattle.builder.specs.Build.{build_image}
use Rattle.builder.specs.Lines.{lines_of}
use Rattle.builder.specs.Built.{good_built}
use Rattle.reading.specs.declared.Counts.{Counts}
use Rattle.panel.specs.Verdict.{verdict_of}
use Rattle.panel.specs.Reading.{reading_of}
use Rattle.panel.specs.Load.{load_text}
use Rattle.hexwrite.specs.contracts as hexwrite
use Rattle.agreement.specs.KindsAgree.{none_found, found_is_had}
use Rattle.agreement.specs.VerdictAgrees.{verdict_accepted_exactly, accepted_readable}
use Rattle.image.specs.Merged.{merged, IsKind}
use Rattle.promises.specs.LaidOutAnew.{HasSection, EachOnce, FurtherSections, LaidAnew, AllHigh, LowestLow}
use Rattle.promises.specs.AnewBuilt.{anew_laid, ascending_once}
use Rattle.promises.specs.Demand1.{no_reading_after, no_reading_after_load}
use Rattle.promises.specs.Demand3.{high_verdict, high_reading, low_verdict, low_reading, without_trim, with_trim}
use Rattle.promises.specs.EndToEnd.{sections_loads}
use Rattle.paper.specs.WorkedImage.{trim_bytes, worked_image, untrimmed_image}
use Rattle.promises.specs.WorkedReadings.{worked_sections_lem, untrimmed_sections, untrimmed_accepted_at_2, worked_accepted, untrimmed_at_2, counted, readings_at_1, readings_at_2}

abbrev inside_counts : Counts
inside_counts = counted 40000 7003827 66600 7247344

-- ---- bytes

pub untrimmed_bytes : Bytes untrimmed_image
untrimmed_bytes = computed_bytes untrimmed_image refl

pub worked_bytes : Bytes worked_image
worked_bytes = computed_bytes worked_image refl

-- ---- there are calls: the writer is lent the worked image and a buffer

pub write_called : ∥ ((call : Call hexwrite.write.signature) × (call.arguments.0.now ≡ worked_image) × (call.arguments.1.0.now ≡ replicate 3 7)) ∥₁
write_called = lendable _ worked_image (replicate 3 7) worked_bytes (computed_bytes (replicate 3 7) refl) (omega arith) (omega arith)

-- ---- a refused load: an empty text, into a buffer that held something

refused_load : Fills (load_text 1 3 []) (0x51 ∷ 1 ∷ 7 ∷ []) (Err (refusal 1 1)) (0 ∷ 0 ∷ 0 ∷ [])
unfolding load_text read_text reading_text
refused_load = record { answers = refl; holds = refl }

pub refused_load_met : reading_of 2 (0 ∷ 0 ∷ 0 ∷ []) inside_counts ≡ Err (refusal 5 0)
refused_load_met = no_reading_after_load 1 [] (0x51 ∷ 1 ∷ 7 ∷ []) (0 ∷ 0 ∷ 0 ∷ []) (refusal 1 1) refused_load 2 inside_counts

pub no_reading_after_met : reading_of 2 (0 ∷ 0 ∷ []) inside_counts ≡ Err (refusal 5 0)
no_reading_after_met = no_reading_after (load_text 1 3 []) (0x51 ∷ 1 ∷ 7 ∷ []) (0 ∷ 0 ∷ 0 ∷ []) (refusal 1 1) refused_load 2 1 2 inside_counts

-- ---- further sections

abbrev high_sections : List Section
high_sections = record { kind = 200; body = 1 ∷ 2 ∷ [] } ∷ record { kind = 130; body = [] } ∷ []

abbrev mixed_sections : List Section
mixed_sections = record { kind = 200; body = 1 ∷ 2 ∷ [] } ∷ record { kind = 127; body = [] } ∷ record { kind = 5; body = 3 ∷ [] } ∷ []

untrimmed_good : layout_verdict untrimmed_image ≡ Ok tt
untrimmed_good = (accepted_readable 2 untrimmed_image untrimmed_accepted_at_2).good

module _ (further : List Section) (new : (kind : ℕ) → HasSection kind further → body_of kind (sections untrimmed_image) ≡ none)
    (unknown : (kind : ℕ) → HasSection kind further → Not (Knows 2 kind)) where
  are_further : FurtherSections 2 untrimmed_image further
  are_further =
      record {
        accepted = (verdict_accepted_exactly 2 untrimmed_image).0 untrimmed_accepted_at_2;
        not_held = λ kind s. none_found untrimmed_image kind untrimmed_good (new kind s);
        not_known = unknown;
      }

-- kinds that level 2 does not know
unknown_2 : (kind : ℕ) → 5 ≤ kind → Not (kind ≡ 129) → Not (Knows 2 kind)
unknown_2 kind h n = ⊎_elim (λ (l, low, high). omega arith) (λ (e, k). ⊎_elim (λ four. omega arith) n k)

further_high : FurtherSections 2 untrimmed_image high_sections
unfolding body_of
further_high = are_further high_sections new unknown
  where
    new : (kind : ℕ) → HasSection kind high_sections → body_of kind (sections untrimmed_image) ≡ none
    new kind (body, inl (e, b)) = rw (e, untrimmed_sections)
    new kind (body, inr (inl (e, b))) = rw (e, untrimmed_sections)
    new kind (body, inr (inr h)) = elim h [ ]

    unknown : (kind : ℕ) → HasSection kind high_sections → Not (Knows 2 kind)
    unknown kind (body, inl (e, b)) = unknown_2 kind (omega arith) (λ n. omega arith)
    unknown kind (body, inr (inl (e, b))) = unknown_2 kind (omega arith) (λ n. omega arith)
    unknown kind (body, inr (inr h)) = elim h [ ]

all_high : AllHigh high_sections
all_high kind (body, inl (e, b)) = omega arith
all_high kind (body, inr (inl (e, b))) = omega arith
all_high kind (body, inr (inr h)) = elim h [ ]

once_high : EachOnce high_sections
once_high = (differ, ((λ (body, a). absurd a), tt))
  where
    differ : Not (HasSection 200 (record { kind = 130; body = [] } ∷ []))
    differ (body, inl (e, b)) = omega arith
    differ (body, inr h) = elim h [ ]

kinds_high : (kind : ℕ) → HasSection kind high_sections → IsKind kind
kinds_high kind (body, inl (e, b)) = (omega arith, omega arith)
kinds_high kind (body, inr (inl (e, b))) = (omega arith, omega arith)
kinds_high kind (body, inr (inr h)) = elim h [ ]

abbrev anew_high : List ℕ
anew_high = image_of (merged (sections untrimmed_image) high_sections)

anew_high_lem : LaidAnew untrimmed_image high_sections anew_high
unfolding bodies_of
anew_high_lem =
    anew_laid 2 untrimmed_image high_sections untrimmed_bytes further_high once_high kinds_high
    (rw untrimmed_sections (omega arith)) (rw untrimmed_sections (omega arith))

-- kinds 200 and 130 are passed over, and the reading is the same
pub high_met : verdict_of 2 anew_high ≡ Ok tt
high_met = high_verdict 2 untrimmed_image high_sections anew_high further_high anew_high_lem all_high ∙ untrimmed_accepted_at_2

pub high_reading_met : reading_of 2 anew_high inside_counts ≡ Ok (record { pressure = pos 311201430; temperature = pos 4830423; unit = 1; mark = 0 })
high_reading_met =
    high_reading 2 untrimmed_image high_sections anew_high further_high anew_high_lem all_high inside_counts ∙ untrimmed_at_2 inside_counts ∙ readings_at_1.0

-- of kinds 200, 127 and 5 the panel names 5
further_mixed : FurtherSections 2 untrimmed_image mixed_sections
unfolding body_of
further_mixed = are_further mixed_sections new unknown
  where
    new : (kind : ℕ) → HasSection kind mixed_sections → body_of kind (sections untrimmed_image) ≡ none
    new kind (body, inl (e, b)) = rw (e, untrimmed_sections)
    new kind (body, inr (inl (e, b))) = rw (e, untrimmed_sections)
    new kind (body, inr (inr (inl (e, b)))) = rw (e, untrimmed_sections)
    new kind (body, inr (inr (inr h))) = elim h [ ]

    unknown : (kind : ℕ) → HasSection kind mixed_sections → Not (Knows 2 kind)
    unknown kind (body, inl (e, b)) = unknown_2 kind (omega arith) (λ n. omega arith)
    unknown kind (body, inr (inl (e, b))) = unknown_2 kind (omega arith) (λ n. omega arith)
    unknown kind (body, inr (inr (inl (e, b)))) = unknown_2 kind (omega arith) (λ n. omega arith)
    unknown kind (body, inr (inr (inr h))) = elim h [ ]

once_mixed : EachOnce mixed_sections
once_mixed = (first, (second, ((λ (body, a). absurd a), tt)))
  where
    first : Not (HasSection 200 (record { kind = 127; body = [] } ∷ record { kind = 5; body = 3 ∷ [] } ∷ []))
    first (body, inl (e, b)) = omega arith
    first (body, inr (inl (e, b))) = omega arith
    first (body, inr (inr h)) = elim h [ ]

    second : Not (HasSection 127 (record { kind = 5; body = 3 ∷ [] } ∷ []))
    second (body, inl (e, b)) = omega arith
    second (body, inr h) = elim h [ ]

kinds_mixed : (kind : ℕ) → HasSection kind mixed_sections → IsKind kind
kinds_mixed kind (body, inl (e, b)) = (omega arith, omega arith)
kinds_mixed kind (body, inr (inl (e, b))) = (omega arith, omega arith)
kinds_mixed kind (body, inr (inr (inl (e, b)))) = (omega arith, omega arith)
kinds_mixed kind (body, inr (inr (inr h))) = elim h [ ]

abbrev anew_mixed : List ℕ
anew_mixed = image_of (merged (sections untrimmed_image) mixed_sections)

anew_mixed_lem : LaidAnew untrimmed_image mixed_sections anew_mixed
unfolding bodies_of
anew_mixed_lem =
    anew_laid 2 untrimmed_image mixed_sections untrimmed_bytes further_mixed once_mixed kinds_mixed
    (rw untrimmed_sections (omega arith)) (rw untrimmed_sections (omega arith))

lowest_five : LowestLow mixed_sections 5
lowest_five = (((3 ∷ [], inr (inr (inl (refl, refl)))), omega arith), above)
  where
    above : (j : ℕ) → j < 5 → Not (HasSection j mixed_sections × (j < 128))
    above j h ((body, inl (e, b)), low) = omega arith
    above j h ((body, inr (inl (e, b))), low) = omega arith
    above j h ((body, inr (inr (inl (e, b)))), low) = omega arith
    above j h ((body, inr (inr (inr k))), low) = elim k [ ]

pub low_met : verdict_of 2 anew_mixed ≡ Err (refusal 9 5)
low_met = low_verdict 2 untrimmed_image mixed_sections anew_mixed further_mixed anew_mixed_lem 5 lowest_five

pub low_reading_met : reading_of 2 anew_mixed inside_counts ≡ Err (refusal 9 5)
low_reading_met = low_reading 2 untrimmed_image mixed_sections anew_mixed further_mixed anew_mixed_lem 5 lowest_five inside_counts

-- ---- two levels

-- without kind 4 both levels show the reading
pub without_trim_met : reading_of 1 untrimmed_image inside_counts ≡ Ok (record { pressure = pos 311201430; temperature = pos 4830423; unit = 1; mark = 0 })
unfolding body_of
without_trim_met =
    without_trim untrimmed_image inside_counts _ (untrimmed_at_2 inside_counts ∙ readings_at_1.0)
    (none_found untrimmed_image 4 untrimmed_good (rw untrimmed_sections))

-- with kind 4 level 1 refuses
pub with_trim_met : reading_of 1 worked_image inside_counts ≡ Err (refusal 9 4)
unfolding body_of
with_trim_met = with_trim worked_image inside_counts _ readings_at_2.0 (found_is_had worked_image 4 trim_bytes (rw worked_sections_lem)).has

-- ---- build, write, load: the worked image's own sections

abbrev worked_sections : List Section
worked_sections = sections worked_image

worked_good : layout_verdict worked_image ≡ Ok tt
worked_good = (accepted_readable 2 worked_image worked_accepted).good

abbrev buffer : List ℕ
buffer = replicate 4096 7

abbrev image_buffer : List ℕ
image_buffer = worked_image ++ replicate (4096 - 248) 0

worked_built : Fills (build_image 4096 (lines_of worked_sections) (bodies_of worked_sections)) buffer (Ok 248) image_buffer
worked_built =
    let made : build_image 4096 (lines_of worked_sections) (bodies_of worked_sections) ≡ result worked_image =
    good_built 4096 worked_image worked_bytes worked_good (omega arith) in
    rw made (record { answers = refl; holds = refl })

-- the text has 15 full records of 44 characters, one of 8 bytes with 28, and the end with 12
abbrev text_buffer : List ℕ
text_buffer = text_of worked_image ++ replicate (1000 - 700) 0

worked_written : Fills (write_image 1000 worked_image) (replicate 1000 7) (Ok 700) text_buffer
unfolding text_length
worked_written =
    let long : length (text_of worked_image) ≡ 700 = text_length_lem worked_image in
    rw (is_written 1000 worked_image (omega arith) (omega arith)) (record { answers = ap Ok (sym long); holds = rw long })

pub worked_loads : answer_to (load_text 2 4096 (take 700 text_buffer)) ≡ Ok 248
worked_loads =
    let outcome = load_text 2 4096 (take 700 text_buffer) in
    sections_loads 2 worked_sections once_worked buffer image_buffer (replicate 1000 7) text_buffer buffer (held_after 4096 outcome) 248 700
    (answer_to outcome) (sections_bytes worked_image worked_bytes worked_good) worked_built worked_accepted worked_written (omega arith)
    (record { answers = refl; holds = refl })
  where
    once_worked : EachOnce worked_sections
    once_worked = ascending_once 0 worked_sections (sections_ascend worked_image worked_good)
