-- Readings of the worked image, by computation: examples/worked.py works out the same numbers after document 01 alone and prints
-- the rows of both tables; docs/WORKED.md has them by their names. Pressures and temperatures are in 1/65,536.
use Rattle.std.specs.Prelude.{List, [], ◌∷◌, ◌≡◌, refl, ℕ, ℤ, pos, neg_ℤ, Err, Ok}
use Rattle.laws.specs.Sums.{total}
use Rattle.numbers.specs.Fields.{little_endian, number_at, twos_complement}
use Rattle.whole.specs.Rounded.{rounded}
use Rattle.refusals.specs.Refusals.{refusal}
use Rattle.refusals.specs.FieldsVerdict.{fields_verdict, fields_from}
use Rattle.image.specs.Contents.{start_verdict, count_verdict, lines_verdict, contents_verdict}
use Rattle.image.specs.Layout.{sums_verdict, layout_verdict}
use Rattle.image.specs.Sections.{sections_from, sections}
use Rattle.image.specs.Find.{body_of}
use Rattle.bodies.specs.Identity.{identity_of, days_in, identity_fields}
use Rattle.sets.specs.Set.{prescales_of, set_fields, row_from, rows_from, grid_of}
use Rattle.bodies.specs.Trim.{trim_of, trim_fields}
use Rattle.bodies.specs.Note.{note_fields}
use Rattle.reading.specs.declared.Counts.{Counts}
use Rattle.reading.specs.Answers.{Answer}
use Rattle.reading.specs.Value.{within}
use Rattle.reading.specs.Frequency.{hertz, frequency_of, scaled_of, prescaled_of}
use Rattle.reading.specs.Polynomial.{nested_sum, step_of, row_step, set_result}
use Rattle.reading.specs.Measured.{outside, mark_of, trimmed_by, shown_by, measured_of}
use Rattle.panel.specs.Levels.{knows}
use Rattle.panel.specs.Verdict.{unknown_verdict, missing_verdict, kind_verdict, kinds_verdict, sections_verdict, verdict_of}
use Rattle.panel.specs.Reading.{sections_reading, reading_of}
use Rattle.paper.specs.WorkedImage.{identity_bytes, pressure_bytes, temperature_bytes, trim_bytes, note_bytes, worked_image, untrimmed_image}

-- where a proof unfolds this, it unfolds all that a reading is worked out by
worked_out : (level : ℕ) → (image : List ℕ) → Counts → Answer
unfolding total little_endian number_at twos_complement rounded fields_verdict fields_from
    start_verdict count_verdict lines_verdict contents_verdict sums_verdict layout_verdict sections_from sections body_of
    days_in identity_of identity_fields prescales_of set_fields row_from rows_from trim_of trim_fields note_fields
    within hertz frequency_of scaled_of prescaled_of nested_sum step_of row_step set_result outside mark_of trimmed_by shown_by measured_of
    knows unknown_verdict missing_verdict kind_verdict kinds_verdict sections_verdict verdict_of sections_reading reading_of
worked_out level image counts = reading_of level image counts

-- ---- what the bytes say

pub identity_says :
    identity_of identity_bytes
    ≡ record { serial = 305419896; year = 2003; month = 9; day = 8; tmin = neg_ℤ (pos 20); tmax = pos 150; pmin = pos 15; pmax = pos 16000 }
unfolding worked_out
identity_says = refl

pub pressure_set_says :
    prescales_of pressure_bytes
    ≡ record {
      pressure = record { order = 2; multiplier = 82828532; offset = 2169253945 };
      temperature = record { order = 1; multiplier = 89478488; offset = 4607185121 };
    }
unfolding worked_out
pressure_set_says = refl

-- A0, A1; B0, B1; C0, C1
pub pressure_grid_says :
    grid_of pressure_bytes
    ≡ (pos 600215845 ∷ neg_ℤ (pos 21517296) ∷ pos 0 ∷ pos 0 ∷ pos 0 ∷ [])
    ∷ (neg_ℤ (pos 3750121295) ∷ pos 13902608 ∷ pos 0 ∷ pos 0 ∷ pos 0 ∷ [])
    ∷ (pos 5400630114 ∷ neg_ℤ (pos 7451088) ∷ pos 0 ∷ pos 0 ∷ pos 0 ∷ [])
    ∷ (pos 0 ∷ pos 0 ∷ pos 0 ∷ pos 0 ∷ pos 0 ∷ [])
    ∷ (pos 0 ∷ pos 0 ∷ pos 0 ∷ pos 0 ∷ pos 0 ∷ [])
    ∷ []
unfolding worked_out
pressure_grid_says = refl

pub temperature_set_says :
    prescales_of temperature_bytes
    ≡ record {
      pressure = record { order = 1; multiplier = 76770112; offset = 3191600777 };
      temperature = record { order = 2; multiplier = 78260032; offset = 4338745331 };
    }
unfolding worked_out
temperature_set_says = refl

-- A0, A1, A2; B0, B1, B2
pub temperature_grid_says :
    grid_of temperature_bytes
    ≡ (pos 8923140 ∷ neg_ℤ (pos 391211614) ∷ neg_ℤ (pos 2904355136) ∷ pos 0 ∷ pos 0 ∷ [])
    ∷ (pos 9730054 ∷ neg_ℤ (pos 6004100) ∷ pos 2318784 ∷ pos 0 ∷ pos 0 ∷ [])
    ∷ (pos 0 ∷ pos 0 ∷ pos 0 ∷ pos 0 ∷ pos 0 ∷ [])
    ∷ (pos 0 ∷ pos 0 ∷ pos 0 ∷ pos 0 ∷ pos 0 ∷ [])
    ∷ (pos 0 ∷ pos 0 ∷ pos 0 ∷ pos 0 ∷ pos 0 ∷ [])
    ∷ []
unfolding worked_out
temperature_grid_says = refl

pub trim_says : trim_of trim_bytes ≡ record { unit = 2; span = 18511216; zero = neg_ℤ (pos 66404) }
unfolding worked_out
trim_says = refl

pub worked_sections_lem :
    sections worked_image
    ≡ record { kind = 1; body = identity_bytes }
    ∷ record { kind = 2; body = pressure_bytes }
    ∷ record { kind = 3; body = temperature_bytes }
    ∷ record { kind = 4; body = trim_bytes }
    ∷ record { kind = 129; body = note_bytes }
    ∷ []
unfolding worked_out
worked_sections_lem = refl

pub untrimmed_sections :
    sections untrimmed_image
    ≡ record { kind = 1; body = identity_bytes } ∷ record { kind = 2; body = pressure_bytes } ∷ record { kind = 3; body = temperature_bytes } ∷ []
unfolding worked_out
untrimmed_sections = refl

-- ---- verdicts

-- level 2 knows all five kinds
pub worked_accepted : verdict_of 2 worked_image ≡ Ok tt
unfolding worked_out
worked_accepted = refl

-- level 1 does not know the trim, and names it
pub worked_refused : verdict_of 1 worked_image ≡ Err (refusal 9 4)
unfolding worked_out
worked_refused = refl

-- so that it reads nothing, whatever the counts
pub worked_unread : (counts : Counts) → reading_of 1 worked_image counts ≡ Err (refusal 9 4)
unfolding worked_out
worked_unread counts = refl

-- without the trim both levels accept
pub untrimmed_accepted : verdict_of 1 untrimmed_image ≡ Ok tt
unfolding worked_out
untrimmed_accepted = refl

pub untrimmed_accepted_at_2 : verdict_of 2 untrimmed_image ≡ Ok tt
unfolding worked_out
untrimmed_accepted_at_2 = refl

-- and read the same, whatever the counts
pub untrimmed_at_2 : (counts : Counts) → reading_of 2 untrimmed_image counts ≡ reading_of 1 untrimmed_image counts
unfolding worked_out
untrimmed_at_2 counts = refl

-- ---- readings: with the trim at level 2, without it at level 1

abbrev pub counted : (pressure_ns pressure_nr temperature_ns temperature_nr : ℕ) → Counts
counted pressure_ns pressure_nr temperature_ns temperature_nr =
    record {
      pressure = record { sensor = record { 0 = pressure_ns }; reference = record { 0 = pressure_nr } };
      temperature = record { sensor = record { 0 = temperature_ns }; reference = record { 0 = temperature_nr } };
    }

-- the counts, the pressure with the trim in bar and without it in psi, the temperature, and the mark
pub record WorkedReading : Type 0 where
  pub counts : Counts
  pub bar : ℤ
  pub psi : ℤ
  pub temperature : ℤ
  pub mark : ℕ

abbrev pub shows : Counts → (bar psi temperature : ℤ) → (mark : ℕ) → WorkedReading
shows counts bar psi temperature mark = record { counts = counts; bar = bar; psi = psi; temperature = temperature; mark = mark }

-- level 2 shows the one of the worked image, level 1 the other of the image without its trim
abbrev pub Shown2 : WorkedReading → Type 0
Shown2 r = reading_of 2 worked_image r.counts ≡ Ok (record { pressure = r.bar; temperature = r.temperature; unit = 2; mark = r.mark })

abbrev pub Shown1 : WorkedReading → Type 0
Shown1 r = reading_of 1 untrimmed_image r.counts ≡ Ok (record { pressure = r.psi; temperature = r.temperature; unit = 1; mark = r.mark })

abbrev pub Each : {A : Type 0} → (A → Type 0) → List A → Type 0
Each P [] = Unit {0}
Each P (a ∷ l) = P a × Each P l

abbrev pub readings : List WorkedReading
readings =
    -- inside: inside all limits; 326.446 bar, 4,748.557 psi, 73.706 °C
    shows (counted 40000 7003827 66600 7247344) (pos 21393939) (pos 311201430) (pos 4830423) 0
    -- lowest: pressure exactly PMIN, temperature exactly TMIN; 0.021 bar, 15.000 psi, -20.000 °C
    ∷ shows (counted 39334 7273131 66378 7205570) (pos 1386) (pos 983040) (neg_ℤ (pos 1310720)) 0
    -- hottest: temperature exactly TMAX; 174.192 bar, 2,540.697 psi, 150.000 °C
    ∷ shows (counted 42064 7508401 66103 7219644) (pos 11415868) (pos 166507106) (pos 9830400) 0
    -- highest: pressure exactly PMAX; the trim's product is a half; 1,102.341 bar, 16,000.000 psi, 23.528 °C
    ∷ shows (counted 43602 7186339 66314 7197400) (pos 72243034) (pos 1048576000) (pos 1541960) 0
    -- too-cold: temperature one unit below TMIN; 384.080 bar, 5,584.329 psi, -20.000 °C
    ∷ shows (counted 43024 7487079 33004 3579926) (pos 25171077) (pos 365974593) (neg_ℤ (pos 1310721)) 1
    -- too-hot: temperature one unit above TMAX; 273.488 bar, 3,980.611 psi, 150.000 °C
    ∷ shows (counted 20000 3523463 66202 7228409) (pos 17923328) (pos 260873297) (pos 9830401) 1
    -- too-low: pressure one unit below PMIN; 0.021 bar, 15.000 psi, -10.743 °C
    ∷ shows (counted 19502 3606089 60007 6515906) (pos 1386) (pos 983039) (neg_ℤ (pos 704048)) 2
    -- too-high: pressure one unit above PMAX; 1,102.341 bar, 16,000.000 psi, 52.475 °C
    ∷ shows (counted 21837 3599120 33262 3613459) (pos 72243034) (pos 1048576001) (pos 3438970) 2
    -- too-high-and-hot: pressure one unit above PMAX, temperature one unit above TMAX; 1,102.341 bar, 16,000.000 psi, 150.000 °C
    ∷ shows (counted 43202 7120580 66231 7221635) (pos 72243034) (pos 1048576001) (pos 9830401) 3
    -- below-zero: pressure -128 psi; the trim's product is a half below zero; -9.840 bar, -128.000 psi, -2.039 °C
    ∷ shows (counted 38801 7199087 66016 7170756) (neg_ℤ (pos 644879)) (neg_ℤ (pos 8388608)) (neg_ℤ (pos 133602)) 2
    -- half-frequencies: both frequencies are halves; 501.813 bar, 7,291.600 psi, -19.759 °C
    ∷ shows (counted 195001 33554432 618774 67108864) (pos 32886815) (pos 477862308) (neg_ℤ (pos 1294914)) 0
    -- half-x-pressure: XP and XT of the pressure set are halves; 354.060 bar, 5,148.999 psi, -18,467.275 °C
    ∷ shows (counted 40439 7051232 66093 6396435) (pos 23203673) (pos 337444807) (neg_ℤ (pos 1210271362)) 1
    -- half-x-temperature: XP and XT of the temperature set are halves below zero; 122.073 bar, 1,784.899 psi, 162.504 °C
    ∷ shows (counted 40015 7203427 66411 7394062) (pos 8000159) (pos 116975116) (pos 10649880) 1
    -- half-sums-pressure: every product of the pressure set is a half; 873.117 bar, 12,675.970 psi, 128.003 °C
    ∷ shows (counted 40043 6696138 66186 7211979) (pos 57220611) (pos 830732357) (pos 8388778) 0
    -- half-sums-temperature: every product of the temperature set is a half; 423.929 bar, 6,162.181 psi, 12.938 °C
    ∷ shows (counted 40107 6951807 66067 7173208) (pos 27782586) (pos 403844689) (pos 847888) 0
    -- x-at-limits: the pressure set's XT is -(2^24 + 1/2), the temperature set's XP is -2^24; 324.711 bar, 4,723.409 psi, -11,663.996 °C
    ∷ shows (counted 34224 7167782 51199 6354416) (pos 21280285) (pos 309553304) (neg_ℤ (pos 764411654)) 1
    -- pressure-limit: pressure exactly 2^31; 2,258.657 bar, 32,768.000 psi, 78.759 °C
    ∷ shows (counted 45800 7142510 66008 7171008) (pos 148023324) (pos 2147483648) (pos 5161568) 2
    -- temperature-limit: temperature exactly -2^31; 300.243 bar, 4,368.588 psi, -32,768.000 °C
    ∷ shows (counted 42000 7363009 77008 7164357) (pos 19676729) (pos 286299770) (neg_ℤ (pos 2147483648)) 1
    ∷ []

pub readings_at_2 : Each Shown2 readings
unfolding worked_out
readings_at_2 =
    (refl, (refl, (refl, (refl, (refl, (refl, (refl, (refl, (refl, (refl, (refl, (refl, (refl, (refl, (refl, (refl, (refl, (refl, tt))))))))))))))))))

pub readings_at_1 : Each Shown1 readings
unfolding worked_out
readings_at_1 =
    (refl, (refl, (refl, (refl, (refl, (refl, (refl, (refl, (refl, (refl, (refl, (refl, (refl, (refl, (refl, (refl, (refl, (refl, tt))))))))))))))))))

-- ---- refusals, at level 2: but for the last, each has a second fault, whose number would come later

pub record RefusedRow : Type 0 where
  pub counts : Counts
  pub number : ℕ
  pub detail : ℕ

abbrev pub refuses : Counts → (number detail : ℕ) → RefusedRow
refuses counts number detail = record { counts = counts; number = number; detail = detail }

abbrev pub IsRefused : RefusedRow → Type 0
IsRefused r = reading_of 2 worked_image r.counts ≡ Err (refusal r.number r.detail)

abbrev pub refusals : List RefusedRow
refusals =
    -- no-sensor: no cycles at all
    refuses (counted 0 0 0 0) 21 1
    -- many-sensor: 1,048,577 sensor cycles on the temperature channel, and no reference
    ∷ refuses (counted 40000 7003827 1048577 0) 21 2
    -- no-reference: no reference cycles on the pressure channel, and no sensor cycles on the other
    ∷ refuses (counted 40000 0 0 7247344) 22 1
    -- no-reference-temperature: no reference cycles on the temperature channel, and the pressure set's XP beyond 2^24
    ∷ refuses (counted 1 72 66600 0) 22 2
    -- frequency-high: the lowest F above 6,553,600,000 that counts can give, and no cycles on the other channel
    ∷ refuses (counted 1048576 75497471 0 0) 23 1
    -- frequency-low: F of the temperature channel 655,359,999, and the pressure set's XP beyond 2^24
    ∷ refuses (counted 1 72 606815 436906801) 23 2
    -- pressure-xp: the pressure set's XP is 2^24 + 1, and its XT beyond 2^24
    ∷ refuses (counted 46008 7143061 84000 7200000) 24 1
    -- pressure-xt: the pressure set's XT is 2^24 + 1/2, and the temperature set's XP beyond 2^24
    ∷ refuses (counted 34000 7200000 82325 7177066) 24 2
    -- temperature-xp: the temperature set's XP is -(2^24 + 1), and its XT beyond 2^24
    ∷ refuses (counted 34002 7121287 81000 7173431) 24 3
    -- temperature-xt: the temperature set's XT is 2^24 + 1, and its result would be beyond 2^31
    ∷ refuses (counted 40000 7003827 80018 7178875) 24 4
    -- pressure-beyond: pressure 2^31 + 1, and the temperature set's XT beyond 2^24
    ∷ refuses (counted 46002 7168270 81006 7115965) 26 2
    -- temperature-beyond: temperature -(2^31 + 1)
    ∷ refuses (counted 41003 6920928 77526 7212363) 26 3
    ∷ []

pub refusals_hold : Each IsRefused refusals
unfolding worked_out
refusals_hold = (refl, (refl, (refl, (refl, (refl, (refl, (refl, (refl, (refl, (refl, (refl, (refl, tt))))))))))))
