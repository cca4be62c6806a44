-- Document 01's starred examples as one table: what is worked out, over the bytes where the document speaks of a body, beside
-- what the document says.
use Rattle.std.specs.Prelude.{List, [], ◌∷◌, ◌≡◌, refl, ℕ, ◌+◌, ◌-◌, ◌^◌, ℤ, pos, neg_ℤ, length, Err, Ok}
use Rattle.laws.specs.Characters.{characters}
use Rattle.numbers.specs.Fields.{little_endian, number_at, twos_complement}
use Rattle.whole.specs.Rounded.{rounded}
use Rattle.whole.specs.Examples.{half, half_below_zero}
use Rattle.refusals.specs.Refusals.{refused, refusal}
use Rattle.refusals.specs.FieldsVerdict.{fields_verdict, fields_from}
use Rattle.hextext.specs.Text.{read_text}
use Rattle.hextext.specs.Written.{text_of}
use Rattle.hexformat.proofs.Examples.{writes, writes_28, refuses}
use Rattle.image.specs.Layout.{layout_verdict}
use Rattle.image.specs.Examples.{contents_overrun}
use Rattle.bodies.specs.Identity.{identity_verdict}
use Rattle.bodies.specs.Trim.{trim_of, trim_fields, trim_verdict}
use Rattle.bodies.specs.Examples.{leap_day, leap_day_2004, leap_day_2003}
use Rattle.sets.specs.Set.{prescales_of, set_fields, set_verdict, row_from, rows_from}
use Rattle.reading.specs.Value.{within}
use Rattle.reading.specs.Frequency.{frequency_of, scaled_of, prescaled_of}
use Rattle.reading.specs.Gauge.{set_of}
use Rattle.reading.specs.Polynomial.{nested_sum, step_of, row_sum, row_step, set_result}
use Rattle.reading.specs.Measured.{trimmed_by}
use Rattle.reading.specs.Examples.{frequency_whole, frequency_half, frequency_lowest, frequency_highest, frequency_too_low, frequency_too_high, frequency_of_77}

infix 5 ◌says◌
pub data Example : Type 1 where
  ◌says◌ : {A : Type 0} (worked document : A) → Example

infixr 4 ◌and◌
-- each worked out to what the document says
pub data Hold : List Example → Type 1 where
  all : Hold []
  ◌and◌ : {A : Type 0} {worked document : A} {others : List Example} → worked ≡ document → Hold others → Hold ((worked says document) ∷ others)

-- a set of orders 1 and 1
abbrev starred_set : List ℕ
starred_set =
    -- both prescale algorithms 1, NP 1, NT 1
    0x01 ∷ 0x01 ∷ 0x01 ∷ 0x01
    -- MP 2^24, FP0 1,000,000,000
    ∷ 0x00 ∷ 0x00 ∷ 0x00 ∷ 0x01
    ∷ 0x00 ∷ 0xCA ∷ 0x9A ∷ 0x3B ∷ 0x00 ∷ 0x00 ∷ 0x00 ∷ 0x00
    -- MT 2^30, FT0 3,000,000,000
    ∷ 0x00 ∷ 0x00 ∷ 0x00 ∷ 0x40
    ∷ 0x00 ∷ 0x5E ∷ 0xD0 ∷ 0xB2 ∷ 0x00 ∷ 0x00 ∷ 0x00 ∷ 0x00
    -- A0 6,553,600, A1 65,536
    ∷ 0x00 ∷ 0x00 ∷ 0x64 ∷ 0x00 ∷ 0x00 ∷ 0x00 ∷ 0x00 ∷ 0x00
    ∷ 0x00 ∷ 0x00 ∷ 0x01 ∷ 0x00 ∷ 0x00 ∷ 0x00 ∷ 0x00 ∷ 0x00
    -- B0 131,072, B1 3
    ∷ 0x00 ∷ 0x00 ∷ 0x02 ∷ 0x00 ∷ 0x00 ∷ 0x00 ∷ 0x00 ∷ 0x00
    ∷ 0x03 ∷ 0x00 ∷ 0x00 ∷ 0x00 ∷ 0x00 ∷ 0x00 ∷ 0x00 ∷ 0x00
    ∷ []

-- frequencies at which its XP is 2^23 and its XT -2^23: 2^31 above FP0, and 2^25 below FT0
abbrev fp : ℤ
fp = pos (1000000000 + 2 ^ 31)

abbrev ft : ℤ
ft = pos (3000000000 - 2 ^ 25)

abbrev xt : ℤ
xt = neg_ℤ (pos (2 ^ 23))

-- unit 2, span 18,507,980, zero 0
abbrev starred_trim : List ℕ
starred_trim =
    0x02 ∷ 0x00 ∷ 0x00 ∷ 0x00
    ∷ 0xCC ∷ 0x68 ∷ 0x1A ∷ 0x01
    ∷ 0x00 ∷ 0x00 ∷ 0x00 ∷ 0x00 ∷ 0x00 ∷ 0x00 ∷ 0x00 ∷ 0x00
    ∷ []

-- a panel accepts both bodies
pub bodies_right : (set_verdict 12 starred_set ≡ Ok tt) × (trim_verdict starred_trim ≡ Ok tt)
unfolding little_endian number_at twos_complement fields_verdict fields_from set_fields trim_fields
bodies_right = (refl, refl)

abbrev pub starred : List Example
starred =
    -- NS 10,000, NR 2,000,000; NS 100,001, NR 33,554,432
    (frequency_of 1 10000 2000000 says Ok (pos 2359296000))
    ∷ (frequency_of 1 100001 33554432 says Ok (pos 1406264063))
    -- NS 1: NR 720 and 72 pass, 721 and 71 are refused 23, and 77
    ∷ (frequency_of 1 1 720 says Ok (pos 655360000))
    ∷ (frequency_of 2 1 72 says Ok (pos 6553600000))
    ∷ (frequency_of 1 1 721 says Err (refusal 23 1))
    ∷ (frequency_of 2 1 71 says Err (refusal 23 2))
    ∷ (frequency_of 1 1 77 says Ok (pos 6128041558))
    -- the half, both ways
    ∷ (rounded (pos (2 ^ 23)) (2 ^ 24) says pos 1)
    ∷ (rounded (neg_ℤ (pos (2 ^ 23))) (2 ^ 24) says pos 0)
    -- F - F0 4,294,967,296 + 127 with M 2^24, and 128 more instead of 127
    ∷ (prescaled_of 1 (prescales_of starred_set).pressure (pos (1000000000 + 4294967296 + 127)) says Ok (pos 16777216))
    ∷ (prescaled_of 1 (prescales_of starred_set).pressure (pos (1000000000 + 4294967296 + 128)) says Err (refusal 24 1))
    -- XP 2^23 and XT -2^23, both rows, the result
    ∷ (prescaled_of 1 (prescales_of starred_set).pressure fp says Ok (pos (2 ^ 23)))
    ∷ (prescaled_of 2 (prescales_of starred_set).temperature ft says Ok xt)
    ∷ (row_sum 2 xt (row_from starred_set 0 5 0) says Ok (pos 6520832))
    ∷ (row_sum 2 xt (row_from starred_set 1 5 0) says Ok (pos 131071))
    ∷ (set_result 2 1 (set_of starred_set) fp ft says Ok (pos 6586368))
    -- 65,536,000 (1,000 psi) with span 18,507,980, zero 0
    ∷ (trimmed_by (trim_of starred_trim) (pos 65536000) says pos 4518550)
    -- the bytes 51 01: as a text, its length, as an image; and with AD
    ∷ (text_of (0x51 ∷ 0x01 ∷ []) says characters ":020000005101AC\n:00000001FF\n")
    ∷ (length (text_of (0x51 ∷ 0x01 ∷ [])) says 28)
    ∷ (layout_verdict (0x51 ∷ 0x01 ∷ []) says Err (refusal 6 0))
    ∷ (read_text 4096 (characters ":020000005101AD\n:00000001FF\n") says refused (refusal 2 1))
    -- 29 February
    ∷ (identity_verdict (leap_day 2004) says (Ok tt))
    ∷ (identity_verdict (leap_day 2003) says Err (refusal 11 0))
    ∷ []

-- Every one of them holds.
pub starred_hold : Hold starred
unfolding little_endian number_at twos_complement rounded prescales_of row_from rows_from trim_of
    within scaled_of prescaled_of nested_sum step_of row_step set_result trimmed_by
starred_hold =
    frequency_whole and frequency_half
    and frequency_lowest and frequency_highest and frequency_too_low and frequency_too_high and frequency_of_77
    and half and half_below_zero
    and refl and refl
    and refl and refl and refl and refl and refl
    and refl
    and writes and writes_28 and contents_overrun and refuses
    and leap_day_2004 and leap_day_2003
    and all
