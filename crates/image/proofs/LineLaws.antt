-- Laws of one contents line: its fields read from the bytes that spell them, and the bytes from the fields.
use Rattle.std.specs.Prelude.{List, ◌++◌, ◌≡◌, ℕ, ◌+◌, ◌*◌, ◌/◌, ◌%◌, ◌≤◌, ◌<◌, length, drop, get_or}
use Rattle.std.proofs.Common.{sym, ap, ◌∙◌, arith}
use Rattle.laws.specs.Bytes.{Bytes}
use Rattle.laws.specs.Lists.{drop_two}
use Rattle.numbers.specs.Fields.{little_endian, number_at}
use Rattle.numbers.specs.FieldsLaws.{number_from, byte_at_lem, two_bytes_at}
use Rattle.image.specs.Contents.{line_place, kind_at, zero_at, offset_at, length_at, sum_at}
use Rattle.image.specs.Sections.{two_bytes, contents_line}

-- ---- the fields of the bytes

-- what the fields of line i are
pub record LineSays (image : List ℕ) (i kind offset size sum : ℕ) : Type 0 where
  pub kind_is : kind_at image i ≡ kind
  pub zero_is : zero_at image i ≡ 0
  pub offset_is : offset_at image i ≡ offset
  pub size_is : length_at image i ≡ size
  pub sum_is : sum_at image i ≡ sum

-- a field, seen from the line's start
field : {q : List ℕ} (w : ℕ) (image : List ℕ) (i place : ℕ) → drop (line_place i) image ≡ q → number_at w image (line_place i + place) ≡ number_at w q place
field w image i place e = sym (number_from w image (line_place i) place) ∙ ap (λ (l : List ℕ). number_at w l place) e

pub line_says : (image rest : List ℕ) (i kind offset size sum : ℕ) → drop (line_place i) image ≡ contents_line kind offset size sum ++ rest
    → LineSays image i kind offset size sum
unfolding number_at little_endian
line_says image rest i kind offset size sum e =
    record {
      kind_is = rw e (omega arith);
      zero_is = field 1 image i 1 e ∙ omega arith;
      offset_is = field 2 image i 2 e ∙ omega arith;
      size_is = field 2 image i 4 e ∙ omega arith;
      sum_is = field 2 image i 6 e ∙ omega arith;
    }

-- ---- the bytes of the fields

low_byte : (n low high : ℕ) → low < 256 → n ≡ low + 256 * high → low ≡ n % 256
low_byte n low high h e = omega arith

high_byte : (n low high : ℕ) → low < 256 → n ≡ low + 256 * high → high ≡ n / 256
high_byte n low high h e = omega arith

-- two bytes are those of the number that they spell
two_spelled : (l : List ℕ) (place next : ℕ) → Bytes l → place + 2 ≡ next → next ≤ length l → drop place l ≡ two_bytes (number_at 2 l place) ++ drop next l
two_spelled l place next b e h =
    let low = low_byte (number_at 2 l place) (get_or l place 0) (get_or l (place + 1) 0) (b place) (two_bytes_at l place) in
    let high = high_byte (number_at 2 l place) (get_or l place 0) (get_or l (place + 1) 0) (b place) (two_bytes_at l place) in
    drop_two l place (omega arith) ∙ rw (low, high, e)

pub line_spelled : (image : List ℕ) (i : ℕ) → Bytes image → line_place (i + 1) ≤ length image → zero_at image i ≡ 0
    → drop (line_place i) image ≡ contents_line (kind_at image i) (offset_at image i) (length_at image i) (sum_at image i) ++ drop (line_place (i + 1)) image
line_spelled image i b h z =
    let a = line_place i in
    drop_two image a (omega arith)
    ∙ rw (
      ← byte_at_lem image a,
      ← byte_at_lem image (a + 1),
      z,
      two_spelled image (a + 2) (a + 4) b (omega arith) (omega arith),
      two_spelled image (a + 4) (a + 6) b (omega arith) (omega arith),
      two_spelled image (a + 6) (line_place (i + 1)) b (omega arith) (omega arith),
    )
