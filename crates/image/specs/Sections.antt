-- The sections of an image, and the image of a list of sections.
use Rattle.std.specs.Prelude.{List, [], ◌∷◌, ◌++◌, ℕ, zero, suc, ◌+◌, ◌/◌, ◌%◌, ◌≤◌, ◌<◌, length}
use Rattle.limits.specs.Limits.{largest_image, most_lines}
use Rattle.laws.specs.Sums.{total}
use Rattle.image.specs.Contents.{line_count, line_place, kind_at}
use Rattle.image.specs.Layout.{body_at}

pub record Section : Type 0 where
  pub kind : ℕ
  pub body : List ℕ

-- ---- from an image

-- those of the lines left from line i on
unfoldable pub sections_from : List ℕ → (left i : ℕ) → List Section
sections_from image zero i = []
sections_from image (suc left) i = record { kind = kind_at image i; body = body_at image i } ∷ sections_from image left (i + 1)

unfoldable pub sections : List ℕ → List Section
sections image = sections_from image (line_count image) 0

-- ---- to an image

-- a number below 65,536 in two bytes, the low byte first
abbrev pub two_bytes : ℕ → List ℕ
two_bytes n = n % 256 ∷ n / 256 ∷ []

abbrev pub contents_line : (kind offset size sum : ℕ) → List ℕ
contents_line kind offset size sum = kind ∷ 0 ∷ two_bytes offset ++ two_bytes size ++ two_bytes sum

-- the contents lines of sections whose first body starts at `offset`
unfoldable pub contents_from : (offset : ℕ) → List Section → List ℕ
contents_from offset [] = []
contents_from offset (s ∷ ss) =
    contents_line s.kind offset (length s.body) (total s.body % 65536) ++ contents_from (offset + length s.body) ss

unfoldable pub bodies_of : List Section → List ℕ
bodies_of [] = []
bodies_of (s ∷ ss) = s.body ++ bodies_of ss

unfoldable pub image_of : List Section → List ℕ
image_of ss = 0x51 ∷ length ss ∷ contents_from (line_place (length ss)) ss ++ bodies_of ss

-- kinds strictly rise above `previous`, and go up to 255
abbrev pub Rising : (previous : ℕ) → List Section → Type 0
Rising previous [] = Unit {0}
Rising previous (s ∷ ss) = (previous < s.kind) × (s.kind ≤ 255) × Rising s.kind ss

-- sections that an image can hold: 1 to 16, of rising kinds, and no more than 4,096 bytes with their contents
pub record Fit (ss : List Section) : Type 0 where
  pub some : 1 ≤ length ss
  pub few : length ss ≤ most_lines
  pub rising : Rising 0 ss
  pub room : line_place (length ss) + length (bodies_of ss) ≤ largest_image
