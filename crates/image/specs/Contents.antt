-- The contents of an image: how many lines they have, what each says, and refusals 5 to 7.
-- They need the image's size and its contents, and no body: `contents` may be the image itself or any part of it from its start on.
use Rattle.std.specs.Prelude.{Bool, ◌&&◌, List, ℕ, zero, suc, ◌+◌, ◌*◌, leb, ltb, eqb}
use Rattle.limits.specs.Limits.{largest_image, most_lines}
use Rattle.numbers.specs.Fields.{number_at}
use Rattle.refusals.specs.Answers.{Verdict}
use Rattle.refusals.specs.Refusals.{ask, and_then}

-- the number of contents lines
abbrev pub line_count : List ℕ → ℕ
line_count image = number_at 1 image 1

-- contents line i, of 8 bytes: kind, a zero byte, the body's offset, its length, the sum of its bytes
abbrev pub line_place : ℕ → ℕ
line_place i = 2 + 8 * i

abbrev pub kind_at : List ℕ → ℕ → ℕ
kind_at image i = number_at 1 image (line_place i)

abbrev pub zero_at : List ℕ → ℕ → ℕ
zero_at image i = number_at 1 image (line_place i + 1)

abbrev pub offset_at : List ℕ → ℕ → ℕ
offset_at image i = number_at 2 image (line_place i + 2)

abbrev pub length_at : List ℕ → ℕ → ℕ
length_at image i = number_at 2 image (line_place i + 4)

abbrev pub sum_at : List ℕ → ℕ → ℕ
sum_at image i = number_at 2 image (line_place i + 6)

-- 5: from 2 to 4,096 bytes,
abbrev pub size_verdict : (size : ℕ) → Verdict
size_verdict size = ask (leb 2 size && leb size largest_image) 5 0

-- of which the first is 0x51
abbrev pub mark_verdict : (contents : List ℕ) → Verdict
mark_verdict contents = ask (eqb (number_at 1 contents 0) 0x51) 5 0

unfoldable pub start_verdict : (size : ℕ) → (contents : List ℕ) → Verdict
start_verdict size contents = and_then (size_verdict size) (mark_verdict contents)

-- 6: from 1 to 16 contents lines, which the image has room for
unfoldable pub count_verdict : (size : ℕ) → (contents : List ℕ) → Verdict
count_verdict size contents = ask (leb 1 (line_count contents) && leb (line_count contents) most_lines && leb (line_place (line_count contents)) size) 6 0

-- line i is right after a line of kind `previous`, where its body is to start at `offset`
abbrev pub line_right : (contents : List ℕ) → (i previous offset : ℕ) → Bool
line_right contents i previous offset = ltb previous (kind_at contents i) && eqb (zero_at contents i) 0 && eqb (offset_at contents i) offset

-- 7: the lines left from line i on, in order; then i is their number, and the last body has to end with the image
unfoldable pub lines_verdict : (size : ℕ) → (contents : List ℕ) → (left i previous offset : ℕ) → Verdict
lines_verdict size contents zero i previous offset = ask (eqb offset size) 7 i
lines_verdict size contents (suc left) i previous offset =
    and_then (ask (line_right contents i previous offset) 7 i)
    (lines_verdict size contents left (i + 1) (kind_at contents i) (offset + length_at contents i))

-- from the first line on, the first body right after the lines
abbrev pub all_lines : (size : ℕ) → (contents : List ℕ) → Verdict
all_lines size contents = lines_verdict size contents (line_count contents) 0 0 (line_place (line_count contents))

-- 5 to 7, each finished before the next
unfoldable pub contents_verdict : (size : ℕ) → (contents : List ℕ) → Verdict
contents_verdict size contents = and_then (start_verdict size contents) (and_then (count_verdict size contents) (all_lines size contents))
