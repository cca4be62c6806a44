-- The layout of an image, contents and then bodies: refusals 5 to 8, each finished for the whole image before the next.
use Rattle.std.specs.Prelude.{List, ℕ, zero, suc, ◌+◌, ◌%◌, eqb, length, take, drop, Ok}
use Rattle.laws.specs.Sums.{total}
use Rattle.refusals.specs.Answers.{Verdict}
use Rattle.refusals.specs.Refusals.{ask, and_then}
use Rattle.image.specs.Contents.{line_count, offset_at, length_at, sum_at, contents_verdict}

abbrev pub body_at : List ℕ → ℕ → List ℕ
body_at image i = take (length_at image i) (drop (offset_at image i) image)

-- 8: the sums of the bodies of the lines left from line i on
unfoldable pub sums_verdict : List ℕ → (left i : ℕ) → Verdict
sums_verdict image zero i = Ok tt
sums_verdict image (suc left) i =
    and_then (ask (eqb (total (body_at image i) % 65536) (sum_at image i)) 8 i) (sums_verdict image left (i + 1))

abbrev pub all_sums : List ℕ → Verdict
all_sums image = sums_verdict image (line_count image) 0

-- the layout is good where this accepts
unfoldable pub layout_verdict : List ℕ → Verdict
layout_verdict image = and_then (contents_verdict (length image) image) (all_sums image)
