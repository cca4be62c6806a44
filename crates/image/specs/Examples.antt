-- Document 01: the bytes 51 01 as an image are refused 6, and no body's sum is skipped, of whatever kind.
use Rattle.std.specs.Prelude.{◌≡◌, refl, [], ◌∷◌, Err}
use Rattle.laws.specs.Sums.{total}
use Rattle.numbers.specs.Fields.{little_endian, number_at}
use Rattle.refusals.specs.Refusals.{refusal}
use Rattle.image.specs.Contents.{start_verdict, count_verdict, lines_verdict, contents_verdict}
use Rattle.image.specs.Layout.{sums_verdict, layout_verdict}

pub contents_overrun : layout_verdict (0x51 ∷ 0x01 ∷ []) ≡ Err (refusal 6 0)
unfolding layout_verdict contents_verdict start_verdict count_verdict number_at little_endian
contents_overrun = refl

-- one section, of a kind that no level knows, whose one byte does not add up to 0
pub unknown_sum_wrong : layout_verdict (0x51 ∷ 0x01 ∷ 200 ∷ 0 ∷ 10 ∷ 0 ∷ 1 ∷ 0 ∷ 0 ∷ 0 ∷ 7 ∷ []) ≡ Err (refusal 8 0)
unfolding layout_verdict contents_verdict start_verdict count_verdict lines_verdict sums_verdict number_at little_endian total
unknown_sum_wrong = refl
