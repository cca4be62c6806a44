-- Document 01's example of the show program, as verdicts.
use Rattle.std.specs.Prelude.{◌≡◌, refl, List, [], ◌∷◌, ℕ, Err}
use Rattle.laws.specs.Sums.{total}
use Rattle.numbers.specs.Fields.{little_endian, number_at}
use Rattle.refusals.specs.Refusals.{refusal}
use Rattle.image.specs.Contents.{start_verdict, count_verdict, lines_verdict, contents_verdict}
use Rattle.image.specs.Layout.{sums_verdict, layout_verdict}
use Rattle.image.specs.Sections.{sections_from, sections}
use Rattle.image.specs.Find.{body_of}
use Rattle.panel.specs.Levels.{knows}
use Rattle.panel.specs.Verdict.{unknown_verdict, missing_verdict, sections_verdict, verdict_of}

-- one empty section
abbrev pub image : (kind : ℕ) → List ℕ
image kind = 0x51 ∷ 0x01 ∷ kind ∷ 0x00 ∷ 0x0A ∷ 0x00 ∷ 0x00 ∷ 0x00 ∷ 0x00 ∷ 0x00 ∷ []

pub level_1 : verdict_of 1 (image 200) ≡ Err (refusal 10 1)
unfolding verdict_of sections_verdict unknown_verdict missing_verdict knows sections sections_from body_of
    layout_verdict contents_verdict start_verdict count_verdict lines_verdict sums_verdict number_at little_endian total
level_1 = refl

pub level_2 : verdict_of 2 (image 200) ≡ Err (refusal 10 1)
unfolding verdict_of sections_verdict unknown_verdict missing_verdict knows sections sections_from body_of
    layout_verdict contents_verdict start_verdict count_verdict lines_verdict sums_verdict number_at little_endian total
level_2 = refl

pub unknown_127 : verdict_of 1 (image 127) ≡ Err (refusal 9 127)
unfolding verdict_of sections_verdict unknown_verdict missing_verdict knows sections sections_from body_of
    layout_verdict contents_verdict start_verdict count_verdict lines_verdict sums_verdict number_at little_endian total
unknown_127 = refl
