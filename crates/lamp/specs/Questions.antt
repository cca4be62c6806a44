-- What a panel answers by the image that it holds.
use Rattle.std.specs.Prelude.{cond, ◌==◌}
use Rattle.refusals.specs.Refusals.{refusal}
use Rattle.reading.specs.declared.Counts.{Counts}
use Rattle.reading.specs.Answers.{Answer}
use Rattle.panel.specs.Answers.{Identified}
use Rattle.panel.specs.Identified.{identified_by}
use Rattle.panel.specs.Reading.{reading_of}
use Rattle.lamp.specs.declared.Panel.{Panel}
use Rattle.lamp.specs.declared.questions.LoadState.{LoadState}
use Rattle.lamp.specs.declared.questions.LoadState.TheVariants.{UnderWay, Accepted, Refused}
use Rattle.lamp.specs.Panel.{at_line, at_end_record, size_of, is_lit, Standing, image_held}

-- how its last load stands: an image of so many bytes is accepted; a text is under way; or why there is no image. Made of zeros it has none
unfoldable pub load_state : Panel → LoadState
load_state panel =
    cond (is_lit panel) (Accepted (size_of panel))
    (cond (panel.stage == at_line) UnderWay
    (cond (panel.stage == at_end_record) UnderWay
    (cond (panel.size_or_number == 0) (Refused (refusal 5 0)) (Refused (refusal panel.size_or_number panel.lines_or_detail)))))

-- a reading: without an image it is refused as an image of 0 bytes is
abbrev pub reading_shown : Standing → Counts → Answer
reading_shown s counts = reading_of s.panel.level (image_held s) counts

-- the gauge
abbrev pub gauge_told : Standing → Identified
gauge_told s = identified_by s.panel.level (image_held s)
