-- The reading of an image: the verdict, and then what the bodies and the counts come to.
use Rattle.std.specs.Prelude.{List, [], ℕ, Err, None, Ok, Some}
use Rattle.std.proofs.Math.Option.{Option, none, some}
use Rattle.refusals.specs.Answers.{Verdict}
use Rattle.image.specs.Sections.{Section, sections}
use Rattle.image.specs.Find.{body_of, or_else}
use Rattle.bodies.specs.Identity.{identity_of}
use Rattle.bodies.specs.Trim.{trim_of}
use Rattle.reading.specs.declared.Counts.{Counts}
use Rattle.reading.specs.Answers.{Answer}
use Rattle.reading.specs.Answers.{Trimming}
use Rattle.reading.specs.Gauge.{Gauge, gauge_of}
use Rattle.reading.specs.Measured.{measured_of}
use Rattle.panel.specs.Verdict.{verdict_of}

abbrev pub body_in : (kind : ℕ) → List Section → List ℕ
body_in kind ss = or_else [] (body_of kind ss)

abbrev pub trimming_of : Option (List ℕ) → Trimming
trimming_of none = None
trimming_of (some body) = Some (trim_of body)

-- what the sections say of their gauge
abbrev pub sections_gauge : List Section → Gauge
sections_gauge ss = gauge_of (identity_of (body_in 1 ss)) (body_in 2 ss) (body_in 3 ss) (trimming_of (body_of 4 ss))

unfoldable pub sections_reading : List Section → Counts → Answer
sections_reading ss counts = measured_of counts (sections_gauge ss)

abbrev pub after_verdict : Verdict → Answer → Answer
after_verdict (Ok tt) answer = answer
after_verdict (Err r) answer = Err r

unfoldable pub reading_of : (level : ℕ) → (image : List ℕ) → Counts → Answer
reading_of level image counts = after_verdict (verdict_of level image) (sections_reading (sections image) counts)
