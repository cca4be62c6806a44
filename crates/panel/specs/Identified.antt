-- The gauge that an image is of, for a panel that accepts it.
use Rattle.std.specs.Prelude.{List, ℕ, Err, Ok}
use Rattle.refusals.specs.Answers.{Verdict}
use Rattle.image.specs.Sections.{sections}
use Rattle.bodies.specs.declared.Identity.{Identity}
use Rattle.bodies.specs.Identity.{identity_of}
use Rattle.panel.specs.Answers.{Identified}
use Rattle.panel.specs.Verdict.{verdict_of}
use Rattle.panel.specs.Reading.{body_in}

abbrev pub if_accepted : Verdict → Identity → Identified
if_accepted (Ok tt) identity = Ok identity
if_accepted (Err r) identity = Err r

unfoldable pub identified_by : (level : ℕ) (image : List ℕ) → Identified
identified_by level image = if_accepted (verdict_of level image) (identity_of (body_in 1 (sections image)))
