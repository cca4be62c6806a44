use Rattle.bodies.specs.Note.{note_fields}
use Rattle.refusals.specs.TestsLaws.{fields}
use Rattle.bodies.proofs.notes.note_verdict.Goals as goal

pub returns-then-outside : goal.returns-then-outside
unfolding note_fields
returns-then-outside c = search fields depth 16

pub returns : goal.returns
unfolding note_fields
returns c = search fields depth 16
