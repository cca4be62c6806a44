use lib.ListN.{length}
use Rattle.refusals.specs.FieldsVerdictLaws.{FieldsRightBefore}
use Rattle.bodies.specs.Note.{character_field}
use Rattle.bodies.proofs.notes.characters_verdict.Given as goal

abbrev pub invariant-loop-i : goal.invariant-loop-i
invariant-loop-i l = FieldsRightBefore 16 (character_field l.body) (length l.body) l.i
