-- Kind 129, note, 1 to 64 bytes, each a field of 32 to 126.
use Rattle.std.specs.Prelude.{◌&&◌, List, ◌∷◌, ℕ, leb, length, get_or}
use Rattle.refusals.specs.Answers.{Verdict}
use Rattle.refusals.specs.FieldsVerdict.{Field, field, fields_verdict, fields_from}

abbrev pub character_field : List ℕ → (i : ℕ) → Field
character_field body i = field i (leb 32 (get_or body i 0) && leb (get_or body i 0) 126)

abbrev pub character_fields : List ℕ → List Field
character_fields body = fields_from (character_field body) (length body) 0

unfoldable pub note_fields : List ℕ → List Field
note_fields body = field (length body) (leb 1 (length body) && leb (length body) 64) ∷ character_fields body

abbrev pub note_verdict : List ℕ → Verdict
note_verdict body = fields_verdict 16 (note_fields body)
