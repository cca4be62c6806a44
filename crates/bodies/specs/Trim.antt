-- Kind 4, trim, 16 bytes.
use Rattle.std.specs.Prelude.{◌&&◌, List, [], ◌∷◌, ℕ, ◌^◌, leb, eqb, nat_abs, length}
use Rattle.numbers.specs.Fields.{number_at, signed_at}
use Rattle.refusals.specs.Answers.{Verdict}
use Rattle.refusals.specs.FieldsVerdict.{Field, field, fields_verdict}
use Rattle.bodies.specs.declared.Trim.{Trim}

-- what it says: unit 1 is psi, 2 bar, 3 kPa
unfoldable pub trim_of : List ℕ → Trim
trim_of body = record { unit = number_at 1 body 0; span = number_at 4 body 4; zero = signed_at 8 body 8 }

unfoldable pub trim_fields : List ℕ → List Field
trim_fields body =
    field (length body) (eqb (length body) 16)
    ∷ field 0 (leb 1 (number_at 1 body 0) && leb (number_at 1 body 0) 3)
    ∷ field 1 (eqb (number_at 1 body 1) 0)
    ∷ field 2 (eqb (number_at 1 body 2) 0)
    ∷ field 3 (eqb (number_at 1 body 3) 0)
    ∷ field 4 (leb 1 (number_at 4 body 4) && leb (number_at 4 body 4) (2 ^ 31))
    ∷ field 8 (leb (nat_abs (signed_at 8 body 8)) (2 ^ 40))
    ∷ []

abbrev pub trim_verdict : List ℕ → Verdict
trim_verdict body = fields_verdict 15 (trim_fields body)
