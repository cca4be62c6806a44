-- A body's fields in layout order: a body is refused by its number at the first field that is not right.
use Rattle.std.specs.Prelude.{Bool, cond, List, [], ◌∷◌, ℕ, zero, suc, ◌+◌, Err, Ok}
use Rattle.refusals.specs.Answers.{Verdict}
use Rattle.refusals.specs.Refusals.{refusal}

-- the place in the body of a field's first byte, and is the field right
pub record Field : Type 0 where
  pub place : ℕ
  pub right : Bool

abbrev pub field : (place : ℕ) (right : Bool) → Field
field place right = record { place = place; right = right }

-- document 01 gives these refusals the detail 0; the place is there for a later version of the rules, in which it is the detail
abbrev pub refused_at : (number place : ℕ) → Verdict
refused_at number place = Err (refusal number 0)

unfoldable pub fields_verdict : (number : ℕ) → List Field → Verdict
fields_verdict number [] = Ok tt
fields_verdict number (f ∷ fields) = cond f.right (fields_verdict number fields) (refused_at number f.place)

-- fields that keep one rule: those left from the i-th on
unfoldable pub fields_from : (rule : ℕ → Field) → (left i : ℕ) → List Field
fields_from rule zero i = []
fields_from rule (suc left) i = rule i ∷ fields_from rule left (i + 1)
