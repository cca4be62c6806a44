-- Laws for code that judges a body's fields in order, one by one or in a loop: it goes on past a right field and refuses at a wrong one.
use Rattle.std.specs.Prelude.{◌≡◌, refl, Bool, not, List, [], ◌∷◌, Ok}
use Rattle.std.proofs.Common.{sym, ◌∙◌}
use Rattle.std.proofs.Math.Bool.{true, false}
use Prim.Native.Nat.{ℕ, suc, ◌+◌, ◌-◌, ◌≤◌, ◌<◌}
use Rattle.std.proofs.Math.Nat.{sub-zero}
use native.Mathlib.Omega.{arith}
use borrow.Author.Tests.{not-true, not-false}
use Rattle.refusals.specs.Answers.{Verdict}
use Rattle.refusals.specs.FieldsVerdict.{Field, refused_at, fields_verdict, fields_from}

-- the code's test of a field came out as `told`: true where the field is not right
pub record TestResult (right told : Bool) : Type 0 where
  pub tells : told ≡ not right

-- the code's verdict is that on the fields; a record, so that a search meets no bare equation
pub record IsVerdict (number : ℕ) (fields : List Field) (verdict : Verdict) : Type 0 where
  pub is : verdict ≡ fields_verdict number fields

pub verdict_is : (number : ℕ) (fields : List Field) (verdict : Verdict) → IsVerdict number fields verdict → verdict ≡ fields_verdict number fields
verdict_is number fields verdict h = h.is

module _ {number : ℕ} {fields : List Field} {verdict : Verdict} where
  pub field_right : {f : Field} → TestResult f.right false → IsVerdict number fields verdict → IsVerdict number (f ∷ fields) verdict
  unfolding fields_verdict
  field_right {f} w h = let e : f.right ≡ true = not-false f.right (sym w.tells) in record { is = rw e h.is }

  pub field_wrong : {f : Field} → TestResult f.right true → verdict ≡ refused_at number f.place → IsVerdict number (f ∷ fields) verdict
  unfolding fields_verdict
  field_wrong {f} w h = let e : f.right ≡ false = not-true f.right (sym w.tells) in record { is = rw e h }

  -- a part of the code judges the fields that are left
  pub fields_left : verdict ≡ fields_verdict number fields → IsVerdict number fields verdict
  fields_left h = record { is = h }

pub fields_end : {number : ℕ} → IsVerdict number [] (Ok tt)
unfolding fields_verdict
fields_end = record { is = refl }

-- ---- in a loop over fields that keep one rule

-- the fields before the i-th are right
pub record FieldsRightBefore (number : ℕ) (rule : ℕ → Field) (count i : ℕ) : Type 0 where
  pub left : fields_verdict number (fields_from rule (count - i) i) ≡ fields_verdict number (fields_from rule count 0)

pub loop_first : (number : ℕ) (rule : ℕ → Field) (count : ℕ) → FieldsRightBefore number rule count 0
loop_first number rule count = record { left = rw (sub-zero count) refl }

module _ (number : ℕ) (rule : ℕ → Field) (count i : ℕ) (before : FieldsRightBefore number rule count i) where
  abbrev after : List Field
  after = fields_from rule (count - (i + 1)) (i + 1)

  next : i < count → fields_from rule (count - i) i ≡ rule i ∷ after
  unfolding fields_from
  next h = let e : count - i ≡ suc (count - (i + 1)) = omega arith in rw e

  verdict_left : {verdict : Verdict} → IsVerdict number (fields_from rule (count - i) i) verdict → IsVerdict number (fields_from rule count 0) verdict
  verdict_left j = record { is = j.is ∙ before.left }

  pub loop_right : i < count → TestResult (rule i).right false → FieldsRightBefore number rule count (i + 1)
  loop_right h w =
      let past : IsVerdict number (rule i ∷ after) (fields_verdict number after) = field_right w (fields_left refl) in
      record { left = past.is ∙ rw (next h) at before.left }

  pub loop_wrong : {verdict : Verdict} → i < count → TestResult (rule i).right true → verdict ≡ refused_at number (rule i).place
      → IsVerdict number (fields_from rule count 0) verdict
  loop_wrong h w e = verdict_left (rw (next h) (field_wrong w e))

  pub loop_end : count ≤ i → IsVerdict number (fields_from rule count 0) (Ok tt)
  unfolding fields_from
  loop_end h = let e : count - i ≡ 0 = omega arith in verdict_left (rw e fields_end)
