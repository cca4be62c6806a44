-- Laws of a set: what is read, and what the tests of its prescales and of its length tell.
use Rattle.std.specs.Prelude.{◌≡◌, Bool, ◌&&◌, List, [], ◌∷◌, ℕ, ◌+◌, ◌*◌, ◌^◌, ◌≤◌, leb, eqb, ℤ, length, take, drop, Err, Ok}
use Rattle.std.proofs.Math.Path.{refl}
use Rattle.std.proofs.Common.{sym, ap, ◌∙◌, mul-le-mul, arith, ne_eqb}
use Rattle.std.proofs.Math.Bool.{true, false}
use Rattle.std.specs.Result.{IsErrAnd}
use Rattle.std.proofs.lemmas.Result.{err_from_is_err_and}
use Rattle.numbers.specs.Fields.{number_at, signed_at}
use Rattle.numbers.specs.FieldsLaws.{number_from, number_within}
use Rattle.refusals.specs.declared.Refusal.{Refusal}
use Rattle.refusals.specs.Answers.{Verdict}
use Rattle.refusals.specs.FieldsVerdict.{Field, field, fields_verdict}
use Rattle.refusals.specs.FieldsVerdictLaws.{TestResult, IsVerdict}
use Rattle.refusals.specs.TestsLaws.{equal, unequal}
use Rattle.refusals.specs.VerdictLaws.{never_both}
use Rattle.sets.specs.declared.Prescale.{Prescale}
use Rattle.sets.specs.declared.Prescales.{Prescales}
use Rattle.sets.specs.Set.{prescales_of, coefficient_count, set_size, prescale_fields, coefficient_fields, multiplier_right, offset_right}
use Rattle.sets.specs.Preconditions.{OrdersRead}

-- a prescale, by the places of its order and its multiplier, after which its offset stands
abbrev pub prescale_at : List ℕ → (order multiplier : ℕ) → Prescale
prescale_at body order multiplier =
    record { order = number_at 1 body order; multiplier = number_at 4 body multiplier; offset = number_at 8 body (multiplier + 4) }

pub prescales_read : (body : List ℕ) {p t : Prescale} → p ≡ prescale_at body 2 4 → t ≡ prescale_at body 3 16
    → ◌≡◌ {A = Prescales} (record { pressure = p; temperature = t }) (prescales_of body)
unfolding prescales_of
prescales_read body e f = rw (e, f)

-- the head says all of it
pub prescales_of_head : (body : List ℕ) → prescales_of (take 28 body) ≡ prescales_of body
unfolding prescales_of
prescales_of_head body =
    rw (
      number_within 1 body 2 28 (omega arith),
      number_within 4 body 4 28 (omega arith),
      number_within 8 body 8 28 (omega arith),
      number_within 1 body 3 28 (omega arith),
      number_within 4 body 16 28 (omega arith),
      number_within 8 body 20 28 (omega arith),
    )

-- a coefficient that was read from its own eight bytes
pub coefficient_read : (body : List ℕ) (place n : ℕ) {z : ℤ} → 8 ≤ n → z ≡ signed_at 8 (take n (drop place body)) 0 → z ≡ signed_at 8 body place
coefficient_read body place n h e =
    let same : place + 0 ≡ place = omega arith in
    rw (number_within 8 (drop place body) 0 n (omega arith), number_from 8 body place 0, same) at e

-- ---- prescales: an order of 0 asks for zeros, another for the limits

module _ (order n : ℕ) (told : Bool) where
  pub zero_multiplier_told : order ≡ 0 → TestResult (eqb n 0) told → TestResult (multiplier_right order n) told
  zero_multiplier_told e h = rw e h

  pub zero_offset_told : order ≡ 0 → TestResult (eqb n 0) told → TestResult (offset_right order n) told
  zero_offset_told e h = rw e h

  pub multiplier_told : (order ≡ 0 → ⊥) → TestResult (leb 1 n && leb n (2 ^ 30)) told → TestResult (multiplier_right order n) told
  multiplier_told e h = rw (ne_eqb order 0 e) h

  pub offset_told : (order ≡ 0 → ⊥) → TestResult (leb n 6553600000) told → TestResult (offset_right order n) told
  offset_told e h = rw (ne_eqb order 0 e) h

-- two fields judged before others
module _ (number place next : ℕ) where
  both_right : (a b : Bool) (fields : List Field) → fields_verdict number (field place a ∷ field next b ∷ []) ≡ Ok tt
      → fields_verdict number fields ≡ fields_verdict number (field place a ∷ field next b ∷ fields)
  unfolding fields_verdict
  both_right true true fields e = refl
  both_right true false fields e = never_both refl e
  both_right false b fields e = never_both refl e

  one_wrong : (a b : Bool) (fields : List Field) (r : Refusal) → fields_verdict number (field place a ∷ field next b ∷ []) ≡ Err r
      → fields_verdict number (field place a ∷ field next b ∷ []) ≡ fields_verdict number (field place a ∷ field next b ∷ fields)
  unfolding fields_verdict
  one_wrong true true fields r e = never_both e refl
  one_wrong true false fields r e = refl
  one_wrong false b fields r e = refl

-- v is the code's verdict on a prescale, of which it read the order x, the multiplier m and the offset o
module _ (number place x m o : ℕ) (v : Verdict) (h : v ≡ fields_verdict number (prescale_fields x m o place))
    (next order multiplier offset : ℕ) (e : x ≡ order) (f : m ≡ multiplier) (g : o ≡ offset) (p : place + 4 ≡ next) (fields : List Field) where
  judged : v ≡ fields_verdict number (field place (multiplier_right order multiplier) ∷ field next (offset_right order offset) ∷ [])
  judged = rw (e, f, g, p) at h

  pub prescale_right : (verdict : Verdict) → v ≡ Ok tt → IsVerdict number fields verdict
      → IsVerdict number (field place (multiplier_right order multiplier) ∷ field next (offset_right order offset) ∷ fields) verdict
  prescale_right verdict k i =
      record { is = i.is ∙ both_right number place next (multiplier_right order multiplier) (offset_right order offset) fields (sym judged ∙ k) }

  -- a refusal that is passed on
  pub prescale_wrong : (verdict : Verdict) (r : Refusal) → v ≡ Err r → IsErrAnd verdict (λ q. q ≡ r)
      → IsVerdict number (field place (multiplier_right order multiplier) ∷ field next (offset_right order offset) ∷ fields) verdict
  prescale_wrong verdict r k w =
      let passed = err_from_is_err_and _ w in
      let same = passed.1 ∙ ap Err passed.2 ∙ sym k ∙ judged in
      record { is = same ∙ one_wrong number place next (multiplier_right order multiplier) (offset_right order offset) fields r (sym judged ∙ k) }

-- ---- the length that the orders ask for; x and y are the orders that the code read

pub few : (x y : ℕ) → x ≤ 4 → y ≤ 4 → (x + 1) * (y + 1) ≤ 25
few x y h k =
    let a : x + 1 ≤ 5 = omega arith in
    let b : y + 1 ≤ 5 = omega arith in
    mul-le-mul a b

module _ (body : List ℕ) (x y count : ℕ) (o : OrdersRead body x y) (c : count ≡ (x + 1) * (y + 1)) where
  counted : count ≡ coefficient_count body
  counted = rw (o.pressure, o.temperature) at c

  asked : 28 + 8 * count ≡ set_size body
  asked = ap (λ (n : ℕ). 28 + 8 * n) counted

  pub length_told : length body ≡ 28 + 8 * count → TestResult (eqb (length body) (set_size body)) false
  length_told h = equal (length body) (set_size body) (h ∙ asked)

  pub other_length_told : (length body ≡ 28 + 8 * count → ⊥) → TestResult (eqb (length body) (set_size body)) true
  other_length_told h = unequal (length body) (set_size body) (λ g. h (g ∙ sym asked))

  pub coefficients_verdict_is : {number : ℕ} {verdict : Verdict} → verdict ≡ fields_verdict number (coefficient_fields body count)
      → IsVerdict number (coefficient_fields body (coefficient_count body)) verdict
  coefficients_verdict_is h = record { is = rw counted at h }
