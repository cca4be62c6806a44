-- What a known value says of the checks before it, both ways on from a value, and both answers of `within`.
use Rattle.std.proofs.Math.Path.{◌≡◌}
use Rattle.std.specs.Prelude.{refl, Bool, true, false, not, ℕ, ◌≤◌, ◌<◌, ℤ, nat_abs, Result, Err, Ok, IsErrAnd}
use Rattle.std.proofs.Common.{ap, ◌∙◌, arith, le-leb, leb-true}
use Rattle.std.proofs.lemmas.Bool.{lt-leb}
use Rattle.std.proofs.lemmas.Result.{err_from_is_err_and}
use Rattle.std.proofs.Math.Dec.{leb}
use Rattle.laws.specs.Cases.{decide}
use Rattle.refusals.specs.declared.Refusal.{Refusal}
use Rattle.refusals.specs.Answers.{Verdict}
use Rattle.refusals.specs.Refusals.{refusal, ask}
use Rattle.reading.specs.Answers.{Value}
use Rattle.reading.specs.Value.{given, with_value, within}

-- ---- how code comes to what is defined, where it stops at the first refusal

-- a refusal that is passed on is returned as it was
pub passed_on : {T : Type 0} {returned : Result T Refusal} {r : Refusal} → IsErrAnd returned (λ q. q ≡ r) → returned ≡ Err r
passed_on {returned} e = let p = err_from_is_err_and returned e in p.1 ∙ ap Err p.2

-- v is the code's check that something is not refused
pub asked_of_refused : {v : Verdict} {refused : Bool} (holds : Bool) (number detail : ℕ) → refused ≡ not holds → v ≡ ask (not refused) number detail
    → v ≡ ask holds number detail
asked_of_refused holds number detail e f = rw (e, twice holds) at f
  where
    twice : (b : Bool) → not (not b) ≡ b
    twice true = refl
    twice false = refl

-- v is the code's check
module _ {v w : Verdict} (is : v ≡ w) where
  pub check_refused : {r : Refusal} (next : Value) → v ≡ Err r → Err r ≡ given w next
  check_refused next e = rw (← is, e)

  pub check_passed : {u : Value} (next : Value) → v ≡ Ok tt → u ≡ next → u ≡ given w next
  check_passed next e f = rw (← is, e) f

-- v is the code's value
module _ {v w : Value} (is : v ≡ w) where
  pub value_refused : {r : Refusal} (next : ℤ → Value) → v ≡ Err r → Err r ≡ with_value w next
  value_refused next e = rw (← is, e)

  pub value_passed : {z : ℤ} {u : Value} (next : ℤ → Value) → v ≡ Ok z → u ≡ next z → u ≡ with_value w next
  value_passed next e f = rw (← is, e) f

-- ---- a limit

module _ (most number detail : ℕ) (z : ℤ) where
  within_known : nat_abs z ≤ most → Ok z ≡ within most number detail z
  unfolding within
  within_known h = rw (le-leb (nat_abs z) most h)

  pub within_beyond : most < nat_abs z → Err (refusal number detail) ≡ within most number detail z
  unfolding within
  within_beyond h = rw (lt-leb (nat_abs z) most h)

  -- by the check of the code
  module _ {v : Verdict} (is : v ≡ ask (leb (nat_abs z) most) number detail) where
    pub within_refused : {r : Refusal} → v ≡ Err r → Err r ≡ within most number detail z
    unfolding within
    within_refused e = check_refused is (Ok z) e

    pub within_passed : v ≡ Ok tt → Ok z ≡ within most number detail z
    unfolding within
    within_passed e = check_passed is (Ok z) e refl

  pub within_says : (y : ℤ) → within most number detail z ≡ Ok y → (z ≡ y) × (nat_abs y ≤ most)
  unfolding within
  within_says y e =
      decide (leb (nat_abs z) most)
      (λ (q : leb (nat_abs z) most ≡ true). let same : z ≡ y = cc (rw q at e) in (same, rw (← same) (leb-true (nat_abs z) most q)))
      (λ (q : leb (nat_abs z) most ≡ false). let z : ◌≡◌ {A = ℕ} 0 1 = cc (rw q at e) in absurd (omega arith))
