-- What a test in the code tells of a field, and the rulesets by which a search goes through a body's fields.
use Rattle.std.specs.Prelude.{◌≡◌, Bool, true, false, not, ◌&&◌, ℕ, ◌≤◌, ◌<◌, leb, eqb, ℤ, nat_abs}
use Rattle.std.proofs.Common.{sym, ap, ◌∙◌, eq-eqb, ne_eqb, le-leb, leb-true}
use Rattle.std.proofs.lemmas.Bool.{lt-leb, not-false}
use Rattle.std.specs.Int.Signed.{lt_z, le_z}
use Rattle.laws.specs.Cases.{both_left, both_right}
use Rattle.laws.specs.Order.{less_otherwiseℤ}
use Rattle.laws.specs.SignedBits.{read_as}
use Rattle.refusals.specs.FieldsVerdictLaws.{
  TestResult,
  verdict_is,
  field_right,
  field_wrong,
  fields_left,
  fields_end,
  loop_first,
  loop_right,
  loop_wrong,
  loop_end,
}

-- ---- numbers: x is what the code read, and the field is defined of n, or of z where it is signed

module _ (n k : ℕ) where
  pub equal : n ≡ k → TestResult (eqb n k) false
  equal h = record { tells = sym (ap not (eq-eqb n k h)) }

  pub unequal : (n ≡ k → ⊥) → TestResult (eqb n k) true
  unequal h = record { tells = sym (ap not (ne_eqb n k h)) }

  pub at_most : n ≤ k → TestResult (leb n k) false
  at_most h = record { tells = sym (ap not (le-leb n k h)) }

  pub more : k < n → TestResult (leb n k) true
  more h = record { tells = sym (ap not (lt-leb n k h)) }

module _ (x n k : ℕ) (e : x ≡ n) where
  pub read_equal : x ≡ k → TestResult (eqb n k) false
  read_equal h = equal n k (sym e ∙ h)

  pub read_unequal : (x ≡ k → ⊥) → TestResult (eqb n k) true
  read_unequal h = unequal n k (λ (f : n ≡ k). h (e ∙ f))

  pub read_at_most : x ≤ k → TestResult (leb n k) false
  read_at_most h = at_most n k (rw e at h)

  pub read_more : k < x → TestResult (leb n k) true
  read_more h = more n k (rw e at h)

-- b is what a function of the code answered
module _ (b told : Bool) where
  pub outside_told : (low x high n bound : ℕ) → x ≡ n → high ≡ bound → b ≡ not (leb low x && leb x high) → b ≡ told
      → TestResult (leb low n && leb n bound) told
  outside_told low x high n bound f g e h = record { tells = sym h ∙ rw (f, g) at e }

  pub beyond_told : (x z : ℤ) (limit : ℕ) → x ≡ z → b ≡ not (leb (nat_abs x) limit) → b ≡ told → TestResult (leb (nat_abs z) limit) told
  beyond_told x z limit f e h = record { tells = sym h ∙ rw f at e }

-- a number that is not outside lies within
module _ (b : Bool) (low x high : ℕ) (e : b ≡ not (leb low x && leb x high)) (h : b ≡ false) where
  inside : (leb low x && leb x high) ≡ true
  inside = not-false (leb low x && leb x high) (sym e ∙ h)

  pub not_below : low ≤ x
  not_below = leb-true low x (both_left (leb low x) (leb x high) inside)

  pub not_above : x ≤ high
  not_above = leb-true x high (both_right (leb low x) (leb x high) inside)

-- ---- signed numbers

pub above_told : (x y least greatest : ℤ) (told : Bool) → x ≡ least → y ≡ greatest → lt_z y x ≡ told → TestResult (le_z least greatest) told
above_told x y least greatest told e f h = record { tells = sym h ∙ rw (e, f) (less_otherwiseℤ least greatest) }

-- ---- what a proof about a body's fields cites

pub ruleset tests = (
  equal,
  unequal,
  at_most,
  more,
  read_equal,
  read_unequal,
  read_at_most,
  read_more,
  outside_told,
  beyond_told,
  read_as,
  above_told,
)

-- where they are judged one by one, and where in a loop
pub ruleset fields = (verdict_is, field_right, field_wrong, fields_left, fields_end, tests)

pub ruleset loop = (verdict_is, loop_first, loop_right, loop_wrong, loop_end, tests)
