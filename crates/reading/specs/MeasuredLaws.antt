-- From frequencies and results to an answer, as the code has them two at a time; laws of mark and trim.
use Rattle.std.specs.Prelude.{◌≡◌, refl, Bool, true, false, cond, ℕ, ◌+◌, ◌*◌, ◌^◌, ◌≤◌, leb, ℤ, pos, nat_abs, ◌+ℤ◌, ◌*ℤ◌, Err, None, Ok, Some}
use Rattle.std.proofs.Common.{sym, ◌∙◌, arith, lit<, lit≤, leb-true, SFits}
use Rattle.std.specs.Int.Signed.{lt_z, nat_abs-le}
use Rattle.std.specs.Int.{w32, w64}
use mir.Val.{bool_byte}
use Rattle.limits.specs.Limits.{largest_result}
use Rattle.laws.specs.Magnitude.{magnitude_product_le, magnitude_sum}
use Rattle.laws.specs.SignedBits.{fits_64}
use Rattle.whole.specs.Rounded.{rounded}
use Rattle.whole.specs.RoundedLaws.{rounded_high}
use Rattle.refusals.specs.declared.Refusal.{Refusal}
use Rattle.refusals.specs.Answers.{Verdict}
use Rattle.refusals.specs.Refusals.{refusal, ask}
use Rattle.refusals.specs.VerdictLaws.{asked, never_both}
use Rattle.bodies.specs.declared.Identity.{Identity}
use Rattle.bodies.specs.declared.Trim.{Trim}
use Rattle.reading.specs.Answers.{Answer, Trimming, Value}
use Rattle.reading.specs.Value.{with_value}
use Rattle.reading.specs.ValueLaws.{within_says}
use Rattle.reading.specs.Frequency.{prescaled_of}
use Rattle.reading.specs.Gauge.{Set}
use Rattle.reading.specs.Polynomial.{grid_sum, set_result}
use Rattle.reading.specs.Measured.{outside, mark_of, trimmed_by, shown_by, and_show}

-- ---- a set's result that is known is within its limit

with_bound : (v : Value) (next : ℤ → Value) (z : ℤ) (most : ℕ) → ((y : ℤ) → next y ≡ Ok z → nat_abs z ≤ most) → with_value v next ≡ Ok z
    → nat_abs z ≤ most
with_bound (Ok y) next z most h e = h y e
with_bound (Err r) next z most h e = let n : ◌≡◌ {A = ℕ} 0 1 = cc in absurd (omega arith)

pub set_bound : (kind first : ℕ) (set : Set) (fp ft z : ℤ) → set_result kind first set fp ft ≡ Ok z → nat_abs z ≤ largest_result
unfolding set_result
set_bound kind first set fp ft z e =
    with_bound (prescaled_of first set.prescales.pressure fp) _ z largest_result
    (λ xp. with_bound (prescaled_of (first + 1) set.prescales.temperature ft) _ z largest_result
    (λ xt. with_bound (grid_sum kind xp xt set.grid) _ z largest_result
    (λ sum f. (within_says largest_result 26 kind sum z f).1)))
    e

-- ---- how code comes to an answer, where it stops at the first refusal: v is its value

module _ {v w : Value} (is : v ≡ w) where
  pub none_shown : {r : Refusal} (next : ℤ → Answer) → v ≡ Err r → Err r ≡ and_show w next
  none_shown next e = rw (← is, e)

  pub next_shown : {z : ℤ} {answer : Answer} (next : ℤ → Answer) → v ≡ Ok z → answer ≡ next z → answer ≡ and_show w next
  next_shown next e f = rw (← is, e) f

-- ---- mark

pub units_fit : (z : ℤ) → SFits w32 z → SFits w64 (z *ℤ pos 65536)
units_fit z f =
    let b : nat_abs z ≤ 2 ^ 31 = nat_abs-le z f.sfits in
    let l : 65536 ≤ 65536 = lit≤ tt in
    fits_64 (omega (arith, magnitude_product_le z (pos 65536) b l))

-- both ends, as code asks after them
module _ (z low high : ℤ) where
  pub outside_below : lt_z z (low *ℤ pos 65536) ≡ true → true ≡ outside z low high
  unfolding outside
  outside_below e = rw e

  pub outside_above : lt_z z (low *ℤ pos 65536) ≡ false → lt_z (high *ℤ pos 65536) z ≡ outside z low high
  unfolding outside
  outside_above e = rw e

pub byte_small : (b : Bool) {n : ℕ} → n ≡ bool_byte b → n ≤ 1
byte_small true e = omega (arith, e)
byte_small false e = omega (arith, e)

-- the mark by its two tests
module _ (identity : Identity) (pressure temperature : ℤ) where
  pub mark_is : (p t : Bool) {m n : ℕ} → t ≡ outside temperature identity.tmin identity.tmax → p ≡ outside pressure identity.pmin identity.pmax
      → m ≡ bool_byte t → n ≡ bool_byte p → m + 2 * n ≡ mark_of identity pressure temperature
  unfolding mark_of
  mark_is p t e f g h = rw (g, h, ← e, ← f) (worth t p)
    where
      worth : (t p : Bool) → bool_byte t + 2 * bool_byte p ≡ cond t 1 0 + cond p 2 0
      worth true true = refl
      worth true false = refl
      worth false true = refl
      worth false false = refl

-- ---- trim

module _ (span : ℕ) (pressure : ℤ) (hs : span ≤ 4294967295) (hp : nat_abs pressure ≤ 2 ^ 31) where
  product_small : nat_abs (pos span *ℤ pressure) ≤ 4294967295 * 2 ^ 31
  product_small = magnitude_product_le (pos span) pressure hs hp

  pub trim_product_fits : SFits w64 (pos span *ℤ pressure)
  trim_product_fits = fits_64 (omega (arith, product_small))

  pub trim_sum_fits : (zero : ℤ) → nat_abs zero ≤ 2 ^ 40 → SFits w64 (zero +ℤ rounded (pos span *ℤ pressure) (2 ^ 28))
  trim_sum_fits zero h =
      let b : nat_abs (pos span *ℤ pressure) ≤ 2 ^ 35 * 2 ^ 28 = omega (arith, product_small) in
      fits_64 (omega (arith, rounded_high (2 ^ 28) (lit< tt) (pos span *ℤ pressure) (2 ^ 35) b, magnitude_sum zero (rounded (pos span *ℤ pressure) (2 ^ 28))))

-- a check that refuses
unasked : (holds : Bool) (number detail : ℕ) {r : Refusal} → ask holds number detail ≡ Err r → (holds ≡ false) × (r ≡ refusal number detail)
unasked true number detail e = never_both e refl
unasked false number detail e = (refl, sym (cc e))

-- a zero that the code's check passes
pub zero_near : (zero : ℤ) {v : Verdict} → v ≡ ask (leb (nat_abs zero) (2 ^ 40)) 15 0 → v ≡ Ok tt → nat_abs zero ≤ 2 ^ 40
zero_near zero is e = leb-true (nat_abs zero) (2 ^ 40) (asked (leb (nat_abs zero) (2 ^ 40)) 15 0 (sym is ∙ e))

-- what is shown, by whether there is a trim, and by the code's check of its zero
module _ (trim : Trimming) (pressure temperature : ℤ) (mark : ℕ) where
  pub untrimmed_shown : trim ≡ None → Ok (record { pressure = pressure; temperature = temperature; unit = 1; mark = mark }) ≡ shown_by trim pressure temperature mark
  unfolding shown_by
  untrimmed_shown e = rw e

  module _ {some : Trim} (e : trim ≡ Some some) {v : Verdict} (is : v ≡ ask (leb (nat_abs some.zero) (2 ^ 40)) 15 0) where
    pub zero_refused : {r : Refusal} → v ≡ Err r → Err r ≡ shown_by trim pressure temperature mark
    unfolding shown_by
    zero_refused f = let u = unasked (leb (nat_abs some.zero) (2 ^ 40)) 15 0 (sym is ∙ f) in rw (e, u.0, u.1)

    pub trimmed_shown : v ≡ Ok tt
        → Ok (record { pressure = trimmed_by some pressure; temperature = temperature; unit = some.unit; mark = mark }) ≡ shown_by trim pressure temperature mark
    unfolding shown_by
    trimmed_shown f = rw (e, asked (leb (nat_abs some.zero) (2 ^ 40)) 15 0 (sym is ∙ f))
