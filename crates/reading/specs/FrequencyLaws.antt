-- A law for each return of `frequency` and of `prescaled`.
use Rattle.std.specs.Prelude.{◌≡◌, true, false, ◌&&◌, ◌⊎◌, ℕ, ◌-◌, ◌*◌, ◌/◌, ◌^◌, ◌≤◌, ◌<◌, leb, eqb, ℤ, pos, negsuc, nat_abs, ◌-ℤ◌, ◌*ℤ◌, Err, Ok}
use Rattle.std.proofs.Common.{sym, ap, ◌∙◌, inl, inr, div-lt_iff_lt-mul, le-div_iff_mul-le, mul-le-mul, mul-le-mul_right, lit<, SFits, leb-true, eqb-true, to_z, arith}
use borrow.Author.Tests.{eq-eqb, ne_eqb}
use Rattle.std.proofs.Math.Nat.{min-eq_left, min-eq_right}
use Rattle.std.proofs.Math.IntN.{zero-*ℤ}
use Rattle.std.specs.Int.{w64, saturate_signed}
use Rattle.std.specs.Int.Signed.{le_z}
use Rattle.std.proofs.Math.Facts.{to_z_pos}
use Rattle.limits.specs.Limits.{highest_frequency, largest_x}
use Rattle.laws.specs.Cases.{decide, never, positive, both_right, split}
use Rattle.laws.specs.Magnitude.{magnitude_product}
use Rattle.laws.specs.SignedBits.{fits_64}
use Rattle.whole.specs.Rounded.{rounded}
use Rattle.whole.specs.RoundedLaws.{rounded_low}
use Rattle.refusals.specs.declared.Refusal.{Refusal}
use Rattle.refusals.specs.Answers.{Verdict}
use Rattle.refusals.specs.Refusals.{ask}
use Rattle.refusals.specs.VerdictLaws.{asked}
use Rattle.sets.specs.declared.Prescale.{Prescale}
use Rattle.reading.specs.Value.{within}
use Rattle.reading.specs.ValueLaws.{check_refused, check_passed, within_beyond, within_says}
use Rattle.reading.specs.Frequency.{hertz, frequency_of, scaled_of, prescaled_of}

-- ---- a frequency

-- the code's check of sensor cycles
module _ (channel ns nr : ℕ) {cycles : Verdict} (first : cycles ≡ ask (leb 1 ns && leb ns 1048576) 21 channel) where
  pub few_cycles : cycles ≡ Ok tt → ns ≤ 1048576
  few_cycles e = leb-true ns 1048576 (both_right (leb 1 ns) (leb ns 1048576) (asked (leb 1 ns && leb ns 1048576) 21 channel (sym first ∙ e)))

  pub cycles_refused : {r : Refusal} → cycles ≡ Err r → Err r ≡ frequency_of channel ns nr
  unfolding frequency_of
  cycles_refused e = check_refused first _ e

  -- then of reference cycles
  module _ (c : cycles ≡ Ok tt) {reference : Verdict} (second : reference ≡ ask (leb 1 nr) 22 channel) where
    pub reference_refused : {r : Refusal} → reference ≡ Err r → Err r ≡ frequency_of channel ns nr
    unfolding frequency_of
    reference_refused e = check_passed first _ c (check_refused second _ e)

    -- then of the frequency q
    module _ (d : reference ≡ Ok tt) (q : ℕ) (is : pos q ≡ rounded (pos (471859200000 * ns)) nr) {v : Verdict}
        (third : v ≡ ask (leb 655360000 q && leb q highest_frequency) 23 channel) where
      third_asked : v ≡ ask (le_z (pos 655360000) (hertz ns nr) && le_z (hertz ns nr) (pos highest_frequency)) 23 channel
      unfolding hertz
      third_asked = rw (← is) third

      pub frequency_refused : {r : Refusal} → v ≡ Err r → Err r ≡ frequency_of channel ns nr
      unfolding frequency_of
      frequency_refused e = check_passed first _ c (check_passed second _ d (check_refused third_asked _ e))

      pub not_too_high : v ≡ Ok tt → q ≤ highest_frequency
      not_too_high e =
          leb-true q highest_frequency
          (both_right (leb 655360000 q) (leb q highest_frequency) (asked (leb 655360000 q && leb q highest_frequency) 23 channel (sym third ∙ e)))

      pub counted : v ≡ Ok tt → Ok (to_z w64 q) ≡ frequency_of channel ns nr
      unfolding frequency_of hertz
      counted e =
          let small : q < 2 ^ 63 = omega (arith, not_too_high e) in
          check_passed first _ c (check_passed second _ d (check_passed third_asked _ e (ap Ok (to_z_pos w64 small ∙ is))))

-- ---- X

-- the nearest number that has room in 64 bits: it is the number, or both are far from 0
abbrev pub SameOrFar : (y z : ℤ) → Type 0
SameOrFar y z = (y ≡ z) ⊎ ((2 ^ 62 ≤ nat_abs y) × (2 ^ 62 ≤ nat_abs z))

nearest : (z : ℤ) → SameOrFar (saturate_signed w64 z) z
nearest (pos n) =
    split n (2 ^ 63 - 1)
    (λ (h : n ≤ 2 ^ 63 - 1). inl (rw (min-eq_left h)))
    (λ (h : 2 ^ 63 - 1 < n). let l : 2 ^ 63 - 1 ≤ n = omega arith in inr (rw (min-eq_right l) (omega arith), omega arith))
nearest (negsuc n) =
    split n (2 ^ 63 - 1)
    (λ (h : n ≤ 2 ^ 63 - 1). inl (rw (min-eq_left h)))
    (λ (h : 2 ^ 63 - 1 < n). let l : 2 ^ 63 - 1 ≤ n = omega arith in inr (rw (min-eq_right l) (omega arith), omega arith))

-- the product of a multiplier and a difference, where it is small, and where it is far from 0
module _ (multiplier : ℕ) (difference : ℤ) where
  pub near_fits : multiplier ≤ 2 ^ 30 → nat_abs difference < 2 ^ 33 → SFits w64 (pos multiplier *ℤ difference)
  near_fits h k =
      let l : nat_abs difference ≤ 2 ^ 33 - 1 = omega arith in
      fits_64 (omega (arith, magnitude_product (pos multiplier) difference, mul-le-mul h l))

  pub no_product : multiplier ≡ 0 → SameOrFar (pos 0) (pos multiplier *ℤ difference)
  no_product e = inl (rw (e, zero-*ℤ difference))

  module _ (some : multiplier ≡ 0 → ⊥) where
    pub far_product : 2 ^ 62 / multiplier < nat_abs difference → SameOrFar (pos (2 ^ 63 - 1)) (pos multiplier *ℤ difference)
    far_product h =
        let large = (div-lt_iff_lt-mul {k = multiplier} {x = 2 ^ 62} {y = nat_abs difference} (positive some)).0 h in
        inr (omega arith, omega (arith, magnitude_product (pos multiplier) difference, large))

    pub product_fits : nat_abs difference ≤ 2 ^ 62 / multiplier → SFits w64 (pos multiplier *ℤ difference)
    product_fits h =
        let small = (le-div_iff_mul-le {k = multiplier} {x = nat_abs difference} {y = 2 ^ 62} (positive some)).0 h in
        fits_64 (omega (arith, magnitude_product (pos multiplier) difference, small))

-- their products with one multiplier are the same too, or both far from 0
products : (m : ℕ) (y z : ℤ) → SameOrFar y z → SameOrFar (pos m *ℤ y) (pos m *ℤ z)
products m y z (inl e) = inl (ap (λ (x : ℤ). pos m *ℤ x) e)
products m y z (inr (far, further)) =
    decide (eqb m 0)
    (λ (none : eqb m 0 ≡ true). let e : m ≡ 0 = eqb-true m 0 none in inl (rw (e, zero-*ℤ y, zero-*ℤ z)))
    (λ (some : eqb m 0 ≡ false).
    let l : 1 ≤ m = positive (λ (e : m ≡ 0). never (sym some ∙ eq-eqb m 0 e)) in
    inr
    (omega (arith, magnitude_product (pos m) y, mul-le-mul_right (nat_abs y) l), omega (arith, magnitude_product (pos m) z, mul-le-mul_right (nat_abs z) l)))

-- and so X is the same
x_of_product : (detail : ℕ) (y z : ℤ) → SameOrFar y z
    → within largest_x 24 detail (rounded y (2 ^ 32)) ≡ within largest_x 24 detail (rounded z (2 ^ 32))
x_of_product detail y z (inl e) = rw e
x_of_product detail y z (inr (far, further)) =
    let a = rounded_low (2 ^ 32) (lit< tt) y in
    let b = rounded_low (2 ^ 32) (lit< tt) z in
    sym (within_beyond largest_x 24 detail (rounded y (2 ^ 32)) (omega arith)) ∙ within_beyond largest_x 24 detail (rounded z (2 ^ 32)) (omega arith)

module _ (detail : ℕ) (p : Prescale) (f : ℤ) where
  pub order_zero : p.order ≡ 0 → Ok (pos 0) ≡ prescaled_of detail p f
  unfolding prescaled_of
  order_zero e = rw (eq-eqb p.order 0 e)

  pub order_used : (p.order ≡ 0 → ⊥)
      → (product : ℤ) → SameOrFar product (pos p.multiplier *ℤ saturate_signed w64 (f -ℤ pos p.offset))
      → within largest_x 24 detail (rounded product (2 ^ 32)) ≡ prescaled_of detail p f
  unfolding prescaled_of scaled_of
  order_used used product is =
      let difference = f -ℤ pos p.offset in
      let near = saturate_signed w64 difference in
      rw (ne_eqb p.order 0 used)
      (x_of_product detail product (pos p.multiplier *ℤ near) is
      ∙ x_of_product detail (pos p.multiplier *ℤ near) (pos p.multiplier *ℤ difference) (products p.multiplier near difference (nearest difference)))

-- an X that is known is within its limit
pub prescaled_bound : (detail : ℕ) (p : Prescale) (f x : ℤ) → prescaled_of detail p f ≡ Ok x → nat_abs x ≤ 2 ^ 24
unfolding prescaled_of scaled_of
prescaled_bound detail p f x e =
    decide (eqb p.order 0)
    (λ (q : eqb p.order 0 ≡ true). let same : pos 0 ≡ x = cc (rw q at e) in rw (← same) (omega arith))
    (λ (q : eqb p.order 0 ≡ false).
    (within_says (2 ^ 24) 24 detail (rounded (pos p.multiplier *ℤ (f -ℤ pos p.offset)) (2 ^ 32)) x (rw q at e)).1)
