-- Laws of `rounded`: callers cite `rounded_nearest` and what follows from it, and never unfold the definition.
use Rattle.std.specs.Prelude.{◌≡◌, refl, ℕ, suc, ◌+◌, ◌-◌, ◌*◌, ◌/◌, ◌%◌, ◌≤◌, ◌<◌, negsuc, neg_ℤ, nat_abs, ◌+ℤ◌, ◌-ℤ◌, ◌*ℤ◌, ◌≤ℤ◌}
use Rattle.std.proofs.Math.Path.{sym, ap}
use Rattle.std.proofs.Common.{◌∙◌, div-mul-le_self, mod-lt, mul-le-mul_left, mul-le-mul_right, suc-mul, Fits}
use Rattle.std.proofs.Math.Nat.{div-zero, div-eq_of_lt, div-eq-sub-div, add-div_right, div-div-eq-div-mul, lt-div-mul-add, div-add-mod', mul-add-div_right, mul_left_comm}
use native.Mathlib.Omega.{arith}
use Rattle.std.proofs.Math.IntN.{ℤ, pos, *ℤ_comm}
use Rattle.std.specs.Int.Signed.{shr_z}
use Rattle.std.specs.Int.{w64}
use Rattle.laws.specs.Cases.{split, positive}
use Rattle.laws.specs.Magnitude.{magnitude_product, magnitude_sum_low, magnitude_difference_low, magnitude_negated}
use Rattle.laws.specs.Products.{distributive_left, associative, product_negated}
use Rattle.laws.specs.Linear.{over, under, sum_parts, negated_over, negated_under, product_over, product_under, order_of_parts, parts_of_order, same_parts, distance}
use Rattle.whole.specs.Rounded.{floor_div, rounded}

-- ---- floor_div z m is the greatest q with q × m ≤ z

module _ (m : ℕ) (p : 0 < m) where
  pub floor_low : (z : ℤ) → (floor_div z m *ℤ pos m) ≤ℤ z
  floor_low (pos a) = order_of_parts (pos (a / m) *ℤ pos m) (pos a) (omega (arith, div-mul-le_self a m))
  floor_low (negsuc a) =
      order_of_parts (negsuc (a / m) *ℤ pos m) (negsuc a)
      (omega (arith, product_over (negsuc (a / m)) m, product_under (negsuc (a / m)) m, lt-div-mul-add {a = a} p))

  pub floor_high : (z : ℤ) → (z +ℤ pos 1) ≤ℤ (floor_div z m *ℤ pos m +ℤ pos m)
  floor_high z = order_of_parts (z +ℤ pos 1) (floor_div z m *ℤ pos m +ℤ pos m) (go z)
    where
      go : (y : ℤ) → over (y +ℤ pos 1) + under (floor_div y m *ℤ pos m +ℤ pos m) ≤ over (floor_div y m *ℤ pos m +ℤ pos m) + under (y +ℤ pos 1)
      go (pos a) = omega (arith, lt-div-mul-add {a = a} p)
      go (negsuc a) =
          let q : ℤ = negsuc (a / m) in
          omega (arith, sum_parts (negsuc a) (pos 1), sum_parts (q *ℤ pos m) (pos m), product_over q m, product_under q m, div-mul-le_self a m)

-- ---- nearest

module _ (d : ℕ) (p : 0 < d) (n : ℤ) where
  r : ℤ
  r = rounded n d

  -- the same over the denominator 2 d
  in_halves : nat_abs (r *ℤ pos (2 * d) -ℤ pos 2 *ℤ n) ≤ d
  unfolding rounded r
  in_halves =
      let q : 0 < 2 * d = omega arith in
      let y : ℤ = pos 2 *ℤ n +ℤ pos d in
      let low = parts_of_order _ _ (floor_low (2 * d) q y) in
      let high = parts_of_order _ _ (floor_high (2 * d) q y) in
      let f : ℤ = floor_div y (2 * d) *ℤ pos (2 * d) in
      distance f (pos 2 *ℤ n) d
      (omega (arith, low, sum_parts (pos 2 *ℤ n) (pos d)))
      (omega (arith, high, sum_parts (pos 2 *ℤ n) (pos d), sum_parts y (pos 1), sum_parts f (pos (2 * d))))

  -- twice the distance from r × d to n is at most d: no whole number is nearer to n / d
  pub rounded_nearest : nat_abs (pos 2 *ℤ (rounded n d *ℤ pos d -ℤ n)) ≤ d
  unfolding r
  rounded_nearest = rw same in_halves
    where
      twice : pos 2 *ℤ (r *ℤ pos d) ≡ r *ℤ pos (2 * d)
      twice = sym (associative (pos 2) r (pos d)) ∙ ap (λ (z : ℤ). z *ℤ pos d) (*ℤ_comm (pos 2) r) ∙ associative r (pos 2) (pos d)

      minus : pos 2 *ℤ neg_ℤ n ≡ neg_ℤ (pos 2 *ℤ n)
      minus = *ℤ_comm (pos 2) (neg_ℤ n) ∙ product_negated n (pos 2) ∙ ap neg_ℤ (*ℤ_comm n (pos 2))

      same : pos 2 *ℤ (r *ℤ pos d -ℤ n) ≡ r *ℤ pos (2 * d) -ℤ pos 2 *ℤ n
      same = distributive_left (pos 2) (r *ℤ pos d) (neg_ℤ n) ∙ rw (twice, minus)

  twice_distance : 2 * nat_abs (rounded n d *ℤ pos d -ℤ n) ≤ d
  twice_distance = rw (magnitude_product (pos 2) (rounded n d *ℤ pos d -ℤ n)) at rounded_nearest

  -- no farther from zero than a whole bound of the quotient
  pub rounded_high : (bound : ℕ) → nat_abs n ≤ bound * d → nat_abs (rounded n d) ≤ bound
  rounded_high bound h =
      let near = twice_distance in
      let product = magnitude_product (rounded n d) (pos d) in
      let apart = magnitude_sum_low (rounded n d *ℤ pos d) (neg_ℤ n) in
      let negated = magnitude_negated n in
      split (nat_abs (rounded n d)) bound (λ k. k)
      (λ (k : bound < nat_abs (rounded n d)). absurd (omega (arith, mul-le-mul_right d k, suc-mul bound d)))

  -- and no nearer than the quotient's whole part
  pub rounded_low : nat_abs n / d ≤ nat_abs (rounded n d)
  rounded_low =
      let near = twice_distance in
      let product = magnitude_product (rounded n d) (pos d) in
      let apart = magnitude_difference_low (rounded n d *ℤ pos d) n in
      let whole = div-mul-le_self (nat_abs n) d in
      split (nat_abs n / d) (nat_abs (rounded n d)) (λ k. k)
      (λ (k : nat_abs (rounded n d) < nat_abs n / d). absurd (omega (arith, mul-le-mul_right d k, suc-mul (nat_abs (rounded n d)) d)))

pub rounded_nothing : (d : ℕ) → 0 < d → rounded (pos 0) d ≡ pos 0
rounded_nothing d p = none (rounded (pos 0) d) (rounded_high d p (pos 0) 0 (omega arith))
  where
    none : (z : ℤ) → nat_abs z ≤ 0 → z ≡ pos 0
    none (pos a) h = ap pos (omega arith)
    none (negsuc a) h = absurd (omega arith)

-- ---- how the code comes to it: naturals by the remainder

module _ (n d : ℕ) where
  quotient_is : 0 < d → rounded (pos n) d ≡ pos (n / d + (2 * (n % d) + d) / (2 * d))
  unfolding rounded
  quotient_is p =
      let q : 0 < 2 * d = omega arith in
      let twice : n / d * (2 * d) ≡ 2 * (n / d * d) = mul_left_comm (n / d) 2 d in
      let e : 2 * n + d ≡ n / d * (2 * d) + (2 * (n % d) + d) = omega (arith, div-add-mod' n d) in
      rw (e, mul-add-div_right q (n / d) (2 * (n % d) + d))

  pub rounded_of_zero : d ≡ 0 → pos 0 ≡ rounded (pos n) d
  unfolding rounded
  rounded_of_zero e = let z : 2 * d ≡ 0 = omega arith in rw (z, div-zero (2 * n + d))

  pub rounded_up : (d ≡ 0 → ⊥) → d - d / 2 ≤ n % d → pos (n / d + 1) ≡ rounded (pos n) d
  rounded_up z h =
      let p : 0 < d = positive z in
      let l = mod-lt n p in
      let q : 0 < 2 * d = omega arith in
      let m : 2 * d ≤ 2 * (n % d) + d = omega arith in
      let s : 2 * (n % d) + d - 2 * d < 2 * d = omega arith in
      sym (quotient_is p ∙ rw (div-eq-sub-div q m, div-eq_of_lt s))

  pub rounded_down : (d ≡ 0 → ⊥) → n % d < d - d / 2 → pos (n / d) ≡ rounded (pos n) d
  rounded_down z h =
      let p : 0 < d = positive z in
      let s : 2 * (n % d) + d < 2 * d = omega arith in
      sym (quotient_is p ∙ rw (div-eq_of_lt s) (ap pos (omega arith)))

  -- a quotient with a remainder has a denominator of 2 or more, so there is room for one more
  pub one_more_fits : Fits w64 n → 0 < n % d → Fits w64 (n / d + 1)
  one_more_fits f h = split d 0 none (λ (p : 0 < d). some p)
    where
      none : d ≤ 0 → Fits w64 (n / d + 1)
      none k = let e : d ≡ 0 = omega arith in rw (e, div-zero n) (record { fits = omega arith })

      some : 0 < d → Fits w64 (n / d + 1)
      some p =
          let two : 2 ≤ d = omega (arith, mod-lt n p) in
          record { fits = omega (arith, f.fits, div-mul-le_self n d, mul-le-mul_left (n / d) two) }

-- ---- and whole numbers by a shift: where the denominator is twice h

twice_floored : (z : ℤ) (d : ℕ) → floor_div (pos 2 *ℤ z) (2 * d) ≡ floor_div z d
twice_floored (pos a) d = let e : 2 * a / 2 ≡ a = omega arith in rw (← div-div-eq-div-mul (2 * a) 2 d, e)
twice_floored (negsuc a) d =
    let two : 2 * suc a ≡ suc (2 * a + 1) = omega arith in
    let e : (2 * a + 1) / 2 ≡ a = omega arith in
    rw (two, ← div-div-eq-div-mul (2 * a + 1) 2 d, e)

module _ (n : ℤ) (h d : ℕ) (t : h + h ≡ d) where
  pub rounded_by_more : shr_z (n +ℤ pos h) d ≡ rounded n d
  unfolding rounded
  rounded_by_more =
      let e : pos 2 *ℤ n +ℤ pos d ≡ pos 2 *ℤ (n +ℤ pos h) = rw (distributive_left (pos 2) n (pos h)) (ap (λ (k : ℕ). pos 2 *ℤ n +ℤ pos k) (omega arith)) in
      rw (e, twice_floored (n +ℤ pos h) d)

  -- where n + h is too large a number, n - h is not
  pub rounded_by_less : 0 < h → h + under n ≤ over n → shr_z (n -ℤ pos h) d +ℤ pos 1 ≡ rounded n d
  rounded_by_less p k =
      let a : ℕ = over n - (h + under n) in
      let low : n -ℤ pos h ≡ pos a = same_parts (n -ℤ pos h) (pos a) (omega (arith, sum_parts n (neg_ℤ (pos h)), negated_over (pos h), negated_under (pos h))) in
      let high : n +ℤ pos h ≡ pos (a + d) = same_parts (n +ℤ pos h) (pos (a + d)) (omega (arith, sum_parts n (pos h))) in
      let q : 0 < d = omega arith in
      rw low (ap pos (sym (add-div_right a q)) ∙ sym (ap (λ (z : ℤ). shr_z z d) high) ∙ rounded_by_more)

-- over 1, and over so much that nothing is left
pub rounded_over_one : (n : ℤ) → rounded n 1 ≡ n
unfolding rounded
rounded_over_one (pos a) = let e : (2 * a + 1) / 2 ≡ a = omega arith in ap pos e
rounded_over_one (negsuc a) =
    let two : 2 * suc a ≡ suc (2 * a + 1) = omega arith in
    let e : 2 * a / 2 ≡ a = omega arith in
    let f : negsuc (2 * a + 1) +ℤ pos 1 ≡ negsuc (2 * a) = same_parts (negsuc (2 * a + 1) +ℤ pos 1) (negsuc (2 * a)) (omega (arith, sum_parts (negsuc (2 * a + 1)) (pos 1))) in
    rw (two, f, e) refl

pub rounded_over_more : (n : ℤ) (d : ℕ) → 2 * over n < d → 2 * under n ≤ d → rounded n d ≡ pos 0
unfolding rounded
rounded_over_more (pos a) d h k = let e : 2 * a + d < 2 * d = omega arith in rw (div-eq_of_lt e) refl
rounded_over_more (negsuc a) d h k =
    let two : 2 * suc a ≡ suc (2 * a + 1) = omega arith in
    let left : ℕ = d - (2 * a + 2) in
    let f : negsuc (2 * a + 1) +ℤ pos d ≡ pos left = same_parts (negsuc (2 * a + 1) +ℤ pos d) (pos left) (omega (arith, sum_parts (negsuc (2 * a + 1)) (pos d))) in
    let e : left < 2 * d = omega arith in
    rw (two, f, div-eq_of_lt e) refl
