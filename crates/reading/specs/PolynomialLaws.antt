-- Laws of the running sums: one step, a nested sum from a place on, and a row of zeros.
use Rattle.std.specs.Prelude.{◌≡◌, refl, Bool, true, List, [], ◌∷◌, reverse, pos, ◌+ℤ◌, ◌*ℤ◌, drop, get_or, replicate, Err, Ok}
use Rattle.std.proofs.Math.Path.{sym}
use Rattle.std.proofs.Common.{ap, ◌∙◌, lit<, drop_of_length-le, drop-cons, SFits, to_z, of_z, to_z-of_z}
use Rattle.std.specs.Ordering.{int_eq}
use Rattle.std.specs.List.{list_all}
use Rattle.std.proofs.lemmas.Bool.Decides.{Decides-int_eq}
use Rattle.laws.specs.Cases.{both_left, both_right}
use Rattle.std.proofs.lemmas.List.{get_or-reverse, length-reverse}
use Prim.Native.Nat.{ℕ, zero, suc, ◌+◌, ◌-◌, ◌*◌, ◌^◌, ◌≤◌, ◌<◌}
use native.Mathlib.Omega.{arith}
use Rattle.std.proofs.Math.IntN.{ℤ, nat_abs, zero-*ℤ}
use Rattle.std.proofs.Math.ListN.{length}
use Rattle.std.specs.Int.{w64}
use Rattle.limits.specs.Limits.{largest_x, largest_sum}
use Rattle.laws.specs.Magnitude.{magnitude_product_le}
use Rattle.laws.specs.SignedBits.{fits_64}
use Rattle.whole.specs.Rounded.{rounded}
use Rattle.whole.specs.RoundedLaws.{rounded_high, rounded_nothing}
use Rattle.whole.specs.Wrapped.{wrapped}
use Rattle.whole.specs.WrappedLaws.{wrapped_or_far}
use Rattle.refusals.specs.declared.Refusal.{Refusal}
use Rattle.reading.specs.Answers.{Value}
use Rattle.reading.specs.Value.{with_value, within}
use Rattle.reading.specs.ValueLaws.{within_beyond, within_says}
use Rattle.reading.specs.Polynomial.{nested_sum, step_of, row_sum, row_step}

-- ---- one step, at a running sum and an x within their limits

module _ (sum x : ℤ) (hs : nat_abs sum ≤ largest_sum) (hx : nat_abs x ≤ largest_x) where
  product_small : nat_abs (sum *ℤ x) ≤ largest_sum * 2 ^ 24
  product_small = magnitude_product_le sum x hs hx

  pub step_product_fits : SFits w64 (sum *ℤ x)
  step_product_fits = fits_64 (omega (arith, product_small))

  turn_small : nat_abs (rounded (sum *ℤ x) (2 ^ 24)) ≤ largest_sum
  turn_small = rounded_high (2 ^ 24) (lit< tt) (sum *ℤ x) largest_sum product_small

  -- where the sum does not fit, it and what is left of it are beyond the limit
  pub step_wrapped : (kind : ℕ) (c : ℤ) → SFits w64 c → within largest_sum 25 kind (wrapped (c +ℤ rounded (sum *ℤ x) (2 ^ 24))) ≡ step_of kind x c sum
  unfolding step_of
  step_wrapped kind c f =
      let turn : ℤ = rounded (sum *ℤ x) (2 ^ 24) in
      wrapped_or_far c turn f (omega (arith, turn_small))
      (λ (e : wrapped (c +ℤ turn) ≡ c +ℤ turn). rw e)
      (λ (far : 2 ^ 62 ≤ nat_abs (c +ℤ turn)) (left : 2 ^ 62 ≤ nat_abs (wrapped (c +ℤ turn))).
      sym (within_beyond largest_sum 25 kind (wrapped (c +ℤ turn)) (omega arith)) ∙ within_beyond largest_sum 25 kind (c +ℤ turn) (omega arith))

pub step_bound : (kind : ℕ) (x c sum next : ℤ) → step_of kind x c sum ≡ Ok next → nat_abs next ≤ largest_sum
unfolding step_of
step_bound kind x c sum next e = (within_says largest_sum 25 kind (c +ℤ rounded (sum *ℤ x) (2 ^ 24)) next e).1

pub row_step_bound : (kind : ℕ) (xp xt : ℤ) (row : List ℤ) (sum next : ℤ) → row_step kind xp xt row sum ≡ Ok next → nat_abs next ≤ largest_sum
unfolding row_step
row_step_bound kind xp xt row sum next e = by (row_sum kind xt row) e
  where
    by : (v : Value) → with_value v (λ c. step_of kind xp c sum) ≡ Ok next → nat_abs next ≤ largest_sum
    by (Ok c) q = step_bound kind xp c sum next q
    by (Err r) q = let n : ◌≡◌ {A = ℕ} 0 1 = cc in absurd (omega arith)

-- ---- a nested sum, as both loops keep it: they take the terms from the last on

-- the sum of the last n terms
pub record SumOfLast {Term : Type 0} (step : Term → ℤ → Value) (terms : List Term) (n : ℕ) (sum : ℤ) : Type 0 where
  pub is : nested_sum step (drop (length terms - n) terms) ≡ Ok sum
  pub small : nat_abs sum ≤ largest_sum

-- a refusal among the last terms is the sum's
sum_stops : {Term : Type 0} (step : Term → ℤ → Value) (terms : List Term) (i : ℕ) (r : Refusal) → nested_sum step (drop i terms) ≡ Err r
    → nested_sum step terms ≡ Err r
unfolding nested_sum
sum_stops step terms zero r e = e
sum_stops step [] (suc i) r e = e
sum_stops step (term ∷ terms) (suc i) r e = rw (sum_stops step terms i r e)

module _ {Term : Type 0} (step : Term → ℤ → Value) (terms : List Term) where
  pub sum_of_none : SumOfLast step terms 0 (pos 0)
  unfolding nested_sum
  sum_of_none =
      let past : length terms ≤ length terms - 0 = omega arith in
      record { is = rw (drop_of_length-le terms past); small = omega arith }

  pub sum_of_all : (n : ℕ) (sum : ℤ) → SumOfLast step terms n sum → n ≡ length (reverse terms) → Ok sum ≡ nested_sum step terms
  sum_of_all n sum k e = let none : length terms - n ≡ 0 = omega (arith, length-reverse terms) in sym (rw none at k.is)

  -- one term more, whose place is counted from the last on
  module _ {term : Term} (n : ℕ) (sum : ℤ) (k : SumOfLast step terms n sum) (turn : (n < length (reverse terms)) × (term ≡ get_or (reverse terms) n term))
      {v : Value} (next : v ≡ step term sum) where
    earlier : nested_sum step (drop (length terms - (n + 1)) terms) ≡ v
    unfolding nested_sum
    earlier =
        let there : n < length terms = omega (arith, turn.0, length-reverse terms) in
        let after : length terms - n ≡ suc (length terms - (n + 1)) = omega arith in
        let place : length terms - 1 - n ≡ length terms - (n + 1) = omega arith in
        let rest : nested_sum step (drop (suc (length terms - (n + 1))) terms) ≡ Ok sum = rw after at k.is in
        let at : term ≡ get_or terms (length terms - (n + 1)) term = rw place at (turn.1 ∙ get_or-reverse terms n term there) in
        rw (drop-cons terms (length terms - (n + 1)) term (omega arith), rest, ← at) (sym next)

    pub sum_of_more : (z : ℤ) → v ≡ Ok z → nat_abs z ≤ largest_sum → SumOfLast step terms (n + 1) z
    sum_of_more z e small = record { is = earlier ∙ e; small = small }

    pub sum_refused : (r : Refusal) → v ≡ Err r → Err r ≡ nested_sum step terms
    sum_refused r e = sym (sum_stops step terms (length terms - (n + 1)) r (earlier ∙ e))

-- ---- a row of zeros under no sum adds nothing

pub nothing_turned : (x : ℤ) → rounded (pos 0 *ℤ x) (2 ^ 24) ≡ pos 0
nothing_turned x = rw (zero-*ℤ x) (rounded_nothing (2 ^ 24) (lit< tt))

step_of_nothing : (kind : ℕ) (x : ℤ) → step_of kind x (pos 0) (pos 0) ≡ Ok (pos 0)
unfolding step_of within
step_of_nothing kind x = rw (nothing_turned x)

row_of_zeros : (kind : ℕ) (x : ℤ) (n : ℕ) → row_sum kind x (replicate n (pos 0)) ≡ Ok (pos 0)
unfolding nested_sum
row_of_zeros kind x zero = refl
row_of_zeros kind x (suc n) = rw (row_of_zeros kind x n) (step_of_nothing kind x)

-- 0 is known by its bits
no_bits : (z : ℤ) → SFits w64 z → of_z w64 z ≡ 0 → z ≡ pos 0
no_bits z f e = sym (to_z-of_z f) ∙ ap (to_z w64) e

-- a row that passes the code's test holds zeros
zeros_of : (row : List ℤ) → list_all (λ z. int_eq z (pos 0)) row ≡ true → row ≡ replicate (length row) (pos 0)
zeros_of [] e = refl
zeros_of (z ∷ row) e =
    let first = both_left (int_eq z (pos 0)) (list_all (λ z. int_eq z (pos 0)) row) e in
    let rest = both_right (int_eq z (pos 0)) (list_all (λ z. int_eq z (pos 0)) row) e in
    rw ((Decides-int_eq z (pos 0)).0 first) (ap (λ (l : List ℤ). pos 0 ∷ l) (zeros_of row rest))

pub row_adds_nothing : (kind : ℕ) (xp xt : ℤ) (row : List ℤ) (sum : ℤ) (b : Bool) → b ≡ list_all (λ z. int_eq z (pos 0)) row → b ≡ true
    → of_z w64 sum ≡ 0 → SFits w64 sum → Ok (pos 0) ≡ row_step kind xp xt row sum
unfolding row_step
row_adds_nothing kind xp xt row sum b is h e f =
    rw (zeros_of row (sym is ∙ h), no_bits sum f e, row_of_zeros kind xt (length row)) (sym (step_of_nothing kind xp))
