-- Laws of `wrapped`: by the size of the number, and how the code comes to it.
use Rattle.std.specs.Prelude.{◌≡◌, refl, ◌+◌, ◌-◌, ◌^◌, ◌≤◌, ◌<◌, nat_abs, ◌+ℤ◌, ◌-ℤ◌}
use Rattle.std.proofs.Math.Path.{sym, ap}
use Rattle.std.proofs.Common.{◌∙◌, arith, SFits}
use Rattle.std.proofs.Math.IntN.{ℤ, pos, neg_ℤ}
use Rattle.std.specs.Int.{w64, int_wrap, int_wrapping_add}
use Rattle.std.proofs.lemmas.Int.{wrapping_add_is, int_wrap_fits, int_wrap-add_same}
use Rattle.laws.specs.Cases.{split}
use Rattle.laws.specs.Linear.{over, under, magnitude_parts, sum_parts, less_of_parts, not_less_of_parts, same_parts}
use Rattle.laws.specs.SignedBits.{parts_that_fit, sum_fits_64}
use Rattle.whole.specs.Wrapped.{wrapped}

pub wrapped_above : (z : ℤ) → under z + 2 ^ 63 ≤ over z → wrapped z ≡ z -ℤ pos (2 ^ 64)
unfolding wrapped
wrapped_above z h = rw (less_of_parts (pos (2 ^ 63 - 1)) z (omega arith))

pub wrapped_below : (z : ℤ) → over z + 2 ^ 63 < under z → wrapped z ≡ z +ℤ pos (2 ^ 64)
unfolding wrapped
wrapped_below z h =
    rw (not_less_of_parts (pos (2 ^ 63 - 1)) z (omega arith), less_of_parts z (neg_ℤ (pos (2 ^ 63))) (omega arith))

pub wrapped_fitting : (z : ℤ) → SFits w64 z → wrapped z ≡ z
unfolding wrapped
wrapped_fitting z f =
    let p = parts_that_fit z f in
    rw (not_less_of_parts (pos (2 ^ 63 - 1)) z (omega arith), not_less_of_parts z (neg_ℤ (pos (2 ^ 63))) (omega arith))

-- a number that is not too far from 0 added to one that fits: the sum, or both it and what is left of it are far
pub wrapped_or_far {ℓ} : {X : Type ℓ} (a b : ℤ) → SFits w64 a → nat_abs b ≤ 2 ^ 62
    → (wrapped (a +ℤ b) ≡ a +ℤ b → X) → (2 ^ 62 ≤ nat_abs (a +ℤ b) → 2 ^ 62 ≤ nat_abs (wrapped (a +ℤ b)) → X) → X
wrapped_or_far a b f g same far =
    let p = parts_that_fit a f in
    let q = magnitude_parts b in
    let s = sum_parts a b in
    let z : ℤ = a +ℤ b in
    let m = magnitude_parts z in
    split (under z + 2 ^ 63) (over z)
    (λ (h : under z + 2 ^ 63 ≤ over z).
    far (omega arith)
    (rw (wrapped_above z h) (omega (arith, magnitude_parts (z -ℤ pos (2 ^ 64)), sum_parts z (neg_ℤ (pos (2 ^ 64)))))))
    (λ (h : over z < under z + 2 ^ 63).
    split (under z) (over z + 2 ^ 63)
    (λ (k : under z ≤ over z + 2 ^ 63). same (wrapped_fitting z (sum_fits_64 a b (omega arith) (omega arith))))
    (λ (k : over z + 2 ^ 63 < under z).
    far (omega arith) (rw (wrapped_below z k) (omega (arith, magnitude_parts (z +ℤ pos (2 ^ 64)), sum_parts z (pos (2 ^ 64)))))))

-- ---- how the code comes to it: what is left of a sum in 64 bits

-- 2^64 more or less leaves the same
left_alike : (s y z : ℤ) → int_wrap w64 s ≡ int_wrap w64 (pos 0) → s +ℤ y ≡ z → pos 0 +ℤ y ≡ y → SFits w64 y → int_wrap w64 z ≡ y
left_alike s y z e f g h = ap (int_wrap w64) (sym f) ∙ int_wrap-add_same w64 s (pos 0) y e ∙ ap (int_wrap w64) g ∙ int_wrap_fits w64 y h

pub wrapping_sum : (a b : ℤ) → SFits w64 a → SFits w64 b → int_wrapping_add w64 a b ≡ wrapped (a +ℤ b)
unfolding int_wrap
wrapping_sum a b f g = wrapping_add_is w64 a b f g ∙ left
  where
    left : int_wrap w64 (a +ℤ b) ≡ wrapped (a +ℤ b)
    left =
        let p = parts_that_fit a f in
        let q = parts_that_fit b g in
        let s = sum_parts a b in
        let z : ℤ = a +ℤ b in
        let m = magnitude_parts z in
        split (under z + 2 ^ 63) (over z)
        (λ (h : under z + 2 ^ 63 ≤ over z).
        let y : ℤ = z -ℤ pos (2 ^ 64) in
        let t = sum_parts z (neg_ℤ (pos (2 ^ 64))) in
        left_alike (pos (2 ^ 64)) y z refl
        (same_parts (pos (2 ^ 64) +ℤ y) z (omega (arith, sum_parts (pos (2 ^ 64)) y)))
        (same_parts (pos 0 +ℤ y) y (omega (arith, sum_parts (pos 0) y)))
        (sum_fits_64 z (neg_ℤ (pos (2 ^ 64))) (omega arith) (omega arith))
        ∙ sym (wrapped_above z h))
        (λ (h : over z < under z + 2 ^ 63).
        split (under z) (over z + 2 ^ 63)
        (λ (k : under z ≤ over z + 2 ^ 63).
        let fits = sum_fits_64 a b (omega arith) (omega arith) in int_wrap_fits w64 z fits ∙ sym (wrapped_fitting z fits))
        (λ (k : over z + 2 ^ 63 < under z).
        let y : ℤ = z +ℤ pos (2 ^ 64) in
        let t = sum_parts z (pos (2 ^ 64)) in
        left_alike (neg_ℤ (pos (2 ^ 64))) y z refl
        (same_parts (neg_ℤ (pos (2 ^ 64)) +ℤ y) z (omega (arith, sum_parts (neg_ℤ (pos (2 ^ 64))) y)))
        (same_parts (pos 0 +ℤ y) y (omega (arith, sum_parts (pos 0) y)))
        (sum_fits_64 z (pos (2 ^ 64)) (omega arith) (omega arith))
        ∙ sym (wrapped_below z k)))
