-- The magnitude of a whole number: a bound on z is one on nat_abs z, in ℕ, where omega reads it.
use Rattle.std.specs.Prelude.{◌≡◌, refl, Bool, true, false, ℕ, zero, suc, ◌+◌, ◌-◌, ◌*◌, ◌≤◌, ◌<◌, ltb, ℤ, pos, negsuc, neg_ℤ, nat_abs, ◌+ℤ◌, ◌-ℤ◌, ◌*ℤ◌}
use Rattle.std.proofs.Common.{zero-le, le_refl, mul-le-mul, arith, lt-ltb, le-ltb, ltb-true, ltb-false}
use Rattle.std.proofs.Math.IntN.{sub_ℕ, +ℤ_comm, +ℤ-neg_ℤ_cancel}

-- a difference of two naturals, by their order
pub difference_ge : (a b : ℕ) → b ≤ a → sub_ℕ a b ≡ pos (a - b)
difference_ge a b h = rw (le-ltb a b h)

pub difference_lt : (a b : ℕ) → a < b → sub_ℕ a b ≡ negsuc (b - suc a)
difference_lt a b h = rw (lt-ltb a b h)

pub natural_difference : (a b : ℕ) → pos a -ℤ pos b ≡ sub_ℕ a b
natural_difference a zero = let e : a + 0 ≡ a - 0 = omega arith in rw (difference_ge a 0 zero-le, e)
natural_difference a (suc b) = refl

pub magnitude_negated : (z : ℤ) → nat_abs (neg_ℤ z) ≡ nat_abs z
magnitude_negated (pos zero) = refl
magnitude_negated (pos (suc n)) = refl
magnitude_negated (negsuc n) = refl

pub magnitude_product : (a b : ℤ) → nat_abs (a *ℤ b) ≡ nat_abs a * nat_abs b
magnitude_product (pos a) (pos b) = refl
magnitude_product (pos a) (negsuc b) = magnitude_negated (pos (a * suc b))
magnitude_product (negsuc a) (pos b) = magnitude_negated (pos (suc a * b))
magnitude_product (negsuc a) (negsuc b) = refl

magnitude_subtracted : (a b : ℕ) → nat_abs (sub_ℕ a b) ≤ a + b
magnitude_subtracted a b = go (ltb a b) refl
  where
    go : (t : Bool) → ltb a b ≡ t → nat_abs (sub_ℕ a b) ≤ a + b
    go true e = let h = ltb-true a b e in rw (difference_lt a b h) (omega arith)
    go false e = let h = ltb-false a b e in rw (difference_ge a b h) (omega arith)

pub magnitude_sum : (a b : ℤ) → nat_abs (a +ℤ b) ≤ nat_abs a + nat_abs b
magnitude_sum (pos a) (pos b) = le_refl (a + b)
magnitude_sum (pos a) (negsuc b) = magnitude_subtracted a (suc b)
magnitude_sum (negsuc a) (pos b) = let h = magnitude_subtracted b (suc a) in omega arith
magnitude_sum (negsuc a) (negsuc b) = omega arith

pub magnitude_difference : (a b : ℤ) → nat_abs (a -ℤ b) ≤ nat_abs a + nat_abs b
magnitude_difference a b = let h = magnitude_sum a (neg_ℤ b) in let e = magnitude_negated b in omega arith

-- a sum is no nearer to zero than its parts allow
pub magnitude_sum_low : (a b : ℤ) → nat_abs a ≤ nat_abs (a +ℤ b) + nat_abs b
magnitude_sum_low a b = rw (+ℤ-neg_ℤ_cancel a b) at (magnitude_difference (a +ℤ b) b)

pub magnitude_difference_low : (a b : ℤ) → nat_abs b ≤ nat_abs (a -ℤ b) + nat_abs a
magnitude_difference_low a b =
    let h = rw (+ℤ_comm (neg_ℤ b) a) at (magnitude_sum_low (neg_ℤ b) a) in
    let e = magnitude_negated b in
    omega arith

pub magnitude_product_le : (a b : ℤ) {A B : ℕ} → nat_abs a ≤ A → nat_abs b ≤ B → nat_abs (a *ℤ b) ≤ A * B
magnitude_product_le a b h k = rw (magnitude_product a b) (mul-le-mul h k)
