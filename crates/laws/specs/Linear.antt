-- Facts about ℤ in the form that omega reads: z is over z - under z, two naturals of which one is 0.
use Rattle.std.specs.Prelude.{◌≡◌, refl, Bool, true, false, ℕ, zero, suc, ◌+◌, ◌*◌, ◌≤◌, ◌<◌, ltb, ℤ, pos, negsuc, neg_ℤ, nat_abs, ◌+ℤ◌, ◌-ℤ◌, ◌*ℤ◌, ◌≤ℤ◌}
use Rattle.std.proofs.Common.{sym, ap, ◌∙◌, arith, ltb-true, ltb-false, lt-ltb, le-ltb, leb→le, le→leb}
use Rattle.std.proofs.Math.IntN.{sub_ℕ}
use Rattle.std.specs.Int.Signed.{lt_z}
use Rattle.laws.specs.Cases.{never}
use Rattle.laws.specs.Magnitude.{difference_ge, difference_lt}

abbrev pub over : ℤ → ℕ
over (pos n) = n
over (negsuc n) = 0

abbrev pub under : ℤ → ℕ
under (pos n) = 0
under (negsuc n) = suc n

pub magnitude_parts : (z : ℤ) → nat_abs z ≡ over z + under z
magnitude_parts (pos n) = omega arith
magnitude_parts (negsuc n) = omega arith

subtracted_parts : (a b : ℕ) → over (sub_ℕ a b) + b ≡ a + under (sub_ℕ a b)
subtracted_parts a b = go (ltb a b) refl
  where
    go : (t : Bool) → ltb a b ≡ t → over (sub_ℕ a b) + b ≡ a + under (sub_ℕ a b)
    go true e = let h = ltb-true a b e in rw (difference_lt a b h) (omega arith)
    go false e = let h = ltb-false a b e in rw (difference_ge a b h) (omega arith)

pub sum_parts : (a b : ℤ) → over (a +ℤ b) + (under a + under b) ≡ over a + over b + under (a +ℤ b)
sum_parts (pos a) (pos b) = omega arith
sum_parts (pos a) (negsuc b) = let e = subtracted_parts a (suc b) in omega arith
sum_parts (negsuc a) (pos b) = let e = subtracted_parts b (suc a) in omega arith
sum_parts (negsuc a) (negsuc b) = omega arith

pub negated_over : (a : ℤ) → over (neg_ℤ a) ≡ under a
negated_over (pos zero) = refl
negated_over (pos (suc n)) = refl
negated_over (negsuc n) = refl

pub negated_under : (a : ℤ) → under (neg_ℤ a) ≡ over a
negated_under (pos zero) = refl
negated_under (pos (suc n)) = refl
negated_under (negsuc n) = refl

pub product_over : (a : ℤ) (k : ℕ) → over (a *ℤ pos k) ≡ over a * k
product_over (pos a) k = refl
product_over (negsuc a) k = negated_over (pos (suc a * k)) ∙ omega arith

pub product_under : (a : ℤ) (k : ℕ) → under (a *ℤ pos k) ≡ under a * k
product_under (pos a) k = omega arith
product_under (negsuc a) k = negated_under (pos (suc a * k))

pub order_of_parts : (a b : ℤ) → over a + under b ≤ over b + under a → a ≤ℤ b
order_of_parts (pos a) (pos b) h = record { le = le→leb a b (omega arith) }
order_of_parts (pos a) (negsuc b) h = absurd (omega arith)
order_of_parts (negsuc a) (pos b) h = record { le = tt }
order_of_parts (negsuc a) (negsuc b) h = record { le = le→leb b a (omega arith) }

pub parts_of_order : (a b : ℤ) → a ≤ℤ b → over a + under b ≤ over b + under a
parts_of_order (pos a) (pos b) h = omega (arith, leb→le a b h.le)
parts_of_order (pos a) (negsuc b) h = absurd h.le
parts_of_order (negsuc a) (pos b) h = omega arith
parts_of_order (negsuc a) (negsuc b) h = omega (arith, leb→le b a h.le)

pub less_of_parts : (a b : ℤ) → over a + under b < over b + under a → lt_z a b ≡ true
less_of_parts (pos a) (pos b) h = lt-ltb a b (omega arith)
less_of_parts (pos a) (negsuc b) h = absurd (omega arith)
less_of_parts (negsuc a) (pos b) h = refl
less_of_parts (negsuc a) (negsuc b) h = lt-ltb b a (omega arith)

pub not_less_of_parts : (a b : ℤ) → over b + under a ≤ over a + under b → lt_z a b ≡ false
not_less_of_parts (pos a) (pos b) h = le-ltb a b (omega arith)
not_less_of_parts (pos a) (negsuc b) h = refl
not_less_of_parts (negsuc a) (pos b) h = absurd (omega arith)
not_less_of_parts (negsuc a) (negsuc b) h = le-ltb b a (omega arith)

pub parts_of_less : (a b : ℤ) → lt_z a b ≡ true → over a + under b < over b + under a
parts_of_less (pos a) (pos b) e = omega (arith, ltb-true a b e)
parts_of_less (pos a) (negsuc b) e = never e
parts_of_less (negsuc a) (pos b) e = omega arith
parts_of_less (negsuc a) (negsuc b) e = omega (arith, ltb-true b a e)

pub parts_of_not_less : (a b : ℤ) → lt_z a b ≡ false → over b + under a ≤ over a + under b
parts_of_not_less (pos a) (pos b) e = omega (arith, ltb-false a b e)
parts_of_not_less (pos a) (negsuc b) e = omega arith
parts_of_not_less (negsuc a) (pos b) e = never (sym e)
parts_of_not_less (negsuc a) (negsuc b) e = omega (arith, ltb-false b a e)

pub same_parts : (a b : ℤ) → over a + under b ≡ over b + under a → a ≡ b
same_parts (pos a) (pos b) h = ap pos (omega arith)
same_parts (pos a) (negsuc b) h = absurd (omega arith)
same_parts (negsuc a) (pos b) h = absurd (omega arith)
same_parts (negsuc a) (negsuc b) h = ap negsuc (omega arith)

within : (z : ℤ) (p q d : ℕ) → over z + q ≡ p + under z → p ≤ q + d → q ≤ p + d → nat_abs z ≤ d
within (pos n) p q d e h k = omega arith
within (negsuc n) p q d e h k = omega arith

-- x lies within d of y
pub distance : (x y : ℤ) (d : ℕ) → over x + under y ≤ over y + under x + d → over y + under x ≤ over x + under y + d → nat_abs (x -ℤ y) ≤ d
distance x y d h k =
    within (x -ℤ y) (over x + under y) (over y + under x) d (omega (arith, sum_parts x (neg_ℤ y), negated_over y, negated_under y)) (omega arith) (omega arith)
