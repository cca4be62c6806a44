-- Signed numbers and the bits that hold them: what fits, and the way back from the bits.
use Rattle.std.specs.Prelude.{◌≡◌, refl, true, ℕ, zero, suc, ◌+◌, ◌-◌, ◌^◌, ◌≤◌, ◌<◌, ℤ, pos, negsuc, nat_abs, ◌+ℤ◌, ◌-ℤ◌}
use Rattle.std.proofs.Common.{ap, ◌∙◌, le_refl, zero-add, arith, ltb-true, to_z-of_z}
use Rattle.std.specs.Int.Signed.{mag, lt_z}
use Rattle.std.specs.Int.{Width, w64}
use mir.Val.{SFits, to_z, of_z, hbits}
use Rattle.laws.specs.Linear.{over, under, sum_parts}
use Rattle.laws.specs.Magnitude.{difference_ge}

magnitude_bounds : (z : ℤ) → mag z ≤ nat_abs z
magnitude_bounds (pos n) = le_refl n
magnitude_bounds (negsuc n) = omega arith

-- the highest of 64 bits; the lowest is negsuc of it
abbrev pub highest64 : ℕ
highest64 = 9223372036854775807

pub fits_64 : {z : ℤ} → nat_abs z < 2 ^ 63 → SFits w64 z
fits_64 {z} h = let m = magnitude_bounds z in record { sfits = omega arith }

pub distance_of_fitting : (z : ℤ) → SFits w64 z → nat_abs z ≤ 2 ^ 63
distance_of_fitting (pos n) f = omega (arith, f.sfits)
distance_of_fitting (negsuc n) f = omega (arith, f.sfits)

pub parts_that_fit : (z : ℤ) → SFits w64 z → (over z < 2 ^ 63) × (under z ≤ 2 ^ 63)
parts_that_fit (pos n) f = (omega (arith, f.sfits), omega arith)
parts_that_fit (negsuc n) f = (omega arith, omega (arith, f.sfits))

-- a sum fits by what its terms are over and under 0
pub sum_fits_64 : (a b : ℤ) → over a + over b < under a + under b + 2 ^ 63 → under a + under b ≤ over a + over b + 2 ^ 63 → SFits w64 (a +ℤ b)
sum_fits_64 a b h k = go (a +ℤ b) (sum_parts a b)
  where
    go : (z : ℤ) → over z + (under a + under b) ≡ over a + over b + under z → SFits w64 z
    go (pos n) e = record { sfits = omega arith }
    go (negsuc n) e = record { sfits = omega arith }

-- ---- the way back from the bits

-- what the bits of a width keep of z
abbrev pub kept : (w : Width) → ℤ → ℤ
kept w z = to_z w (of_z w z)

-- all of it where z fits; what a call gave has its range in the field `ok`
pub read_back : (w : Width) (z : ℤ) → mag z < 2 ^ hbits w → kept w z ≡ z
read_back w z h = to_z-of_z (record { sfits = h })

-- and what the call's contract says of it
pub read_as : (w : Width) (x z : ℤ) → mag x < 2 ^ hbits w → x ≡ z → kept w x ≡ z
read_as w x z h e = read_back w x h ∙ e

-- the code works out x, of numbers that it read from their bits: it fits, and is kept as z
pub record Exact (w : Width) (x z : ℤ) : Type 0 where
  pub fits : SFits w x
  pub back : kept w x ≡ z

pub exact : (w : Width) {x z : ℤ} → x ≡ z → SFits w z → Exact w x z
exact w e f = record { fits = rw e f; back = rw e (to_z-of_z f) }

-- ---- below zero

-- -1 - y turns a natural into the negative number that comes as far after -1, and back
pub past_minus_one : (y : ℕ) → negsuc 0 -ℤ pos y ≡ negsuc y
past_minus_one zero = refl
past_minus_one (suc y) = ap negsuc (ap suc (zero-add y))

pub minus_one_less : (z : ℤ) → lt_z z (pos 0) ≡ true → negsuc 0 -ℤ z ≡ pos (mag z)
minus_one_less (pos a) e = let h = ltb-true a 0 e in absurd (omega arith)
minus_one_less (negsuc a) e = let h : 1 ≤ suc a = omega arith in let n : suc a - 1 ≡ a = omega arith in difference_ge (suc a) 1 h ∙ rw n
