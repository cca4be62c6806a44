-- What the tests of order say of numbers: less against at most, the sign, how far from 0.
use Rattle.std.specs.Prelude.{◌≡◌, refl, true, false, not, ℕ, suc, ◌+◌, ◌≤◌, ◌<◌, leb, ltb, ℤ, pos, negsuc, neg_ℤ, nat_abs}
use Rattle.std.proofs.Common.{sym, ap, ◌∙◌, arith, ltb-true, leb-true, lt-ltb, le-ltb, le-leb}
use Rattle.std.proofs.lemmas.Bool.{lt-leb}
use Rattle.std.specs.Int.Signed.{mag, lt_z, le_z}
use Rattle.laws.specs.Cases.{split, never}
use Rattle.laws.specs.Linear.{over, under, negated_over, negated_under, parts_of_less, parts_of_not_less}

-- less is not at most the other way round
pub less_otherwise : (a b : ℕ) → ltb b a ≡ not (leb a b)
less_otherwise a b =
    split a b
    (λ (h : a ≤ b). le-ltb b a h ∙ sym (ap not (le-leb a b h)))
    (λ (h : b < a). lt-ltb b a h ∙ sym (ap not (lt-leb a b h)))

pub less_otherwiseℤ : (a b : ℤ) → lt_z b a ≡ not (le_z a b)
less_otherwiseℤ (pos a) (pos b) = less_otherwise a b
less_otherwiseℤ (pos a) (negsuc b) = refl
less_otherwiseℤ (negsuc a) (pos b) = refl
less_otherwiseℤ (negsuc a) (negsuc b) = less_otherwise b a

-- a signed number by its sign
pub below_zero : (z : ℤ) → lt_z z (pos 0) ≡ true → z ≡ negsuc (mag z)
below_zero (pos a) e = let h = ltb-true a 0 e in absurd (omega arith)
below_zero (negsuc a) e = refl

-- between two naturals
pub between : (z : ℤ) (a b : ℕ) → le_z (pos a) z ≡ true → le_z z (pos b) ≡ true → nat_abs z ≤ b
between (pos n) a b e f = leb-true n b f
between (negsuc n) a b e f = never e

-- farther from 0 than m, on either side
pub far_below : (z : ℤ) (m : ℕ) → lt_z z (neg_ℤ (pos m)) ≡ true → true ≡ not (leb (nat_abs z) m)
far_below z m e = go z (parts_of_less z (neg_ℤ (pos m)) e)
  where
    go : (z : ℤ) → over z + under (neg_ℤ (pos m)) < over (neg_ℤ (pos m)) + under z → true ≡ not (leb (nat_abs z) m)
    go (pos n) h = absurd (omega (arith, negated_over (pos m), negated_under (pos m)))
    go (negsuc n) h = sym (ap not (lt-leb (suc n) m (omega (arith, negated_over (pos m), negated_under (pos m)))))

pub far_above : (z : ℤ) (m : ℕ) → lt_z z (neg_ℤ (pos m)) ≡ false → lt_z (pos m) z ≡ not (leb (nat_abs z) m)
far_above z m e = go z (parts_of_not_less z (neg_ℤ (pos m)) e)
  where
    go : (z : ℤ) → over (neg_ℤ (pos m)) + under z ≤ over z + under (neg_ℤ (pos m)) → lt_z (pos m) z ≡ not (leb (nat_abs z) m)
    go (pos n) h = less_otherwise n m
    go (negsuc n) h = sym (ap not (le-leb (suc n) m (omega (arith, negated_over (pos m), negated_under (pos m)))))
