-- Case splits: on the order of two numbers, and on a test with its equation.
use Rattle.std.specs.Prelude.{◌≡◌, refl, Bool, true, false, ◌&&◌, ℕ, ◌≤◌, ◌<◌}
use Rattle.std.proofs.lemmas.Bool.{false≢true}
use Rattle.std.proofs.Common.{arith, lt_of_not-le}
use Rattle.std.proofs.Math.Decide.{dec_le}

-- one order or the other
pub split {ℓ} : {X : Type ℓ} (a b : ℕ) → (a ≤ b → X) → (b < a → X) → X
split a b f g = elim (dec_le a b) [ yes h ↦ f h | no h ↦ g (lt_of_not-le h) ]

pub positive : {n : ℕ} → (n ≡ 0 → ⊥) → 0 < n
positive {n} z = split n 0 (λ (h : n ≤ 0). absurd (z (omega arith))) (λ h. h)

-- a test with its equation
pub decide {ℓ} : {X : Type ℓ} (b : Bool) → (b ≡ true → X) → (b ≡ false → X) → X
decide true f g = f refl
decide false f g = g refl

pub never {ℓ} : {X : Type ℓ} → false ≡ true → X
never e = absurd (false≢true e)

-- both of two tests
pub both_left : (a b : Bool) → (a && b) ≡ true → a ≡ true
both_left true b e = refl
both_left false b e = e

pub both_right : (a b : Bool) → (a && b) ≡ true → b ≡ true
both_right true b e = e
both_right false b e = never e
