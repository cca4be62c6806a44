use Rattle.std.specs.Int.{w64}
use Rattle.std.proofs.Common.{◌≡◌, ℤ, ℕ, ◌^◌, ◌<◌, ◌≤◌, ap, ◌∙◌, sym, arith, to_z-of_z}
use Rattle.std.proofs.Math.Nat.{pow-le-pow_right}
use Rattle.laws.specs.SignedBits.{parts_that_fit, read_as}
use Rattle.whole.specs.Rounded.{rounded}
use Rattle.whole.specs.RoundedLaws.{rounded_over_one, rounded_over_more}
use Rattle.whole.proofs.rounding.rounded_over.Goals as goal

powers_rise : (i j : ℕ) → i ≤ j → 2 ^ i ≤ 2 ^ j
powers_rise i j h = let two : 0 < 2 = omega arith in pow-le-pow_right two h

pub returns-then-this-eq0 : goal.returns-then-this-eq0
returns-then-this-eq0 g c =
    let none : g.row.POWER ≡ 0 = omega (arith, c.if-this-eq0.true) in
    rw (to_z-of_z c.ranges.n, none) (sym (rounded_over_one c.args.n))

pub returns-then-this-gt63 : goal.returns-then-this-gt63
returns-then-this-gt63 g c =
    let wide : 2 ^ 64 ≤ 2 ^ g.row.POWER = powers_rise 64 g.row.POWER (omega (arith, c.if-this-gt63.true)) in
    let parts = parts_that_fit c.args.n c.ranges.n in
    sym (rounded_over_more c.args.n (2 ^ g.row.POWER) (omega arith) (omega arith))

-- by the power that it is called with
over_power : (n : ℤ) (used power : ℕ) {r : ℤ} → used ≡ power → r ≡ rounded n (2 ^ used) → r ≡ rounded n (2 ^ power)
over_power n used power e f = f ∙ ap (λ k. rounded n (2 ^ k)) e

pub returns : goal.returns
returns g c = over_power _ _ _ (omega arith) (read_as w64 _ _ c.rounded_by_half.type_inv (rw (to_z-of_z c.ranges.n) at c.rounded_by_half.ensures))
