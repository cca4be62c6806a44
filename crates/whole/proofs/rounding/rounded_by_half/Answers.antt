-- `rounded_by_half` meets its contract: of n + half and n - half the one that it takes has room.
use mathlib.Core.Path.{◌≡◌}
use mathlib.Core.Bool.{Bool, true, false}
use Prim.Native.Nat.{ℕ, ◌+◌, ◌*◌, ◌^◌, ◌≤◌, ◌<◌}
use native.Mathlib.Nat.{mul-le-mul_left}
use Rattle.std.proofs.Math.Nat.{pow-le-pow_right}
use native.Mathlib.Omega.{arith}
use lib.IntN.{ℤ, pos, neg_ℤ, nat_abs, ◌+ℤ◌, ◌-ℤ◌}
use lib.Pow.{pow_pos}
use lib.Signed.{lt_z, shr_z, mag_shr}
use mir.Syntax.{w64}
use mir.Val.{SFits, to_z}
use mir.Facts.{to_z-of_z, to_z_pos}
use Rattle.laws.specs.Linear.{over, under, sum_parts, negated_over, negated_under, parts_of_less, parts_of_not_less}
use Rattle.laws.specs.SignedBits.{highest64, fits_64, parts_that_fit, distance_of_fitting, sum_fits_64, kept, Exact, exact}
use Rattle.whole.specs.Rounded.{rounded}
use Rattle.whole.specs.RoundedLaws.{rounded_high, rounded_by_more, rounded_by_less}
use Rattle.whole.proofs.rounding.rounded_by_half.Goals as goal

-- ---- whole numbers: the test says which sum has room

module _ (n : ℤ) (h : ℕ) (f : SFits w64 n) (g : h ≤ 2 ^ 62) where
  -- the highest number to which h can be added
  last : ℤ
  last = pos highest64 -ℤ pos h

  last_parts : over last + h ≡ highest64 + under last
  unfolding last
  last_parts = omega (arith, sum_parts (pos highest64) (neg_ℤ (pos h)), negated_over (pos h), negated_under (pos h))

  near : lt_z last n ≡ true → h + under n ≤ over n
  near e = omega (arith, parts_of_less last n e, last_parts)

  less_fits : lt_z last n ≡ true → SFits w64 (n -ℤ pos h)
  less_fits e =
      let p = parts_that_fit n f in
      let o = negated_over (pos h) in
      let u = negated_under (pos h) in
      sum_fits_64 n (neg_ℤ (pos h)) (omega arith) (omega (arith, near e))

  more_fits : lt_z last n ≡ false → SFits w64 (n +ℤ pos h)
  more_fits e = let p = parts_that_fit n f in sum_fits_64 n (pos h) (omega (arith, parts_of_not_less last n e, last_parts)) (omega arith)

shift_fits : {z : ℤ} (d : ℕ) → SFits w64 z → SFits w64 (shr_z z d)
shift_fits {z} d f = record { sfits = omega (arith, mag_shr z d, f.sfits) }

-- ---- the code's numbers

module _ (n : ℤ) (half power : ℕ) (f : SFits w64 n) (small : half ≤ 2 ^ 62) (twice : half + half ≡ 2 ^ power) where
  half_is : to_z w64 half ≡ pos half
  half_is = to_z_pos w64 (omega (arith, small))

  highest : Exact w64 (pos highest64 -ℤ to_z w64 half) (pos highest64 -ℤ pos half)
  highest =
      let o = negated_over (pos half) in
      let u = negated_under (pos half) in
      exact w64 (rw half_is) (sum_fits_64 (pos highest64) (neg_ℤ (pos half)) (omega arith) (omega (arith, small)))

  tested : (t : Bool) → lt_z (kept w64 (pos highest64 -ℤ to_z w64 half)) (kept w64 n) ≡ t → lt_z (pos highest64 -ℤ pos half) n ≡ t
  tested t e = rw (highest.back, to_z-of_z f) at e

  at_least_one : 0 < half
  at_least_one = omega (arith, pow_pos power, twice)

  result_fits : SFits w64 (rounded n (2 ^ power))
  result_fits =
      let two : 2 ≤ 2 ^ power = omega (arith, at_least_one, twice) in
      let far : nat_abs n ≤ 2 ^ 62 * 2 ^ power = omega (arith, distance_of_fitting n f, mul-le-mul_left (2 ^ 62) two) in
      fits_64 (omega (arith, rounded_high (2 ^ power) (omega arith) n (2 ^ 62) far))

  -- n is near the highest number
  module _ (above : lt_z (pos highest64 -ℤ pos half) n ≡ true) where
    less : SFits w64 (n -ℤ pos half)
    unfolding last
    less = less_fits n half f small above

    difference_exact : Exact w64 (kept w64 n -ℤ to_z w64 half) (n -ℤ pos half)
    difference_exact = exact w64 (rw (to_z-of_z f, half_is)) less

    pub quotient_by_less : Exact w64 (kept w64 (shr_z (kept w64 (kept w64 n -ℤ to_z w64 half)) (2 ^ power)) +ℤ pos 1) (rounded n (2 ^ power))
    unfolding last
    quotient_by_less =
        let close = near n half f small above in
        let by_less = rounded_by_less n half _ twice at_least_one close in
        exact w64 (rw (difference_exact.back, to_z-of_z (shift_fits (2 ^ power) less)) by_less) result_fits

  -- n is not
  module _ (not_above : lt_z (pos highest64 -ℤ pos half) n ≡ false) where
    more : SFits w64 (n +ℤ pos half)
    unfolding last
    more = more_fits n half f small not_above

    sum_exact : Exact w64 (kept w64 n +ℤ to_z w64 half) (n +ℤ pos half)
    sum_exact = exact w64 (rw (to_z-of_z f, half_is)) more

    pub quotient_by_more : Exact w64 (shr_z (kept w64 (kept w64 n +ℤ to_z w64 half)) (2 ^ power)) (rounded n (2 ^ power))
    quotient_by_more = exact w64 (rw sum_exact.back (rounded_by_more n half _ twice)) result_fits

-- ---- the goals

no_more : (power half : ℕ) → half + half ≡ 2 ^ power → power < 64 → half ≤ 2 ^ 62
no_more power half e h = let two : 0 < 2 = omega arith in let p : power ≤ 63 = omega arith in omega (arith, pow-le-pow_right two p, e)

pub returns-then-more-n : goal.returns-then-more-n
returns-then-more-n c =
    let n = c.args.n in
    let half = c.args.half in
    let small : half ≤ 2 ^ 62 = no_more c.args.power half c.requires.0 c.requires.1 in
    let twice = c.requires.0 in
    let above = tested n half c.args.power c.ranges.n small twice true c.if-more-n.true in
    (quotient_by_less n half c.args.power c.ranges.n small twice above).back

pub returns : goal.returns
returns c =
    let n = c.args.n in
    let half = c.args.half in
    let small : half ≤ 2 ^ 62 = no_more c.args.power half c.requires.0 c.requires.1 in
    let twice = c.requires.0 in
    let not_above = tested n half c.args.power c.ranges.n small twice false c.if-more-n.false in
    (quotient_by_more n half c.args.power c.ranges.n small twice not_above).back
