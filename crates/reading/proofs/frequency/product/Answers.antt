use Rattle.std.proofs.Common.{◌≡◌, pos, ◌*ℤ◌, ◌/◌, nat_abs, ◌<◌, ◌≤◌, to_z-of_z, inl}
use Rattle.std.specs.Int.{w64}
use Rattle.laws.specs.SignedBits.{kept, Exact, exact, read_as}
use Rattle.reading.specs.FrequencyLaws.{far_product, product_fits}
use Rattle.reading.proofs.frequency.product.Goals as goal

pub returns-then-factor-distance : goal.returns-then-factor-distance
returns-then-factor-distance c =
    let distance : c.unsigned_abs-distance.result ≡ nat_abs c.args.difference = rw (to_z-of_z c.ranges.difference) at c.unsigned_abs-distance.ensures.value in
    let far : 4611686018427387904 / c.args.multiplier < nat_abs c.args.difference = rw (c.from-factor.ensures, distance) at c.if-factor-distance.true in
    far_product c.args.multiplier c.args.difference (rw c.from-factor.ensures at c.if-factor-eq0.false) far

-- the product by their bits
worked_out : (c : goal.After-from-2) → Exact w64 (kept w64 c.from-2.result *ℤ kept w64 c.args.difference) (pos c.args.multiplier *ℤ c.args.difference)
worked_out c =
    let multiplier = read_as w64 c.from-2.result _ c.from-2.type_inv c.from-2.ensures in
    let distance : c.unsigned_abs-distance.result ≡ nat_abs c.args.difference = rw (to_z-of_z c.ranges.difference) at c.unsigned_abs-distance.ensures.value in
    let near : nat_abs c.args.difference ≤ 4611686018427387904 / c.args.multiplier = rw (c.from-factor.ensures, distance) at c.if-factor-distance.false in
    exact w64 (rw (multiplier, to_z-of_z c.ranges.difference))
    (product_fits c.args.multiplier c.args.difference (rw c.from-factor.ensures at c.if-factor-eq0.false) near)

pub overflow_mul-result-2 : goal.overflow_mul-result-2
overflow_mul-result-2 c = (worked_out c).fits

pub returns : goal.returns
returns c = inl ((worked_out c).back)
