use Rattle.std.specs.Int.{w64}
use Rattle.std.proofs.Common.{◌≡◌, ◌^◌, ◌<◌, ℤ, pos, nat_abs, ◌≤◌, ◌+ℤ◌, ◌*ℤ◌, SFits, to_z-of_z, arith, rules}
use Rattle.laws.specs.SignedBits.{kept, fits_64, Exact, exact}
use Rattle.whole.specs.Rounded.{rounded}
use Rattle.bodies.specs.declared.Trim.{Trim}
use Rattle.limits.specs.Limits.{largest_result}
use Rattle.reading.specs.Measured.{trimmed_by}
use Rattle.reading.specs.MeasuredLaws.{trim_product_fits, trim_sum_fits}
use Rattle.reading.proofs.shown.trimmed.Goals as goal

-- The sum has room: `span` is the trim's, and `turn` the rounded product.
sum_exact : (trim : Trim) (pressure span turn : ℤ) → SFits w64 pressure → SFits w64 turn → nat_abs trim.zero ≤ 2 ^ 40 → nat_abs pressure ≤ largest_result
    → trim.span < 2 ^ 32 → span ≡ pos trim.span
    → turn ≡ rounded (kept w64 (kept w64 span *ℤ kept w64 pressure)) (2 ^ 28) → Exact w64 (kept w64 trim.zero +ℤ kept w64 turn) (trimmed_by trim pressure)
unfolding trimmed_by
sum_exact trim pressure span turn f g near small low s e =
    let room : SFits w64 (pos trim.span) = fits_64 (omega arith) in
    let product : Exact w64 (kept w64 span *ℤ kept w64 pressure) (pos trim.span *ℤ pressure) =
    exact w64 (rw (to_z-of_z f, s, to_z-of_z room)) (trim_product_fits _ pressure (omega arith) small) in
    let turned : kept w64 turn ≡ rounded (pos trim.span *ℤ pressure) (2 ^ 28) = rw (to_z-of_z g, e, product.back) in
    let zero : SFits w64 trim.zero = fits_64 (omega arith) in
    exact w64 (rw (to_z-of_z zero, turned)) (trim_sum_fits _ pressure (omega arith) small trim.zero near)

pub overflow_add-result : goal.overflow_add-result
overflow_add-result c =
    (sum_exact c.args.trim c.args.pressure _ _ c.ranges.pressure (search rules) c.requires.0 c.requires.1 (omega arith) c.from.ensures c.rounded_over.ensures).fits

pub returns : goal.returns
returns c =
    (sum_exact c.args.trim c.args.pressure _ _ c.ranges.pressure (search rules) c.requires.0 c.requires.1 (omega arith) c.from.ensures c.rounded_over.ensures).back
