-- `step` meets its contract: the product has room in 64 bits, and where the sum has none the limit says the same of what is left.
use Rattle.std.specs.Int.{w64}
use Rattle.std.proofs.Common.{◌≡◌, ap, ◌∙◌, ◌^◌, ℤ, SFits, ◌+ℤ◌, ◌*ℤ◌, to_z-of_z, arith}
use Rattle.limits.specs.Limits.{largest_sum}
use Rattle.laws.specs.SignedBits.{kept, fits_64, read_as, Exact, exact}
use Rattle.whole.specs.Rounded.{rounded}
use Rattle.whole.specs.Wrapped.{wrapped}
use Rattle.reading.specs.Value.{within}
use Rattle.reading.specs.PolynomialLaws.{step_product_fits, step_wrapped}
use Rattle.reading.proofs.polynomial.step.Goals as goal

pub returns : goal.returns
returns c =
    let a = c.args in
    let x = a.by.x in
    let small = a.by.small in
    let fits : SFits w64 x = fits_64 (omega arith) in
    let product : Exact w64 (kept w64 a.sum *ℤ kept w64 x) (a.sum *ℤ x) =
    exact w64 (rw (to_z-of_z c.ranges.sum, to_z-of_z fits)) (step_product_fits a.sum x c.requires small) in
    let turn : ℤ = rounded (a.sum *ℤ x) (2 ^ 24) in
    let turned : kept w64 c.rounded_over-turn.result ≡ turn =
    read_as w64 c.rounded_over-turn.result _ c.rounded_over-turn.type_inv (rw product.back at c.rounded_over-turn.ensures) in
    let next : kept w64 c.wrapped_sum-next.result ≡ wrapped (a.coefficient +ℤ turn) =
    read_as w64 c.wrapped_sum-next.result _ c.wrapped_sum-next.type_inv (rw (to_z-of_z c.ranges.coefficient, turned) at c.wrapped_sum-next.ensures) in
    c.limited.ensures ∙ ap (within largest_sum 25 a.kind) next ∙ step_wrapped a.sum x c.requires small a.kind a.coefficient c.ranges.coefficient
