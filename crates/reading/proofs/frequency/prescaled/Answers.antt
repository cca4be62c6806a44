use Rattle.std.specs.Int.{w64}
use Rattle.std.proofs.Common.{◌∙◌, to_z-of_z, rules}
use Rattle.laws.specs.SignedBits.{read_as, read_back}
use Rattle.reading.specs.FrequencyLaws.{order_zero, order_used}
use Rattle.reading.proofs.frequency.prescaled.Goals as goal

pub returns-then-prescale-eq0 : goal.returns-then-prescale-eq0
returns-then-prescale-eq0 c = search (rules, order_zero)

pub returns : goal.returns
returns c =
    let a = c.saturating_sub_unsigned-difference in
    let difference = read_as w64 a.result _ a.type_inv (rw (to_z-of_z c.ranges.frequency) at a.ensures) in
    let b = c.product-product in
    let product = read_back w64 b.result b.type_inv in
    let x = read_as w64 c.rounded_over-x.result _ c.rounded_over-x.type_inv (rw product at c.rounded_over-x.ensures) in
    (rw x at c.limited.ensures) ∙ order_used c.args.detail c.args.prescale c.args.frequency c.if-prescale-eq0.false b.result (rw difference at b.ensures)
