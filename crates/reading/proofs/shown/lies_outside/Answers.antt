use Rattle.std.specs.Int.{w64}
use Rattle.std.proofs.Common.{◌∙◌, to_z-of_z}
use Rattle.laws.specs.SignedBits.{read_back}
use Rattle.reading.specs.MeasuredLaws.{outside_below, outside_above}
use Rattle.reading.proofs.shown.lies_outside.Goals as goal

pub returns-then-z-in_units : goal.returns-then-z-in_units
returns-then-z-in_units c =
    let a = c.args in
    let low = rw (to_z-of_z c.ranges.low) at c.in_units.ensures in
    let bound = read_back w64 c.in_units.result c.in_units.type_inv in
    let below = rw (to_z-of_z c.ranges.z, bound, low) at c.if-z-in_units.true in
    rw (to_z-of_z c.ranges.z, bound, low) (below ∙ outside_below a.z a.low a.high below)

pub returns-else-z-in_units : goal.returns-else-z-in_units
returns-else-z-in_units c =
    let a = c.args in
    let low = rw (to_z-of_z c.ranges.low) at c.in_units.ensures in
    let high = rw (to_z-of_z c.ranges.high) at c.in_units-else-z-in_units.ensures in
    rw (to_z-of_z c.ranges.z, read_back w64 c.in_units-else-z-in_units.result c.in_units-else-z-in_units.type_inv, high)
    (outside_above a.z a.low a.high
    (rw (to_z-of_z c.ranges.z, read_back w64 c.in_units.result c.in_units.type_inv, low) at c.if-z-in_units.false))
