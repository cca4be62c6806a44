use Rattle.std.specs.Int.{w32, w64}
use Rattle.std.specs.Int.Signed.{mag}
use Rattle.std.proofs.Common.{◌≡◌, ◌^◌, ◌<◌, ℤ, SFits, to_z-of_z, arith, Bool}
use Rattle.laws.specs.SignedBits.{kept, read_back}
use Rattle.reading.specs.Measured.{outside}
use Rattle.reading.specs.MeasuredLaws.{byte_small, mark_is}
use Rattle.reading.proofs.shown.mark.Goals as goal

-- Each limit has 32 bits, and is read as it is.
read_outside : (z : ℤ) (low high : ℤ) {said : Bool} → SFits w64 z → mag low < 2 ^ 31 → mag high < 2 ^ 31
    → said ≡ outside (kept w64 z) (kept w32 low) (kept w32 high) → said ≡ outside z low high
read_outside z low high f l h e = rw (to_z-of_z f, read_back w32 low l, read_back w32 high h) at e

pub returns : goal.returns
returns c =
    let i = c.args.identity in
    let t = read_outside c.args.temperature i.tmin i.tmax c.ranges.temperature (omega arith) (omega arith) c.lies_outside.ensures in
    let p = read_outside c.args.pressure i.pmin i.pmax c.ranges.pressure (omega arith) (omega arith) c.lies_outside-2.ensures in
    let is = mark_is i c.args.pressure c.args.temperature _ _ t p c.from.ensures c.from-2.ensures in
    omega (arith, byte_small _ c.from.ensures, byte_small _ c.from-2.ensures, is)
