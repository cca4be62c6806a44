use Rattle.whole.specs.WrappedLaws.{wrapping_sum}
use Rattle.whole.proofs.wrapped_sum.Goals as goal

pub returns : goal.returns
returns c = wrapping_sum c.args.a c.args.b c.ranges.a c.ranges.b
