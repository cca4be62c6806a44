use Rattle.refusals.specs.TestsLaws.{fields}
use Rattle.bodies.specs.Trim.{trim_fields}
use Rattle.bodies.proofs.trims.amounts_verdict.Goals as goal

pub returns-then-outside : goal.returns-then-outside
unfolding trim_fields
returns-then-outside c = search fields depth 8

pub returns-then-beyond : goal.returns-then-beyond
unfolding trim_fields
returns-then-beyond c = search fields depth 8

pub returns : goal.returns
unfolding trim_fields
returns c = search fields depth 8
