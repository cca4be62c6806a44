use Rattle.refusals.specs.TestsLaws.{fields}
use Rattle.bodies.specs.Trim.{trim_fields}
use Rattle.bodies.proofs.trims.trim_verdict.Goals as goal

pub returns-then-body-ne-TRIM_SIZE : goal.returns-then-body-ne-TRIM_SIZE
unfolding trim_fields
returns-then-body-ne-TRIM_SIZE c = search fields depth 12

pub returns-then-outside : goal.returns-then-outside
unfolding trim_fields
returns-then-outside c = search fields depth 12

pub returns-then-at-ne0 : goal.returns-then-at-ne0
unfolding trim_fields
returns-then-at-ne0 c = search fields depth 12

pub returns-then-at-ne0-2 : goal.returns-then-at-ne0-2
unfolding trim_fields
returns-then-at-ne0-2 c = search fields depth 12

pub returns-then-at-ne0-3 : goal.returns-then-at-ne0-3
unfolding trim_fields
returns-then-at-ne0-3 c = search fields depth 12

pub returns : goal.returns
unfolding trim_fields
returns c = search fields depth 12
