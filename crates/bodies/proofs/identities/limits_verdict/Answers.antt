use Rattle.refusals.specs.TestsLaws.{fields}
use Rattle.bodies.specs.Identity.{identity_fields}
use Rattle.bodies.proofs.identities.limits_verdict.Goals as goal

pub returns-then-tmax-tmin : goal.returns-then-tmax-tmin
unfolding identity_fields
returns-then-tmax-tmin c = search fields depth 8

pub returns-then-pmax-pmin : goal.returns-then-pmax-pmin
unfolding identity_fields
returns-then-pmax-pmin c = search fields depth 8

pub returns : goal.returns
unfolding identity_fields
returns c = search fields depth 8
