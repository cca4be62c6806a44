use Rattle.refusals.specs.TestsLaws.{fields}
use Rattle.bodies.specs.Identity.{identity_fields}
use Rattle.bodies.proofs.identities.identity_verdict.Goals as goal

pub returns-then-body-ne-IDENTITY_SIZE : goal.returns-then-body-ne-IDENTITY_SIZE
unfolding identity_fields
returns-then-body-ne-IDENTITY_SIZE c = search fields

pub returns : goal.returns
unfolding identity_fields
returns c = search fields
