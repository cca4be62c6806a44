use Rattle.refusals.specs.TestsLaws.{fields}
use Rattle.bodies.specs.Identity.{identity_fields}
use Rattle.bodies.specs.IdentityLaws.{days_of}
use Rattle.bodies.proofs.identities.date_verdict.Goals as goal

pub returns-then-outside : goal.returns-then-outside
unfolding identity_fields
returns-then-outside c = search fields

pub returns-then-outside-2 : goal.returns-then-outside-2
unfolding identity_fields
returns-then-outside-2 c = search fields depth 8

pub returns-then-outside-3 : goal.returns-then-outside-3
unfolding identity_fields
returns-then-outside-3 c = search (fields, days_of) depth 12

pub returns : goal.returns
unfolding identity_fields
returns c = search (fields, days_of) depth 12
