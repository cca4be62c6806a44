use Rattle.std.proofs.Common.{◌∙◌}
use Rattle.bodies.specs.IdentityLaws.{identity_of_whole}
use Rattle.bodies.proofs.identities.read_identity.Goals as goal

pub returns-in-Some : goal.returns-in-Some
returns-in-Some c = c.identity_in.ensures ∙ rw c.in-Some.ensures.cases.same (identity_of_whole c.args.body.now)
