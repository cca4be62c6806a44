use borrow.Author.Rules.{rules}
use Rattle.laws.specs.SignedBits.{read_as}
use Rattle.bodies.specs.IdentityLaws.{identity_read}
use Rattle.bodies.proofs.identities.identity_in.Goals as goal

pub returns : goal.returns
returns c = search (rules, read_as, identity_read)
