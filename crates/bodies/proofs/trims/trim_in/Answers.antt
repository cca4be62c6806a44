use borrow.Author.Rules.{rules}
use Rattle.laws.specs.SignedBits.{read_as}
use Rattle.bodies.specs.TrimLaws.{trim_read}
use Rattle.bodies.proofs.trims.trim_in.Goals as goal

pub returns : goal.returns
returns c = search (rules, read_as, trim_read)
