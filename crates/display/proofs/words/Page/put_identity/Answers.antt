use Rattle.display.specs.PageLaws.{identity_printed}
use Rattle.display.proofs.words.Page.put_identity.Goals as goal

pub returns-clause-words : goal.returns-clause-words
returns-clause-words c = search identity_printed
