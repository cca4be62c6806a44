use Rattle.display.specs.PageLaws.{image_printed}
use Rattle.display.proofs.words.Page.put_accepted.Goals as goal

pub returns-clause-words : goal.returns-clause-words
returns-clause-words c = search image_printed
