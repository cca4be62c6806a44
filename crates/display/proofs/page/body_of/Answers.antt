use borrow.Author.Rules.{rules}
use Rattle.finder.specs.FinderLaws.{stated_found}
use Rattle.display.proofs.page.body_of.Goals as goal

ruleset laws = (rules, stated_found)

pub returns : goal.returns
returns c = search laws
