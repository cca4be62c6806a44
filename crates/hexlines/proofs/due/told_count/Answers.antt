use borrow.Author.Rules.{rules}
use Rattle.hexlines.specs.CountLaws.{tells_count}
use Rattle.hexlines.proofs.due.told_count.Goals as goal

pub returns-then-ends_at : goal.returns-then-ends_at
returns-then-ends_at c = search (rules, tells_count)
