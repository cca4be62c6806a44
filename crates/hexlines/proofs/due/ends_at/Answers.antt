use borrow.Author.Rules.{rules}
use Rattle.hexlines.specs.CountLaws.{ends_lf, ends_crlf}
use Rattle.hexlines.proofs.due.ends_at.Goals as goal

pub returns-then-line-end : goal.returns-then-line-end
returns-then-line-end c = search (rules, ends_lf)

pub returns : goal.returns
returns c = search (rules, ends_crlf)
