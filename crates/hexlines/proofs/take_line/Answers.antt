use borrow.Author.Rules.{rules}
use Rattle.hexlines.specs.DueLineLaws.{takes_end_record}
use Rattle.hexlines.proofs.take_line.Goals as goal

pub returns-then-is_end_record : goal.returns-then-is_end_record
returns-then-is_end_record c = search (rules, takes_end_record)
