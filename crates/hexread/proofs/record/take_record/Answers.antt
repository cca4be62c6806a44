use borrow.Author.Rules.{rules}
use Rattle.hexread.specs.RecordLaws.{taken_by_bytes, taken_no_bytes}
use Rattle.hexread.proofs.record.take_record.Goals as goal

pub returns : goal.returns
returns c = search (rules, taken_by_bytes)

pub returns-in_default : goal.returns-in_default
returns-in_default c = search (rules, taken_no_bytes)
