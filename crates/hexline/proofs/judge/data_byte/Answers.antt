use borrow.Author.Rules.{rules}
use Rattle.hexline.specs.JudgeLaws.{data_none}
use Rattle.hexline.proofs.judge.data_byte.Goals as goal

pub returns-then-byte_at-i : goal.returns-then-byte_at-i
returns-then-byte_at-i c = search (rules, data_none)
