use borrow.Author.Rules.{rules}
use Rattle.hexline.specs.JudgeLaws.{spelled_there}
use Rattle.hexline.proofs.judge.byte_at.Goals as goal

pub returns : goal.returns
returns c = rw (c.from-high.ensures, c.from-low.ensures) (search (rules, spelled_there))
