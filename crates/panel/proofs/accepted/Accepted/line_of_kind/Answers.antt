use borrow.Author.Rules.{rules}
use Rattle.panel.specs.GoodLayoutLaws.{first_three, not_before_first, not_before_next, kind_here, kind_nowhere}
use Rattle.panel.proofs.accepted.Accepted.line_of_kind.Goals as goal

ruleset laws = (rules, first_three, not_before_first, not_before_next, kind_here, kind_nowhere)

pub loop-i-init : goal.loop-i-init
loop-i-init c = search laws

pub loop-i-preserved : goal.loop-i-preserved
loop-i-preserved c = search laws

pub returns-then-line-kind : goal.returns-then-line-kind
returns-then-line-kind c = search laws

pub returns : goal.returns
returns c = search laws
