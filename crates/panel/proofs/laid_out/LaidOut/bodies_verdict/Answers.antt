use borrow.Author.Rules.{rules}
use Rattle.panel.specs.VerdictLaws.{passing_first, bodies_more, body_refused, bodies_passed}
use Rattle.panel.proofs.laid_out.LaidOut.bodies_verdict.Goals as goal

ruleset laws = (rules, passing_first, bodies_more, body_refused, bodies_passed)

pub loop-line-init : goal.loop-line-init
loop-line-init c = search laws

pub returns-in_err-line_verdict : goal.returns-in_err-line_verdict
returns-in_err-line_verdict c = search laws

pub loop-line-preserved : goal.loop-line-preserved
loop-line-preserved c = search laws

pub returns : goal.returns
returns c = search laws
