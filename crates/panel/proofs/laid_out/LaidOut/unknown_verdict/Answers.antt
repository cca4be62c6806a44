use mathlib.Core.Path.{◌∙◌}
use borrow.Author.Rules.{rules}
use Rattle.panel.specs.VerdictLaws.{passing_first, passing_more, unknown_here, none_unknown}
use Rattle.panel.proofs.laid_out.LaidOut.unknown_verdict.Goals as goal

ruleset laws = (rules, passing_first, passing_more, unknown_here, none_unknown)

pub loop-i-init : goal.loop-i-init
loop-i-init c = search laws

pub returns-then-not-may_pass : goal.returns-then-not-may_pass
returns-then-not-may_pass c = c.refused.ensures ∙ search laws

pub loop-i-preserved : goal.loop-i-preserved
loop-i-preserved c = search laws

pub returns : goal.returns
returns c = search laws
