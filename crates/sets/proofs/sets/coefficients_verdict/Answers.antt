use borrow.Author.Rules.{rules}
use Rattle.refusals.specs.TestsLaws.{loop}
use Rattle.sets.proofs.sets.coefficients_verdict.Goals as goal

ruleset laws = (rules, loop)

pub returns-then-beyond : goal.returns-then-beyond
returns-then-beyond c = search laws

pub loop-i-preserved : goal.loop-i-preserved
loop-i-preserved c = search laws

pub returns : goal.returns
returns c = search laws
