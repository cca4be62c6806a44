use borrow.Author.Rules.{rules}
use Rattle.refusals.specs.TestsLaws.{loop}
use Rattle.bodies.proofs.notes.characters_verdict.Goals as goal

ruleset laws = (rules, loop)

pub returns-then-outside : goal.returns-then-outside
returns-then-outside c = search laws

pub loop-i-preserved : goal.loop-i-preserved
loop-i-preserved c = search laws

pub returns : goal.returns
returns c = search laws
