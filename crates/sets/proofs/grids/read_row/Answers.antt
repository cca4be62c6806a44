use borrow.Author.Rules.{rules}
use Rattle.laws.specs.Loops.{filled_none, filled_more}
use Rattle.laws.specs.SignedBits.{read_as}
use Rattle.sets.specs.GridLaws.{row_next, row_filled}
use Rattle.sets.proofs.grids.read_row.Goals as goal

ruleset laws = (rules, filled_none, filled_more, row_next, row_filled, read_as)

pub loop-place-preserved : goal.loop-place-preserved
loop-place-preserved c = search laws

pub returns : goal.returns
returns c = search laws
