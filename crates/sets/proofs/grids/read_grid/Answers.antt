use borrow.Author.Rules.{rules}
use Rattle.laws.specs.Loops.{filled_none, filled_more}
use Rattle.sets.specs.GridLaws.{too_short, count_fits, coefficients_fit, length_fits, rows_next, rows_filled}
use Rattle.sets.proofs.grids.read_grid.Goals as goal

ruleset laws = (rules, filled_none, filled_more, too_short, count_fits, coefficients_fit, length_fits, rows_next, rows_filled)

pub returns-then-body-rows : goal.returns-then-body-rows
returns-then-body-rows c = search laws

pub loop-row-preserved : goal.loop-row-preserved
loop-row-preserved c = search laws

pub returns : goal.returns
returns c = search laws
