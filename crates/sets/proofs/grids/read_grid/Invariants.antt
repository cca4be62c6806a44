use Rattle.laws.specs.Loops.{FilledTo}
use Rattle.sets.specs.Set.{rows_from}
use Rattle.sets.proofs.grids.read_grid.Given as goal

abbrev pub invariant-loop-row : goal.invariant-loop-row
invariant-loop-row l = FilledTo 5 (rows_from l.body) l.coefficients-items l.row
