use Rattle.laws.specs.Loops.{FilledTo}
use Rattle.sets.specs.Set.{row_from}
use Rattle.sets.proofs.grids.read_row.Given as goal

abbrev pub invariant-loop-place : goal.invariant-loop-place
invariant-loop-place l = FilledTo 5 (row_from l.body l.row) l.coefficients l.place
