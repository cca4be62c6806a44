use Rattle.std.proofs.Common.{length}
use Rattle.reading.specs.Polynomial.{row_step}
use Rattle.reading.specs.PolynomialLaws.{SumOfLast}
use Rattle.reading.proofs.polynomial.grid_sum.Given as goal

abbrev pub invariant-loop-row : goal.invariant-loop-row
invariant-loop-row l = SumOfLast (row_step l.kind l.by_pressure.x l.by_temperature.x) l.fn.grid (length l.yielded) l.sum
