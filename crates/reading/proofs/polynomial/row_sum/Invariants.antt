use Rattle.std.proofs.Common.{length}
use Rattle.reading.specs.Polynomial.{step_of}
use Rattle.reading.specs.PolynomialLaws.{SumOfLast}
use Rattle.reading.proofs.polynomial.row_sum.Given as goal

abbrev pub invariant-loop-coefficient : goal.invariant-loop-coefficient
invariant-loop-coefficient l = SumOfLast (step_of l.kind l.by.x) l.fn.row (length l.yielded) l.sum
