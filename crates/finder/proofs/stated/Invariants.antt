use Rattle.finder.specs.FinderLaws.{LinesLeftDecide}
use Rattle.finder.proofs.stated.Given as goal

abbrev pub invariant-loop-i : goal.invariant-loop-i
invariant-loop-i l = LinesLeftDecide l.image l.kind l.count l.i
