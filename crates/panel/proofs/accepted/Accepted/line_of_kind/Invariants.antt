use Rattle.panel.specs.GoodLayoutLaws.{NotBefore}
use Rattle.panel.proofs.accepted.Accepted.line_of_kind.Given as goal

abbrev pub invariant-loop-i : goal.invariant-loop-i
invariant-loop-i l = NotBefore l.self.laid.image.now l.kind l.i
