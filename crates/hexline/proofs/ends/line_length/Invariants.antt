use Rattle.hexline.specs.EndsLaws.{NoLineFeedBefore}
use Rattle.hexline.proofs.ends.line_length.Given as goal

abbrev pub invariant-loop-i : goal.invariant-loop-i
invariant-loop-i l = NoLineFeedBefore l.text l.i
