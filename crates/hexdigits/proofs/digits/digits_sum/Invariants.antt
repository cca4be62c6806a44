use Rattle.std.proofs.Common.{◌/◌, length}
use Rattle.hexdigits.specs.PairsLaws.{AddingPairs}
use Rattle.hexdigits.proofs.digits.digits_sum.Given as goal

abbrev pub invariant-loop-i : goal.invariant-loop-i
invariant-loop-i l = AddingPairs l.characters 0 (length l.characters / 2) l.sum l.largest l.i
