use Rattle.std.proofs.Common.{◌-◌, length}
use Rattle.hexwrite.specs.RecordsLaws.{Writing}
use Rattle.hexwrite.proofs.records.put_records.Given as goal

abbrev pub invariant-loop-start : goal.invariant-loop-start
invariant-loop-start l = Writing l.image l.initial.text l.text l.start l.at

abbrev pub decreases-loop-start : goal.decreases-loop-start
decreases-loop-start l = length l.image - l.start
