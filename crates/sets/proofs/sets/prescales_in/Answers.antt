use Rattle.std.proofs.Common.{rules}
use Rattle.sets.specs.SetLaws.{prescales_read}
use Rattle.sets.proofs.sets.prescales_in.Goals as goal

pub returns : goal.returns
returns c = search (rules, prescales_read)
