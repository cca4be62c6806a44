use Rattle.std.proofs.Common.{rules}
use Rattle.sets.specs.SetLaws.{coefficient_read}
use Rattle.sets.proofs.coefficients.coefficient.Goals as goal

pub returns : goal.returns
returns c = search (rules, coefficient_read)
