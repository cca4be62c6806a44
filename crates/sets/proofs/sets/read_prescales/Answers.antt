use Rattle.std.proofs.Common.{◌∙◌}
use Rattle.sets.specs.SetLaws.{prescales_of_head}
use Rattle.sets.proofs.sets.read_prescales.Goals as goal

pub returns-in-Some : goal.returns-in-Some
returns-in-Some c = c.prescales_in.ensures ∙ rw c.in-Some.ensures.cases.same (prescales_of_head c.args.body.now)
