use Rattle.std.proofs.Common.{◌∙◌}
use Rattle.bodies.specs.TrimLaws.{trim_of_whole}
use Rattle.bodies.proofs.trims.read_trim.Goals as goal

pub returns-in-Some : goal.returns-in-Some
returns-in-Some c = c.trim_in.ensures ∙ rw c.in-Some.ensures.cases.same (trim_of_whole c.args.body.now)
