use Rattle.std.proofs.Common.{rules}
use Rattle.lamp.specs.LoadsLaws.{whole_small, whole_judged_lem}
use Rattle.lamp.proofs.loads.judge.Goals as goal

pub after_load-requires : goal.after_load-requires
after_load-requires c = search (rules, whole_small)

pub returns : goal.returns
returns c = search (rules, whole_judged_lem)
