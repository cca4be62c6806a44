use Rattle.std.proofs.Common.{rules}
use Rattle.lamp.specs.LoadsLaws.{settled_small, powered}
use Rattle.lamp.proofs.loads.power_on.Goals as goal

pub after_load-requires : goal.after_load-requires
after_load-requires c = search (rules, settled_small)

pub returns : goal.returns
returns c = search (rules, powered)
