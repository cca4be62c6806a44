use Rattle.std.proofs.Common.{rules}
use Rattle.lamp.specs.LoadsLaws.{load_small, text_loaded_lem}
use Rattle.lamp.proofs.loads.load.Goals as goal

pub after_load-requires : goal.after_load-requires
after_load-requires c = search (rules, load_small)

pub returns : goal.returns
returns c = search (rules, text_loaded_lem)
