use Rattle.hexlines.specs.AnyLineLaws.{takes_inside}
use Rattle.hexlines.proofs.any_line.take_any.Goals as goal

pub returns : goal.returns
returns c = takes_inside _ _ _ _ c.inside.ensures _ _ c.take_record.ensures
