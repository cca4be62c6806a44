use Rattle.finder.specs.FinderLaws.{part_found}
use Rattle.finder.proofs.find.Goals as goal

pub returns : goal.returns
returns c = part_found _ _ _ _ c.place_of.ensures c.part_at.ensures
