use Rattle.display.specs.PageLaws.{LevelsPrinted}
use Rattle.display.proofs.words.Page.put_levels.Given as goal

abbrev pub invariant-loop-level : goal.invariant-loop-level
invariant-loop-level l = LevelsPrinted l.initial.self l.image l.self l.level
