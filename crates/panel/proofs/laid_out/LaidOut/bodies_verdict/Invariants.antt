use Rattle.panel.specs.Levels.{kinds_of_level}
use Rattle.panel.specs.BodiesLaws.{section_by_section}
use Rattle.panel.specs.VerdictLaws.{Passing}
use Rattle.panel.specs.Kinds.{level_number}
use Rattle.panel.proofs.laid_out.LaidOut.bodies_verdict.Given as goal

abbrev pub invariant-loop-line : goal.invariant-loop-line
invariant-loop-line l = Passing (section_by_section (kinds_of_level (level_number l.level))) l.self.image.now l.line
