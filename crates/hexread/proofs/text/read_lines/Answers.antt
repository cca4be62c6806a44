use borrow.Author.Rules.{rules}
use Rattle.hexread.specs.TextLaws.{reading_first, reading_stops}
use Rattle.hexread.proofs.text.read_lines.Goals as goal

pub loop-start-init : goal.loop-start-init
loop-start-init c = search (rules, reading_first)

pub returns : goal.returns
returns c = rw c.refused-2.ensures (search (rules, reading_stops))
