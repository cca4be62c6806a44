use Rattle.std.proofs.Common.{rules}
use Rattle.hexwrite.specs.TextLaws.{length_whole, length_part}
use Rattle.hexwrite.proofs.records.text_length.Goals as goal

ruleset laws = (rules, length_whole, length_part)

pub returns-then-count-eq0 : goal.returns-then-count-eq0
returns-then-count-eq0 c = search laws

pub returns-else-count-eq0 : goal.returns-else-count-eq0
returns-else-count-eq0 c = search laws
