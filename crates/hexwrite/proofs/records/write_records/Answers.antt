use Rattle.std.proofs.Common.{rules}
use Rattle.hexwrite.specs.RecordsLaws.{writes_too_large, writes_no_room, writes_text}
use Rattle.hexwrite.proofs.records.write_records.Goals as goal

ruleset laws = (rules, writes_too_large, writes_no_room, writes_text)

pub returns-then-size-gt-LARGEST_IMAGE : goal.returns-then-size-gt-LARGEST_IMAGE
returns-then-size-gt-LARGEST_IMAGE c = rw c.refused.ensures (search laws)

pub returns-then-text-needed : goal.returns-then-text-needed
returns-then-text-needed c = rw c.refused-then-text-needed.ensures (search laws)

pub returns : goal.returns
returns c = search laws
