use Rattle.std.proofs.Common.{rules}
use Rattle.laws.specs.BufferWrites.{written_character}
use Rattle.hexwrite.specs.RecordLaws.{wrote_end}
use Rattle.hexwrite.proofs.record.put_end.Goals as goal

ruleset laws = (rules, wrote_end, written_character)

pub returns : goal.returns
returns c = search laws
