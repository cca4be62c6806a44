use Rattle.std.proofs.Common.{rules}
use Rattle.hexwrite.specs.RecordLaws.{wrote_record}
use Rattle.hexwrite.proofs.record.put_record.Goals as goal

ruleset laws = (rules, wrote_record)

pub returns : goal.returns
returns c = search laws
