use Rattle.std.proofs.Common.{rules}
use Rattle.hexwrite.specs.RecordLaws.{checksum_of_sums}
use Rattle.hexwrite.proofs.record.check_byte.Goals as goal

ruleset laws = (rules, checksum_of_sums)

pub returns : goal.returns
returns c = search laws
