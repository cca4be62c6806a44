use Rattle.std.proofs.Common.{rules}
use Rattle.hexwrite.specs.RecordsLaws.{writing_first, part_fits, part_small, writing_more, end_fits, writing_end}
use Rattle.hexwrite.proofs.records.put_records.Goals as goal

ruleset laws = (rules, writing_first, part_fits, part_small, writing_more, end_fits, writing_end)

pub loop-start-init : goal.loop-start-init
loop-start-init c = search laws

pub put_record-at-requires : goal.put_record-at-requires
put_record-at-requires c = search laws

pub loop-start-preserved : goal.loop-start-preserved
loop-start-preserved c = search laws

pub put_record-requires : goal.put_record-requires
put_record-requires c = search laws

pub returns : goal.returns
returns c = search laws
