use Rattle.std.proofs.Common.{rules}
use Rattle.hexwrite.specs.DigitsLaws.{writing_bytes_first, writing_bytes_more, writing_bytes_end}
use Rattle.hexwrite.proofs.digits.DigitTable.put_bytes.Goals as goal

ruleset laws = (rules, writing_bytes_first, writing_bytes_more, writing_bytes_end)

pub loop-i-init : goal.loop-i-init
loop-i-init c = search laws

pub loop-i-preserved : goal.loop-i-preserved
loop-i-preserved c = search laws
