use Rattle.refusals.specs.TestsLaws.{fields}
use Rattle.sets.specs.SetLaws.{zero_multiplier_told, zero_offset_told, multiplier_told, offset_told}
use Rattle.sets.proofs.sets.prescale_verdict.Goals as goal

ruleset laws = (fields, zero_multiplier_told, zero_offset_told, multiplier_told, offset_told)

pub returns-then-multiplier-ne0 : goal.returns-then-multiplier-ne0
returns-then-multiplier-ne0 c = search laws depth 12

pub returns-then-offset-ne0 : goal.returns-then-offset-ne0
returns-then-offset-ne0 c = search laws depth 12

pub returns-then-order-eq0 : goal.returns-then-order-eq0
returns-then-order-eq0 c = search laws depth 12

pub returns-then-outside : goal.returns-then-outside
returns-then-outside c = search laws depth 12

pub returns-then-offset-gt-LARGEST_OFFSET : goal.returns-then-offset-gt-LARGEST_OFFSET
returns-then-offset-gt-LARGEST_OFFSET c = search laws depth 12

pub returns : goal.returns
returns c = search laws depth 12
