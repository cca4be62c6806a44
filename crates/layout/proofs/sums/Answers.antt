use Rattle.std.proofs.Common.{rules}
use Rattle.layout.specs.SumsLaws.{body_there, sums_stop, sums_end}
use Rattle.layout.proofs.sums.Goals as goal

pub slice_bounds-body-end : goal.slice_bounds-body-end
slice_bounds-body-end c = search (rules, body_there)

pub returns-then-byte_sum-line : goal.returns-then-byte_sum-line
returns-then-byte_sum-line c = search (rules, sums_stop)

pub returns : goal.returns
returns c = search (rules, sums_end)
