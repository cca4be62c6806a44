use borrow.Author.Rules.{rules}
use Rattle.std.proofs.lemmas.Result.{err_from_is_err_and}
use Rattle.hexread.specs.LineLaws.{stop_short, stop_colon, stop_count, stop_end, line_whole, line_counted, step_more, step_last, step_stop}
use Rattle.hexread.proofs.line.first_line.Goals as goal

pub returns-then-text-lt12 : goal.returns-then-text-lt12
returns-then-text-lt12 c = search (rules, stop_short)

pub returns-then-text-ne58 : goal.returns-then-text-ne58
returns-then-text-ne58 c = search (rules, stop_colon)

pub returns-then-count-ge256 : goal.returns-then-count-ge256
returns-then-count-ge256 c = search (rules, stop_count)

pub slice_bounds-take_record-end : goal.slice_bounds-take_record-end
slice_bounds-take_record-end c = search (rules, line_whole)

pub take_record-requires : goal.take_record-requires
take_record-requires c = search (rules, line_counted)

pub returns-in-Data : goal.returns-in-Data
returns-in-Data c = search (rules, step_more, c.in_ok-record.was)

pub returns-in-End : goal.returns-in-End
returns-in-End c = search (rules, step_last, c.in_ok-record.was)

pub returns-in_default : goal.returns-in_default
returns-in_default c = search (rules, stop_end)

pub returns-in_err-record : goal.returns-in_err-record
returns-in_err-record c =
    let p = err_from_is_err_and c.from_residual.result c.from_residual.ensures.1 in
    rw (p.1, p.2) (search (rules, step_stop, c.in_err-record.was))
