use borrow.Author.Rules.{rules}
use Rattle.hexlines.specs.DueLineLaws.{told_whole, told_inside, told_due}
use Rattle.hexlines.proofs.due.take_due.Goals as goal

pub slice_bounds-take_counted-end : goal.slice_bounds-take_counted-end
slice_bounds-take_counted-end c = search (rules, told_whole, c.in_ok-count.ensures)

pub take_counted-requires : goal.take_counted-requires
take_counted-requires c = search (rules, told_inside, c.in_ok-count.ensures)

pub returns : goal.returns
returns c = search (rules, told_due, c.in_ok-count.ensures)
