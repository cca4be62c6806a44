use borrow.Author.Rules.{rules}
use Rattle.bodies.specs.MonthLaws.{days_worked_out}
use Rattle.bodies.proofs.identities.days_in.Goals as goal

pub returns : goal.returns
returns c = rw c.missing_days.ensures (days_worked_out c.args.year c.args.month (search rules) (search rules))
