use borrow.Author.Rules.{rules}
use Rattle.hexlines.specs.DueLaws.{put_alike, due_taken_when}
use Rattle.hexlines.proofs.due.take_counted.Goals as goal

pub returns-in_err-sum : goal.returns-in_err-sum
returns-in_err-sum c = rw c.from_residual.ensures (search (rules, put_alike))

pub returns-then-byte_is : goal.returns-then-byte_is
returns-then-byte_is c =
    due_taken_when _ _ _ _ (search rules) (search rules) _ c.address_is.ensures (search rules)
    _ _ c.put_data.ensures _ c.in_ok-sum.was _ (rw c.from.ensures at c.byte_is.ensures) (search rules)

pub returns : goal.returns
returns c = search (rules, put_alike)
