use native.Mathlib.Omega.{arith}
use borrow.Author.Rules.{rules}
use Rattle.whole.specs.RoundedLaws.{rounded_of_zero, rounded_up, rounded_down}
use Rattle.whole.proofs.rounding.rounded_quotient.Goals as goal

pub returns-then-d-eq0 : goal.returns-then-d-eq0
returns-then-d-eq0 c = search (rules, rounded_of_zero)

pub returns-then-d-remainder : goal.returns-then-d-remainder
returns-then-d-remainder c = rounded_up _ _ (search rules) (omega arith)

pub returns : goal.returns
returns c = rounded_down _ _ (search rules) (omega arith)
