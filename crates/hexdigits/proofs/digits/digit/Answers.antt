use Rattle.std.proofs.Common.{rules}
use Rattle.hexdigits.specs.DigitsLaws.{decimal_digit, upper_case_digit, lower_case_digit, no_digit}
use Rattle.hexdigits.proofs.digits.digit.Goals as goal

pub returns-then-in_range : goal.returns-then-in_range
returns-then-in_range c = search (rules, decimal_digit)

pub returns-then-in_range-2 : goal.returns-then-in_range-2
returns-then-in_range-2 c = search (rules, upper_case_digit)

pub returns-then-in_range-3 : goal.returns-then-in_range-3
returns-then-in_range-3 c = search (rules, lower_case_digit)

pub returns : goal.returns
returns c = search (rules, no_digit)
