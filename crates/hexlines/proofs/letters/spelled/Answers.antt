use borrow.Author.Rules.{rules}
use Rattle.hexlines.specs.LettersLaws.{upper_case_spelled, lower_case_spelled}
use Rattle.hexlines.proofs.letters.spelled.Goals as goal

pub returns-then-found-decimal : goal.returns-then-found-decimal
returns-then-found-decimal c = search (rules, upper_case_spelled)

pub returns : goal.returns
returns c = search (rules, lower_case_spelled)
