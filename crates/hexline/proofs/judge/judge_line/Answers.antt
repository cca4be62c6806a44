use borrow.Author.Rules.{rules}
use Rattle.std.proofs.lemmas.Result.{err_from_is_err_and}
use Rattle.hexline.specs.JudgeLaws.{bad_digits, good_line}
use Rattle.hexline.proofs.judge.judge_line.Goals as goal

pub returns-in_err-sum : goal.returns-in_err-sum
returns-in_err-sum c =
    let p = err_from_is_err_and c.from_residual.result c.from_residual.ensures.1 in
    rw (p.1, p.2) (search (rules, bad_digits, c.in_err-sum.was))

pub returns : goal.returns
returns c = search (rules, good_line, c.in_ok-sum.was)
