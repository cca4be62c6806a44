use Rattle.std.proofs.Common.{rules}
use Rattle.std.proofs.lemmas.Result.{err_from_is_err_and}
use Rattle.hexline.specs.TypedLaws.{judged_good, judged_bad}
use Rattle.hexline.proofs.judge.judge_in_place.Goals as goal

pub returns-in_err-header : goal.returns-in_err-header
returns-in_err-header c =
    let p = err_from_is_err_and c.from_residual.result c.from_residual.ensures.1 in
    rw (p.1, p.2) (search (rules, judged_bad, c.in_err-header.was))

pub returns : goal.returns
returns c = search (rules, judged_good, c.in_ok-header.was)
