use Rattle.std.proofs.Common.{rules, ap, ◌∙◌, Err}
use Rattle.std.proofs.lemmas.Result.{err_from_is_err_and}
use Rattle.panel.specs.LoadLaws.{text_refused, image_judged}
use Rattle.panel.proofs.loads.load.Goals as goal

pub returns-in_err-size : goal.returns-in_err-size
returns-in_err-size c =
    let p = err_from_is_err_and c.from_residual.result c.from_residual.ensures.1 in
    text_refused _ _ _ _ _ c.read.ensures _ _ c.in_err-size.was (p.1 ∙ ap Err p.2)

pub returns : goal.returns
returns c = image_judged _ _ _ _ _ c.read.ensures _ _ _ c.in_ok-size.was (search rules) c.keep_accepted.ensures
