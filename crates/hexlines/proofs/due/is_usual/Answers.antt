use mathlib.Core.Path.{refl}
use borrow.Author.Rules.{rules}
use Rattle.hexlines.specs.LettersLaws.{usual_start}
use Rattle.hexlines.specs.CountLaws.{usual_counted}
use Rattle.hexlines.proofs.due.is_usual.Goals as goal

pub returns : goal.returns
returns c =
    let start = usual_start _ _ (λ i. (c.shared_slice_known-1.given i).fits) c.at.ensures (search rules) in
    usual_counted _ _ (search rules) start refl
