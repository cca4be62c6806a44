use borrow.Author.Rules.{rules}
use Rattle.hexlines.specs.LettersLaws.{byte_is_due}
use Rattle.hexlines.proofs.letters.byte_is.Goals as goal

pub returns : goal.returns
returns c =
    byte_is_due _ (search rules) _ _ _ (λ i. (c.shared_slice_known-1.given i).fits) c.at.ensures _ (rw c.from.ensures at c.spelled.ensures)
