use borrow.Author.Rules.{rules}
use Rattle.hexlines.specs.LettersLaws.{address_is_due}
use Rattle.hexlines.proofs.letters.address_is.Goals as goal

pub returns : goal.returns
returns c =
    address_is_due _ (search rules) _ (λ i. (c.shared_slice_known-1.given i).fits) _ c.at.ensures (search rules)
    _ c.at-2.ensures _ c.spelled.ensures
