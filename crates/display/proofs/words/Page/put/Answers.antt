use Rattle.std.proofs.Common.{◌++◌, ◌∙◌, ap, length, arith}
use Rattle.std.proofs.lemmas.Slice.{take-put_mid}
use Rattle.display.specs.Words.{printed}
use Rattle.display.proofs.words.Page.put.Goals as goal

pub returns-clause-words : goal.returns-clause-words
unfolding printed
returns-clause-words c =
    let after = c.copy_from_slice.ensures.after in
    let page = c.args.self.now in
    take-put_mid page.end _ page.bytes c.copy_from_slice.new.self _ (omega (arith, ap length after)) page.within ∙ ap (◌++◌ _) after
