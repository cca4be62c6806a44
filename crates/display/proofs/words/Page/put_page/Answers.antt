use Rattle.std.proofs.Common.{rules}
use Rattle.display.specs.PageLaws.{refusal_printed}
use Rattle.display.proofs.words.Page.put_page.Goals as goal

pub returns-in-Err : goal.returns-in-Err
returns-in-Err c = search (rules, refusal_printed)
