use Rattle.std.proofs.Common.{rules}
use Rattle.display.specs.PageLaws.{page_shown}
use Rattle.display.proofs.show.Goals as goal

pub returns-clause-page : goal.returns-clause-page
returns-clause-page c =
    page_shown _ c.empty-printed.result c.put_page.new.self c.empty-printed.ensures.end c.put_page.ensures c.args.page.now _ c.clear_from.ensures (search rules)
