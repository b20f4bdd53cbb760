use Rattle.page_window.proofs.Trees.{near_page, no_page}
use Rattle.page_window.proofs.windowing.window.Goals as goal

pub returns-in-Some-clause-near : goal.returns-in-Some-clause-near
returns-in-Some-clause-near c = near_page c.args.rect c.args.page.now.root c.in_ok-root.field-0 c.in_ok-root.ensures c.in-Some.root c.in-Some.is c.requires.near

pub returns-in-None-clause-window : goal.returns-in-None-clause-window
returns-in-None-clause-window c = no_page c.args.rect c.args.page.now.root c.in_ok-root.field-0 c.in_ok-root.ensures c.args.page.now.view c.in-None.is
