use Rattle.std.proofs.Common.{refl}
use Rattle.session_run.specs.Opened.{named}
use Rattle.session_run.proofs.Listed.{page_size}
use Rattle.session_run.proofs.Moved.{next_answered}
use Rattle.session_run.proofs.cursors.next_page.Goals as goal

pub returns-clause-answered : goal.returns-clause-answered
returns-clause-answered g c name =
    next_answered _ _ (named (name, c.args.walk.now)) (named (name, c.page-page.new.self)) _ _ _ refl c.page-page.result c.say_page.result c.page-page.ensures.pages c.page-page.ensures.counts
    (c.say_page.ensures name)

pub returns-clause-size : goal.returns-clause-size
returns-clause-size g c = page_size _ _ _ _ _ _ c.page-page.result c.page-page.ensures.pages
