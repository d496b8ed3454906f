use Rattle.session_run.specs.Opened.{named}
use Rattle.session_run.specs.Walks.{cursor_of}
use Rattle.session_run.proofs.Moved.{end_said}
use Rattle.session_run.proofs.cursors.say_page.Goals as goal

pub returns-in-Ok : goal.returns-in-Ok
returns-in-Ok c name =
    rw c.in-Ok.is (end_said (cursor_of (named (name, c.args.walk.now))) c.in-Ok.shown c.args.out.now.items
    c.end_page.new.out.items c.end_page.result (c.end_page.ensures.ok name) c.end_page.ensures.err)
