use Rattle.std.proofs.Common.{[], List, subst}
use Rattle.shell_lang.specs.Reply as line
use Rattle.store_core.specs.Replies.{change_of}
use Rattle.store_machine.specs.declared.machine.Change.{Change}
use Rattle.watch_list.specs.Watches.{Watch}
use Rattle.session_acts.specs.Acts.{Fault}
use Rattle.session_run.specs.Standings.{IsNotedBy, watched_all}
use Rattle.session_run.proofs.Joined.{uses-none}
use Rattle.session_run.proofs.Lines.{said}
use Rattle.session_run.proofs.Noting.{committed, same_watches}
use Rattle.session_run.proofs.Standing.{rests}
use Rattle.session_run.proofs.commands.commit.Goals as goal

pub returns-in_default : goal.returns-in_default
returns-in_default g c size cursors =
    same_watches c.args.watches.now.watches c.prepare.new.watches.watches c.prepare.ensures.watches
    (said [] line.MemoryFault c.say.result (uses-none g.met.S.Service.stays c.args.service.now) (rests Fault tt)
    c.say.ensures)

pub returns : goal.returns
returns g c size cursors =
    let old = watched_all c.args.watches.now.watches in
    let new = watched_all c.note.new.watches.watches in
    let answer = c.commit-answer.result in
    let noted : IsNotedBy answer (change_of c.args.change) old new =
    subst (λ (d : Change). IsNotedBy answer d old new) c.in-Ok.ensures.change
    (subst (λ (l : List Watch). IsNotedBy answer (change_of c.in-Ok.second) (watched_all l) new)
    c.prepare.ensures.watches c.note.ensures) in
    committed c.args.change answer old new c.commit_line.result c.say_given.result c.commit-answer.ensures.call
    c.commit-answer.ensures.held c.commit-answer.ensures.bounds c.commit-answer.ensures.worn.1
    (c.commit_line.ensures c.args.change) noted c.say_given.ensures
