use Rattle.std.proofs.Common.{subst, sym, ℕ}
use Rattle.store_core.specs.Replies.{change_of}
use Rattle.session_acts.specs.Watching.{AreNoted}
use Rattle.session_run.specs.Standings.{watched_all}
use Rattle.session_run.proofs.Noting.{are_noted, none_noted}
use Rattle.session_run.proofs.commands.note_version.Goals as goal

pub returns-then-is_none : goal.returns-then-is_none
returns-then-is_none c =
    let change = change_of c.args.change.now in
    let w = watched_all c.args.watches.now.watches in
    subst (λ (n : ℕ). AreNoted n change w w) (sym c.if-is_none.true) (none_noted change w)

pub returns : goal.returns
returns c =
    are_noted c.one_structure.ensures c.args.version c.args.change.now c.args.watches.now.watches _
    c.change_is_sound.ensures c.note.ensures
