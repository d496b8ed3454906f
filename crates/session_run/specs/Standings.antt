-- For private clauses alone: the state of a responder, as contracts of callers see it, and watches over a commit.
use Rattle.std.specs.Prelude.{◌≡◌, Err, List, map, Ok, Result, ℕ}
use Rattle.smarts_parse.specs.Pattern.{pattern_of}
use Rattle.store_core.specs.declared.words.CommitFault.{CommitFault}
use Rattle.store_machine.specs.declared.machine.Change.{Change}
use Rattle.watch_list.specs.Watches.{Watch}
use Rattle.session_acts.specs.Acts.{Lines}
use Rattle.session_acts.specs.Cursors.{Calls, Cursor}
use Rattle.session_acts.specs.Watching.{AfterCalls, AreNoted, Standing, Watched}
use Rattle.session_run.specs.Opened.{opened}
use Rattle.session_run.specs.Walks.{cursors_of}
use Rattle.session_run.specs.declared.respond.Responder.{Responder}

abbrev pub watched : Watch → Watched
watched w = record {
  name = w.name;
  pattern = pattern_of w.pattern;
  version = w.version;
  hits = w.hits;
  rebuilt = w.fills;
}

abbrev pub watched_all : List Watch → List Watched
watched_all watches = map watched watches

abbrev pub both : List Cursor → List Watched → Standing
both cursors watches = record { cursors = cursors; watches = watches }

abbrev pub standing_of : Responder → Standing
standing_of r = both (cursors_of (opened r.cursors)) (watched_all r.watches.watches)

-- watches after a commit, by its answer
abbrev pub IsNotedBy : Result ℕ CommitFault → Change → List Watched → List Watched → Type 0
IsNotedBy (Ok version) change old new = AreNoted version change old new
IsNotedBy (Err fault) change old new = new ≡ old

-- `Is` holds of the calls and lines, and the watches follow the commits among the calls
abbrev pub Keeps : (Calls → Lines → Type 0) → List Watched → Calls → Lines → List Watched → Type 0
Keeps Is old calls lines new = Is calls lines × AfterCalls calls old new
