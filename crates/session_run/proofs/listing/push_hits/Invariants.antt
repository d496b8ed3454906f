use Rattle.std.proofs.Common.{◌≡◌, ◌++◌, map, take}
use Rattle.shell_lang.specs.Reply as line
use Rattle.shell_lang.specs.Reply.{text_of}
use Rattle.session_run.proofs.listing.push_hits.Given as goal

abbrev pub invariant-loop-id : goal.invariant-loop-id
invariant-loop-id l = l.out.items ≡ l.fn.out.items ++ text_of (map line.Hit (take l.id-index l.ids))
