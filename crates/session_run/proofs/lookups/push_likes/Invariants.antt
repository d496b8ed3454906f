use Rattle.std.proofs.Common.{◌≡◌, ◌++◌, map, take}
use Rattle.shell_lang.specs.Reply.{text_of}
use Rattle.session_acts.specs.Acts.{like_line}
use Rattle.session_run.proofs.lookups.push_likes.Given as goal

abbrev pub invariant-loop-like : goal.invariant-loop-like
invariant-loop-like l = l.out.items ≡ l.fn.out.items ++ text_of (map like_line (take l.like-index l.likes))
