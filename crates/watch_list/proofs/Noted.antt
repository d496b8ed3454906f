-- A watch over a commit.
use Rattle.std.proofs.Common.{◌≡◌, ◌+◌, ℕ}
use Rattle.smarts_parse.specs.Pattern.{pattern_of}
use Rattle.store_core.specs.Replies.{IsSoundChange}
use Rattle.store_core.specs.declared.words.Change.{Change as Asked}
use Rattle.store_machine.specs.Laws.{CommitsChange, SnapshotsStay}
use Rattle.watch_list.specs.Notes.{IsListAfter, IsNoted}
use Rattle.watch_list.specs.Watches.{Watch}
use Rattle.watch_list.proofs.Right.{OneStructure, stays-right}

-- one at the version before
pub brought : OneStructure → SnapshotsStay → CommitsChange → (version : ℕ) (change : Asked) (old new : Watch)
    → IsSoundChange change → old.version + 1 ≡ version → new.name ≡ old.name → new.pattern ≡ old.pattern
    → new.fills ≡ old.fills → new.version ≡ version → IsListAfter (pattern_of old.pattern) change old.hits new.hits
    → IsNoted version change old new
brought one stay make version change old new sound next name pattern fills at list = record {
  name = name;
  pattern = pattern;
  fills = fills;
  moved = λ _. record {
    version_is = at;
    list = list;
    right = stays-right one stay make version change old new sound next list;
  };
  other = λ other. absurd (other next);
}
