-- A change that a store in memory is ready to make, and why it refuses one. For callers.
use Rattle.std.specs.Prelude.{◌≡◌, ◌≤◌, Some}
use Rattle.store_machine.specs.History.{IsAllowed, head, id_of, refusal}
use Rattle.store_machine.specs.Machine.{MayAdd, now}
use Rattle.store_machine.specs.declared.machine.Change.{Change}
use Rattle.store_machine.specs.declared.machine.Reply.TheVariants as reply
use Rattle.store_machine.specs.declared.machine.State.{State}
use Rattle.store_core.specs.Kept.{HasRoom}
use Rattle.store_core.specs.Replies.{change_of, left_by}
use Rattle.store_core.specs.Stored.{StandsFor, StoreTerm, served}
use Rattle.store_core.specs.declared.words.Change.{Change as Asked}
use Rattle.store_core.specs.declared.words.CommitFault.{CommitFault}
use Rattle.store_core.specs.declared.words.CommitFault.TheVariants as commit

-- why a change is not committed, by the state; memory is wanted only for a change that may be added
abbrev pub IsWhy : State → Change → CommitFault → Type 0
IsWhy s c commit.Known = refusal (now s) c ≡ Some reply.Known
IsWhy s c commit.Absent = refusal (now s) c ≡ Some reply.Absent
IsWhy s c commit.Withdrawn = refusal (now s) c ≡ Some reply.Withdrawn
IsWhy s c commit.Full = IsAllowed (now s) c × (s.limit ≤ head s.history)
IsWhy s c (commit.DiskFault doubt) = ⊥
IsWhy s c commit.Worn = ⊥
IsWhy s c commit.NoMemory = MayAdd s c

-- the change may be added, and its memory was taken
pub record IsPrepared (store : StoreTerm) (c : Asked) : Type 0 where
  pub may_add : (s : State) → StandsFor store (served s) → MayAdd s (change_of c)
  pub room : HasRoom (id_of (change_of c)) (left_by c) store.kept
