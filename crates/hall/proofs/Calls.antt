-- A call of a store is one event with its reply, or none where it is answered as worn.
use Rattle.std.proofs.Common.{◌≡◌, Bool, Err, false, [], ◌∷◌, Ok, refl, Result, subst, true, ℕ}
use Rattle.store_machine.specs.declared.machine.Event.{Event}
use Rattle.store_machine.specs.declared.machine.Event.TheVariants as event
use Rattle.store_machine.specs.declared.machine.Reply.{Reply}
use Rattle.store_machine.specs.declared.machine.Reply.TheVariants as reply
use Rattle.store_core.specs.Calls.{is_compact_worn, is_worn, is_worn_out}
use Rattle.store_core.specs.Replies.{calls, change_of, commit_calls, compact_calls}
use Rattle.store_core.specs.declared.words.CallFault.{CallFault}
use Rattle.store_core.specs.declared.words.CallFault.TheVariants as call
use Rattle.store_core.specs.declared.words.Change.{Change as Asked}
use Rattle.store_core.specs.declared.words.CommitFault.{CommitFault}
use Rattle.store_core.specs.declared.words.CommitFault.TheVariants as commit
use Rattle.store_core.specs.declared.words.Compact.{Compact}
use Rattle.store_core.specs.declared.words.Compact.TheVariants as compact
use Rattle.store_core.specs.declared.words.CompactFault.{CompactFault}
use Rattle.store_core.specs.declared.words.CompactFault.TheVariants as fault
use Rattle.hall.specs.Answers.{TheCalls}

-- no event where it is answered as worn, and else this one
abbrev pub IsCall : Event → TheCalls → Bool → Type 0
IsCall e cs true = cs ≡ []
IsCall e cs false = (r : Reply) × (cs ≡ (e, r) ∷ [])

pub commit-call : (c : Asked) (a : Result ℕ CommitFault)
    → IsCall (event.Commit (change_of c)) (commit_calls c a) (is_worn_out a)
commit-call c (Ok version) = (reply.Committed version, refl)
commit-call c (Err commit.Known) = (reply.Known, refl)
commit-call c (Err commit.Absent) = (reply.Absent, refl)
commit-call c (Err commit.Withdrawn) = (reply.Withdrawn, refl)
commit-call c (Err commit.Full) = (reply.Full, refl)
commit-call c (Err (commit.DiskFault doubt)) = (reply.DiskFault doubt, refl)
commit-call c (Err commit.Worn) = refl
commit-call c (Err commit.NoMemory) = (reply.NoMemory, refl)

pub compact-call : (a : Result Compact CompactFault) → IsCall event.Compact (compact_calls a) (is_compact_worn a)
compact-call (Ok (compact.More left)) = (reply.More left, refl)
compact-call (Ok (compact.Done generation)) = (reply.Done generation, refl)
compact-call (Err fault.Last) = (reply.Last, refl)
compact-call (Err (fault.DiskFault doubt)) = (reply.DiskFault doubt, refl)
compact-call (Err fault.Worn) = refl
compact-call (Err fault.NoMemory) = (reply.NoMemory, refl)

pub other-call : {X : Type 0} (e : Event) (of : X → Reply) (a : Result X CallFault)
    → IsCall e (calls e of a) (is_worn a)
other-call e of (Ok x) = (of x, refl)
other-call e of (Err call.Worn) = refl
other-call e of (Err call.NoMemory) = (reply.NoMemory, refl)

pub one-event : (e : Event) (cs : TheCalls) (worn : Bool) → IsCall e cs worn → worn ≡ false
    → (r : Reply) × (cs ≡ (e, r) ∷ [])
one-event e cs worn is not_worn = subst (IsCall e cs) not_worn is
