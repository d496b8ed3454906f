-- The history of commits, the state of each identifier at each version, and the changes that are allowed. A history is
-- a base, at a version, and the commits after it, each of which makes the next version.
use Rattle.std.specs.Prelude.{◌≡◌, ◌+◌, ◌++◌, ◌-◌, ◌≤◌, List, [], ◌∷◌, None, Option, Some, drop, length, take, ℕ}
use Rattle.std.specs.FinMap.{FinMap, entries, from_entries, get, insert}
use Rattle.std.specs.Ordering.{nat_cmp}
use Rattle.store_machine.specs.Structures.{IsText}
use Rattle.store_machine.specs.declared.machine.Change.{Change}
use Rattle.store_machine.specs.declared.machine.Change.TheVariants.{Register, Revise, Withdraw}
use Rattle.store_machine.specs.declared.machine.History.{History}
use Rattle.store_machine.specs.declared.machine.Reply.{Reply}
use Rattle.store_machine.specs.declared.machine.Reply.TheVariants as reply
use Rattle.store_machine.specs.declared.machine.Status.{Status}
use Rattle.store_machine.specs.declared.machine.Status.TheVariants.{Live, Withdrawn}
use Rattle.store_machine.specs.declared.machine.TheConstants.{LAST_IDENTIFIER}

-- the version of the commit that made a state
abbrev pub made_at : Status → ℕ
made_at (Live version format text) = version
made_at (Withdrawn version) = version

-- the states of all identifiers that have one
abbrev pub Snapshot : Type 0
Snapshot = FinMap nat_cmp Status

-- after the change whose commit is this version
abbrev pub after_change : ℕ → Change → Snapshot → Snapshot
after_change version (Register id format text) states = insert states id (Live version format text)
after_change version (Revise id format text) states = insert states id (Live version format text)
after_change version (Withdraw id) states = insert states id (Withdrawn version)

-- after these changes, the first of which makes the version after this one
abbrev pub after_changes : ℕ → List Change → Snapshot → Snapshot
after_changes version [] states = states
after_changes version (c ∷ cs) states = after_changes (version + 1) cs (after_change (version + 1) c states)

abbrev pub base_states : History → Snapshot
base_states h = from_entries h.base

-- the states at a version; below the base's it is the base
abbrev pub snapshot : History → ℕ → Snapshot
snapshot h v = after_changes h.version (take (v - h.version) h.commits) (base_states h)

abbrev pub head : History → ℕ
head h = h.version + length h.commits

-- a history without a base, and one in which nothing was committed
abbrev pub of_commits : List Change → History
of_commits commits = record { base = []; version = 0; commits = commits }

abbrev pub begun : History
begun = of_commits []

-- with more commits after it
abbrev pub grown : History → List Change → History
grown h more = record h { commits = h.commits ++ more }

-- with its base moved to a version
abbrev pub rebase : History → ℕ → History
rebase h d = record { base = entries (snapshot h d); version = d; commits = drop (d - h.version) h.commits }

-- why a change is refused, if it is: a register needs an identifier without a state, every other change a live one
abbrev pub unless_none : Option Status → Option Reply
unless_none None = None
unless_none (Some status) = Some reply.Known

abbrev pub unless_live : Option Status → Option Reply
unless_live None = Some reply.Absent
unless_live (Some (Live version format text)) = None
unless_live (Some (Withdrawn version)) = Some reply.Withdrawn

abbrev pub refusal : Snapshot → Change → Option Reply
refusal states (Register id format text) = unless_none (get states id)
refusal states (Revise id format text) = unless_live (get states id)
refusal states (Withdraw id) = unless_live (get states id)

abbrev pub IsAllowed : Snapshot → Change → Type 0
IsAllowed states c = refusal states c ≡ None

abbrev pub id_of : Change → ℕ
id_of (Register id format text) = id
id_of (Revise id format text) = id
id_of (Withdraw id) = id

-- an identifier in range
abbrev pub IsId : ℕ → Type 0
IsId id = (1 ≤ id) × (id ≤ LAST_IDENTIFIER)

-- the identifier is in range, and the text has a structure
abbrev pub IsValid : Change → Type 0
IsValid (Register id format text) = IsId id × IsText format text
IsValid (Revise id format text) = IsId id × IsText format text
IsValid (Withdraw id) = IsId id

-- each commit is valid, and allowed after those before it
abbrev pub AreAllowed : ℕ → List Change → Snapshot → Type 0
AreAllowed version [] states = Unit {0}
AreAllowed version (c ∷ cs) states = IsValid c × IsAllowed states c
    × AreAllowed (version + 1) cs (after_change (version + 1) c states)

-- the text of a live state has a structure
abbrev pub HasText : Status → Type 0
HasText (Live version format text) = IsText format text
HasText (Withdrawn version) = Unit {0}

-- a state that a base at a version may have of an identifier
pub record IsBased (at id : ℕ) (status : Status) : Type 0 where
  pub in_range : IsId id
  pub since : 1 ≤ made_at status
  pub until : made_at status ≤ at
  pub text : HasText status

-- the base has each identifier once, ascending, with a state that it may have; each commit is valid, and allowed after
-- those before it
pub record IsHistory (h : History) : Type 0 where
  pub base : entries (base_states h) ≡ h.base
  pub states : (id : ℕ) (status : Status) → get (base_states h) id ≡ Some status → IsBased h.version id status
  pub allowed : AreAllowed h.version h.commits (base_states h)
