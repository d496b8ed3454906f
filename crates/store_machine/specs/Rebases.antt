-- Facts that stay if a history's base is moved to a later version.
use Rattle.std.specs.Prelude.{◌≡◌, ◌≤◌, List, ℕ}
use Rattle.std.specs.FinMap.{entries, from_entries}
use Rattle.store_machine.specs.History.{AreAllowed, IsHistory, Snapshot, base_states, grown, head, rebase, snapshot}
use Rattle.store_machine.specs.declared.machine.Change.{Change}
use Rattle.store_machine.specs.declared.machine.History.{History}

-- the snapshots from that version on
abbrev pub RebasesKeepSnapshots : Type 0
RebasesKeepSnapshots = (h : History) (d v : ℕ) → h.version ≤ d → d ≤ v → snapshot (rebase h d) v ≡ snapshot h v

abbrev pub RebasesKeepHeads : Type 0
RebasesKeepHeads = (h : History) (d : ℕ) → h.version ≤ d → d ≤ head h → head (rebase h d) ≡ head h

-- that each commit is allowed after those before it
abbrev pub AreAllowedIn : History → Type 0
AreAllowedIn h = AreAllowed h.version h.commits (base_states h)

abbrev pub RebasesKeepAllowed : Type 0
RebasesKeepAllowed = (h : History) (d : ℕ) → h.version ≤ d → d ≤ head h → AreAllowedIn h → AreAllowedIn (rebase h d)

-- commits may come before or after
abbrev pub RebasesGrow : Type 0
RebasesGrow = (h : History) (more : List Change) (d : ℕ) → d ≤ head h
    → rebase (grown h more) d ≡ grown (rebase h d) more

-- of two, the later says all
abbrev pub LaterRebasesStand : Type 0
LaterRebasesStand = (h : History) (d e : ℕ) → h.version ≤ d → d ≤ e → rebase (rebase h d) e ≡ rebase h e

-- the entries of a snapshot, as a base has them, are read to that snapshot
abbrev pub BasesReadBack : Type 0
BasesReadBack = (states : Snapshot) → from_entries (entries states) ≡ states

-- a base that is moved to its own version stays
abbrev pub RebasesStay : Type 0
RebasesStay = (h : History) → IsHistory h → rebase h h.version ≡ h
