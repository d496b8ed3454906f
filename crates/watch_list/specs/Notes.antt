-- For callers: a watch after the commit of a version.
use Rattle.std.specs.Prelude.{◌≡◌, ◌≢◌, ◌↔◌, ◌+◌, ◌++◌, ◌∷◌, Contains, length, List, ℕ}
use Rattle.std.specs.Arc.{arc_value}
use Rattle.std.specs.List.Sorted.{IsStrictlyIncreasing}
use Rattle.smarts_parse.specs.Embedding.{Matches}
use Rattle.smarts_parse.specs.Pattern.{PatternTerm, pattern_of}
use Rattle.store_core.specs.Replies.{change_of}
use Rattle.store_core.specs.declared.words.Change.{Change as Asked}
use Rattle.store_core.specs.declared.words.Change.TheVariants as asked
use Rattle.store_machine.specs.Answers.{AreHits}
use Rattle.store_machine.specs.History.{id_of}
use Rattle.store_machine.specs.declared.machine.Change.{Change}
use Rattle.store_machine.specs.declared.machine.History.{History}
use Rattle.watch_list.specs.Watches.{Watch}

-- the history's commit that made this version is this change
pub record IsCommit (h : History) (version : ℕ) (change : Change) : Type 0 where
  pub before : List Change
  pub after : List Change
  pub commits : h.commits ≡ before ++ change ∷ after
  pub version_is : version ≡ h.version + length before + 1

-- the change leaves a record that the pattern matches
abbrev pub LeavesMatch : PatternTerm → Asked → Type 0
LeavesMatch pattern (asked.Register r) = Matches pattern (arc_value r).mol
LeavesMatch pattern (asked.Revise r) = Matches pattern (arc_value r).mol
LeavesMatch pattern (asked.Withdraw id) = ⊥

-- a list over a change: the change's identifier is in it exactly if the change leaves a record that the pattern
-- matches. Each other is as before
pub record IsListAfter (pattern : PatternTerm) (change : Asked) (old new : List ℕ) : Type 0 where
  pub ascending : IsStrictlyIncreasing new
  pub own : Contains new (id_of (change_of change)) ↔ LeavesMatch pattern change
  pub others : (id : ℕ) → id ≢ id_of (change_of change) → Contains new id ↔ Contains old id

-- if the list was the hits of the version before, it is those of this version. It is so in every history that has the
-- change as its commit
abbrev pub StaysRight : ℕ → Change → Watch → Watch → Type 0
StaysRight version change old new = (h : History) → IsCommit h version change
    → AreHits h old.version (pattern_of old.pattern) old.hits → AreHits h version (pattern_of old.pattern) new.hits

-- a watch brought over the commit of a version
pub record IsMoved (version : ℕ) (change : Asked) (old new : Watch) : Type 0 where
  pub version_is : new.version ≡ version
  pub list : IsListAfter (pattern_of old.pattern) change old.hits new.hits
  pub right : StaysRight version (change_of change) old new

-- a watch after the commit of a version: one at the version before is brought over it, any other is as it was
pub record IsNoted (version : ℕ) (change : Asked) (old new : Watch) : Type 0 where
  pub name : new.name ≡ old.name
  pub pattern : new.pattern ≡ old.pattern
  pub fills : new.fills ≡ old.fills
  pub moved : old.version + 1 ≡ version → IsMoved version change old new
  pub other : old.version + 1 ≢ version → new ≡ old
