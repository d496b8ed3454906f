-- The commits of a journal. For callers.
use Rattle.std.specs.Prelude.{◌≡◌, ◌⊎◌, ℕ, ◌+◌, List, [], ◌∷◌, ◌++◌, length, map}
use Rattle.std.specs.List.{AllByRecursion}
use Rattle.commit_log.specs.Change.{Change, change_of, written, IsInRange, IsNoChange}
use Rattle.commit_log.specs.declared.change.Commit.{Commit}
use Rattle.journal_core.specs.Records.{IsShort, body, prefix, text, Opens, Breaks}
use Rattle.journal_core.specs.declared.format.TheConstants.{OPEN}

-- the payloads of these changes
abbrev pub payloads : List Change → List (List ℕ)
payloads changes = map written changes

-- a change that a log may have
abbrev pub IsLogged : Change → Type 0
IsLogged change = IsInRange change × IsShort (written change)

-- After the front and the records of payloads that were read before, the bytes are a log of these changes. They open to
-- those payloads and the changes', and each change is in range.
pub record IsLog (front : List ℕ) (before : List (List ℕ)) (changes : List Change) (bytes : List ℕ) : Type 0 where
  pub opens : Opens front (before ++ payloads changes) bytes
  pub logged : AllByRecursion IsLogged changes

-- After open records of these payloads is one more, and no change in range is read from its payload.
pub record Unread (front : List ℕ) (payloads : List (List ℕ)) (bytes : List ℕ) : Type 0 where
  pub payload : List ℕ
  pub rest : List ℕ
  pub is : bytes ≡ prefix front payloads ++ OPEN ∷ (body payload ++ rest)
  pub fit : AllByRecursion IsShort payloads
  pub short : IsShort payload
  pub none : IsNoChange payload

-- The log is damaged at a place. After the front and the records of payloads that were read before, records of changes
-- lead up to it. The bytes there are broken or are not read.
pub record DamagesLog (front : List ℕ) (before : List (List ℕ)) (at : ℕ) (bytes : List ℕ) : Type 0 where
  pub changes : List Change
  pub logged : AllByRecursion IsLogged changes
  pub place : at ≡ length (prefix front (before ++ payloads changes))
  pub damage : Breaks front (before ++ payloads changes) bytes ⊎ Unread front (before ++ payloads changes) bytes

-- a whole file: the front, the records of these payloads and of these changes, and a closed gate
abbrev pub log_text : List ℕ → List (List ℕ) → List Change → List ℕ
log_text front before changes = text front (before ++ payloads changes)

abbrev pub changes_of : List Commit → List Change
changes_of commits = map (λ commit. change_of commit.wire) commits

-- each of these changes with the place of its gate, the first being at this one
abbrev pub placed : ℕ → List Change → List (ℕ × Change)
placed at [] = []
placed at (change ∷ changes) = (at, change) ∷ placed (at + 5 + length (written change)) changes

-- the place of the gate after them
abbrev pub end_of : ℕ → List Change → ℕ
end_of at [] = at
end_of at (change ∷ changes) = end_of (at + 5 + length (written change)) changes

-- Commits that were taken from one place on, up to another.
pub record Takes (start : ℕ) (commits : List Commit) (end : ℕ) : Type 0 where
  pub places : map (λ commit. (commit.at, change_of commit.wire)) commits ≡ placed start (changes_of commits)
  pub ends : end ≡ end_of start (changes_of commits)
  pub logged : AllByRecursion IsLogged (changes_of commits)
