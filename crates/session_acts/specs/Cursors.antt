-- For callers: the calls of a session, and the cursors that are open in it.
use Rattle.std.specs.Prelude.{◌≡◌, ◌≢◌, ℕ, Bool, List, ◌∷◌, ◌++◌, length, map, All}
use Rattle.par_search.specs.Fetches.{AreFetches}
use Rattle.smarts_parse.specs.Pattern.{PatternTerm}
use Rattle.store_core.specs.Calls as core
use Rattle.store_machine.specs.Answers.{AreMatched}
use Rattle.store_machine.specs.Searches.{Place, At, fetched, records_of}
use Rattle.store_machine.specs.Structures.{IsNeedOf}
use Rattle.store_machine.specs.declared.machine.Event.{Event}
use Rattle.store_machine.specs.declared.machine.Event.TheVariants.{Unpin}
use Rattle.store_machine.specs.declared.machine.Reply.{Reply}
use Rattle.store_machine.specs.declared.machine.Reply.TheVariants.{Unpinned}
use Rattle.store_machine.specs.declared.machine.State.{State}
use Rattle.store_machine.specs.declared.machine.Step.{Step}

-- calls of the service with their replies, in order
abbrev pub Calls : Type 0
Calls = List (Event × Reply)

-- from one value of a service to a later one its caller's own calls are these
pub record Makes {S : Type 0} (at : S → State → Type 0) (owns : S → ℕ → Bool)
    (stretch : S → S → State → List Step → State → Type 0) (old new : S) (calls : Calls) : Type 0 where
  pub made : (s : State) → at old s → core.Calls stretch (owns old) old new s calls

-- An open cursor: its name, its pattern and the bits that this needs, its pin, and the place of its search. It counts
-- the identifiers that its pages tried and listed
pub record Cursor : Type 0 where
  pub name : List ℕ
  pub pattern : PatternTerm
  pub want : List Bool
  pub slot : ℕ
  pub version : ℕ
  pub place : Place
  pub tried : ℕ
  pub hits : ℕ

-- no cursor has the name
abbrev pub IsNoName : List Cursor → List ℕ → Type 0
IsNoName cursors name = All (λ c. c.name ≢ name) cursors

-- the cursor is among these
abbrev pub IsAmong : List Cursor → List Cursor → Cursor → List Cursor → Type 0
IsAmong cursors before c after = cursors ≡ before ++ c ∷ after

-- These calls are a search for a pattern by pages of a size, from the beginning to a place: `tried` identifiers were
-- tried, and these are the hits.
pub record IsSearched (pattern : PatternTerm) (slot size : ℕ) (place : Place) (pages : Calls) (tried : ℕ)
    (hits : List ℕ) : Type 0 where
  pub want : List Bool
  pub need : IsNeedOf pattern want
  pub fetches : AreFetches slot size want (At 0) pages place
  pub count : tried ≡ length (records_of (fetched slot pages))
  pub matched : AreMatched pattern (records_of (fetched slot pages)) hits

-- a pin for each cursor is given back
abbrev pub unpins : List Cursor → Calls
unpins cursors = map (λ c. (Unpin c.slot, Unpinned)) cursors
