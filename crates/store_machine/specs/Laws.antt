-- The laws, as statements.
use Rattle.std.specs.List.{AllByRecursion}
use Rattle.std.specs.FinMap.{get}
use Rattle.std.specs.Prelude.{Contains, ◌≡◌, ◌+◌, ◌++◌, ◌≤◌, Bool, List, [], ◌∷◌, MatchOption, Some, true, ℕ}
use Rattle.smarts_parse.specs.Pattern.{PatternTerm}
use Rattle.store_machine.specs.Answers.{AreFound, AreHits, AreMatched, AreTried, ids}
use Rattle.store_machine.specs.History.{IsHistory, IsId, Snapshot, after_change, grown, head, made_at, snapshot}
use Rattle.store_machine.specs.Kept.{BasesArePast, KeepsNeeded, PinsThePast, in_use}
use Rattle.store_machine.specs.Made.{KeepsMade, ReadsKept}
use Rattle.store_machine.specs.Machine.{Holds, MayAdd, SlotsApart}
use Rattle.store_machine.specs.Runs.{IsCalm, IsRun, calls_of}
use Rattle.store_machine.specs.Searches.{ArePieces, At, End, IsSearch, KeepsPin, Place, ahead, fetched, records_of}
use Rattle.store_machine.specs.Structures.{IsNeedOf, IsScreened, Screens}
use Rattle.store_machine.specs.declared.machine.Change.{Change}
use Rattle.store_machine.specs.declared.machine.Event.TheVariants.{Pin}
use Rattle.store_machine.specs.declared.machine.Found.{Found}
use Rattle.store_machine.specs.declared.machine.History.{History}
use Rattle.store_machine.specs.declared.machine.Reply.TheVariants.{Pinned}
use Rattle.store_machine.specs.declared.machine.State.{State}
use Rattle.store_machine.specs.declared.machine.Status.{Status}
use Rattle.store_machine.specs.declared.machine.Step.{Step}

-- later commits change no snapshot
abbrev pub SnapshotsStay : Type 0
SnapshotsStay = (h : History) (more : List Change) (v : ℕ) → v ≤ head h → snapshot (grown h more) v ≡ snapshot h v

-- a commit at the head makes its own change
abbrev pub CommitsChange : Type 0
CommitsChange = (h : History) (c : Change) → snapshot (grown h (c ∷ [])) (head h + 1)
    ≡ after_change (head h + 1) c (snapshot h (head h))

-- a state was the same at the version that made it, and the identifier is in range. That version is no later than the
-- snapshot's, if the base is not
abbrev pub StatesStay : Type 0
StatesStay = (h : History) (v id : ℕ) (status : Status) → IsHistory h → get (snapshot h v) id ≡ Some status
    → IsId id × (1 ≤ made_at status) × (h.version ≤ v → made_at status ≤ v) × (get (snapshot h (made_at status)) id ≡ Some status)

-- the records that are found are one list
abbrev pub AnswersAreOne : Type 0
AnswersAreOne = (want : List Bool) (states : Snapshot) (xs ys : List Found) → AreFound (IsScreened want) states xs
    → AreFound (IsScreened want) states ys → xs ≡ ys

-- a state as it is in every run that begins so
pub record IsSound (s : State) : Type 0 where
  pub history : IsHistory s.history
  pub doubt : MatchOption s.doubt (Unit {0}) (MayAdd s)
  pub slots : SlotsApart s.pins
  pub pins : PinsThePast s
  pub bases : BasesArePast s
  pub kept : s.serves ≡ true → KeepsNeeded s
  pub made : s.serves ≡ true → KeepsMade s

abbrev pub RunsStaySound : Type 0
RunsStaySound = (s s' : State) (steps : List Step) → IsRun s steps s' → IsSound s → IsSound s'

-- the history at the end of a run without a crash is that at its start with more commits after it
abbrev pub RunsGrow : Type 0
RunsGrow = (s s' : State) (steps : List Step) → IsRun s steps s' → IsCalm steps → (more : List Change)
    × (s'.history ≡ grown s.history more)

-- at each version in use, the latest kept entry is the state
abbrev pub KeptIsRead : Type 0
KeptIsRead = (s : State) (v id : ℕ) → IsSound s → s.serves ≡ true → Contains (in_use s) v → ReadsKept s v id

-- a pin is held until its owner's Unpin
abbrev pub PinsStay : Type 0
PinsStay = (s s' : State) (steps : List Step) (own : ℕ → Bool) (slot owner version : ℕ)
    → IsRun s steps s' → IsCalm steps → own owner ≡ true → Holds s slot owner version
    → KeepsPin slot (calls_of own steps) → Holds s' slot owner version

-- a step by which the caller takes the pin at the head
pub record TakesPin (own : ℕ → Bool) (x : Step) (slot version : ℕ) : Type 0 where
  pub by : own x.owner ≡ true
  pub event : x.event ≡ Pin
  pub reply : x.reply ≡ Pinned slot version

-- a part of a run without a crash that begins with a Pin; the pin's fetches are a search from one place to another
pub record Searching (own : ℕ → Bool) (pin : Step) (steps : List Step) (slot version : ℕ) (want : List Bool)
    (place place' : Place) : Type 0 where
  pub after : State
  pub run : IsRun pin.before (pin ∷ steps) after
  pub calm : IsCalm steps
  pub takes : TakesPin own pin slot version
  pub keeps : KeepsPin slot (calls_of own steps)
  pub search : IsSearch want place (fetched slot (calls_of own steps)) place'

-- the version is the head at the Pin. The records of the pages so far and those ahead are together those of the
-- snapshot from the start on
abbrev pub PagesAreAPrefix : Type 0
PagesAreAPrefix = (own : ℕ → Bool) (pin : Step) (steps : List Step) (slot version : ℕ) (want : List Bool)
    (place place' : Place)
    → Searching own pin steps slot version want place place'
    → (version ≡ head pin.before.history)
    × ((all : List Found) → AreFound (IsScreened want) (snapshot pin.before.history version) all
    → records_of (fetched slot (calls_of own steps)) ++ ahead place' all ≡ ahead place all)

-- with one limit, the k-th page is the k-th piece of the records found at the Pin, even before the search has ended
abbrev pub PagesArePieces : Type 0
PagesArePieces = (own : ℕ → Bool) (pin : Step) (steps : List Step) (slot version from size : ℕ) (want : List Bool)
    (place' : Place)
    → IsHistory pin.before.history → from ≤ 1 → Searching own pin steps slot version want (At from) place'
    → AllByRecursion (λ f. f.limit ≡ size) (fetched slot (calls_of own steps))
    → (all : List Found) → AreFound (IsScreened want) (snapshot pin.before.history version) all
    → ArePieces size all (fetched slot (calls_of own steps))

-- a search from identifier 0 or 1 to its end lists exactly the answers at the Pin: all that are tried, and, matched,
-- all hits
abbrev pub PagesAreTheAnswer : Type 0
PagesAreTheAnswer = (own : ℕ → Bool) (pin : Step) (steps : List Step) (slot version from : ℕ) (want : List Bool)
    → IsHistory pin.before.history → from ≤ 1 → Searching own pin steps slot version want (At from) End
    → (version ≡ head pin.before.history)
    × AreTried pin.before.history version want (ids (records_of (fetched slot (calls_of own steps))))
    × ((pattern : PatternTerm) (hits : List ℕ) → Screens pattern want
    → AreMatched pattern (records_of (fetched slot (calls_of own steps))) hits
    → AreHits pin.before.history version pattern hits)

-- the need of a pattern rules out no structure that it matches
abbrev pub NeedsScreen : Type 0
NeedsScreen = (pattern : PatternTerm) (want : List Bool) → IsNeedOf pattern want → Screens pattern want
