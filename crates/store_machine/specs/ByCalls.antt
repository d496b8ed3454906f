-- The law of pages as a session cites it: by its own calls in a run, and by the history at the run's end.
use Rattle.std.specs.Prelude.{◌≡◌, ◌≢◌, [], ◌++◌, ◌≤◌, Bool, List, ◌∷◌, ℕ}
use Rattle.std.specs.List.{AllByRecursion}
use Rattle.smarts_parse.specs.Pattern.{PatternTerm}
use Rattle.store_machine.specs.Answers.{AreFound, AreHits, AreMatched, AreTried, ids}
use Rattle.store_machine.specs.History.{head, snapshot}
use Rattle.store_machine.specs.Laws.{IsSound}
use Rattle.store_machine.specs.Runs.{IsCalm, IsRun, calls_of}
use Rattle.store_machine.specs.Searches.{ArePieces, At, End, IsSearch, KeepsPin, Place, ahead, fetched, records_of}
use Rattle.store_machine.specs.Structures.{IsScreened, Screens}
use Rattle.store_machine.specs.declared.machine.Event.{Event}
use Rattle.store_machine.specs.declared.machine.Event.TheVariants.{Pin}
use Rattle.store_machine.specs.declared.machine.Found.{Found}
use Rattle.store_machine.specs.declared.machine.Reply.{Reply}
use Rattle.store_machine.specs.declared.machine.Reply.TheVariants.{Pinned}
use Rattle.store_machine.specs.declared.machine.State.{State}
use Rattle.store_machine.specs.declared.machine.Step.{Step}

-- the caller's calls are any, a Pin, and calls that do not give the pin back and whose pages are those of a search
pub record Calls (slot version : ℕ) (want : List Bool) (from : ℕ) (place : Place)
    (calls pages : List (Event × Reply)) : Type 0 where
  pub before : List (Event × Reply)
  pub own : calls ≡ before ++ (Pin, Pinned slot version) ∷ pages
  pub keeps : KeepsPin slot pages
  pub search : IsSearch want (At from) (fetched slot pages) place

-- the pages so far are the beginning, piece by piece, of the records found at the version, and at the end all of them;
-- once there is a page, there is a list of the records found
pub record Pages (s s' : State) (slot version : ℕ) (want : List Bool) (place : Place)
    (pages : List (Event × Reply)) : Type 0 where
  pub not_before : head s.history ≤ version
  pub not_after : version ≤ head s'.history
  pub there : fetched slot pages ≢ []
      → (all : List Found) × AreFound (IsScreened want) (snapshot s'.history version) all
  pub so_far : (all : List Found) → AreFound (IsScreened want) (snapshot s'.history version) all
      → records_of (fetched slot pages) ++ ahead place all ≡ all
  pub pieces : (all : List Found) (size : ℕ) → AreFound (IsScreened want) (snapshot s'.history version) all
      → AllByRecursion (λ f. f.limit ≡ size) (fetched slot pages) → ArePieces size all (fetched slot pages)
  pub found : place ≡ End → AreFound (IsScreened want) (snapshot s'.history version) (records_of (fetched slot pages))
  pub tried : place ≡ End → AreTried s'.history version want (ids (records_of (fetched slot pages)))
  pub hits : place ≡ End → (pattern : PatternTerm) (hits : List ℕ) → Screens pattern want
      → AreMatched pattern (records_of (fetched slot pages)) hits → AreHits s'.history version pattern hits

abbrev pub CallsGivePages : Type 0
CallsGivePages = (s s' : State) (steps : List Step) (own : ℕ → Bool) (slot version from : ℕ) (want : List Bool)
    (place : Place) (pages : List (Event × Reply))
    → IsSound s → IsRun s steps s' → IsCalm steps → from ≤ 1
    → Calls slot version want from place (calls_of own steps) pages
    → Pages s s' slot version want place pages
