-- The law of a search's hits, by its caller's own calls in a run and by the history at the run's end.
use Rattle.std.specs.Prelude.{Bool, List, ℕ}
use Rattle.smarts_parse.specs.Pattern.{PatternTerm}
use Rattle.store_machine.specs.Answers.{AreHits, AreMatched, AreTried, ids}
use Rattle.store_machine.specs.ByCalls.{Calls}
use Rattle.store_machine.specs.Laws.{IsSound}
use Rattle.store_machine.specs.Runs.{IsCalm, IsRun, calls_of}
use Rattle.store_machine.specs.Searches.{End, fetched, records_of}
use Rattle.store_machine.specs.Structures.{IsNeedOf}
use Rattle.store_machine.specs.declared.machine.Event.{Event}
use Rattle.store_machine.specs.declared.machine.Reply.{Reply}
use Rattle.store_machine.specs.declared.machine.State.{State}
use Rattle.store_machine.specs.declared.machine.Step.{Step}

abbrev pub PagesAreHits : Type 0
PagesAreHits =
    (s s' : State) (steps : List Step) (own : ℕ → Bool) (slot version : ℕ) (pattern : PatternTerm) (want : List Bool)
    (pages : List (Event × Reply)) (hits : List ℕ)
    → IsSound s → IsRun s steps s' → IsCalm steps → Calls slot version want 0 End (calls_of own steps) pages
    → IsNeedOf pattern want
    → AreMatched pattern (records_of (fetched slot pages)) hits
    → AreHits s'.history version pattern hits × AreTried s'.history version want (ids (records_of (fetched slot pages)))
