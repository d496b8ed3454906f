-- For private clauses alone: the laws of a drill as what talks.
use Rattle.std.proofs.Common.{◌≡◌, ◌∙◌, ℕ, List, [], ◌∷◌, ◌++◌, Option, None, Some, refl, sym, ap, ap₂, subst, append-nil}
use Rattle.io_edge.specs.Lines.{TextLine}
use Rattle.session_acts.specs.Cursors.{Calls}
use Rattle.session_acts.specs.Pins.{AreHeld}
use Rattle.store_core.specs.Stored.{HoldsPin}
use Rattle.store_disk.specs.InMemory.{StandsInMemory}
use Rattle.store_machine.proofs.Joins.{runs-join}
use Rattle.store_machine.specs.declared.machine.State.{State}
use Rattle.store_machine.specs.declared.machine.Step.{Step}
use Rattle.drill_run.specs.Acts.{AllKept, all_of}
use Rattle.drill_run.specs.Runs.{RunsTo, events_of}
use Rattle.drill_run.specs.Talking.{Kept}
use Rattle.drill_run.specs.Talks.{AreReady, CanClose, IsDrilling, Made, WorldTerm}
use Rattle.drill_run.specs.declared.sessions.Sessions.{Sessions}

events-append : (xs ys : List Step) → events_of (xs ++ ys) ≡ events_of xs ++ events_of ys
events-append [] ys = refl
events-append (x ∷ xs) ys = ap (λ (l : Calls). (x.event, x.reply) ∷ l) (events-append xs ys)

-- one run behind another
pub runs-more : (old mid : WorldTerm) (calls more : Calls) (P : State → Type 0) → RunsTo old calls (StandsInMemory mid)
    → RunsTo mid more P → RunsTo old (calls ++ more) P
runs-more old mid calls more P first next = λ s at.
    let f = first s at in
    let n = next f.1 f.4 in (
      f.0 ++ n.0,
      n.1,
      runs-join f.0 n.0 s f.1 n.1 f.2 n.2,
      events-append f.0 n.0 ∙ ap₂ (λ (x y : Calls). x ++ y) f.3 n.3,
      n.4,
    )

-- a run without events
pub runs-none : (old : WorldTerm) (P : State → Type 0) → ((s : State) → StandsInMemory old s → P s) → RunsTo old [] P
runs-none old P h = λ s at. ([], s, refl, refl, h s at)

pub made_none : (slot : Option WorldTerm) → Made slot slot []
made_none None = refl
made_none (Some world) = runs-none world (StandsInMemory world) (λ s h. h)

pub made_more : (a b c : Option WorldTerm) (xs ys : Calls) → Made a b xs → Made b c ys → Made a c (xs ++ ys)
made_more None None None xs ys h k = ap₂ (λ (x y : Calls). x ++ y) h k
made_more None None (Some u) xs ys h k = absurd k
made_more None (Some v) c xs ys h k = absurd h
made_more (Some w) None None xs ys h k =
    subst (λ (l : Calls). Made (Some w) None (xs ++ l)) (sym k) (subst (Made (Some w) None) (sym (append-nil xs)) h)
made_more (Some w) None (Some u) xs ys h k = absurd k
made_more (Some w) (Some v) None xs ys h k = runs-more w v xs ys _ h k
made_more (Some w) (Some v) (Some u) xs ys h k = runs-more w v xs ys (StandsInMemory u) h k

closable-at : (sessions : Sessions) (slot : Option WorldTerm) (kept : Kept) (lines : List TextLine) (n : ℕ)
    → IsDrilling sessions slot kept lines n → AreReady sessions slot kept.tally n → CanClose sessions slot kept
closable-at sessions None kept lines n h ready = absurd ready
closable-at sessions (Some world) kept lines n h ready =
    let all = ap (λ (k : Kept). k.all) h.kept_is in
    (all, subst (λ (l : AllKept). AreHeld (HoldsPin world.memory) (all_of l)) (sym all) ready.held)

pub can_close : (sessions : Sessions) (slot : Option WorldTerm) (kept : Kept) (lines : List TextLine) (n : ℕ)
    → IsDrilling sessions slot kept lines n → CanClose sessions slot kept
can_close sessions slot kept lines n h = closable-at sessions slot kept lines n h h.ready
