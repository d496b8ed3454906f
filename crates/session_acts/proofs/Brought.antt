-- A commit of a run is one of its history's, and hits of a version, brought over its commit, are the hits of the next one.
use Rattle.std.proofs.Common.{◌≡◌, ◌↔◌, ◌<◌, ◌++◌, ◌∙◌, ap, ap₂, append_assoc, arith, Bool, List, [], ◌∷◌, refl, Some, subst, ℕ}
use Rattle.smarts_parse.specs.Pattern.{PatternTerm}
use Rattle.store_machine.specs.Answers.{AreHits}
use Rattle.store_machine.specs.History.{after_change, grown, snapshot}
use Rattle.store_machine.specs.Laws.{IsSound, RunsGrow}
use Rattle.store_machine.specs.Machine.{Gives}
use Rattle.store_machine.specs.Runs.{IsCalm, IsRun, calls_of}
use Rattle.store_machine.specs.Told.{PinsAreNew, RunsAdd, acknowledged, made}
use Rattle.store_machine.specs.declared.machine.Change.{Change}
use Rattle.store_machine.specs.declared.machine.Change.TheVariants.{Register, Revise, Withdraw}
use Rattle.store_machine.specs.declared.machine.Event.{Event}
use Rattle.store_machine.specs.declared.machine.Event.TheVariants as events
use Rattle.store_machine.specs.declared.machine.History.{History}
use Rattle.store_machine.specs.declared.machine.Reply.{Reply}
use Rattle.store_machine.specs.declared.machine.Reply.TheVariants as replies
use Rattle.store_machine.specs.declared.machine.State.{State}
use Rattle.store_machine.specs.declared.machine.Step.{Step}
use Rattle.store_machine.proofs.Cuts.{called}
use Rattle.watch_list.specs.Notes.{IsCommit}
use Rattle.watch_list.proofs.Right.{IsMatchedIn, hits-over, left_by}
pub use Rattle.watch_list.proofs.Right.{committed}
use Rattle.session_acts.specs.Cursors.{Calls}
use Rattle.session_acts.specs.Watching.{IsListOver, LeavesHit}

leaves-hit : (version : ℕ) (p : PatternTerm) (c : Change) → IsMatchedIn p (Some (left_by version c)) ↔ LeavesHit p c
leaves-hit version p (Register id format text) = (λ m. m, λ m. m)
leaves-hit version p (Revise id format text) = (λ m. m, λ m. m)
leaves-hit version p (Withdraw id) = (λ m. m, λ m. m)

pub brought-over : (h : History) (v version : ℕ) (p : PatternTerm) (c : Change) (old new : List ℕ)
    → snapshot h version ≡ after_change version c (snapshot h v) → IsListOver p c old new → AreHits h v p old
    → AreHits h version p new
brought-over h v version p c old new is list are =
    hits-over h v version p c (LeavesHit p c) old new is (leaves-hit version p c) list.ascending list.own list.others are

-- a commit of a caller's own, in the history at the end
pub commit_of : RunsAdd → RunsGrow → (own : ℕ → Bool) (s t : State) (steps : List Step) (before later : Calls)
    (c : Change) (v : ℕ) → IsRun s steps t → IsCalm steps
    → calls_of own steps ≡ before ++ (events.Commit c, replies.Committed v) ∷ later → IsCommit t.history v c
commit_of add grow own s t steps before later c v run calm e =
    let k = called own s t steps before (events.Commit c, replies.Committed v) later run calm e in
    let x : Step = k.step in
    let gives : Gives x.before x.owner (events.Commit c) (replies.Committed v) x.after =
    subst (λ (e : Event). Gives x.before x.owner e (replies.Committed v) x.after) k.event
    (subst (λ (r : Reply). Gives x.before x.owner x.event r x.after) k.reply k.is) in
    let h : History = x.before.history in
    let acks : acknowledged (x ∷ []) ≡ c ∷ [] = ap₂ (λ (e : Event) (r : Reply). made e r ++ []) k.event k.reply in
    let more = grow x.after t k.back k.from k.calm_from in
    let whole : t.history ≡ grown (grown h (c ∷ [])) more.0 =
    more.1 ∙ ap (λ (g : History). grown g more.0)
    (add x.before x.after (x ∷ []) (refl, k.is, refl) (k.calm, tt) ∙ ap (λ (cs : List Change). grown h cs) acks) in
    record {
      before = h.commits;
      after = more.0;
      commits = ap (λ (g : History). g.commits) whole ∙ append_assoc h.commits (c ∷ []) more.0;
      version_is = omega (arith, gives.1.1, ap (λ (g : History). g.version) whole);
    }

-- a commit behind a pin is of a later version
pub commit_behind : PinsAreNew → (own : ℕ → Bool) (s t : State) (steps : List Step) (before pages later : Calls)
    (slot version : ℕ) (c : Change) (v : ℕ) → IsSound s → IsRun s steps t → IsCalm steps
    → calls_of own steps
    ≡ (before ++ (events.Pin, replies.Pinned slot version) ∷ pages) ++ (events.Commit c, replies.Committed v) ∷ later
    → version < v
commit_behind pins own s t steps before pages later slot version c v sound run calm e =
    let first : Calls = before ++ (events.Pin, replies.Pinned slot version) ∷ pages in
    let k = called own s t steps first (events.Commit c, replies.Committed v) later run calm e in
    let x : Step = k.step in
    let gives : Gives x.before x.owner (events.Commit c) (replies.Committed v) x.after =
    subst (λ (e : Event). Gives x.before x.owner e (replies.Committed v) x.after) k.event
    (subst (λ (r : Reply). Gives x.before x.owner x.event r x.after) k.reply k.is) in
    let pinned = pins s x.before k.front own slot version before pages sound k.to k.calm_to k.first_calls in
    omega (arith, gives.1.1, pinned.0)
