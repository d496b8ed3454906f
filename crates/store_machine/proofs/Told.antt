-- No reply tells a version that the history does not have at the run's end.
use Rattle.std.proofs.Common.{◌≡◌, ◌≤◌, ap, arith, Bool, cond, false, inl, inr, le_of_eq, List, [], ◌∷◌, refl, Some, subst, sym, true, ℕ}
use Rattle.store_machine.specs.History.{IsHistory, grown, head, made_at}
use Rattle.store_machine.specs.Laws.{IsSound}
use Rattle.store_machine.specs.Machine.{CommitGives, CompactGives, CrashGives, FetchGives, Gives, LookGives, OpenGives, PinGives, PruneGives, StatsGives, UnpinGives}
use Rattle.store_machine.specs.Runs.{IsCalm, IsRun, calls_of, is_own}
use Rattle.store_machine.specs.Told.{IsTold, TellsVersion, ToldIsThere, acknowledged}
use Rattle.store_machine.specs.declared.machine.Change.{Change}
use Rattle.store_machine.specs.declared.machine.Event.{Event}
use Rattle.store_machine.specs.declared.machine.Event.TheVariants.{Commit, Compact, Crash, Fetch, Look, Open, Pin, Prune, Stats, Unpin}
use Rattle.store_machine.specs.declared.machine.Reply.{Reply}
use Rattle.store_machine.specs.declared.machine.Reply.TheVariants.{Committed, Counted, Looked, Pinned}
use Rattle.store_machine.specs.declared.machine.State.{State}
use Rattle.store_machine.specs.declared.machine.Step.{Step}
use Rattle.store_machine.proofs.Growing.{runs-add}
use Rattle.store_machine.proofs.Made.{states-stay}
use Rattle.store_machine.proofs.PagesRead.{grown-le}
use Rattle.store_machine.proofs.Pushed.{head-grown}
use Rattle.store_machine.proofs.Sound.{runs-stay-sound}

-- Versions that replies tell
commit-told : (s : State) (c : Change) (r : Reply) (s' : State) (v : ℕ) → CommitGives s c r s' → TellsVersion r v
    → v ≤ head s'.history
commit-told s c (Committed version) s' v g e =
    let grew : head s'.history ≡ head (grown s.history (c ∷ [])) = ap (λ (x : State). head x.history) g.2 in
    omega (arith, e, g.1, grew, head-grown s.history (c ∷ []))
commit-told s c (Pinned slot version) s' v g e = absurd g
commit-told s c (Counted version live withdrawn kept pins) s' v g e = absurd g
commit-told s c (Looked (Some status)) s' v g e = absurd g
commit-told s c _ s' v g e = absurd e

pin-told : (s : State) (owner : ℕ) (r : Reply) (s' : State) (v : ℕ) → PinGives s owner r s' → TellsVersion r v
    → v ≤ head s'.history
pin-told s owner (Pinned slot version) s' v g e =
    let same : head s'.history ≡ head s.history = ap (λ (x : State). head x.history) g.4 in
    omega (arith, e, g.3, same)
pin-told s owner (Committed version) s' v g e = absurd g
pin-told s owner (Counted version live withdrawn kept pins) s' v g e = absurd g
pin-told s owner (Looked (Some status)) s' v g e = absurd g
pin-told s owner _ s' v g e = absurd e

stats-told : (s : State) (r : Reply) (s' : State) (v : ℕ) → StatsGives s r s' → TellsVersion r v → v ≤ head s'.history
stats-told s (Counted version live withdrawn kept pins) s' v g e =
    let same : head s'.history ≡ head s.history = ap (λ (x : State). head x.history) g.5 in
    omega (arith, e, g.0, same)
stats-told s (Committed version) s' v g e = absurd g
stats-told s (Pinned slot version) s' v g e = absurd g
stats-told s (Looked (Some status)) s' v g e = absurd g
stats-told s _ s' v g e = absurd e

look-told : (s : State) (id : ℕ) (r : Reply) (s' : State) (v : ℕ) → IsHistory s.history
    → LookGives s id r s' → TellsVersion r v → v ≤ head s'.history
look-told s id (Looked (Some status)) s' v h g e =
    let then = states-stay s.history (head s.history) id status h (sym g.0) in
    let same : head s'.history ≡ head s.history = ap (λ (x : State). head x.history) g.1 in
    let old : made_at status ≤ head s.history = then.2 (omega arith) in
    omega (arith, e, old, same)
look-told s id (Committed version) s' v h g e = absurd g
look-told s id (Pinned slot version) s' v h g e = absurd g
look-told s id (Counted version live withdrawn kept pins) s' v h g e = absurd g
look-told s id _ s' v h g e = absurd e

-- the other events' replies tell none
fetch-untold : (s : State) (owner slot : ℕ) (want : List Bool) (from limit : ℕ) (r : Reply) (s' : State) (v : ℕ)
    → FetchGives s owner slot want from limit r s' → ¬ TellsVersion r v
fetch-untold s owner slot want from limit (Committed version) s' v g e = g
fetch-untold s owner slot want from limit (Pinned other version) s' v g e = g
fetch-untold s owner slot want from limit (Counted version live withdrawn kept pins) s' v g e = g
fetch-untold s owner slot want from limit (Looked (Some status)) s' v g e = g
fetch-untold s owner slot want from limit _ s' v g e = e

unpin-untold : (s : State) (owner slot : ℕ) (r : Reply) (s' : State) (v : ℕ) → UnpinGives s owner slot r s'
    → ¬ TellsVersion r v
unpin-untold s owner slot (Committed version) s' v g e = g
unpin-untold s owner slot (Pinned other version) s' v g e = g
unpin-untold s owner slot (Counted version live withdrawn kept pins) s' v g e = g
unpin-untold s owner slot (Looked (Some status)) s' v g e = g
unpin-untold s owner slot _ s' v g e = e

prune-untold : (s : State) (r : Reply) (s' : State) (v : ℕ) → PruneGives s r s' → ¬ TellsVersion r v
prune-untold s (Committed version) s' v g e = g
prune-untold s (Pinned slot version) s' v g e = g
prune-untold s (Counted version live withdrawn kept pins) s' v g e = g
prune-untold s (Looked (Some status)) s' v g e = g
prune-untold s _ s' v g e = e

compact-untold : (s : State) (r : Reply) (s' : State) (v : ℕ) → CompactGives s r s' → ¬ TellsVersion r v
compact-untold s (Committed version) s' v g e = g
compact-untold s (Pinned slot version) s' v g e = g
compact-untold s (Counted version live withdrawn kept pins) s' v g e = g
compact-untold s (Looked (Some status)) s' v g e = g
compact-untold s _ s' v g e = e

crash-untold : (s : State) (r : Reply) (s' : State) (v : ℕ) → CrashGives s r s' → ¬ TellsVersion r v
crash-untold s (Committed version) s' v g e = g
crash-untold s (Pinned slot version) s' v g e = g
crash-untold s (Counted version live withdrawn kept pins) s' v g e = g
crash-untold s (Looked (Some status)) s' v g e = g
crash-untold s _ s' v g e = e

open-untold : (s : State) (r : Reply) (s' : State) (v : ℕ) → OpenGives s r s' → ¬ TellsVersion r v
open-untold s (Committed version) s' v g e = g
open-untold s (Pinned slot version) s' v g e = g
open-untold s (Counted version live withdrawn kept pins) s' v g e = g
open-untold s (Looked (Some status)) s' v g e = g
open-untold s _ s' v g e = e

told : (s : State) (owner : ℕ) (e : Event) (r : Reply) (s' : State) (v : ℕ) → IsHistory s.history
    → Gives s owner e r s' → TellsVersion r v → v ≤ head s'.history
told s owner (Commit c) r s' v h g t = commit-told s c r s' v g.1 t
told s owner Pin r s' v h g t = pin-told s owner r s' v g.1 t
told s owner (Fetch slot want from limit) r s' v h g t =
    absurd (fetch-untold s owner slot want from limit r s' v g.1 t)
told s owner (Unpin slot) r s' v h g t = absurd (unpin-untold s owner slot r s' v g.1 t)
told s owner Prune r s' v h g t = absurd (prune-untold s r s' v g.1 t)
told s owner (Look id) r s' v h g t = look-told s id r s' v h g.1 t
told s owner Stats r s' v h g t = stats-told s r s' v g.1 t
told s owner Compact r s' v h g t = absurd (compact-untold s r s' v g.1 t)
told s owner Crash r s' v h g t = absurd (crash-untold s r s' v g t)
told s owner Open r s' v h g t = absurd (open-untold s r s' v g t)

-- the head at the end of a run of calls is no older than that at its begin
pub longer : (s s' : State) (steps : List Step) → IsRun s steps s' → IsCalm steps → head s.history ≤ head s'.history
longer s s' steps run calm =
    grown-le s.history s'.history (acknowledged steps) (runs-add s s' steps run calm) (head s.history)
    (le_of_eq refl)

pub told-is-there : ToldIsThere
told-is-there s s' [] own v k run calm is = absurd is
told-is-there s s' (x ∷ xs) own v k run calm is =
    let there : IsSound x.before = subst IsSound (sym run.0) k in
    let next : IsSound x.after = runs-stay-sound x.before x.after (x ∷ []) (refl, run.1, refl) there in
    let later = told-is-there x.after s' xs own v next run.2 calm.1 in
    let up = longer x.after s' xs run.2 calm.1 in
    elim (is_own own x) as (λ b. IsTold (cond b ((x.event, x.reply) ∷ calls_of own xs) (calls_of own xs)) v
    → v ≤ head s'.history) [
      | true ↦ λ i. elim i [
        | inl one ↦
            (let le : v ≤ head x.after.history =
            told x.before x.owner x.event x.reply x.after v there.history run.1 one in
            omega (arith, le, up))
        | inr rest ↦ later rest
      ]
      | false ↦ λ i. later i
    ] is
