-- Along a run the pin is held, and every page of its fetches is read from the snapshot that it was taken at.
use Rattle.std.proofs.Common.{◌≡◌, ◌&&◌, ◌-◌, ◌==◌, ◌≤◌, ◌∙◌, ap, ap₂, arith, Bool, cond, eqb-true, false, length-append, List, [], ◌∷◌, None, refl, Some, subst, sym, true, ℕ}
use Rattle.std.proofs.lemmas.List.{take-append-le}
use Rattle.std.specs.List.{AllByRecursion, cons_option}
use Rattle.store_machine.specs.History.{Snapshot, after_changes, base_states, grown, head, snapshot}
use Rattle.store_machine.specs.Laws.{PinsStay, SnapshotsStay}
use Rattle.store_machine.specs.Machine.{Gives, Holds, IsPage}
use Rattle.store_machine.specs.Runs.{IsCalm, IsRun, IsStep, calls_of, is_call, is_own}
use Rattle.store_machine.specs.Searches.{Fetched, KeepsPin, fetched, page_in, unpins}
use Rattle.store_machine.specs.Told.{made}
use Rattle.store_machine.specs.declared.machine.Change.{Change}
use Rattle.store_machine.specs.declared.machine.Event.{Event}
use Rattle.store_machine.specs.declared.machine.Event.TheVariants.{Fetch}
use Rattle.store_machine.specs.declared.machine.History.{History}
use Rattle.store_machine.specs.declared.machine.Reply.{Reply}
use Rattle.store_machine.specs.declared.machine.Reply.TheVariants.{Page}
use Rattle.store_machine.specs.declared.machine.State.{State}
use Rattle.store_machine.specs.declared.machine.Step.{Step}
use Rattle.store_machine.proofs.Growing.{adds}
use Rattle.store_machine.proofs.Pins.{holds-step, one-version}

pub snapshots-stay : SnapshotsStay
snapshots-stay h more v le = ap (λ cs. after_changes h.version cs (base_states h))
    (take-append-le (v - h.version) h.commits more (omega (arith, le)))

-- the page is what is found in the states from its identifier on, up to its limit
abbrev pub IsRead : Snapshot → Fetched → Type 0
IsRead states f = IsPage states f.want f.from f.limit f.records f.last

abbrev pub AreRead : Snapshot → List Fetched → Type 0
AreRead states pages = AllByRecursion (IsRead states) pages

-- one call more
page-read : (s : State) (by : ℕ) (e : Event) (r : Reply) (s' : State) (slot owner version : ℕ) (pages : List Fetched)
    → Gives s by e r s' → Holds s slot owner version → AreRead (snapshot s.history version) pages
    → AreRead (snapshot s.history version) (cons_option (page_in slot e r) pages)
page-read s by (Fetch pin want from limit) (Page records last) s' slot owner version pages g h rest =
    elim (pin == slot) as (λ b. (pin == slot) ≡ b
    → AreRead (snapshot s.history version)
    (cons_option (cond b (Some (record { want = want; from = from; limit = limit; records = records; last = last }))
    None) pages)) [
      | true ↦ λ e.
          let same : g.1.0 ≡ version = one-version s slot owner version by g.1.0 h
          (subst (λ k. Holds s k by g.1.0) (eqb-true pin slot e) g.1.1) in
          (subst (λ v. IsPage (snapshot s.history v) want from limit records last) same g.1.2, rest)
      | false ↦ λ e. rest
    ] refl
page-read s by e r s' slot owner version pages g h rest = rest

abbrev Calls : Type 0
Calls = List (Event × Reply)

-- the own call of a step, if it is one
abbrev own : Bool → Event → Reply → Calls → Calls
own b e r calls = cond b ((e, r) ∷ calls) calls

keeps-here : (b : Bool) (slot : ℕ) (e : Event) (r : Reply) (calls : Calls) → KeepsPin slot (own b e r calls) → b ≡ true
    → unpins slot e ≡ false
keeps-here true slot e r calls k is = k.0
keeps-here false slot e r calls k is = cc

keeps-later : (b : Bool) (slot : ℕ) (e : Event) (r : Reply) (calls : Calls) → KeepsPin slot (own b e r calls)
    → KeepsPin slot calls
keeps-later true slot e r calls k = k.1
keeps-later false slot e r calls k = k

-- a step of an own number is an own call, where it is a call
own-here : (mine : ℕ → Bool) (x : Step) → is_call x.event ≡ true → mine x.owner ≡ true → is_own mine x ≡ true
own-here mine x calm m = ap₂ (λ a b. a && b) calm m

-- a pin after a step of a run
held-after : (x : Step) (s : State) (mine : ℕ → Bool) (slot owner version : ℕ) (calls : Calls) → mine owner ≡ true
    → is_call x.event ≡ true
    → x.before ≡ s → IsStep x → Holds s slot owner version → KeepsPin slot (own (is_own mine x) x.event x.reply calls)
    → Holds x.after slot owner version
held-after x s mine slot owner version calls m calm e g h keeps =
    holds-step x.before x.owner x.event x.reply x.after slot owner version g calm
    (λ o. keeps-here (is_own mine x) slot x.event x.reply calls keeps (own-here mine x calm (ap mine o ∙ m)))
    (subst (λ b. Holds b slot owner version) (sym e) h)

pub pins-stay : PinsStay
pins-stay s s' [] mine slot owner version run calm m h keeps = subst (λ b. Holds b slot owner version) (sym run) h
pins-stay s s' (x ∷ xs) mine slot owner version run calm m h keeps =
    pins-stay x.after s' xs mine slot owner version run.2 calm.1 m
    (held-after x s mine slot owner version (calls_of mine xs) m calm.0 run.0 run.1 h keeps)
    (keeps-later (is_own mine x) slot x.event x.reply (calls_of mine xs) keeps)

-- an own call more, or none
own-read : (b : Bool) (states : Snapshot) (slot : ℕ) (e : Event) (r : Reply) (calls : Calls)
    → AreRead states (fetched slot calls) → (b ≡ true
    → AreRead states (cons_option (page_in slot e r) (fetched slot calls)))
    → AreRead states (fetched slot (own b e r calls))
own-read true states slot e r calls rest all = all refl
own-read false states slot e r calls rest all = rest

pub grown-le : (h h' : History) (more : List Change) → h' ≡ grown h more → (v : ℕ) → v ≤ head h → v ≤ head h'
grown-le h h' more e v le = omega (arith, le, ap head e, length-append h.commits more)

pub pages-read : (states : Snapshot) (s s' : State) (steps : List Step) (mine : ℕ → Bool) (slot owner version : ℕ)
    → IsRun s steps s' → IsCalm steps → mine owner ≡ true → Holds s slot owner version → version ≤ head s.history
    → snapshot s.history version ≡ states → KeepsPin slot (calls_of mine steps)
    → AreRead states (fetched slot (calls_of mine steps))
pages-read states s s' [] mine slot owner version run calm m h le is keeps = tt
pages-read states s s' (x ∷ xs) mine slot owner version run calm m h le is keeps =
    let calls = calls_of mine xs in
    let more = made x.event x.reply in
    let grew = adds x.before x.owner x.event x.reply x.after run.1 calm.0 in
    let past : version ≤ head x.before.history = subst (λ (b : State). version ≤ head b.history) (sym run.0) le in
    let there : snapshot x.before.history version ≡ states = ap (λ (b : State). snapshot b.history version) run.0 ∙ is
    in
    let next : snapshot x.after.history version ≡ states = ap (λ h. snapshot h version) grew
    ∙ (snapshots-stay x.before.history more version past ∙ there) in
    let rest : AreRead states (fetched slot calls) =
    pages-read states x.after s' xs mine slot owner version run.2 calm.1 m
    (held-after x s mine slot owner version calls m calm.0 run.0 run.1 h keeps)
    (grown-le x.before.history x.after.history more grew version past) next
    (keeps-later (is_own mine x) slot x.event x.reply calls keeps) in
    own-read (is_own mine x) states slot x.event x.reply calls rest
    (λ _. subst (λ m. AreRead m (cons_option (page_in slot x.event x.reply) (fetched slot calls))) there
    (page-read x.before x.owner x.event x.reply x.after slot owner version (fetched slot calls) run.1
    (subst (λ b. Holds b slot owner version) (sym run.0) h)
    (subst (λ m. AreRead m (fetched slot calls)) (sym there) rest)))
