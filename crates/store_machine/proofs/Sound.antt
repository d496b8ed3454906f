-- Every state of a run is sound.
use Rattle.std.proofs.Common.{◌≡◌, ◌+◌, ◌++◌, ◌<◌, ◌==◌, ◌∙◌, ap, arith, Bool, Contains, false, filter, inl, inr, List, [], ◌∷◌, map, MatchOption, None, not, Option, refl, Some, subst, sym, true, ℕ}
use Rattle.std.proofs.lemmas.Bool.{cond_both, true≢false}
use Rattle.store_machine.specs.History.{IsAllowed, IsHistory, Snapshot, grown, head, id_of, snapshot}
use Rattle.store_machine.specs.Kept.{IsNeeded, IsPast, in_use}
use Rattle.store_machine.specs.Laws.{IsSound, RunsStaySound}
use Rattle.store_machine.specs.Machine.{AreNeeded, Becomes, CommitGives, CompactGives, CrashGives, DoubtAfter, EndsDoubts, Gives, GivesUp, IsOfCopy, MayAdd, MayBeLeft, OpenGives, PinGives, PruneGives, Recovers, SlotsApart, StaysOrEnds, TakesSome, UnpinGives, committed, copying, on_disk, pin_in, pinned, replaced, unpinned}
use Rattle.store_machine.specs.Made.{HasMade, KeepsMade}
use Rattle.store_machine.specs.declared.machine.Change.{Change}
use Rattle.store_machine.specs.declared.machine.Copying.{Copying}
use Rattle.store_machine.specs.declared.machine.Entry.{Entry}
use Rattle.store_machine.specs.declared.machine.Event.{Event}
use Rattle.store_machine.specs.declared.machine.Event.TheVariants.{Commit, Compact, Crash, Fetch, Look, Open, Pin, Prune, Stats, Unpin}
use Rattle.store_machine.specs.declared.machine.Held.{Held}
use Rattle.store_machine.specs.declared.machine.History.{History}
use Rattle.store_machine.specs.declared.machine.Reply.{Reply}
use Rattle.store_machine.specs.declared.machine.Reply.TheVariants.{Absent, Committed, Crashed, DiskFault, Done, Full, Known, Last, More, NoMemory, NoPin, Opened, Pinned, Pruned, Unpinned, Withdrawn}
use Rattle.store_machine.specs.declared.machine.State.{State}
use Rattle.store_machine.proofs.Kept.{UsesLess, commit-bases, commit-kept, commit-past, copy-less, copy-version-used, filtered-in_use, head-used, in_use-past, none-used, one-used, pins-kept, pins-less, pins-past, pushed-in_use}
use Rattle.store_machine.proofs.Made.{made-appended, made-pushed, snapshot-made}
use Rattle.store_machine.proofs.Members.{contains-last}
use Rattle.store_machine.proofs.Pins.{fetch-same, look-same, stats-same}
use Rattle.store_machine.proofs.Pushed.{IsHistory-pushed}
use Rattle.store_machine.proofs.Rebases.{rebased, rebases-keep-heads, rebases-keep-snapshots}
use Rattle.store_machine.proofs.Slots.{other-way, pin_in-filtered, pin_in-free, pin_in-parts}

slots-filtered : (keeps : Held → Bool) (ps : List Held) → SlotsApart ps → SlotsApart (filter keeps ps)
slots-filtered keeps [] h = tt
slots-filtered keeps (p ∷ ps) h =
    cond_both (keeps p) (p ∷ filter keeps ps) (filter keeps ps) SlotsApart
    (λ _. (h.0, pin_in-filtered p.slot keeps ps h.1, slots-filtered keeps ps h.2)) (λ _. slots-filtered keeps ps h.2)

slots-pushed : (p : Held) (ps : List Held) → SlotsApart ps → p.slot < 64 → pin_in p.slot ps ≡ None
    → SlotsApart (ps ++ p ∷ [])
slots-pushed p [] h less free = (less, refl, tt)
slots-pushed p (q ∷ qs) h less free =
    let parts = pin_in-parts p.slot q qs free in
    (h.0, pin_in-free q.slot p qs (other-way q.slot p.slot parts.0) h.1, slots-pushed p qs h.2 less parts.1)

grown-made : (h : History) (c : Change) (id version : ℕ) → HasMade h id version → HasMade (grown h (c ∷ [])) id version
grown-made h c id version (inl m) = inl (made-appended h.version h.commits (c ∷ []) id version m)
grown-made h c id version (inr based) = inr based

commit-made : (s : State) (c : Change) → KeepsMade s → KeepsMade (committed s c)
commit-made s c made entry k =
    elim (contains-last (record { id = id_of c; version = head s.history + 1 }) entry s.kept k) [
      | inl old ↦ grown-made s.history c entry.id entry.version (made entry old)
      | inr new ↦ subst (λ (x : Entry). HasMade (grown s.history (c ∷ [])) x.id x.version) new
          (inl (made-pushed s.history.version s.history.commits c (head s.history + 1) (omega arith)))
    ]

needed-made : (s : State) (entry : Entry) → IsSound s → IsNeeded s.history (in_use s) entry
    → HasMade s.history entry.id entry.version
needed-made s entry h n = subst (HasMade s.history entry.id) n.made
    (snapshot-made s.history n.at entry.id n.status h.history (in_use-past s n.at h.pins h.bases n.used).0 n.state).0

-- nothing of a sound state turns on the counts of faults
becomes-sound : (s s' : State) → Becomes s s' → IsSound s → IsSound s'
becomes-sound s s' b h = subst IsSound (sym b)
    (record {
      history = h.history;
      doubt = h.doubt;
      slots = h.slots;
      pins = h.pins;
      bases = record { base = h.bases.base; copy = h.bases.copy; finish = h.bases.finish };
      kept = h.kept;
      made = h.made;
    })

-- other doubts
doubted : (s : State) (c : Option Change) (version : Option ℕ) → MatchOption c (Unit {0}) (MayAdd s)
    → MatchOption version (Unit {0}) (IsPast s) → IsSound s → IsSound (record s { doubt = c; finish = version })
doubted s c version may past h = record {
  history = h.history;
  doubt = may;
  slots = h.slots;
  pins = h.pins;
  bases = record { base = h.bases.base; copy = h.bases.copy; finish = past };
  kept = h.kept;
  made = h.made;
}

ended : {X : Type 0} (P : X → Type 0) (old new : Option X) → StaysOrEnds old new → MatchOption old (Unit {0}) P
    → MatchOption new (Unit {0}) P
ended P old new (inl e) p = subst (λ o. MatchOption o (Unit {0}) P) (sym e) p
ended P old new (inr e) p = subst (λ o. MatchOption o (Unit {0}) P) (sym e) tt

doubt-sound : (s s' : State) → EndsDoubts s s' → IsSound s → IsSound s'
doubt-sound s s' g h = becomes-sound (record s { doubt = s'.doubt; finish = s'.finish }) s' g.2
    (doubted s s'.doubt s'.finish (ended (MayAdd s) s.doubt s'.doubt g.0 h.doubt)
    (ended (IsPast s) s.finish s'.finish g.1 h.bases.finish) h)

after-sound : (s : State) (c : Change) (doubt : Bool) (s' : State) → MayAdd s c → DoubtAfter s c doubt s' → IsSound s
    → IsSound s'
after-sound s c true s' may b h = becomes-sound (record s { doubt = Some c; finish = None }) s' b
    (doubted s (Some c) None may tt h)
after-sound s c false s' may b h = doubt-sound s s' b h

committed-sound : (s : State) (c : Change) → MayAdd s c → IsSound s → IsSound (committed s c)
committed-sound s c may h = record {
  history = IsHistory-pushed s.history c h.history may.0 may.1;
  doubt = tt;
  slots = h.slots;
  pins = commit-past s c h.pins;
  bases = commit-bases s c h.bases;
  kept = λ serves. commit-kept s c h.pins h.bases (h.kept serves);
  made = λ serves. commit-made s c (h.made serves);
}

commit-sound : (s : State) (c : Change) (r : Reply) (s' : State) → CommitGives s c r s' → IsSound s → IsSound s'
commit-sound s c Known s' g h = becomes-sound s s' g.1 h
commit-sound s c Absent s' g h = becomes-sound s s' g.1 h
commit-sound s c Withdrawn s' g h = becomes-sound s s' g.1 h
commit-sound s c Full s' g h = becomes-sound s s' g.2 h
commit-sound s c (DiskFault doubt) s' g h = after-sound s c doubt s' g.0 g.2 h
commit-sound s c NoMemory s' g h = doubt-sound s s' g h
commit-sound s c (Committed version) s' g h = becomes-sound (committed s c) s' g.2 (committed-sound s c g.0 h)
commit-sound s c _ s' g h = absurd g

-- other pins, and another copy
other-uses : (s : State) (ps : List Held) (copy : Option Copying) → SlotsApart ps → UsesLess s ps copy
    → MatchOption copy (Unit {0}) (λ c. IsPast s c.version) → IsSound s → IsSound (record s { pins = ps; copy = copy })
other-uses s ps copy apart less past h = record {
  history = h.history;
  doubt = h.doubt;
  slots = apart;
  pins = pins-past s ps copy less h.pins h.bases;
  bases = record { base = h.bases.base; copy = past; finish = h.bases.finish };
  kept = λ serves. pins-kept s ps copy less (h.kept serves);
  made = h.made;
}

other-pins : (s : State) (ps : List Held) → SlotsApart ps
    → ((v : ℕ) → Contains (map (λ p. p.version) ps) v → Contains (in_use s) v) → IsSound s
    → IsSound (record s { pins = ps })
other-pins s ps apart less h = other-uses s ps s.copy apart (pins-less s ps less) h.bases.copy h

-- no copy, and one of a version in use
uncopied : (s : State) → IsSound s → IsSound (record s { copy = None })
uncopied s h = other-uses s s.pins None h.slots (copy-less s None (none-used s)) tt h

copied-sound : (s : State) (copy : Copying) → Contains (in_use s) copy.version → IsSound s
    → IsSound (record s { copy = Some copy })
copied-sound s copy there h = other-uses s s.pins (Some copy) h.slots (copy-less s (Some copy) (one-used s copy there))
    (in_use-past s copy.version h.pins h.bases there) h

pin-sound : (s : State) (owner : ℕ) (r : Reply) (s' : State) → PinGives s owner r s' → IsSound s → IsSound s'
pin-sound s owner NoPin s' g h = becomes-sound s s' g.1 h
pin-sound s owner (Pinned slot version) s' g h =
    let p : Held = record { slot = slot; owner = owner; version = head s.history } in
    becomes-sound (pinned s slot owner) s' g.4 (other-pins s _ (slots-pushed p s.pins h.slots g.1 g.2)
    (pushed-in_use s p refl) h)
pin-sound s owner _ s' g h = absurd g

unpin-sound : (s : State) (owner slot : ℕ) (r : Reply) (s' : State) → UnpinGives s owner slot r s' → IsSound s
    → IsSound s'
unpin-sound s owner slot Unpinned s' g h =
    becomes-sound (unpinned s slot) s' g.2
    (other-pins s _ (slots-filtered (λ p. not (p.slot == slot)) s.pins h.slots)
    (filtered-in_use s (λ p. not (p.slot == slot))) h)
unpin-sound s owner slot _ s' g h = absurd g

-- a version of the history becomes the base
based : (s : State) (version generation : ℕ) → IsPast s version → IsSound s
    → IsSound (record s { base = version; generation = generation })
based s version generation past h = record {
  history = h.history;
  doubt = h.doubt;
  slots = h.slots;
  pins = h.pins;
  bases = record { base = past; copy = h.bases.copy; finish = h.bases.finish };
  kept = h.kept;
  made = h.made;
}

-- the version of a copy that lacks nothing
whole-past : (s : State) (copy : Copying) → s.copy ≡ Some copy → IsSound s → IsPast s copy.version
whole-past s copy is h = in_use-past s copy.version h.pins h.bases (copy-version-used s copy is)

gives-up-sound : (s : State) (doubt : Bool) (s' : State) → GivesUp s doubt s' → IsSound s → IsSound s'
gives-up-sound s true s' g h =
    let t : State = record s { copy = None } in
    becomes-sound (record t { finish = Some g.0 }) s' g.2
    (doubted t s.doubt (Some g.0) h.doubt (whole-past s (record { version = g.0; left = 0 }) g.1 h) (uncopied s h))
gives-up-sound s false s' g h =
    let t : State = record s { copy = None } in
    becomes-sound (record t { finish = s'.finish }) s' g.2
    (doubted t s.doubt s'.finish h.doubt (ended (IsPast s) s.finish s'.finish g.1 h.bases.finish) (uncopied s h))

takes-sound : (s : State) (old new : Option Copying) → s.copy ≡ old → TakesSome old new → IsSound s
    → IsSound (record s { copy = new })
takes-sound s None new is g h = subst (λ (o : Option Copying). IsSound (record s { copy = o })) (sym g) (uncopied s h)
takes-sound s (Some old) new is g h =
    subst (λ (o : Option Copying). IsSound (record s { copy = o })) (sym g.1)
    (copied-sound s (record old { left = g.0 }) (copy-version-used s old is) h)

compact-sound : (s : State) (r : Reply) (s' : State) → CompactGives s r s' → IsSound s → IsSound s'
compact-sound s Last s' g h = becomes-sound s s' g.2 h
compact-sound s (More left) s' (inl g) h =
    let t : State = copying s (head s.history) left in
    becomes-sound (record t { finish = None }) s' g.3
    (doubted t s.doubt None h.doubt tt
    (copied-sound s (record { version = head s.history; left = left }) (head-used s) h))
compact-sound s (More left) s' (inr g) h =
    becomes-sound (copying s g.0 left) s' g.5
    (copied-sound s (record { version = g.0; left = left })
    (copy-version-used s (record { version = g.0; left = g.1 }) g.2) h)
compact-sound s (Done generation) s' g h =
    let past = whole-past s (record { version = g.1; left = 0 }) g.2 h in
    let t : State = record s { copy = None } in
    let u : State = record t { doubt = None; finish = None } in
    becomes-sound (replaced s g.1) s' g.3
    (based u g.1 (s.generation + 1) past (doubted t None None tt tt (uncopied s h)))
compact-sound s (DiskFault doubt) s' g h = gives-up-sound s doubt s' g.1 h
compact-sound s NoMemory s' g h =
    let t : State = record s { copy = s'.copy } in
    becomes-sound (record t { finish = s'.finish }) s' g.2
    (doubted t s.doubt s'.finish h.doubt (ended (IsPast s) s.finish s'.finish g.1 h.bases.finish)
    (takes-sound s s.copy s'.copy refl g.0 h))
compact-sound s _ s' g h = absurd g

kept-sound : (s : State) (kept : List Entry) (serves : Bool) → AreNeeded s kept → IsSound s
    → IsSound (record s { kept = kept; serves = serves })
kept-sound s kept serves needed h = record {
  history = h.history;
  doubt = h.doubt;
  slots = h.slots;
  pins = h.pins;
  bases = record { base = h.bases.base; copy = h.bases.copy; finish = h.bases.finish };
  kept = λ _ entry n. (needed.exactly entry).1 n;
  made = λ _ entry k. needed-made s entry h ((needed.exactly entry).0 k);
}

prune-sound : (s : State) (r : Reply) (s' : State) → PruneGives s r s' → IsSound s → IsSound s'
prune-sound s (Pruned dropped) s' g h = becomes-sound (record s { kept = s'.kept }) s' g.2
    (kept-sound s s'.kept s.serves g.0 h)
prune-sound s _ s' g h = absurd g

not-served : {X : Type 0} → false ≡ true → X
not-served e = absurd (true≢false (sym e))

-- what the disk that is read has, and that and the commit in doubt, are histories
disk-history : (s : State) → IsSound s → IsHistory (on_disk s)
disk-history s h = rebased s.history s.base h.history h.bases.base.0 h.bases.base.1

doubt-history : (s : State) (c : Change) → MayAdd s c → IsSound s → IsHistory (grown (on_disk s) (c ∷ []))
doubt-history s c may h =
    let past = h.bases.base in
    let last : head (on_disk s) ≡ head s.history = rebases-keep-heads s.history s.base past.0 past.1 in
    let same : snapshot (on_disk s) (head (on_disk s)) ≡ snapshot s.history (head s.history) =
    ap (λ (v : ℕ). snapshot (on_disk s) v) last
    ∙ rebases-keep-snapshots s.history s.base (head s.history) past.0 past.1 in
    IsHistory-pushed (on_disk s) c (disk-history s h) may.0
    (subst (λ (m : Snapshot). IsAllowed m c) (sym same) may.1)

copy-history : (s : State) (version : ℕ) (h : History) (generation : ℕ) → IsPast s version
    → IsOfCopy s version h generation → IsSound s → IsHistory h
copy-history s version h generation past of sound =
    subst IsHistory (sym of.0) (rebased s.history version sound.history past.0 past.1)

left-history : (s : State) (h : History) (generation : ℕ) → MayBeLeft s h generation → IsSound s → IsHistory h
left-history s h generation (inl e) sound = subst IsHistory (sym e.0) (disk-history s sound)
left-history s h generation (inr (inl d)) sound =
    let may : MayAdd s d.0 = subst (λ o. MatchOption o (Unit {0}) (MayAdd s)) d.1 sound.doubt in
    subst IsHistory (sym d.2) (doubt-history s d.0 may sound)
left-history s h generation (inr (inr f)) sound =
    copy-history s f.0 h generation
    (subst (λ (o : Option ℕ). MatchOption o (Unit {0}) (IsPast s)) f.1 sound.bases.finish) f.2 sound

recovered-history : (s : State) (h : History) (generation : ℕ) → Recovers s h generation → IsSound s → IsHistory h
recovered-history s h generation (inl left) sound = left-history s h generation left sound
recovered-history s h generation (inr w) sound =
    copy-history s w.0 h generation (whole-past s (record { version = w.0; left = 0 }) w.1 sound) w.2 sound

crash-sound : (s : State) (r : Reply) (s' : State) → CrashGives s r s' → IsSound s → IsSound s'
crash-sound s Crashed s' g h = subst IsSound (sym g.1) (record {
  history = recovered-history s s'.history s'.generation g.0 h;
  doubt = tt;
  slots = tt;
  pins = λ v c. absurd (omega (arith, c.1));
  bases = record { base = (omega arith, omega arith); copy = tt; finish = tt };
  kept = λ e. not-served e;
  made = λ e. not-served e;
})
crash-sound s _ s' g h = absurd g

open-sound : (s : State) (r : Reply) (s' : State) → OpenGives s r s' → IsSound s → IsSound s'
open-sound s (Opened commits) s' g h = becomes-sound (record s { kept = s'.kept; serves = true }) s' g.8
    (kept-sound s s'.kept true g.5 h)
open-sound s _ s' g h = absurd g

step-sound : (s : State) (owner : ℕ) (e : Event) (r : Reply) (s' : State) → Gives s owner e r s' → IsSound s
    → IsSound s'
step-sound s owner (Commit c) r s' g h = commit-sound s c r s' g.1 h
step-sound s owner Pin r s' g h = pin-sound s owner r s' g.1 h
step-sound s owner (Fetch slot want from limit) r s' g h = becomes-sound s s'
    (fetch-same s owner slot want from limit r s' g.1) h
step-sound s owner (Unpin slot) r s' g h = unpin-sound s owner slot r s' g.1 h
step-sound s owner Prune r s' g h = prune-sound s r s' g.1 h
step-sound s owner (Look id) r s' g h = becomes-sound s s' (look-same s id r s' g.1) h
step-sound s owner Stats r s' g h = becomes-sound s s' (stats-same s r s' g.1) h
step-sound s owner Compact r s' g h = compact-sound s r s' g.1 h
step-sound s owner Crash r s' g h = crash-sound s r s' g h
step-sound s owner Open r s' g h = open-sound s r s' g h

pub runs-stay-sound : RunsStaySound
runs-stay-sound s s' [] run h = subst IsSound (sym run) h
runs-stay-sound s s' (x ∷ xs) run h =
    runs-stay-sound x.after s' xs run.2 (step-sound x.before x.owner x.event x.reply x.after run.1
    (subst IsSound (sym run.0) h))
