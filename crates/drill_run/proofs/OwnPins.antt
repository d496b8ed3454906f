-- The calls of a session name no pins but those of its cursors and those that they took themselves.
use Rattle.std.proofs.Common.{◌≡◌, ◌+◌, ◌++◌, ap, Bool, cond, inl, inr, List, [], ◌∷◌, Option, refl, subst, suc, sym, ℕ}
use Rattle.chem_core.specs.Molecule.{Molecule}
use Rattle.io_edge.specs.Lines.{TextLine}
use Rattle.lookup.specs.Fetches.{AreFetches, lookup_calls}
use Rattle.session_acts.specs.Acts.{Act, Advances, AllSame, AllSimilar, AnswersBy, Asks, Closed, Current, Does, DoesAll, DoesWatch, Ended, Faults, FoundData, HitsLost, IsLineOf, IsNew, Lines, ListedSame, ListedSimilar, ListsSame, ListsSimilar, Lost, NewLost, NotNew, Opened, Paged, Refilled, Refuses, RegisteredEach, RegisteredNew, RegistersEach, RegistersNew, Replies, SameLost, Says, Searched, Searches, SimilarLost, TakenOut, Turned, WatchLost, WatchedAll}
use Rattle.session_acts.specs.Cursors.{Calls, Cursor}
use Rattle.session_acts.specs.Lookups.{LooksUp}
use Rattle.session_acts.specs.Pins.{AreApart, AreHeld, Effect, HeldAfter, HeldBy, IsApart, Leaves, Returns, Takes, effect}
use Rattle.session_acts.specs.Records.{counted}
use Rattle.session_acts.specs.Watching.{Standing, Watched}
use Rattle.session_acts.proofs.Held.{after-under, held-at, leave-same}
use Rattle.session_acts.proofs.LookedUp.{fetches_leave}
use Rattle.shell_lang.specs.Reply as line
use Rattle.smarts_parse.specs.Pattern.{PatternTerm}
use Rattle.store_machine.specs.Searches.{At, End, Place, past}
use Rattle.store_machine.specs.declared.machine.Change.{Change}
use Rattle.store_machine.specs.declared.machine.Event.{Event}
use Rattle.store_machine.specs.declared.machine.Event.TheVariants as events
use Rattle.store_machine.specs.declared.machine.Reply.{Reply}
use Rattle.store_machine.specs.declared.machine.Reply.TheVariants as replies

-- it is a call of a session, and the pin that it names, if any, is one of these
abbrev pub NamesPin : (ℕ → ℕ → Type 0) → Event → Type 0
NamesPin mine (events.Fetch slot want from limit) = (version : ℕ) × mine slot version
NamesPin mine (events.Unpin slot) = (version : ℕ) × mine slot version
NamesPin mine events.Crash = ⊥
NamesPin mine events.Open = ⊥
NamesPin mine _ = Unit {0}

-- or one that was taken since
abbrev pub NamePins : (ℕ → ℕ → Type 0) → Calls → Type 0
NamePins mine [] = Unit {0}
NamePins mine (c ∷ cs) = NamesPin mine c.0 × NamePins (HeldBy mine (effect c.0 c.1)) cs

-- more pins
pub by-under : (a b : ℕ → ℕ → Type 0) (c : Event × Reply) → ((s v : ℕ) → a s v → b s v) → (s v : ℕ)
    → HeldBy a (effect c.0 c.1) s v → HeldBy b (effect c.0 c.1) s v
by-under a b c u s v h = after-under a b (c ∷ []) u s v h

name-under : (a b : ℕ → ℕ → Type 0) (e : Event) → ((s v : ℕ) → a s v → b s v) → NamesPin a e → NamesPin b e
name-under a b (events.Fetch slot want from limit) u n = (n.0, u slot n.0 n.1)
name-under a b (events.Unpin slot) u n = (n.0, u slot n.0 n.1)
name-under a b events.Compact u n = tt
name-under a b events.Crash u n = n
name-under a b events.Open u n = n
name-under a b (events.Commit change) u n = tt
name-under a b events.Pin u n = tt
name-under a b events.Prune u n = tt
name-under a b (events.Look id) u n = tt
name-under a b events.Stats u n = tt

pub names-under : (a b : ℕ → ℕ → Type 0) (cs : Calls) → ((s v : ℕ) → a s v → b s v) → NamePins a cs → NamePins b cs
names-under a b [] u n = tt
names-under a b (c ∷ cs) u n = (
  name-under a b c.0 u n.0,
  names-under (HeldBy a (effect c.0 c.1)) (HeldBy b (effect c.0 c.1)) cs (by-under a b c u) n.1,
)

names-append : (a : ℕ → ℕ → Type 0) (xs ys : Calls) → NamePins a xs → NamePins (HeldAfter a xs) ys
    → NamePins a (xs ++ ys)
names-append a [] ys n m = m
names-append a (x ∷ xs) ys n m = (n.0, names-append (HeldBy a (effect x.0 x.1)) xs ys n.1 m)

-- fewer pins stay apart, and are held
apart-one : (a b : ℕ → ℕ → Type 0) (e : Effect) → ((s v : ℕ) → a s v → b s v) → IsApart b e → IsApart a e
apart-one a b (Takes slot version) u f = λ other h. f other (u slot other h)
apart-one a b (Returns slot) u f = tt
apart-one a b Leaves u f = tt

pub apart-under : (a b : ℕ → ℕ → Type 0) (cs : Calls) → ((s v : ℕ) → a s v → b s v) → AreApart b cs → AreApart a cs
apart-under a b [] u f = tt
apart-under a b (c ∷ cs) u f = (
  apart-one a b (effect c.0 c.1) u f.0,
  apart-under (HeldBy a (effect c.0 c.1)) (HeldBy b (effect c.0 c.1)) cs (by-under a b c u) f.1,
)

pub held-under : (a b : ℕ → ℕ → Type 0) (cursors : List Cursor) → ((s v : ℕ) → a s v → b s v) → AreHeld a cursors
    → AreHeld b cursors
held-under a b [] u h = tt
held-under a b (c ∷ cs) u h = (u c.slot c.version h.0, h.1, held-under a b cs u h.2)

-- a fetch of a pin
fetch-named : (a : ℕ → ℕ → Type 0) (slot version from size : ℕ) (want : List Bool) (e : Event) → a slot version
    → e ≡ events.Fetch slot want from size → NamesPin a e
fetch-named a slot version from size want e h is = subst (NamesPin a) (sym is) (version, h)

fetch-leaves : (slot from size : ℕ) (want : List Bool) (e : Event) (r : Reply) → e ≡ events.Fetch slot want from size
    → effect e r ≡ Leaves
fetch-leaves slot from size want e r is = ap (λ (x : Event). effect x r) is

fetches-named : (a : ℕ → ℕ → Type 0) (slot version size : ℕ) (want : List Bool) (place place' : Place) (cs : Calls)
    → a slot version → AreFetches slot size want place cs place' → NamePins a cs
fetches-named a slot version size want place place' [] h f = tt
fetches-named a slot version size want place place' (c ∷ cs) h (from, at, is, inl k) = (
  fetch-named a slot version from size want c.0 h is,
  subst (NamePins (HeldBy a (effect c.0 c.1))) (sym k.1) tt,
)
fetches-named a slot version size want place place' (c ∷ cs) h (from, at, is, inr k) = (
  fetch-named a slot version from size want c.0 h is,
  subst (λ (e : Effect). NamePins (HeldBy a e) cs) (sym (fetch-leaves slot from size want c.0 c.1 is))
      (fetches-named a slot version size want (cond k.1 End (At (past from k.0))) place' cs h k.3),
)

-- a pin, fetches of it, and it is given back
lookup-named : (a : ℕ → ℕ → Type 0) (slot version size : ℕ) (want : List Bool) (place : Place) (calls pages : Calls)
    → calls ≡ lookup_calls slot version pages → AreFetches slot size want (At 0) pages place → NamePins a calls
lookup-named a slot version size want place calls pages made fetches =
    let taken : ℕ → ℕ → Type 0 = HeldBy a (Takes slot version) in
    let own : taken slot version = inr (refl, refl) in
    let leave = leave-same taken pages (fetches_leave slot size want (At 0) place pages fetches) in
    let last : NamePins (HeldAfter taken pages) ((events.Unpin slot, replies.Unpinned) ∷ []) =
    ((version, (leave slot version).1 own), tt) in
    subst (NamePins a) (sym made) (
      tt,
      names-append taken pages ((events.Unpin slot, replies.Unpinned) ∷ [])
          (fetches-named taken slot version size want (At 0) place pages own fetches) last,
    )

looked-named : {size : ℕ} {want : List Bool} {place : Place} {calls : Calls} (a : ℕ → ℕ → Type 0)
    → LooksUp size want place calls → NamePins a calls
looked-named {size} {want} {place} {calls} a l =
    lookup-named a l.slot l.version size want place calls l.pages l.made l.fetches

same-named : {size : ℕ} {m : Molecule} {print : List Bool} {calls : Calls} {lines : Lines} (a : ℕ → ℕ → Type 0)
    → ListsSame size m print calls lines → NamePins a calls
same-named a (AllSame calls list found) = looked-named a found.lookup
same-named a (SameLost calls place lookup) = looked-named a lookup

new-named : {size : ℕ} {change : Change} {m : Molecule} {print : List Bool} {calls : Calls} {lines : Lines}
    (a : ℕ → ℕ → Type 0) → RegistersNew size change m print calls lines → NamePins a calls
new-named a (NotNew calls list id more found first) = looked-named a found.lookup
new-named {change = change} a (IsNew calls list reply said found none is) =
    names-append a calls ((events.Commit change, reply) ∷ []) (looked-named a found.lookup) (tt, tt)
new-named a (NewLost calls place lookup) = looked-named a lookup

similar-named : {size p q k : ℕ} {print : List Bool} {calls : Calls} {lines : Lines} (a : ℕ → ℕ → Type 0)
    → ListsSimilar size p q k print calls lines → NamePins a calls
similar-named a (AllSimilar calls list found) = looked-named a found.lookup
similar-named a (SimilarLost calls want place none lookup) = looked-named a lookup

search-named : (a : ℕ → ℕ → Type 0) (size : ℕ) (pattern : PatternTerm) (calls : Calls) (lines : Lines)
    → Searches size pattern calls lines → NamePins a calls
search-named a size pattern calls lines s =
    lookup-named a s.slot s.version size s.searched.want s.place calls s.pages s.made s.searched.fetches

-- one call
ask-named : (a : ℕ → ℕ → Type 0) (event : Event) (reply : Reply) (said : line.Reply) → IsLineOf event reply said
    → NamesPin a event
ask-named a (events.Fetch slot want from limit) reply said is = absurd is
ask-named a (events.Unpin slot) reply said is = absurd is
ask-named a events.Compact reply said is = tt
ask-named a events.Crash reply said is = absurd is
ask-named a events.Open reply said is = absurd is
ask-named a (events.Commit change) reply said is = tt
ask-named a events.Pin reply said is = tt
ask-named a events.Prune reply said is = tt
ask-named a (events.Look id) reply said is = tt
ask-named a events.Stats reply said is = tt

by-named : {act : Act} {calls : Calls} {said : line.Reply} (a : ℕ → ℕ → Type 0) → AnswersBy act calls said
    → NamePins a calls
by-named a (Refuses refusal) = tt
by-named a Faults = tt
by-named a (Replies event reply said is) = (ask-named a event reply said is, tt)

-- the calls for the records of an SD file
each-named : (a : ℕ → ℕ → Type 0) (id sum : ℕ) (records : List (Option (List TextLine))) (calls : Calls) (lines : Lines)
    → RegistersEach id sum records calls lines → NamePins a calls
each-named a id sum [] calls lines h = subst (NamePins a) (sym h.0) tt
each-named a id sum (r ∷ records) calls lines (act, own, more, said, rest, may, by, e, f, next) =
    subst (NamePins a) (sym e) (names-append a own more (by-named a by)
    (each-named (HeldAfter a own) (suc id) (sum + counted r) records more rest next))

advance-named : {size : ℕ} {c c' : Cursor} {calls : Calls} {lines : Lines} (a : ℕ → ℕ → Type 0) → a c.slot c.version
    → Advances size c calls lines c' → NamePins a calls
advance-named a h (Ended at) = tt
advance-named {c = c} a h (Paged from records last hits at matched) = ((c.version, h), tt)
advance-named {c = c} a h (Lost from at) = ((c.version, h), tt)

-- an act where the pins of the cursors are held
act-named : {size : ℕ} {cursors cursors' : List Cursor} {act : Act} {calls : Calls} {lines : Lines}
    (a : ℕ → ℕ → Type 0) → Does size cursors act calls lines cursors' → AreHeld a cursors → NamePins a calls
act-named a (Says note) h = tt
act-named a (Asks event reply said is) h = (ask-named a event reply said is, tt)
act-named {size} a (Searched pattern calls lines found) h = search-named a size pattern calls lines found
act-named a (Opened name pattern want slot version new need) h = (tt, tt)
act-named a (Turned name before after c c' calls lines named advances) h =
    advance-named a (held-at a before after c (subst (AreHeld a) named.place h)) advances
act-named a (Closed name before after c named) h =
    ((c.version, held-at a before after c (subst (AreHeld a) named.place h)), tt)
act-named a (ListedSame m print calls lines s) h = same-named a s
act-named a (RegisteredNew change m print calls lines s) h = new-named a s
act-named a (ListedSimilar p q k print calls lines s) h = similar-named a s
act-named a (RegisteredEach id records calls lines each) h = each-named a id 0 records calls lines each
act-named a (FoundData id name reply said is) h = (tt, tt)

-- what is done by the watches
watch-named : {size : ℕ} {watches watches' : List Watched} {act : Act} {calls : Calls} {lines : Lines}
    (a : ℕ → ℕ → Type 0) → DoesWatch size watches act calls lines watches' → NamePins a calls
watch-named a (WatchedAll name pattern calls version hits new few found) = looked-named a found.lookup
watch-named a (WatchLost name pattern calls want place new few need lookup) = looked-named a lookup
watch-named a (Current name w slot named) = (tt, ((w.version, inr (refl, refl)), tt))
watch-named a (Refilled name w calls version hits named other found) = looked-named a found.lookup
watch-named a (HitsLost name w calls want place named need lookup anew) = looked-named a lookup
watch-named a (TakenOut name w named) = tt

pub all-named : {size : ℕ} {standing standing' : Standing} {act : Act} {calls : Calls} {lines : Lines}
    (a : ℕ → ℕ → Type 0) → DoesAll size standing act calls lines standing' → AreHeld a standing.cursors
    → NamePins a calls
all-named a (inl d) h = act-named a d.0 h
all-named a (inr d) h = watch-named a d.0
