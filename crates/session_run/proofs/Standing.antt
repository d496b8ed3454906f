-- Answers by all that a session keeps: the watches follow the commits among the calls.
use Rattle.std.proofs.Common.{◌≡◌, ◌++◌, Bool, cond, inl, inr, List, [], ◌∷◌, refl, Result, subst, sym, ℕ}
use Rattle.lookup.specs.Fetches.{AreFetches}
use Rattle.store_machine.specs.Searches.{At, End, Place, past}
use Rattle.store_machine.specs.declared.machine.Event.{Event}
use Rattle.store_machine.specs.declared.machine.Event.TheVariants as events
use Rattle.store_machine.specs.declared.machine.Reply.{Reply}
use Rattle.store_machine.specs.declared.machine.Reply.TheVariants as replies
use Rattle.session_acts.specs.Acts.{Act, AllSame, AllSimilar, Answers, Ask, Asks, Closed, Does, FoundData, Lines, ListedSame, ListedSimilar, MayAsk, MayClose, MayFind, MayOpen, MaySame, MaySearch, MaySimilar, MayTurn, Note, Opened, RegisterEach, RegisterNew, RegisteredEach, RegisteredNew, Responds, SameLost, Say, Says, Searched, SimilarLost, Turned, note_lines}
use Rattle.session_acts.specs.Cursors.{Calls, Cursor}
use Rattle.session_acts.specs.Lookups.{LooksUp}
use Rattle.session_acts.specs.Watching.{AfterCall, AfterCalls, Standing, Watched}
use Rattle.session_acts.proofs.Passing.{advances_fetch}
use Rattle.session_run.specs.Made.{Answered}
use Rattle.session_run.specs.Standings.{both}
use Rattle.dialogue.specs.declared.end.Stop.{Stop}
use Rattle.session_run.proofs.Lines.{answered_as}

-- Calls that follow calls
pub over-append : (xs ys : Calls) (a b c : List Watched) → AfterCalls xs a b → AfterCalls ys b c
    → AfterCalls (xs ++ ys) a c
over-append [] ys a b c h k = subst (λ (w : List Watched). AfterCalls ys w c) h k
over-append (x ∷ xs) ys a b c h k = (h.0, h.1, over-append xs ys h.0 b c h.2 k)

-- calls among which is no commit
pub fetches_still : (w : List Watched) (slot size : ℕ) (want : List Bool) (place place' : Place) (cs : Calls)
    → AreFetches slot size want place cs place' → AfterCalls cs w w
fetches_still w slot size want place place' [] h = refl
fetches_still w slot size want place place' (c ∷ cs) (from, at, is, inl k) = (
  w,
  subst (λ (e : Event). AfterCall e c.1 w w) (sym is) refl,
  subst (λ (l : Calls). AfterCalls l w w) (sym k.1) refl,
)
fetches_still w slot size want place place' (c ∷ cs) (from, at, is, inr k) = (
  w,
  subst (λ (e : Event). AfterCall e c.1 w w) (sym is) refl,
  fetches_still w slot size want (cond k.1 End (At (past from k.0))) place' cs k.3,
)

-- a pin, fetches of it, and it is given back
pub pinned_still : (w : List Watched) (slot version size : ℕ) (want : List Bool) (place : Place) (calls pages : Calls)
    → calls ≡ (events.Pin, replies.Pinned slot version) ∷ (pages ++ (events.Unpin slot, replies.Unpinned) ∷ [])
    → AreFetches slot size want (At 0) pages place → AfterCalls calls w w
pinned_still w slot version size want place calls pages made fetches =
    subst (λ (l : Calls). AfterCalls l w w) (sym made) (
      w,
      refl,
      over-append pages ((events.Unpin slot, replies.Unpinned) ∷ []) w w w
          (fetches_still w slot size want (At 0) place pages fetches) (w, refl, refl),
    )

pub looks_still : {size : ℕ} {want : List Bool} {place : Place} {calls : Calls} (w : List Watched)
    → LooksUp size want place calls → AfterCalls calls w w
looks_still {size} {want} {place} {calls} w l =
    pinned_still w l.slot l.version size want place calls l.pages l.made l.fetches

-- acts that commit nothing
abbrev pub CommitsNone : Act → Type 0
CommitsNone (Ask (events.Commit change)) = ⊥
CommitsNone (RegisterNew change m print) = ⊥
CommitsNone (RegisterEach id records) = ⊥
CommitsNone _ = Unit {0}

call_still : (w : List Watched) (event : Event) (reply : Reply) → CommitsNone (Ask event) → AfterCall event reply w w
call_still w (events.Commit change) reply none = absurd none
call_still w _ reply none = refl

pub still_by : {size : ℕ} {cursors cursors' : List Cursor} {act : Act} {calls : Calls} {lines : Lines}
    (w : List Watched) → Does size cursors act calls lines cursors' → CommitsNone act → AfterCalls calls w w
still_by w (Says note) none = refl
still_by w (Asks event reply said is) none = (w, call_still w event reply none, refl)
still_by {size} w (Searched pattern calls lines found) none =
    pinned_still w found.slot found.version size found.searched.want found.place calls found.pages found.made
    found.searched.fetches
still_by w (Opened name pattern want slot version new need) none = (w, refl, refl)
still_by {size} w (Turned name before after c c' calls lines named advances) none =
    let f = advances_fetch advances in
    fetches_still w c.slot size c.want c.place f.0 calls f.1
still_by w (Closed name before after c named) none = (w, refl, refl)
still_by w (ListedSame m print _ _ (AllSame calls list found)) none = looks_still w found.lookup
still_by w (ListedSame m print _ _ (SameLost calls place lookup)) none = looks_still w lookup
still_by w (RegisteredNew change m print calls lines s) none = absurd none
still_by w (ListedSimilar p q k print _ _ (AllSimilar calls list found)) none = looks_still w found.lookup
still_by w (ListedSimilar p q k print _ _ (SimilarLost calls want place empty lookup)) none = looks_still w lookup
still_by w (RegisteredEach id records calls lines each) none = absurd none
still_by w (FoundData id name reply said is) none = (w, refl, refl)

-- which acts do not
pub asks_none : (event : Event) → CommitsNone (Ask event) → (act : Act) → MayAsk event act → CommitsNone act
asks_none event none (Say note) a = tt
asks_none event none (Ask other) a = subst (λ (e : Event). CommitsNone (Ask e)) (sym a) none
asks_none event none _ a = absurd a

asks_pin : (event : Event) → event ≡ events.Pin → CommitsNone (Ask event)
asks_pin event e = subst (λ (x : Event). CommitsNone (Ask x)) (sym e) tt

pub search_none : (text : List ℕ) (act : Act) → MaySearch text act → CommitsNone act
search_none text (Ask event) a = asks_pin event a.0
search_none text (RegisterNew change m print) a = a
search_none text (RegisterEach id records) a = a
search_none text _ a = tt

pub open_none : (cursors : List Cursor) (name text : List ℕ) (act : Act) → MayOpen cursors name text act
    → CommitsNone act
open_none cursors name text (Ask event) a = asks_pin event a.0
open_none cursors name text (RegisterNew change m print) a = a
open_none cursors name text (RegisterEach id records) a = a
open_none cursors name text _ a = tt

pub turn_none : (cursors : List Cursor) (name : List ℕ) (act : Act) → MayTurn cursors name act → CommitsNone act
turn_none cursors name (Ask event) a = absurd a
turn_none cursors name (RegisterNew change m print) a = a
turn_none cursors name (RegisterEach id records) a = a
turn_none cursors name _ a = tt

pub close_none : (cursors : List Cursor) (name : List ℕ) (act : Act) → MayClose cursors name act → CommitsNone act
close_none cursors name (Ask event) a = absurd a
close_none cursors name (RegisterNew change m print) a = a
close_none cursors name (RegisterEach id records) a = a
close_none cursors name _ a = tt

pub same_none : (text : List ℕ) (act : Act) → MaySame text act → CommitsNone act
same_none text (Ask event) a = asks_pin event a.0
same_none text (RegisterNew change m print) a = a
same_none text (RegisterEach id records) a = a
same_none text _ a = tt

pub similar_none : (p q k : ℕ) (text : List ℕ) (act : Act) → MaySimilar p q k text act → CommitsNone act
similar_none p q k text (Ask event) a = asks_pin event a.0
similar_none p q k text (RegisterNew change m print) a = a
similar_none p q k text (RegisterEach id records) a = a
similar_none p q k text _ a = tt

pub find_none : (id : ℕ) (name : List ℕ) (act : Act) → MayFind id name act → CommitsNone act
find_none id name (Ask event) a = absurd a
find_none id name (RegisterNew change m print) a = a
find_none id name (RegisterEach own records) a = a
find_none id name _ a = tt

-- an answer by the cursors, where nothing was committed
pub keeps_all : {Made : Calls → Type 0} {IsWorn : Type 0} {size : ℕ} {Allowed : Act → Type 0}
    {cursors cursors' : List Cursor} {out out' : List ℕ} {result : Result (Unit {0}) Stop} (watches : List Watched)
    → ((act : Act) → Allowed act → CommitsNone act)
    → Answered Made IsWorn (Answers size Allowed cursors) out out' cursors' result
    → Answered Made IsWorn (Responds size Allowed (both cursors watches)) out out' (both cursors' watches) result
keeps_all watches none a = answered_as (λ (l : List Cursor). both l watches) (λ calls lines x b.
    record {
      act = b.act;
      allowed = b.allowed;
      does = inl (b.does, still_by watches b.does (none b.act b.allowed));
    }) a

-- one without calls
pub at_rest : {size : ℕ} {Allowed : Act → Type 0} {standing : Standing} {lines : Lines}
    → Answers size Allowed standing.cursors [] lines standing.cursors → Responds size Allowed standing [] lines standing
at_rest a = record { act = a.act; allowed = a.allowed; does = inl (a.does, refl) }

-- a note
pub rests : {size : ℕ} {Allowed : Act → Type 0} {standing : Standing} (note : Note) → Allowed (Say note)
    → Responds size Allowed standing [] (note_lines note) standing
rests note may = record { act = Say note; allowed = may; does = inl (Says note, refl) }

-- acts that are allowed more
pub responds_as : {Made : Calls → Type 0} {IsWorn : Type 0} {size : ℕ} {Allowed More : Act → Type 0}
    {standing x : Standing} {out out' : List ℕ} {result : Result (Unit {0}) Stop}
    → ((act : Act) → Allowed act → More act) → Answered Made IsWorn (Responds size Allowed standing) out out' x result
    → Answered Made IsWorn (Responds size More standing) out out' x result
responds_as f a =
    answered_as (λ x. x) (λ calls lines x b.
    record { act = b.act; allowed = f b.act b.allowed; does = b.does }) a
