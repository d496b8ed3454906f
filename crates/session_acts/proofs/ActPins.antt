-- What an act does to the pins of the open cursors, and leaves of others.
use Rattle.std.proofs.Common.{◌++◌, inl, inr, List, [], ◌∷◌, subst, sym, ℕ}
use Rattle.smarts_parse.specs.Pattern.{PatternTerm}
use Rattle.store_core.specs.Calls.{SameHeld}
use Rattle.store_machine.specs.declared.machine.Event.TheVariants as events
use Rattle.session_acts.specs.Acts.{Act, Asks, Closed, Does, DoesAll, DoesWatch, FoundData, Lines, ListedSame, ListedSimilar, Opened, RegisteredEach, RegisteredNew, Says, Searched, Searches, Turned}
use Rattle.session_acts.specs.Cursors.{Calls, Cursor}
use Rattle.dialogue.specs.Dialogue.{AreExchanged, calls_in}
use Rattle.session_acts.specs.Talking.{Exchange}
use Rattle.session_acts.specs.Pins.{AreApart, AreHeld, HeldAfter, HeldBy, Returns, SameOthers}
use Rattle.session_acts.specs.Watching.{Standing, Watched}
use Rattle.session_acts.proofs.Sized.{sized}
use Rattle.session_acts.proofs.Acts.{quiet_ask, quiet_data, quiet_each}
use Rattle.session_acts.proofs.Held.{after-append, apart-parts, held-added, held-moved, held-same, held-without, leave-same, others-added, others-moved, others-without, same_held, same_others, same_others-more}
use Rattle.session_acts.proofs.LookedUp.{fetches_leave, looked_held, new_looks, pin_returned, same_looks, similar_looks}
use Rattle.session_acts.proofs.Passing.{advances_fetch, advances_same}
use Rattle.session_acts.proofs.WatchActs.{watch_looks}

-- a search gives its pin back
search_same : (a : ℕ → ℕ → Type 0) (size : ℕ) (pattern : PatternTerm) (calls : Calls) (lines : Lines)
    → Searches size pattern calls lines → AreApart a calls → SameHeld a (HeldAfter a calls)
search_same a size pattern calls lines s apart =
    pin_returned a s.slot s.version size s.searched.want s.place calls s.pages s.made s.searched.fetches apart

-- the cursors' pins
pub act_held : {size : ℕ} {cursors cursors' : List Cursor} {act : Act} {calls : Calls} {lines : Lines}
    (a : ℕ → ℕ → Type 0) → Does size cursors act calls lines cursors' → AreApart a calls → AreHeld a cursors
    → AreHeld (HeldAfter a calls) cursors'
act_held a (Says note) apart h = h
act_held {cursors = cursors} a (Asks event reply said is) apart h =
    let calls : Calls = (event, reply) ∷ [] in
    held-same a (HeldAfter a calls) cursors (leave-same a calls (quiet_ask event reply said is).leave) h
act_held {size} {cursors} a (Searched pattern calls lines found) apart h =
    held-same a (HeldAfter a calls) cursors (search_same a size pattern calls lines found apart) h
act_held {cursors = cursors} a (ListedSame m print calls lines s) apart h =
    held-same a (HeldAfter a calls) cursors (looked_held a (same_looks s) apart) h
act_held {cursors = cursors} a (RegisteredNew change m print calls lines s) apart h =
    held-same a (HeldAfter a calls) cursors (looked_held a (new_looks s) apart) h
act_held {cursors = cursors} a (ListedSimilar p q k print calls lines s) apart h =
    held-same a (HeldAfter a calls) cursors (looked_held a (similar_looks s) apart) h
act_held {cursors = cursors} a (RegisteredEach id records calls lines each) apart h =
    held-same a (HeldAfter a calls) cursors (leave-same a calls (quiet_each id 0 records calls lines each).leave) h
act_held {cursors = cursors} a (FoundData id name reply said is) apart h =
    let calls : Calls = (events.Look id, reply) ∷ [] in
    held-same a (HeldAfter a calls) cursors (leave-same a calls (quiet_data id name reply said is).leave) h
act_held {cursors = cursors} a (Opened name pattern want slot version new need) apart h =
    held-added a cursors _ apart.0 h
act_held {size} {cursors} a (Turned name before after c c' calls lines named advances) apart h =
    let same = advances_same advances in
    let f = advances_fetch advances in
    held-same a (HeldAfter a calls) (before ++ c' ∷ after)
    (leave-same a calls (fetches_leave c.slot size c.want c.place f.0 calls f.1))
    (held-moved a before after c c' same.slot same.version (subst (AreHeld a) named.place h))
act_held a (Closed name before after c named) apart h =
    held-without a before after c (subst (AreHeld a) named.place h)

-- and all others
pub act_others : {size : ℕ} {cursors cursors' : List Cursor} {act : Act} {calls : Calls} {lines : Lines}
    (a : ℕ → ℕ → Type 0) → Does size cursors act calls lines cursors' → AreApart a calls
    → SameOthers a cursors (HeldAfter a calls) cursors'
act_others {cursors = cursors} a (Says note) apart = same_others a a cursors (same_held a)
act_others {cursors = cursors} a (Asks event reply said is) apart =
    let calls : Calls = (event, reply) ∷ [] in
    same_others a (HeldAfter a calls) cursors (leave-same a calls (quiet_ask event reply said is).leave)
act_others {size} {cursors} a (Searched pattern calls lines found) apart =
    same_others a (HeldAfter a calls) cursors (search_same a size pattern calls lines found apart)
act_others {cursors = cursors} a (ListedSame m print calls lines s) apart =
    same_others a (HeldAfter a calls) cursors (looked_held a (same_looks s) apart)
act_others {cursors = cursors} a (RegisteredNew change m print calls lines s) apart =
    same_others a (HeldAfter a calls) cursors (looked_held a (new_looks s) apart)
act_others {cursors = cursors} a (ListedSimilar p q k print calls lines s) apart =
    same_others a (HeldAfter a calls) cursors (looked_held a (similar_looks s) apart)
act_others {cursors = cursors} a (RegisteredEach id records calls lines each) apart =
    same_others a (HeldAfter a calls) cursors (leave-same a calls (quiet_each id 0 records calls lines each).leave)
act_others {cursors = cursors} a (FoundData id name reply said is) apart =
    let calls : Calls = (events.Look id, reply) ∷ [] in
    same_others a (HeldAfter a calls) cursors (leave-same a calls (quiet_data id name reply said is).leave)
act_others {cursors = cursors} a (Opened name pattern want slot version new need) apart =
    others-added a cursors _ apart.0
act_others {size} {cursors} a (Turned name before after c c' calls lines named advances) apart =
    let f = advances_fetch advances in
    subst (λ (l : List Cursor). SameOthers a l (HeldAfter a calls) (before ++ c' ∷ after)) (sym named.place)
    (same_others-more a a (HeldAfter a calls) (before ++ c ∷ after) (before ++ c' ∷ after) (before ++ c' ∷ after)
    (others-moved a before after c c' (advances_same advances).slot)
    (same_others a (HeldAfter a calls) (before ++ c' ∷ after)
    (leave-same a calls (fetches_leave c.slot size c.want c.place f.0 calls f.1))))
act_others a (Closed name before after c named) apart =
    subst (λ (l : List Cursor). SameOthers a l (HeldBy a (Returns c.slot)) (before ++ after)) (sym named.place)
    (others-without a before after c)

-- of all acts
watch_same : {size : ℕ} {w w' : List Watched} {act : Act} {calls : Calls} {lines : Lines} (a : ℕ → ℕ → Type 0)
    → DoesWatch size w act calls lines w' → AreApart a calls → SameHeld a (HeldAfter a calls)
watch_same {calls = calls} a d apart = elim (watch_looks d) [
  | inl e ↦ subst (λ (cs : Calls). SameHeld a (HeldAfter a cs)) (sym e) (same_held a)
  | inr l ↦ looked_held a l apart
]

pub all_held : {size : ℕ} {standing standing' : Standing} {act : Act} {calls : Calls} {lines : Lines}
    (a : ℕ → ℕ → Type 0) → DoesAll size standing act calls lines standing' → AreApart a calls
    → AreHeld a standing.cursors → AreHeld (HeldAfter a calls) standing'.cursors
all_held a (inl d) apart h = act_held a d.0 apart h
all_held {standing = standing} {calls = calls} a (inr d) apart h =
    subst (AreHeld (HeldAfter a calls)) (sym d.1)
    (held-same a (HeldAfter a calls) standing.cursors (watch_same a d.0 apart) h)

pub all_others : {size : ℕ} {standing standing' : Standing} {act : Act} {calls : Calls} {lines : Lines}
    (a : ℕ → ℕ → Type 0) → DoesAll size standing act calls lines standing' → AreApart a calls
    → SameOthers a standing.cursors (HeldAfter a calls) standing'.cursors
all_others a (inl d) apart = act_others a d.0 apart
all_others {standing = standing} {calls = calls} a (inr d) apart =
    subst (λ (l : List Cursor). SameOthers a standing.cursors (HeldAfter a calls) l) (sym d.1)
    (same_others a (HeldAfter a calls) standing.cursors (watch_same a d.0 apart))

-- those of a dialogue
pub dialogue_held : (a : ℕ → ℕ → Type 0) (size : ℕ) (xs : List Exchange) (standing standing' : Standing)
    → AreExchanged (sized size) standing xs standing' → AreApart a (calls_in (sized size) xs)
    → AreHeld a standing.cursors → AreHeld (HeldAfter a (calls_in (sized size) xs)) standing'.cursors
dialogue_held a size [] standing standing' x apart h = subst (λ (k : Standing). AreHeld a k.cursors) (sym x) h
dialogue_held a size (x ∷ xs) standing standing' d apart h =
    let more = calls_in (sized size) xs in
    let parts = apart-parts a x.calls more apart in
    subst (λ (f : ℕ → ℕ → Type 0). AreHeld f standing'.cursors) (sym (after-append a x.calls more))
    (dialogue_held (HeldAfter a x.calls) size xs d.0 standing' d.2 parts.1 (all_held a d.1.does parts.0 h))
