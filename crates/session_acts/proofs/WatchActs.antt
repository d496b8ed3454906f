-- The acts on watches: their calls are none or those of a lookup, and no other command allows them.
use Rattle.std.proofs.Common.{◌≡◌, ◌⊎◌, inl, inr, List, [], refl, ℕ}
use Rattle.io_edge.specs.Lines.{TextLine}
use Rattle.shell_lang.specs.Command as command
use Rattle.store_machine.specs.Searches.{At}
use Rattle.store_machine.specs.declared.machine.Change.{Change}
use Rattle.store_machine.specs.declared.machine.Event.{Event}
use Rattle.store_machine.specs.declared.machine.Event.TheVariants as events
use Rattle.session_acts.specs.Acts.{Act, Current, Does, DoesAll, DoesWatch, HitsLost, Lines, ListHits, MayAsk, Refilled, TakenOut, Unwatch, Watch, WatchLost, WatchedAll}
use Rattle.session_acts.specs.Cursors.{Calls}
use Rattle.session_acts.specs.Watching.{AfterCalls, Standing, Watched}
use Rattle.session_acts.proofs.Acts.{Fits}
use Rattle.session_acts.proofs.LookedUp.{IsLookup, alone}

abbrev pub IsWatchAct : Act → Type 0
IsWatchAct (Watch name pattern) = Unit {0}
IsWatchAct (ListHits name) = Unit {0}
IsWatchAct (Unwatch name) = Unit {0}
IsWatchAct _ = ⊥

pub watch_is : {size : ℕ} {w w' : List Watched} {act : Act} {calls : Calls} {lines : Lines}
    → DoesWatch size w act calls lines w' → IsWatchAct act
watch_is (WatchedAll name pattern calls version hits new few found) = tt
watch_is (WatchLost name pattern calls want place new few need lookup) = tt
watch_is (Current name w slot named) = tt
watch_is (Refilled name w calls version hits named other found) = tt
watch_is (HitsLost name w calls want place named need lookup anew) = tt
watch_is (TakenOut name w named) = tt

pub asks_no_watch : (event : Event) (act : Act) → MayAsk event act → IsWatchAct act → ⊥
asks_no_watch event (Watch name pattern) may is = may
asks_no_watch event (ListHits name) may is = may
asks_no_watch event (Unwatch name) may is = may
asks_no_watch event _ may is = is

-- their calls
pub watch_looks : {size : ℕ} {w w' : List Watched} {act : Act} {calls : Calls} {lines : Lines}
    → DoesWatch size w act calls lines w' → (calls ≡ []) ⊎ IsLookup size calls
watch_looks (WatchedAll name pattern calls version hits new few found) = inr (alone found.lookup)
watch_looks (WatchLost name pattern calls want place new few need lookup) = inr (alone lookup)
watch_looks (Current name w slot named) = inr (alone {want = []} {place = At 0}
    (record { slot = slot; version = w.version; pages = []; made = refl; fetches = refl }))
watch_looks (Refilled name w calls version hits named other found) = inr (alone found.lookup)
watch_looks (HitsLost name w calls want place named need lookup anew) = inr (alone lookup)
watch_looks (TakenOut name w named) = inl refl

-- an act that is none of them
pub of_cursors : {size : ℕ} {standing standing' : Standing} {act : Act} {calls : Calls} {lines : Lines}
    → (IsWatchAct act → ⊥) → DoesAll size standing act calls lines standing'
    → Does size standing.cursors act calls lines standing'.cursors
of_cursors apart (inl d) = d.0
of_cursors apart (inr d) = absurd (apart (watch_is d.0))

pub by_commit : (change : Change) {size : ℕ} {standing standing' : Standing} {act : Act} {calls : Calls} {lines : Lines}
    → MayAsk (events.Commit change) act → DoesAll size standing act calls lines standing'
    → Does size standing.cursors act calls lines standing'.cursors
    × AfterCalls calls standing.watches standing'.watches
by_commit change may (inl d) = d
by_commit change {act = act} may (inr d) = absurd (asks_no_watch (events.Commit change) act may (watch_is d.0))

-- no other command allows them
module _ (standing : Standing) (more : List TextLine) where
  pub search_apart : (text : List ℕ) (act : Act) → Fits standing more (command.Search text) act → IsWatchAct act → ⊥
  search_apart text (Watch name pattern) f is = f
  search_apart text (ListHits name) f is = f
  search_apart text (Unwatch name) f is = f
  search_apart text _ f is = is

  pub start_apart : (own text : List ℕ) (act : Act) → Fits standing more (command.Start own text) act → IsWatchAct act
      → ⊥
  start_apart own text (Watch name pattern) f is = f
  start_apart own text (ListHits name) f is = f
  start_apart own text (Unwatch name) f is = f
  start_apart own text _ f is = is

  pub next_apart : (own : List ℕ) (act : Act) → Fits standing more (command.Next own) act → IsWatchAct act → ⊥
  next_apart own (Watch name pattern) f is = f
  next_apart own (ListHits name) f is = f
  next_apart own (Unwatch name) f is = f
  next_apart own _ f is = is

  pub same_apart : (text : List ℕ) (act : Act) → Fits standing more (command.Same text) act → IsWatchAct act → ⊥
  same_apart text (Watch name pattern) f is = f
  same_apart text (ListHits name) f is = f
  same_apart text (Unwatch name) f is = f
  same_apart text _ f is = is

  pub similar_apart : (p q k : ℕ) (text : List ℕ) (act : Act)
      → Fits standing more (command.Similar p q k text) act → IsWatchAct act → ⊥
  similar_apart p q k text (Watch name pattern) f is = f
  similar_apart p q k text (ListHits name) f is = f
  similar_apart p q k text (Unwatch name) f is = f
  similar_apart p q k text _ f is = is

  pub new_apart : (id : ℕ) (text : List ℕ) (act : Act) → Fits standing more (command.RegisterNew id text) act
      → IsWatchAct act → ⊥
  new_apart id text (Watch name pattern) f is = f
  new_apart id text (ListHits name) f is = f
  new_apart id text (Unwatch name) f is = f
  new_apart id text _ f is = is
