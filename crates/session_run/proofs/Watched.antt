-- What the acts on watches answer, by what was found and told.
use Rattle.std.proofs.Common.{◌≡◌, ◌≢◌, ◌<◌, ◌++◌, ◌∙◌, ap, Bool, cond, filter, inl, inr, length, List, [], ◌∷◌, map, None, not, Ok, Option, option_map, refl, Result, Some, subst, sym, true, false, ℕ}
use Rattle.lookup.specs.Fetches.{IsAnew, Known, LooksUnless}
use Rattle.lookup.specs.Lists.{IsHitList}
use Rattle.lookup.specs.declared.hits.HitList.{HitList}
use Rattle.shell_lang.specs.Reply as line
use Rattle.shell_lang.specs.Reply.{text_of}
use Rattle.shell_lang.specs.declared.reply.Refusal.TheVariants as refusals
use Rattle.smarts_parse.specs.Pattern.{PatternTerm}
use Rattle.store_core.specs.Calls.{NotRaised}
use Rattle.store_core.specs.declared.service.Service as meaning
use Rattle.store_machine.specs.Searches.{At, End, Place, fetched, records_of}
use Rattle.store_machine.specs.Structures.{IsNeedOf}
use Rattle.store_machine.specs.declared.machine.Event.TheVariants as events
use Rattle.store_machine.specs.declared.machine.Found.{Found}
use Rattle.store_machine.specs.declared.machine.Reply.TheVariants as replies
use Rattle.watch_list.specs.Watches as list
use Rattle.watch_list.specs.Watches.{Watch}
use Rattle.watch_list.specs.declared.list.TheConstants.{MOST_WATCHES}
use Rattle.session_acts.specs.Acts.{Act, Current, DoesAll, HitsLost, ListHits, MayUnwatch, Refilled, Refused, Responds, TakenOut, Unwatch, WatchLost, WatchedAll, watch_lines}
use Rattle.session_acts.specs.Acts as act
use Rattle.session_acts.specs.Cursors.{Calls, Cursor}
use Rattle.session_acts.specs.Lookups.{FindsHits, LooksUp}
use Rattle.session_acts.specs.Watching.{IsUnwatched, Standing, Watched, rebuilt_in, rebuilt_watch, watch_of, without}
use Rattle.session_run.specs.Kept.{Adds, TellsHits, Unwatches}
use Rattle.session_run.specs.Made.{Answered, Said, Tells, Uses}
use Rattle.session_run.specs.Standings.{both, watched, watched_all}
use Rattle.dialogue.specs.declared.end.Stop.{Stop}
use Rattle.session_run.proofs.Lines.{said}
use Rattle.session_run.proofs.Looked.{looked_uses, looks_up}
use Rattle.session_run.proofs.Standing.{rests}

-- Watches as contracts of callers see them
pub watch_seen : (name : List ℕ) (ws : List Watch) → watch_of name (watched_all ws) ≡ option_map watched (list.watch_of name ws)
watch_seen name [] = refl
watch_seen name (w ∷ ws) = by (list.is_named name w) (watch_seen name ws) where
  by : (b : Bool) → watch_of name (watched_all ws) ≡ option_map watched (list.watch_of name ws)
      → cond b (Some (watched w)) (watch_of name (watched_all ws))
      ≡ option_map watched (cond b (Some w) (list.watch_of name ws))
  by true e = refl
  by false e = e

pub none_seen : (name : List ℕ) (ws : List Watch) → list.watch_of name ws ≡ None → IsUnwatched (watched_all ws) name
none_seen name ws e = watch_seen name ws ∙ ap (λ (o : Option Watch). option_map watched o) e

pub some_seen : (name : List ℕ) (ws : List Watch) (w : Watch) → list.watch_of name ws ≡ Some w
    → watch_of name (watched_all ws) ≡ Some (watched w)
some_seen name ws w e = watch_seen name ws ∙ ap (λ (o : Option Watch). option_map watched o) e

some_or_none : (w : Watched) (o : Option Watched) → o ≡ Some w → o ≡ None → ⊥
some_or_none w o e f = cc

pub taken_seen : (name : List ℕ) (ws : List Watch) (w : Watch) → list.watch_of name ws ≡ Some w
    → ¬ IsUnwatched (watched_all ws) name
taken_seen name ws w e none = some_or_none (watched w) (watch_of name (watched_all ws)) (some_seen name ws w e) none

pub filled_seen : (name : List ℕ) (version : ℕ) (hits : List ℕ) (ws : List Watch)
    → watched_all (map (list.filled name version hits) ws) ≡ map (rebuilt_in name version hits) (watched_all ws)
filled_seen name version hits [] = refl
filled_seen name version hits (w ∷ ws) = by (list.is_named name w) (filled_seen name version hits ws) where
  by : (b : Bool) → watched_all (map (list.filled name version hits) ws)
      ≡ map (rebuilt_in name version hits) (watched_all ws)
      → watched (cond b (list.refilled version hits w) w) ∷ watched_all (map (list.filled name version hits) ws)
      ≡ cond b (rebuilt_watch version hits (watched w)) (watched w)
      ∷ map (rebuilt_in name version hits) (watched_all ws)
  by true e = ap (λ (l : List Watched). rebuilt_watch version hits (watched w) ∷ l) e
  by false e = ap (λ (l : List Watched). watched w ∷ l) e

pub without_seen : (name : List ℕ) (ws : List Watch)
    → watched_all (filter (list.is_other name) ws) ≡ without name (watched_all ws)
without_seen name [] = refl
without_seen name (w ∷ ws) = by (not (list.is_named name w)) (without_seen name ws) where
  by : (b : Bool) → watched_all (filter (list.is_other name) ws) ≡ without name (watched_all ws)
      → watched_all (cond b (w ∷ filter (list.is_other name) ws) (filter (list.is_other name) ws))
      ≡ cond b (watched w ∷ without name (watched_all ws)) (without name (watched_all ws))
  by true e = ap (λ (l : List Watched). watched w ∷ l) e
  by false e = e

-- a lookup that found hits
pub found_hits : {size : ℕ} {calls : Calls} {want : List Bool} (pattern : PatternTerm) (list : HitList)
    (l : LooksUp size want End calls) → IsNeedOf pattern want
    → IsHitList pattern l.version (records_of (fetched l.slot l.pages)) list
    → FindsHits size pattern calls list.version list.hits.items
found_hits {want = want} pattern list l need h = record {
  want = want;
  need = need;
  lookup = l;
  version_is = h.version_is;
  matched = h.hits;
  ascending = h.ascending;
}

-- One that came so far
pub watch_lost : {size : ℕ} {Allowed : Act → Type 0} {standing : Standing} {want : List Bool} (name : List ℕ)
    (pattern : PatternTerm) → Allowed (act.Watch name pattern) → IsUnwatched standing.watches name
    → length standing.watches < MOST_WATCHES → IsNeedOf pattern want → (place : Place) (calls : Calls)
    → LooksUp size want place calls → Responds size Allowed standing calls (line.MemoryFault ∷ []) standing
watch_lost {want = want} name pattern may new few need place calls l = record {
  act = act.Watch name pattern;
  allowed = may;
  does = inr (WatchLost name pattern calls want place new few need l, refl);
}

pub hits_lost : {size : ℕ} {Allowed : Act → Type 0} {standing : Standing} {want : List Bool} (name : List ℕ)
    (w : Watched) → watch_of name standing.watches ≡ Some w → Allowed (ListHits name) → IsNeedOf w.pattern want
    → (place : Place) (calls : Calls) (l : LooksUp size want place calls) → IsAnew w.version l.version l.pages
    → Responds size Allowed standing calls (line.MemoryFault ∷ []) standing
hits_lost {want = want} name w named may need place calls l anew = record {
  act = ListHits name;
  allowed = may;
  does = inr (HitsLost name w calls want place named need l anew, refl);
}

module _ {size : ℕ} {Allowed : Act → Type 0} {cursors : List Cursor} {w w' : List Watched} where
  -- watches that stay
  stay : {calls : Calls} {one : line.Reply} → w' ≡ w
      → Responds size Allowed (both cursors w) calls (one ∷ []) (both cursors w)
      → Responds size Allowed (both cursors w) calls (one ∷ []) (both cursors w')
  stay {calls} {one} e r =
      subst (λ (l : List Watched). Responds size Allowed (both cursors w) calls (one ∷ []) (both cursors l)) (sym e) r

module _ {Made : Calls → Type 0} {IsWorn : Type 0} {size : ℕ} {Allowed : Act → Type 0} {cursors : List Cursor}
    {w w' : List Watched} {out out' : List ℕ} where
  -- a pattern is watched
  pub watched_now : (name : List ℕ) (pattern : PatternTerm) (version : ℕ) (hits : List ℕ) (calls : Calls)
      (result : Result (Unit {0}) Stop) → Allowed (act.Watch name pattern) → Made calls
      → FindsHits size pattern calls version hits → IsUnwatched w name → length w < MOST_WATCHES
      → Adds name pattern version hits w w' out out' result
      → Answered Made IsWorn (Responds size Allowed (both cursors w)) out out' (both cursors w') result
  watched_now name pattern version hits calls result may made found new few (inl (e, t)) =
      said calls (line.Watching version (length hits)) result made
      (subst (λ (l : List Watched). Responds size Allowed (both cursors w) calls
      (line.Watching version (length hits) ∷ []) (both cursors l)) (sym e) (record {
        act = act.Watch name pattern;
        allowed = may;
        does = inr (WatchedAll name pattern calls version hits new few found, refl);
      })) t
  watched_now name pattern version hits calls result may made found new few (inr (e, t)) =
      said calls line.MemoryFault result made
      (stay e (watch_lost name pattern may new few found.need End calls found.lookup)) t

  -- hits that are of the version that was pinned are listed
  pub listed_now : (name : List ℕ) (x : Watched) (slot : ℕ) {want : List Bool} (calls : Calls)
      (result : Result (Unit {0}) Stop) → w' ≡ w → watch_of name w ≡ Some x → Allowed (ListHits name) → Made calls
      → calls ≡ (events.Pin, replies.Pinned slot x.version) ∷ (events.Unpin slot, replies.Unpinned) ∷ []
      → IsNeedOf x.pattern want → (l : LooksUp size want (At 0) calls) → l.pages ≡ []
      → TellsHits x.version x.hits x.rebuilt out out' result
      → Answered Made IsWorn (Responds size Allowed (both cursors w)) out out' (both cursors w') result
  listed_now name x slot calls result same named may made calls_are need l none (inl e) =
      subst (λ (r : Result (Unit {0}) Stop). Answered Made IsWorn (Responds size Allowed (both cursors w)) out out'
      (both cursors w') r) (sym e.0) (Said tt (record {
        calls = calls;
        lines = watch_lines x;
        made = made;
        is = subst (λ (k : List Watched). Responds size Allowed (both cursors w) calls (watch_lines x) (both cursors k))
            (sym same) (record {
              act = ListHits name;
              allowed = may;
              does = subst (λ (cs : Calls). DoesAll size (both cursors w) (ListHits name) cs (watch_lines x)
                  (both cursors w)) (sym calls_are) (inr (Current name x slot named, refl));
            });
      }) e.1)
  listed_now name x slot calls result same named may made calls_are need l none (inr t) =
      said calls line.MemoryFault result made
      (stay same (hits_lost name x named may need (At 0) calls l (inl none))) t

  -- others are listed and kept
  pub refilled_now : (name : List ℕ) (x : Watched) (version : ℕ) (hits : List ℕ) (calls : Calls)
      (result : Result (Unit {0}) Stop) → watch_of name w ≡ Some x → Allowed (ListHits name) → Made calls
      → version ≢ x.version → FindsHits size x.pattern calls version hits
      → ((w' ≡ map (rebuilt_in name version hits) w) × (result ≡ Ok tt)
      × (out' ≡ out ++ text_of (watch_lines (rebuilt_watch version hits x))))
      → Answered Made IsWorn (Responds size Allowed (both cursors w)) out out' (both cursors w') result
  refilled_now name x version hits calls result named may made other found f =
      let lines = watch_lines (rebuilt_watch version hits x) in
      subst (λ (r : Result (Unit {0}) Stop). Answered Made IsWorn (Responds size Allowed (both cursors w)) out out'
      (both cursors w') r) (sym f.1) (Said tt (record {
        calls = calls;
        lines = lines;
        made = made;
        is = subst (λ (k : List Watched). Responds size Allowed (both cursors w) calls lines (both cursors k))
            (sym f.0) (record {
              act = ListHits name;
              allowed = may;
              does = inr (Refilled name x calls version hits named other found, refl);
            });
      }) f.2)

  pub unfilled : (name : List ℕ) (x : Watched) (version : ℕ) (hits : List ℕ) (calls : Calls)
      (result : Result (Unit {0}) Stop) → watch_of name w ≡ Some x → Allowed (ListHits name) → Made calls
      → version ≢ x.version → FindsHits size x.pattern calls version hits → w' ≡ w
      → Tells line.MemoryFault out out' result
      → Answered Made IsWorn (Responds size Allowed (both cursors w)) out out' (both cursors w') result
  unfilled name x version hits calls result named may made other found e t =
      said calls line.MemoryFault result made
      (stay e (hits_lost name x named may found.need End calls found.lookup
      (inr (λ k. other (found.version_is ∙ k))))) t

-- a watch that is taken out
pub unwatched : {Made : Calls → Type 0} {IsWorn : Type 0} {size : ℕ} {cursors : List Cursor} {w w' : List Watched}
    {out out' : List ℕ} {result : Result (Unit {0}) Stop} (name : List ℕ) → Made []
    → Unwatches name w w' out out' result
    → Answered Made IsWorn (Responds size (MayUnwatch w name) (both cursors w)) out out' (both cursors w') result
unwatched {size = size} {cursors} {w} {result = result} name made (inl (x, named, e, t)) =
    said [] line.Unwatched result made
    (subst (λ (l : List Watched). Responds size (MayUnwatch w name) (both cursors w) [] (line.Unwatched ∷ [])
    (both cursors l)) (sym e)
    (record { act = Unwatch name; allowed = refl; does = inr (TakenOut name x named, refl) })) t
unwatched {size = size} {cursors} {w} {result = result} name made (inr (none, e, t)) =
    said [] (line.Refused refusals.Watch) result made
    (subst (λ (l : List Watched). Responds size (MayUnwatch w name) (both cursors w) []
    (line.Refused refusals.Watch ∷ []) (both cursors l)) (sym e) (rests (Refused refusals.Watch) none)) t

-- the calls of a lookup that found its version known
pub looked_known : {S X : Type 0} {of : meaning.Ghosts S} {old new : S} {size known : ℕ} {want : List Bool}
    {Is : ℕ → List Found → X → Type 0} → LooksUnless known of old new size want Is (Ok None)
    → NotRaised (of.bounds old) (of.bounds new)
    → (calls : Calls) × (slot : ℕ) × Uses of old new calls
    × (calls ≡ (events.Pin, replies.Pinned slot known) ∷ (events.Unpin slot, replies.Unpinned) ∷ [])
    × (l : LooksUp size want (At 0) calls) × (l.pages ≡ [])
looked_known (Known f none is made held) bounds = (
  _,
  f.slot,
  looked_uses (At 0) f made held bounds,
  rw (none, is) refl,
  looks_up f,
  none,
)
