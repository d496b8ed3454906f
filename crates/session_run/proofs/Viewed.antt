-- A watch that is seen, and what is answered of it.
use Rattle.std.proofs.Common.{◌≡◌, ◌≢◌, ◌++◌, ◌+◌, ◌-◌, ◌^◌, ◌∙◌, ap, Bool, cond, false, filter, inl, inr, List, [], ◌∷◌, MatchOption, min, None, not, Ok, Option, refl, Result, Some, subst, sym, true, ℕ}
use Rattle.std.proofs.lemmas.List.{map-append}
use Rattle.std.specs.Prelude.{is_some}
use Rattle.lookup.specs.Fetches.{LooksUnless}
use Rattle.lookup.specs.Lists.{IsHitList}
use Rattle.lookup.specs.declared.hits.HitList.{HitList}
use Rattle.lookup.proofs.Looked.{looked-some}
use Rattle.shell_lang.specs.Reply as line
use Rattle.shell_lang.specs.Reply.{text_of}
use Rattle.shell_lang.specs.declared.reply.Refusal.TheVariants as refusals
use Rattle.smarts_parse.specs.Pattern.{PatternTerm, pattern_of}
use Rattle.smarts_parse.specs.declared.pattern.Pattern.{Pattern}
use Rattle.store_core.specs.Calls.{NotRaised}
use Rattle.store_core.specs.declared.service.Service as meaning
use Rattle.store_machine.specs.Structures.{IsNeedOf}
use Rattle.store_machine.specs.declared.machine.Event.TheVariants as events
use Rattle.store_machine.specs.declared.machine.Reply.TheVariants as replies
use Rattle.watch_list.specs.Watches as list
use Rattle.watch_list.specs.Watches.{Watch}
use Rattle.session_acts.specs.Acts.{MayHits, Responds, hit_lines}
use Rattle.session_acts.specs.Cursors.{Cursor}
use Rattle.session_acts.specs.Watching.{IsUnwatched, Watched, new_watch, watch_of}
use Rattle.session_run.specs.Kept.{Fills, IsViewOf, TellsHits, Unwatches}
use Rattle.session_run.specs.Made.{AnsweredBy, Tells}
use Rattle.session_run.specs.Standings.{both, watched, watched_all}
use Rattle.dialogue.specs.declared.end.Stop.{Stop}
use Rattle.session_run.specs.declared.watches.View.{View}
use Rattle.session_run.proofs.Looked.{looked_whole}
use Rattle.session_run.proofs.Watched.{filled_seen, found_hits, listed_now, looked_known, none_seen, refilled_now, some_seen, taken_seen, unfilled, without_seen}

-- the watch of a name that is seen
pub record IsSeen (name : List ℕ) (ws : List Watch) (v : View) : Type 0 where
  pub w : Watched
  pub named : watch_of name (watched_all ws) ≡ Some w
  pub taken : ¬ IsUnwatched (watched_all ws) name
  pub pattern_is : pattern_of v.pattern.now ≡ w.pattern
  pub version_is : v.version ≡ w.version
  pub hits_are : v.hits.now ≡ w.hits
  pub rebuilt_is : v.rebuilt ≡ w.rebuilt

pub view_seen : (name : List ℕ) (ws : List Watch) (v : View) → IsViewOf v (list.watch_of name ws) → IsSeen name ws v
view_seen name ws v h = by (list.watch_of name ws) refl h where
  by : (o : Option Watch) → list.watch_of name ws ≡ o → IsViewOf v o → IsSeen name ws v
  by None e h = absurd h
  by (Some w) e h = record {
    w = watched w;
    named = some_seen name ws w e;
    taken = taken_seen name ws w e;
    pattern_is = ap (λ (p : Pattern). pattern_of p) h.0;
    version_is = h.1;
    hits_are = h.2;
    rebuilt_is = h.3;
  }

abbrev AnyView : List ℕ → List Watch → Option View → Type 0
AnyView name ws r = MatchOption r (list.watch_of name ws ≡ None) (λ v. IsViewOf v (list.watch_of name ws))

pub view_absent : (name : List ℕ) (ws : List Watch) → list.watch_of name ws ≡ None → IsUnwatched (watched_all ws) name
view_absent name ws e = none_seen name ws e

pub view_none : (name : List ℕ) (ws : List Watch) (r : Option View) → AnyView name ws r → (b : Bool) → b ≡ is_some r
    → b ≡ false → IsUnwatched (watched_all ws) name
view_none name ws None h b e f = none_seen name ws h
view_none name ws (Some v) h b e f = absurd (cc)

pub view_taken : (name : List ℕ) (ws : List Watch) (r : Option View) → AnyView name ws r → (b : Bool) → b ≡ is_some r
    → b ≡ true → ¬ IsUnwatched (watched_all ws) name
view_taken name ws None h b e f = absurd (cc)
view_taken name ws (Some v) h b e f = (view_seen name ws v h).taken

-- a pattern was added
pub added_seen : (name : List ℕ) (pattern : Pattern) (version : ℕ) (hits : List ℕ) (ws ws' : List Watch)
    → ws' ≡ ws ++ record { name = name; pattern = pattern; version = version; hits = hits; fills = 0 } ∷ []
    → watched_all ws' ≡ watched_all ws ++ new_watch name (pattern_of pattern) version hits ∷ []
added_seen name pattern version hits ws ws' e =
    ap watched_all e
    ∙ map-append watched ws (record { name = name; pattern = pattern; version = version; hits = hits; fills = 0 } ∷ [])

-- a watch was taken out, or there is none
pub unwatched_seen : (name : List ℕ) (ws ws' : List Watch) (b : Bool) (out out' : List ℕ)
    (result : Result (Unit {0}) Stop) → b ≡ is_some (list.watch_of name ws) → b ≡ true
    → ws' ≡ filter (list.is_other name) ws → Tells line.Unwatched out out' result
    → Unwatches name (watched_all ws) (watched_all ws') out out' result
unwatched_seen name ws ws' b out out' result e f left t = by (list.watch_of name ws) refl where
  by : (o : Option Watch) → list.watch_of name ws ≡ o
      → Unwatches name (watched_all ws) (watched_all ws') out out' result
  by None q = let g : b ≡ false = e ∙ ap is_some q in absurd (cc)
  by (Some w) q = inl (watched w, some_seen name ws w q, ap watched_all left ∙ without_seen name ws, t)

pub unwatched_none : (name : List ℕ) (ws ws' : List Watch) (b : Bool) (out out' : List ℕ)
    (result : Result (Unit {0}) Stop) → b ≡ is_some (list.watch_of name ws) → b ≡ false
    → ws' ≡ filter (list.is_other name) ws → Tells (line.Refused refusals.Watch) out out' result
    → Unwatches name (watched_all ws) (watched_all ws') out out' result
unwatched_none name ws ws' b out out' result e f left t = by (list.watch_of name ws) refl where
  by : (o : Option Watch) → list.watch_of name ws ≡ o
      → Unwatches name (watched_all ws) (watched_all ws') out out' result
  by None q = inr (none_seen name ws q, ap watched_all (left ∙ all_other ws q), t) where
    -- no watch is taken out of these
    all_other : (xs : List Watch) → list.watch_of name xs ≡ None → filter (list.is_other name) xs ≡ xs
    all_other [] q = refl
    all_other (x ∷ xs) q =
        elim (list.is_named name x) as (λ t. list.is_named name x ≡ t → cond t (Some x) (list.watch_of name xs) ≡ None
        → cond (not t) (x ∷ filter (list.is_other name) xs) (filter (list.is_other name) xs) ≡ x ∷ xs) [
          | true ↦ λ t k. absurd (cc)
          | false ↦ λ t k. ap (λ (l : List Watch). x ∷ l) (all_other xs k)
        ] refl q
  by (Some w) q = let g : b ≡ true = e ∙ ap is_some q in absurd (cc)

pub need_seen : {want : List Bool} {ws : List Watch} (name : List ℕ) (v : View) (seen : IsSeen name ws v)
    → IsNeedOf (pattern_of v.pattern.now) want → IsNeedOf seen.w.pattern want
need_seen {want} name v seen need = subst (λ (p : PatternTerm). IsNeedOf p want) seen.pattern_is need

-- What `hits` answers
module _ {S : Type 0} {of : meaning.Ghosts S} {old new : S} {size : ℕ} {cursors : List Cursor} {out out' : List ℕ}
    {want : List Bool} {ws : List Watch} (name : List ℕ) (v : View) (seen : IsSeen name ws v)
    (need : IsNeedOf (pattern_of v.pattern.now) want) where
  -- the version is that of the watch
  pub hits_known : LooksUnless v.version of old new size want (IsHitList (pattern_of v.pattern.now)) (Ok None)
      → NotRaised (of.bounds old) (of.bounds new) → (result : Result (Unit {0}) Stop)
      → TellsHits v.version v.hits.now v.rebuilt out out' result
      → AnsweredBy of old new (Responds size (MayHits (watched_all ws) name) (both cursors (watched_all ws))) out out'
      (both cursors (watched_all ws)) result
  hits_known looks bounds result t =
      let k = looked_known looks bounds in
      listed_now name seen.w k.1 k.0 result refl seen.named refl k.2
      (subst (λ (n : ℕ). k.0 ≡ (events.Pin, replies.Pinned k.1 n) ∷ (events.Unpin k.1, replies.Unpinned) ∷ [])
      seen.version_is k.3) (need_seen name v seen need) k.4 k.5
      (subst (λ (n : ℕ). TellsHits n seen.w.hits seen.w.rebuilt out out' result) seen.version_is
      (subst (λ (l : List ℕ). TellsHits v.version l seen.w.rebuilt out out' result) seen.hits_are
      (subst (λ (n : ℕ). TellsHits v.version v.hits.now n out out' result) seen.rebuilt_is t)))

  -- it is another, and hits were searched anew
  pub hits_answered : (found : HitList)
      → LooksUnless v.version of old new size want (IsHitList (pattern_of v.pattern.now)) (Ok (Some found))
      → NotRaised (of.bounds old) (of.bounds new) → (ws' : List Watch) (result : Result (Unit {0}) Stop)
      → Fills name found.version found.hits.items (min (v.rebuilt + 1) (2 ^ 32 - 1)) ws ws' out out' result
      → AnsweredBy of old new (Responds size (MayHits (watched_all ws) name) (both cursors (watched_all ws))) out out'
      (both cursors (watched_all ws')) result
  hits_answered found looks bounds ws' result fills =
      let l = looked_whole found (looked-some looks) bounds in
      let hits = found_hits seen.w.pattern found l.2 (need_seen name v seen need)
      (subst (λ (p : PatternTerm). IsHitList p l.2.version _ found) seen.pattern_is l.3.1) in
      let other : found.version ≢ seen.w.version =
      λ e. l.3.0 (sym l.3.1.version_is ∙ (e ∙ sym seen.version_is)) in
      elim fills [
        | inl f ↦ refilled_now name seen.w found.version found.hits.items l.0 result seen.named refl l.1 other hits (
          ap watched_all f.0 ∙ filled_seen name found.version found.hits.items ws,
          f.1,
          subst (λ (n : ℕ). out' ≡ out ++ text_of (hit_lines found.version found.hits.items (min (n + 1) (2 ^ 32 - 1))))
              seen.rebuilt_is f.2,
        )
        | inr f ↦ unfilled name seen.w found.version found.hits.items l.0 result seen.named refl l.1 other hits
            (ap watched_all f.0) f.1
      ]
