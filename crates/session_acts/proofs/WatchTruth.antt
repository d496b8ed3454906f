-- Dialogues over a run: what their watches told and listed is the history's answer.
use Rattle.std.proofs.Common.{◌≡◌, ◌≢◌, ◌++◌, ◌∙◌, ap, append_assoc, Bool, Contains, inl, inr, length, List, [], ◌∷◌, Ok, refl, Result, Some, Err, subst, sym, ℕ}
use Rattle.io_edge.specs.Lines.{Whole}
use Rattle.shell_lang.specs.Command as command
use Rattle.shell_lang.specs.Command.{Command, IsLine}
use Rattle.shell_lang.specs.Reply as line
use Rattle.shell_lang.specs.declared.command.LineRefusal.{LineRefusal}
use Rattle.smarts_parse.specs.Pattern.{PatternTerm}
use Rattle.store_machine.specs.Answers.{AreHits}
use Rattle.store_machine.specs.Laws.{IsSound}
use Rattle.store_machine.specs.Runs.{IsCalm, IsRun, calls_of}
use Rattle.store_machine.specs.Searches.{At, End, fetched, records_of}
use Rattle.store_machine.specs.declared.machine.Event.{Event}
use Rattle.store_machine.specs.declared.machine.Event.TheVariants as events
use Rattle.store_machine.specs.declared.machine.Reply.{Reply}
use Rattle.store_machine.specs.declared.machine.Reply.TheVariants as replies
use Rattle.store_machine.specs.declared.machine.State.{State}
use Rattle.store_machine.specs.declared.machine.Step.{Step}
use Rattle.session_acts.specs.Acts.{Act, Allows, Asks, Closed, Current, Does, DoesAll, DoesWatch, FoundData, HitsLost, Lines, ListedSame, ListedSimilar, Opened, Refilled, RegisteredEach, RegisteredNew, RequestAllows, Says, Searched, TakenOut, Turned, Unwatch, WatchLost, WatchedAll, watch_lines}
use Rattle.session_acts.specs.Cursors.{Calls, Cursor}
use Rattle.dialogue.specs.Dialogue.{AreExchanged, calls_in}
use Rattle.session_acts.specs.Talking.{Exchange, begun}
use Rattle.session_acts.specs.Dialogue.{IsCommand, StaysWatched, hits_in}
use Rattle.session_acts.specs.Lookups.{FindsHits}
use Rattle.session_acts.specs.Requests.{Request, request_of}
use Rattle.session_acts.specs.Texts.{IsPatternOf}
use Rattle.session_acts.specs.Truths.{AreTrue, CommitsAreTrue, DialoguesAreTrue, IsUpToDate, WatchesAreTrue, WatchingsAreTrue}
use Rattle.session_acts.specs.Watching.{AfterCall, AfterCalls, IsUnwatched, Standing, Watched, new_watch, nothing_kept, rebuilt_watch, watch_of}
use Rattle.session_acts.proofs.Sized.{sized, sized_calls, sized_exchanges}
use Rattle.session_acts.proofs.Accepted.{accepted_call, stands_behind}
use Rattle.session_acts.proofs.Acts.{OneReading, fits, quiet_ask, quiet_note}
use Rattle.session_acts.proofs.Brought.{commit_of}
use Rattle.session_acts.proofs.Parting.{Laws, whole_pages}
use Rattle.session_acts.proofs.Passing.{behind_hits, cut_calls, fetches_keep, fetches_search, hits_listed, one_in}
use Rattle.dialogue.proofs.Exchanges.{exchanged-parts}
use Rattle.session_acts.proofs.Pinned.{next_calls}
use Rattle.session_acts.proofs.Rights.{IsKeptAs, IsRight, added_kept, added_new, added_right, none_some, noted_kept, noted_right, rebuilt_found, rebuilt_kept, rebuilt_right, same_some, without_kept, without_right}
use Rattle.session_acts.proofs.Truth.{Finds, cursors_true, no_older, pages_true, parted, registrations_true, sames_true, searches_true, similars_true, spot}

-- the command of a request that takes a watch out
unwatch_command : (standing : Standing) (request : Request) (own : List ℕ)
    → RequestAllows standing request (Unwatch own) → IsCommand request (command.Unwatch own)
unwatch_command standing request own (inl a) = cc
unwatch_command standing request own (inr (short, text, e, read, line, a)) = by read line a where
  by : (read : Result Command LineRefusal) → IsLine text read → Allows standing request.more read (Unwatch own)
      → IsCommand request (command.Unwatch own)
  by (Err refusal) line a = cc
  by (Ok command.Empty) line a = cc
  by (Ok (command.RegisterSd id count)) line a = cc
  by (Ok (command.Unwatch name)) line a =
      (text, e, subst (λ (n : List ℕ). IsLine text (Ok (command.Unwatch n))) (sym a) line)
  by (Ok _) line a = absurd a

-- what a call does to the watch of a name
call_kept : (name : List ℕ) (pattern : PatternTerm) (event : Event) (reply : Reply) (w w' : List Watched)
    → AfterCall event reply w w' → IsKeptAs name pattern w → IsKeptAs name pattern w'
call_kept name pattern (events.Commit change) (replies.Committed version) w w' h k =
    noted_kept version change w w' h name pattern k
call_kept name pattern (events.Commit change) _ w w' h k = subst (IsKeptAs name pattern) (sym h) k
call_kept name pattern _ reply w w' h k = subst (IsKeptAs name pattern) (sym h) k

calls_kept : (name : List ℕ) (pattern : PatternTerm) (its : Calls) (w w' : List Watched) → AfterCalls its w w'
    → IsKeptAs name pattern w → IsKeptAs name pattern w'
calls_kept name pattern [] w w' h k = subst (IsKeptAs name pattern) (sym h) k
calls_kept name pattern (c ∷ cs) w w' h k =
    calls_kept name pattern cs h.0 w' h.2 (call_kept name pattern c.0 c.1 w h.0 h.1 k)

act_kept : {size : ℕ} {w w' : List Watched} {act : Act} {its : Calls} {lines : Lines} (name : List ℕ)
    (pattern : PatternTerm) → DoesWatch size w act its lines w' → ((own : List ℕ) → act ≡ Unwatch own → own ≢ name)
    → IsKeptAs name pattern w → IsKeptAs name pattern w'
act_kept {w = w} name pattern (WatchedAll own p calls version hits new few found) other k =
    added_kept name pattern w (new_watch own p version hits) k
act_kept name pattern (WatchLost own p calls want place new few need lookup) other k = k
act_kept name pattern (Current own x slot named) other k = k
act_kept {w = w} name pattern (Refilled own x calls version hits named differs found) other k =
    rebuilt_kept own version hits name pattern w k
act_kept name pattern (HitsLost own x calls want place named need lookup anew) other k = k
act_kept {w = w} name pattern (TakenOut own x named) other k = without_kept own name pattern w (other own refl) k

all_kept : {size : ℕ} {standing standing' : Standing} {act : Act} {its : Calls} {lines : Lines} (request : Request)
    (name : List ℕ) (pattern : PatternTerm) → RequestAllows standing request act
    → DoesAll size standing act its lines standing' → ¬ IsCommand request (command.Unwatch name)
    → IsKeptAs name pattern standing.watches → IsKeptAs name pattern standing'.watches
all_kept {standing = standing} {standing'} {its = its} request name pattern a (inl d) stays k =
    calls_kept name pattern its standing.watches standing'.watches d.1 k
all_kept {standing = standing} {act = act} request name pattern a (inr d) stays k =
    act_kept name pattern d.0 (λ own is same. stays (subst (λ (n : List ℕ). IsCommand request (command.Unwatch n)) same
    (unwatch_command standing request own (subst (RequestAllows standing request) is a)))) k

dialogue_kept : (size : ℕ) (name : List ℕ) (pattern : PatternTerm) (xs : List Exchange)
    (standing standing' : Standing) → AreExchanged (sized size) standing xs standing' → StaysWatched name xs
    → IsKeptAs name pattern standing.watches → IsKeptAs name pattern standing'.watches
dialogue_kept size name pattern [] standing standing' d stays k =
    subst (λ (s : Standing). IsKeptAs name pattern s.watches) (sym d) k
dialogue_kept size name pattern (x ∷ xs) standing standing' d stays k =
    dialogue_kept size name pattern xs d.0 standing' d.2 stays.1
    (all_kept (request_of x.request) name pattern d.1.allowed d.1.does stays.0 k)

abbrev read_as : Command → Result Command LineRefusal
read_as c = Ok c

-- a request for hits takes no watch out
other_command : OneReading → (request : Request) (name : List ℕ) → IsCommand request (command.Hits name)
    → ¬ IsCommand request (command.Unwatch name)
other_command reading request name h u =
    let same : h.0 ≡ u.0 = one_text h.0 u.0 (sym h.1 ∙ u.1) in
    apart (reading u.0 (Ok (command.Hits name)) (Ok (command.Unwatch name))
    (subst (λ (t : List ℕ). IsLine t (Ok (command.Hits name))) same h.2) u.2)
  where
    one_text : (a b : List ℕ) → Whole a ≡ Whole b → a ≡ b
    one_text a b e = cc

    apart : read_as (command.Hits name) ≡ read_as (command.Unwatch name) → ⊥
    apart e = cc

-- The numbers of a line
watching_version : (a b c d : ℕ) → line.Watching a b ≡ line.Watching c d → a ≡ c
watching_version a b c d e = cc

watching_count : (a b c d : ℕ) → line.Watching a b ≡ line.Watching c d → b ≡ d
watching_count a b c d e = cc

fault_or_watching : (a b : ℕ) → line.MemoryFault ≡ line.Watching a b → ⊥
fault_or_watching a b e = cc

end_version : (a b c d e f : ℕ) → line.EndWatched a b c ≡ line.EndWatched d e f → a ≡ d
end_version a b c d e f is = cc

end_count : (a b c d e f : ℕ) → line.EndWatched a b c ≡ line.EndWatched d e f → b ≡ e
end_count a b c d e f is = cc

fault_or_ended : (a b c : ℕ) → line.MemoryFault ≡ line.EndWatched a b c → ⊥
fault_or_ended a b c e = cc

hit_or_ended : (id a b c : ℕ) → line.Hit id ≡ line.EndWatched a b c → ⊥
hit_or_ended id a b c e = cc

-- What a `watch` that was answered did
record IsWatching (size : ℕ) (its : Calls) (w w' : List Watched) (name text : List ℕ) (version count : ℕ)
    : Type 0 where
  pattern : PatternTerm
  is : IsPatternOf text pattern
  hits : List ℕ
  found : FindsHits size pattern its version hits
  length_is : count ≡ length hits
  new : IsUnwatched w name
  then_are : w' ≡ w ++ new_watch name pattern version hits ∷ []

watching_from : {size : ℕ} {its : Calls} {w : List Watched} (name text own : List ℕ) (p : PatternTerm)
    (v version count : ℕ) (hits : List ℕ) → IsUnwatched w own → FindsHits size p its v hits → own ≡ name
    → IsPatternOf text p → line.Watching v (length hits) ≡ line.Watching version count
    → IsWatching size its w (w ++ new_watch own p v hits ∷ []) name text version count
watching_from {size} {its} {w} name text own p v version count hits new found named is e =
    subst (λ (n : List ℕ). IsWatching size its w (w ++ new_watch own p v hits ∷ []) n text version count) named
    (subst (λ (n : ℕ). IsWatching size its w (w ++ new_watch own p v hits ∷ []) own text n count)
    (watching_version v (length hits) version count e) (record {
      pattern = p;
      is = is;
      hits = hits;
      found = found;
      length_is = sym (watching_count v (length hits) version count e);
      new = new;
      then_are = refl;
    }))

watched_by : OneReading → {size : ℕ} {standing standing' : Standing} {act : Act} {its : Calls} {lines : Lines}
    (request : Request) (name text : List ℕ) (version count : ℕ) → RequestAllows standing request act
    → DoesAll size standing act its lines standing' → IsCommand request (command.Watch name text)
    → Contains lines (line.Watching version count)
    → IsWatching size its standing.watches standing'.watches name text version count
watched_by reading {size} {standing} {standing'} {act} {its} {lines} request name text version count a (inl d) is k =
    absurd (by_cursors a d.0 k)
  where
    by_cursors : {cursors cursors' : List Cursor} {act : Act} {its : Calls} {lines : Lines}
        → RequestAllows standing request act → Does size cursors act its lines cursors' → Contains lines (line.Watching version count) → ⊥
    by_cursors a (Says note) k = (quiet_note note).plain _ k
    by_cursors a (Asks event reply said q) k = (quiet_ask event reply said q).plain _ k
    by_cursors {act = act} a (Searched p _ _ s) k = fits reading standing request act (command.Watch name text) a is
    by_cursors {act = act} a (Opened own p want slot v new need) k =
        fits reading standing request act (command.Watch name text) a is
    by_cursors {act = act} a (Turned own before after c c' _ _ at advances) k =
        fits reading standing request act (command.Watch name text) a is
    by_cursors {act = act} a (Closed own before after c at) k = fits reading standing request act (command.Watch name text) a is
    by_cursors {act = act} a (ListedSame m print _ _ s) k = fits reading standing request act (command.Watch name text) a is
    by_cursors {act = act} a (RegisteredNew change m print _ _ s) k =
        fits reading standing request act (command.Watch name text) a is
    by_cursors {act = act} a (ListedSimilar p q n print _ _ s) k =
        fits reading standing request act (command.Watch name text) a is
    by_cursors {act = act} a (RegisteredEach id records _ _ each) k =
        fits reading standing request act (command.Watch name text) a is
    by_cursors {act = act} a (FoundData id own reply said q) k =
        fits reading standing request act (command.Watch name text) a is
watched_by reading {size} {standing} {standing'} {act} {its} {lines} request name text version count a (inr d) is k =
    by a d.0 k
  where
    by : {w w' : List Watched} {act : Act} {its : Calls} {lines : Lines} → RequestAllows standing request act
        → DoesWatch size w act its lines w' → Contains lines (line.Watching version count)
        → IsWatching size its w w' name text version count
    by {act = act} a (WatchedAll own p calls v hits new few found) k =
        let f = fits reading standing request act (command.Watch name text) a is in
        watching_from name text own p v version count hits new found f.0 f.1
        (one_in (line.Watching v (length hits)) (line.Watching version count) k)
    by a (WatchLost own p calls want place new few need lookup) k =
        absurd (fault_or_watching version count (one_in line.MemoryFault (line.Watching version count) k))
    by {act = act} a (Current own x slot named) k = absurd (fits reading standing request act (command.Watch name text) a is)
    by {act = act} a (Refilled own x calls v hits named other found) k =
        absurd (fits reading standing request act (command.Watch name text) a is)
    by {act = act} a (HitsLost own x calls want place named need lookup anew) k =
        absurd (fits reading standing request act (command.Watch name text) a is)
    by {act = act} a (TakenOut own x named) k = absurd (fits reading standing request act (command.Watch name text) a is)

-- What a `hits` that came to its end did: it took a pin of the version, and listed the watch then
record IsListing (its : Calls) (w w' : List Watched) (name : List ℕ) (version count : ℕ) (lines : Lines) : Type 0 where
  slot : ℕ
  rest : Calls
  its_are : its ≡ (events.Pin, replies.Pinned slot version) ∷ rest
  x : Watched
  named : watch_of name w' ≡ Some x
  version_is : x.version ≡ version
  listed : hits_in lines ≡ x.hits
  length_is : count ≡ length x.hits

listing_from : {its : Calls} {w w' : List Watched} (name own : List ℕ) (x : Watched) (slot version count rebuilt : ℕ)
    (rest : Calls) → own ≡ name → its ≡ (events.Pin, replies.Pinned slot x.version) ∷ rest → watch_of own w' ≡ Some x
    → Contains (watch_lines x) (line.EndWatched version count rebuilt)
    → IsListing its w w' name version count (watch_lines x)
listing_from {its} {w} {w'} name own x slot version count rebuilt rest named its_are found k =
    let end = line.EndWatched x.version (length x.hits) x.rebuilt in
    let e : end ≡ line.EndWatched version count rebuilt =
    behind_hits (line.EndWatched version count rebuilt) (λ id i. hit_or_ended id version count rebuilt i) x.hits end k in
    let v : x.version ≡ version = end_version x.version (length x.hits) x.rebuilt version count rebuilt e in
    record {
      slot = slot;
      rest = rest;
      its_are = subst (λ (n : ℕ). its ≡ (events.Pin, replies.Pinned slot n) ∷ rest) v its_are;
      x = x;
      named = subst (λ (n : List ℕ). watch_of n w' ≡ Some x) named found;
      version_is = v;
      listed = hits_listed x.hits end refl;
      length_is = sym (end_count x.version (length x.hits) x.rebuilt version count rebuilt e);
    }

module _ (reading : OneReading) {size : ℕ} (standing standing' : Standing) (request : Request) (name : List ℕ)
    (version count rebuilt : ℕ) (is : IsCommand request (command.Hits name)) where
  not_cursors : {cursors cursors' : List Cursor} {act : Act} {its : Calls} {lines : Lines}
      → RequestAllows standing request act → Does size cursors act its lines cursors'
      → Contains lines (line.EndWatched version count rebuilt) → ⊥
  not_cursors a (Says note) k = (quiet_note note).plain _ k
  not_cursors a (Asks event reply said q) k = (quiet_ask event reply said q).plain _ k
  not_cursors {act = act} a (Searched p _ _ s) k = fits reading standing request act (command.Hits name) a is
  not_cursors {act = act} a (Opened own p want slot v new need) k = fits reading standing request act (command.Hits name) a is
  not_cursors {act = act} a (Turned own before after c c' _ _ at advances) k =
      fits reading standing request act (command.Hits name) a is
  not_cursors {act = act} a (Closed own before after c at) k = fits reading standing request act (command.Hits name) a is
  not_cursors {act = act} a (ListedSame m print _ _ s) k = fits reading standing request act (command.Hits name) a is
  not_cursors {act = act} a (RegisteredNew change m print _ _ s) k =
      fits reading standing request act (command.Hits name) a is
  not_cursors {act = act} a (ListedSimilar p q n print _ _ s) k = fits reading standing request act (command.Hits name) a is
  not_cursors {act = act} a (RegisteredEach id records _ _ each) k =
      fits reading standing request act (command.Hits name) a is
  not_cursors {act = act} a (FoundData id own reply said q) k = fits reading standing request act (command.Hits name) a is

  by_watches : {w w' : List Watched} {act : Act} {its : Calls} {lines : Lines} → RequestAllows standing request act
      → DoesWatch size w act its lines w' → Contains lines (line.EndWatched version count rebuilt)
      → IsListing its w w' name version count lines
  by_watches {act = act} a (WatchedAll own p calls v hits new few found) k =
      absurd (fits reading standing request act (command.Hits name) a is)
  by_watches {act = act} a (WatchLost own p calls want place new few need lookup) k =
      absurd (fits reading standing request act (command.Hits name) a is)
  by_watches {act = act} a (Current own x slot named) k =
      listing_from name own x slot version count rebuilt ((events.Unpin slot, replies.Unpinned) ∷ [])
      (fits reading standing request act (command.Hits name) a is) refl named k
  by_watches {w} {act = act} a (Refilled own x calls v hits named other found) k =
      let l = found.lookup in
      listing_from name own (rebuilt_watch v hits x) l.slot version count rebuilt
      (l.pages ++ (events.Unpin l.slot, replies.Unpinned) ∷ [])
      (fits reading standing request act (command.Hits name) a is)
      (l.made ∙ ap (λ (n : ℕ). (events.Pin, replies.Pinned l.slot n)
      ∷ (l.pages ++ (events.Unpin l.slot, replies.Unpinned) ∷ [])) (sym found.version_is))
      (rebuilt_found own v hits w x named) k
  by_watches a (HitsLost own x calls want place named need lookup anew) k =
      absurd (fault_or_ended version count rebuilt (one_in line.MemoryFault (line.EndWatched version count rebuilt) k))
  by_watches {act = act} a (TakenOut own x named) k = absurd (fits reading standing request act (command.Hits name) a is)

  hits_by : {act : Act} {its : Calls} {lines : Lines} → RequestAllows standing request act
      → DoesAll size standing act its lines standing' → Contains lines (line.EndWatched version count rebuilt)
      → IsListing its standing.watches standing'.watches name version count lines
  hits_by a (inl d) k = absurd (not_cursors a d.0 k)
  hits_by a (inr d) k = by_watches a d.0 k

module _ (laws : Laws) (finds : Finds) (reading : OneReading) (s t : State) (steps : List Step) (own : ℕ
    → Bool) (size : ℕ) (exchanges : List Exchange) (more : Calls) (standing : Standing)
    (sound : IsSound s) (run : IsRun s steps t) (calm : IsCalm steps)
    (made : calls_of own steps ≡ calls_in (sized size) exchanges ++ more)
    (said : AreExchanged (sized size) nothing_kept exchanges standing) where
  -- hits that were searched are those of the history
  found_are : (before its later : Calls) (pattern : PatternTerm) (version : ℕ) (hits : List ℕ)
      → calls_of own steps ≡ before ++ (its ++ later) → FindsHits size pattern its version hits
      → AreHits t.history version pattern hits
  found_are before its later pattern version hits w found =
      let l = found.lookup in
      let pin : Event × Reply = (events.Pin, replies.Pinned l.slot l.version) in
      let unpin : Event × Reply = (events.Unpin l.slot, replies.Unpinned) in
      let at : calls_of own steps ≡ before ++ ((pin ∷ (l.pages ++ unpin ∷ [])) ++ later) =
      w ∙ ap (λ (cs : Calls). before ++ (cs ++ later)) l.made in
      let all = whole_pages laws own s t steps before l.pages (unpin ∷ later) l.slot l.version found.want End sound run
      calm (at ∙ cut_calls before l.pages later pin unpin)
      (fetches_keep l.slot size l.slot found.want (At 0) End l.pages l.fetches)
      (fetches_search l.slot size found.want (At 0) End l.pages l.fetches) refl
      (length (records_of (fetched l.slot l.pages))) pattern hits found.need found.matched refl in
      subst (λ (n : ℕ). AreHits t.history n pattern hits) (sym found.version_is) all.are

  -- watches stay right
  call_right : (event : Event) (reply : Reply) (before later : Calls) (w w' : List Watched)
      → calls_of own steps ≡ before ++ (event, reply) ∷ later → AfterCall event reply w w' → IsRight t.history w
      → IsRight t.history w'
  call_right (events.Commit change) (replies.Committed version) before later w w' e h r =
      noted_right laws.snapshots laws.commits t.history version change w w'
      (commit_of laws.add laws.grow own s t steps before later change version run calm e) h r
  call_right (events.Commit change) _ before later w w' e h r = subst (IsRight t.history) (sym h) r
  call_right _ reply before later w w' e h r = subst (IsRight t.history) (sym h) r

  calls_right : (its before later : Calls) (w w' : List Watched) → calls_of own steps ≡ before ++ (its ++ later)
      → AfterCalls its w w' → IsRight t.history w → IsRight t.history w'
  calls_right [] before later w w' e h r = subst (IsRight t.history) (sym h) r
  calls_right (c ∷ cs) before later w w' e h r =
      calls_right cs (before ++ c ∷ []) later h.0 w' (e ∙ sym (append_assoc before (c ∷ []) (cs ++ later))) h.2
      (call_right c.0 c.1 before (cs ++ later) w h.0 e h.1 r)

  act_right : {w w' : List Watched} {act : Act} {its : Calls} {lines : Lines} (before later : Calls)
      → calls_of own steps ≡ before ++ (its ++ later) → DoesWatch size w act its lines w' → IsRight t.history w
      → IsRight t.history w'
  act_right {w} before later e (WatchedAll name p its version hits new few found) r =
      added_right t.history w (new_watch name p version hits) (found_are before its later p version hits e found) r
  act_right before later e (WatchLost name p its want place new few need lookup) r = r
  act_right before later e (Current name x slot named) r = r
  act_right {w} before later e (Refilled name x its version hits named other found) r =
      rebuilt_right t.history name version hits w x named (found_are before its later x.pattern version hits e found) r
  act_right before later e (HitsLost name x its want place named need lookup anew) r = r
  act_right {w} before later e (TakenOut name x named) r = without_right t.history name w r

  all_right : {here then : Standing} {act : Act} {its : Calls} {lines : Lines} (before later : Calls)
      → calls_of own steps ≡ before ++ (its ++ later) → DoesAll size here act its lines then
      → IsRight t.history here.watches → IsRight t.history then.watches
  all_right {here} {then} {its = its} before later e (inl d) r =
      calls_right its before later here.watches then.watches e d.1 r
  all_right before later e (inr d) r = act_right before later e d.0 r

  dialogue_right : (xs : List Exchange) (before later : Calls) (here then : Standing)
      → calls_of own steps ≡ before ++ (calls_in (sized size) xs ++ later)
      → AreExchanged (sized size) here xs then → IsRight t.history here.watches → IsRight t.history then.watches
  dialogue_right [] before later here then e d r = subst (λ (k : Standing). IsRight t.history k.watches) (sym d) r
  dialogue_right (x ∷ xs) before later here then e d r =
      let more_calls = calls_in (sized size) xs in
      let n = next_calls (calls_of own steps) before x.calls more_calls later e in
      dialogue_right xs (before ++ x.calls) later d.0 then n.1 d.2 (all_right before (more_calls ++ later) n.0 d.1.does r)

  pub commits_true : CommitsAreTrue t.history size exchanges
  commits_true before after x v e k =
      let a = spot laws finds reading s t steps own size exchanges more standing sound run calm made said before
      after x e in
      let h = accepted_call v a.did.does k in (
        h.0,
        record {
          here = a.here;
          then = a.then;
          calls = x.calls;
          answer = a.did;
          before = h.1;
          later = h.2;
          made = h.3;
        },
        stands_behind laws.stand own s t steps (calls_in (sized size) before) x.calls ((calls_in (sized size) after) ++ more) v run calm a.calls_are h,
      )

  none_right : IsRight t.history []
  none_right name w e = absurd (none_some w e)

  pub watchings_true : WatchingsAreTrue t.history exchanges
  watchings_true before after x name text version count e is k =
      let a = spot laws finds reading s t steps own size exchanges more standing sound run calm made said before
      after x e in
      let did = watched_by reading (request_of x.request) name text version count a.did.allowed a.did.does is k in
      let l = did.found.lookup in
      let fresh : IsUpToDate t.history (calls_in (sized size) before) version =
      subst (λ (v : ℕ). IsUpToDate t.history (calls_in (sized size) before) v) (sym did.found.version_is)
      (laws.pins s t steps own l.slot l.version (calls_in (sized size) before)
      ((l.pages ++ (events.Unpin l.slot, replies.Unpinned) ∷ []) ++ ((calls_in (sized size) after) ++ more)) sound run calm
      (a.calls_are ∙ ap (λ (cs : Calls). (calls_in (sized size) before) ++ (cs ++ ((calls_in (sized size) after) ++ more))) l.made)) in (
        did.hits,
        record {
          within = fresh.0;
          pattern = did.pattern;
          is = did.is;
          are = found_are (calls_in (sized size) before) x.calls ((calls_in (sized size) after) ++ more) did.pattern version did.hits a.calls_are did.found;
          length_is = did.length_is;
        },
        no_older laws finds reading s t steps own size exchanges more standing sound run calm made said before
            after x a version fresh,
      )

  pub watches_true : WatchesAreTrue t.history exchanges
  watches_true before between after x y name text first found version count rebuilt e is k stays next ends =
      let whole : exchanges ≡ (before ++ x ∷ between) ++ y ∷ after =
      e ∙ sym (append_assoc before (x ∷ between) (y ∷ after)) in
      let b = spot laws finds reading s t steps own size exchanges more standing sound run calm made said
      (before ++ x ∷ between) after y whole in
      let front : Calls = calls_in (sized size) (before ++ x ∷ between) in
      let last : Calls = y.calls ++ (calls_in (sized size) after ++ more) in
      let ahead : Calls = calls_in (sized size) before in
      let inner : Calls = calls_in (sized size) between in
      let r = exchanged-parts (sized size) nothing_kept b.here before (x ∷ between) b.to in
      let q = r.2 in
      let w : calls_of own steps ≡ ahead ++ ((x.calls ++ inner) ++ last) =
      parted laws finds reading s t steps own size exchanges more standing sound run calm made said before (x ∷ between) []
      last b.calls_are in
      let n = next_calls (calls_of own steps) ahead x.calls inner last w in
      let did = watched_by reading (request_of x.request) name text first found q.1.allowed q.1.does is k in
      let new = new_watch name did.pattern first did.hits in
      let begun : IsKeptAs name did.pattern q.0.watches = (
        new,
        subst (λ (l : List Watched). watch_of name l ≡ Some new) (sym did.then_are)
            (added_new name r.0.watches new did.new refl),
        refl,
      ) in
      let kept = dialogue_kept size name did.pattern between q.0 b.here q.2 stays begun in
      let right = dialogue_right between (ahead ++ x.calls) last q.0 b.here n.1 q.2
      (all_right ahead (inner ++ last) n.0 q.1.does
      (dialogue_right before [] ((x.calls ++ inner) ++ last) nothing_kept r.0 w r.1 none_right)) in
      let l = hits_by reading b.here b.then (request_of y.request) name version count rebuilt next b.did.allowed b.did.does ends in
      let then_right = all_right front ((calls_in (sized size) after) ++ more) b.calls_are b.did.does right in
      let then_kept = all_kept (request_of y.request) name did.pattern b.did.allowed b.did.does
      (other_command reading (request_of y.request) name next) kept in
      let same : then_kept.0 ≡ l.x = same_some then_kept.0 l.x (sym then_kept.1 ∙ l.named) in
      let fresh : IsUpToDate t.history front version =
      laws.pins s t steps own l.slot version front (l.rest ++ ((calls_in (sized size) after) ++ more)) sound run calm
      (b.calls_are ∙ ap (λ (cs : Calls). front ++ (cs ++ ((calls_in (sized size) after) ++ more))) l.its_are) in (
        record {
          within = fresh.0;
          pattern = did.pattern;
          is = did.is;
          are = subst (λ (ids : List ℕ). AreHits t.history version did.pattern ids) (sym l.listed)
              (subst (λ (v : ℕ). AreHits t.history v did.pattern l.x.hits) l.version_is
              (subst (λ (p : PatternTerm). AreHits t.history l.x.version p l.x.hits)
              (ap (λ (z : Watched). z.pattern) (sym same) ∙ then_kept.2) (then_right name l.x l.named)));
          length_is = l.length_is ∙ ap (λ (ids : List ℕ). length ids) (sym l.listed);
        },
        no_older laws finds reading s t steps own size exchanges more standing sound run calm made said
            (before ++ x ∷ between) after y b version fresh,
      )

  pub are_true : AreTrue t.history size exchanges
  are_true = record {
    commits = commits_true;
    searches = searches_true laws finds reading s t steps own size exchanges more standing sound run calm made said;
    cursors = cursors_true laws finds reading s t steps own size exchanges more standing sound run calm made said;
    pages = pages_true laws finds reading s t steps own size exchanges more standing sound run calm made said;
    sames = sames_true laws finds reading s t steps own size exchanges more standing sound run calm made said;
    registrations = registrations_true laws finds reading s t steps own size exchanges more standing sound run calm made said;
    watchings = watchings_true;
    watches = watches_true;
    similars = similars_true laws finds reading s t steps own size exchanges more standing sound run calm made said;
  }

pub dialogues-are-true : Laws → Finds → OneReading → DialoguesAreTrue
dialogues-are-true laws finds reading s t steps own size exchanges more kept sound run calm made said =
    let calls : calls_of own steps ≡ calls_in (sized size) exchanges ++ more =
    made ∙ ap (λ (l : Calls). l ++ more) (sized_calls size exchanges) in
    let all = sized_exchanges (begun size) kept exchanges said in
    are_true laws finds reading s t steps own size exchanges more kept.standing sound run calm calls all
