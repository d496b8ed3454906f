-- A commit, and the watches that are brought over it.
use Rattle.std.proofs.Common.{◌≡◌, ◌↔◌, ap, arith, Err, inl, List, [], ◌∷◌, Ok, refl, Result, subst, sym, true, ℕ}
use Rattle.std.specs.Arc.{arc_value}
use Rattle.std.specs.List.{AllZip}
use Rattle.smarts_parse.specs.Embedding.{Matches}
use Rattle.smarts_parse.specs.Pattern.{PatternTerm, pattern_of}
use Rattle.shell_lang.specs.Reply as line
use Rattle.shell_lang.specs.Reply.{reply_of}
use Rattle.shell_lang.specs.declared.reply.Reply as written
use Rattle.store_core.specs.Calls as core
use Rattle.store_core.specs.Calls.{NotRaised, SameHeld, is_worn_out}
use Rattle.store_core.specs.Records.{IsRecord, RecordTerm}
use Rattle.store_core.specs.Replies.{IsSoundChange, change_of, commit_calls}
use Rattle.store_core.specs.declared.service.Service as meaning
use Rattle.store_core.specs.declared.words.Change.{Change as Asked}
use Rattle.store_core.specs.declared.words.Change.TheVariants as asked
use Rattle.store_core.specs.declared.words.CommitFault.{CommitFault}
use Rattle.store_core.specs.declared.words.CommitFault.TheVariants as faults
use Rattle.store_machine.specs.Structures.{IsMatched}
use Rattle.store_machine.specs.declared.machine.Change.{Change}
use Rattle.store_machine.specs.declared.machine.Event.{Event}
use Rattle.store_machine.specs.declared.machine.Event.TheVariants as events
use Rattle.store_machine.specs.declared.machine.Reply.{Reply}
use Rattle.store_machine.specs.declared.machine.Reply.TheVariants as replies
use Rattle.store_machine.specs.declared.machine.State.{State}
use Rattle.watch_list.specs.Notes as noted
use Rattle.watch_list.specs.Notes.{IsListAfter, LeavesMatch}
use Rattle.watch_list.specs.Watches.{Watch}
use Rattle.watch_list.proofs.Right.{OneStructure}
use Rattle.session_acts.specs.Acts.{Ask, Asks, Fault, MayAsk, Responds}
use Rattle.session_acts.specs.Cursors.{Calls, Cursor}
use Rattle.session_acts.specs.Watching.{AfterReply, AreNoted, IsListOver, IsNoted, LeavesHit, Watched}
use Rattle.session_acts.proofs.Parting.{one_call}
use Rattle.session_run.specs.Made.{Answered, AnsweredBy, Gives, Writes}
use Rattle.session_run.specs.Standings.{IsNotedBy, both, watched, watched_all}
use Rattle.dialogue.specs.declared.end.Stop.{Stop}
use Rattle.dialogue.specs.declared.end.Stop.TheVariants as stops
use Rattle.session_run.proofs.Joined.{uses-kept}
use Rattle.session_run.proofs.Lines.{broken, in_line, said}
use Rattle.session_run.proofs.Standing.{rests}

-- watches that stay
pub same_watches : {Made : Calls → Type 0} {IsWorn : Type 0} {size : ℕ} {out out' : List ℕ} {cursors : List Cursor}
    {change : Change} {result : Result (Unit {0}) Stop} (w w' : List Watch) → w' ≡ w
    → Answered Made IsWorn (Responds size (MayAsk (events.Commit change)) (both cursors (watched_all w))) out out'
    (both cursors (watched_all w)) result
    → Answered Made IsWorn (Responds size (MayAsk (events.Commit change)) (both cursors (watched_all w))) out out'
    (both cursors (watched_all w')) result
same_watches {Made} {IsWorn} {size} {out} {out'} {cursors} {change} {result} w w' e a =
    subst (λ (l : List Watch). Answered Made IsWorn (Responds size (MayAsk (events.Commit change))
    (both cursors (watched_all w))) out out' (both cursors (watched_all l)) result) (sym e) a

-- What a change leaves, by the record and by the text
matched : OneStructure → (p : PatternTerm) (r : RecordTerm) → IsRecord r → Matches p r.mol ↔ IsMatched p r.format r.text
matched one p r sound =
    (λ m. (r.mol, sound.structure, m), λ m. subst (Matches p) (one r.format r.text m.0 r.mol m.1 sound.structure) m.2)

leaves : OneStructure → (p : PatternTerm) (change : Asked) → IsSoundChange change
    → LeavesMatch p change ↔ LeavesHit p (change_of change)
leaves one p (asked.Register r) sound = matched one p (arc_value r) sound
leaves one p (asked.Revise r) sound = matched one p (arc_value r) sound
leaves one p (asked.Withdraw id) sound = (λ h. h, λ h. h)

list_over : OneStructure → (p : PatternTerm) (change : Asked) (old new : List ℕ) → IsSoundChange change
    → IsListAfter p change old new → IsListOver p (change_of change) old new
list_over one p change old new sound l =
    let hit = leaves one p change sound in
    record {
      ascending = l.ascending;
      own = (λ h. hit.0 (l.own.0 h), λ h. l.own.1 (hit.1 h));
      others = l.others;
    }

noted_one : OneStructure → (version : ℕ) (change : Asked) (old new : Watch) → IsSoundChange change
    → noted.IsNoted version change old new → IsNoted version (change_of change) (watched old) (watched new)
noted_one one version change old new sound n = record {
  name = n.name;
  pattern = ap pattern_of n.pattern;
  rebuilt = n.fills;
  moved = λ e.
      let m = n.moved e in
      record {
        version_is = m.version_is;
        list = list_over one (pattern_of old.pattern) change old.hits new.hits sound m.list;
      };
  other = λ n'. ap watched (n.other n');
}

-- watches over a commit
pub are_noted : OneStructure → (version : ℕ) (change : Asked) (old new : List Watch) → IsSoundChange change
    → AllZip (noted.IsNoted version change) old new
    → AreNoted version (change_of change) (watched_all old) (watched_all new)
are_noted one version change [] [] sound h = tt
are_noted one version change [] (y ∷ ys) sound h = absurd h
are_noted one version change (x ∷ xs) [] sound h = absurd h
are_noted one version change (x ∷ xs) (y ∷ ys) sound h =
    (noted_one one version change x y sound h.0, are_noted one version change xs ys sound h.1)

-- no commit makes version 0
pub none_noted : (change : Change) (w : List Watched) → AreNoted 0 change w w
none_noted change [] = tt
none_noted change (x ∷ xs) = (
  record {
    name = refl;
    pattern = refl;
    rebuilt = refl;
    moved = λ e. absurd (omega (arith, e));
    other = λ n. refl;
  },
  none_noted change xs,
)

-- by the reply that the answer is
no_call : (c : Event × Reply) → [] ≡ c ∷ [] → ⊥
no_call c e = cc

by_reply : (change : Asked) (c : Change) (w w' : List Watched) (event : Event) (a reply : Reply)
    → ◌≡◌ {A = Calls} ((event, a) ∷ []) ((event, reply) ∷ []) → AfterReply c a w w' → AfterReply c reply w w'
by_reply change c w w' event a reply e h =
    subst (λ (r : Reply). AfterReply c r w w') (ap (λ (p : Event × Reply). p.1) (one_call (event, a) (event, reply) [] [] e)) h

by_answer : (change : Asked) (answer : Result ℕ CommitFault) (w w' : List Watched) (reply : Reply)
    → commit_calls change answer ≡ (events.Commit (change_of change), reply) ∷ []
    → IsNotedBy answer (change_of change) w w' → AfterReply (change_of change) reply w w'
by_answer change (Ok version) w w' reply e h =
    by_reply change (change_of change) w w' (events.Commit (change_of change)) (replies.Committed version) reply e h
by_answer change (Err faults.Known) w w' reply e h =
    by_reply change (change_of change) w w' (events.Commit (change_of change)) replies.Known reply e h
by_answer change (Err faults.Absent) w w' reply e h =
    by_reply change (change_of change) w w' (events.Commit (change_of change)) replies.Absent reply e h
by_answer change (Err faults.Withdrawn) w w' reply e h =
    by_reply change (change_of change) w w' (events.Commit (change_of change)) replies.Withdrawn reply e h
by_answer change (Err faults.Full) w w' reply e h =
    by_reply change (change_of change) w w' (events.Commit (change_of change)) replies.Full reply e h
by_answer change (Err (faults.DiskFault doubt)) w w' reply e h =
    by_reply change (change_of change) w w' (events.Commit (change_of change)) (replies.DiskFault doubt) reply e h
by_answer change (Err faults.Worn) w w' reply e h = absurd (no_call _ e)
by_answer change (Err faults.NoMemory) w w' reply e h =
    by_reply change (change_of change) w w' (events.Commit (change_of change)) replies.NoMemory reply e h

module _ {S : Type 0} {of : meaning.Ghosts S} {old new : S} {size : ℕ} {cursors : List Cursor} {out out' : List ℕ} where
  -- a commit that was answered
  pub committed : (change : Asked) (answer : Result ℕ CommitFault) (w w' : List Watched)
      (given : Result written.Reply Stop) (result : Result (Unit {0}) Stop)
      → ((s : State) → of.at old s → core.Calls of.stretch (of.owns old) old new s (commit_calls change answer))
      → SameHeld (of.holds old) (of.holds new) → NotRaised (of.bounds old) (of.bounds new)
      → (is_worn_out answer ≡ true → of.worn new)
      → Gives (events.Commit (change_of change)) (commit_calls change answer) (is_worn_out answer) given
      → IsNotedBy answer (change_of change) w w' → Writes given out out' result
      → AnsweredBy of old new (Responds size (MayAsk (events.Commit (change_of change))) (both cursors w)) out out'
      (both cursors w') result
  committed change answer w w' (Ok reply) result made held bounds is_worn g n t =
      let event = events.Commit (change_of change) in
      let l = in_line event (commit_calls change answer) (reply_of reply) g in
      said ((event, l.0) ∷ []) (reply_of reply) result
      (uses-kept ((event, l.0) ∷ []) (subst (λ (cs : Calls). (s : State) → of.at old s
      → core.Calls of.stretch (of.owns old) old new s cs) l.1 made) (refl, tt) held bounds)
      (record {
        act = Ask event;
        allowed = refl;
        does = inl (Asks event l.0 (reply_of reply) l.2, (w', by_answer change answer w w' l.0 l.1 n, refl));
      }) t
  committed change answer w w' (Err stops.Worn) result made held bounds is_worn g n t =
      broken [] (line.MemoryFault ∷ []) (both cursors w) result
      (uses-kept [] (subst (λ (cs : Calls). (s : State) → of.at old s
      → core.Calls of.stretch (of.owns old) old new s cs) g.0 made) tt held bounds) (is_worn g.1) (rests Fault tt) t
  committed change answer w w' (Err stops.NoMemory) result made held bounds is_worn g n t = absurd g
