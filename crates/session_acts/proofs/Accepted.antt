-- Each `ok v` of a reply comes of a commit among the calls of its request.
use Rattle.std.proofs.Common.{◌≡◌, ◌++◌, ◌+◌, ◌∙◌, ap, append_assoc, Bool, Contains, false, inl, inr, length, List, [], ◌∷◌, map, None, Option, Some, subst, suc, sym, true, ℕ}
use Rattle.io_edge.specs.Lines.{TextLine}
use Rattle.chem_core.specs.Molecule.{Molecule}
use Rattle.shell_lang.specs.Reply as line
use Rattle.similar_find.specs.Board.{Offer}
use Rattle.store_machine.specs.Runs.{IsCalm, IsRun, calls_of}
use Rattle.store_machine.specs.Searches.{At, End, Place}
use Rattle.store_machine.specs.Told.{CommitsStand, IsCommit}
use Rattle.store_machine.specs.declared.machine.Change.{Change}
use Rattle.store_machine.specs.declared.machine.Event.{Event}
use Rattle.store_machine.specs.declared.machine.Event.TheVariants as events
use Rattle.store_machine.specs.declared.machine.Reply.{Reply}
use Rattle.store_machine.specs.declared.machine.Reply.TheVariants as replies
use Rattle.store_machine.specs.declared.machine.State.{State}
use Rattle.store_machine.specs.declared.machine.Status.{Status}
use Rattle.store_machine.specs.declared.machine.Status.TheVariants as status
use Rattle.store_machine.specs.declared.machine.Step.{Step}
use Rattle.session_acts.specs.Acts.{Act, Advances, AllSame, AllSimilar, AnswersBy, Asks, Closed, Current, Does, DoesAll, DoesWatch, Ended, Fault, Faults, FoundData, HitsLost, IsCutShort, IsDataLine, IsLineOf, Lines, ListedSame, ListedSimilar, Lists, ListsSame, ListsSimilar, Lost, Note, Opened, Paged, Refilled, Refused, Refuses, RegisteredEach, RegisteredNew, RegistersEach, Replies, SameLost, Says, Searched, Silence, SimilarLost, TakenOut, Turned, WatchLost, WatchedAll, after_page, data_line, item_line, like_line, note_lines, page_end, shown}
use Rattle.session_acts.specs.Cursors.{Calls, Cursor}
use Rattle.session_acts.specs.Records.{counted, data_of}
use Rattle.session_acts.specs.Watching.{Standing, Watched, rebuilt_watch}
use Rattle.session_acts.proofs.Found.{accepted_made, made_commit}
use Rattle.session_acts.proofs.Passing.{first_or_rest, none_in, one_in}

-- one of the calls made a commit with this version
abbrev pub HasCommit : Calls → ℕ → Type 0
HasCommit calls v = (c : Change) × (first later : Calls)
    × (calls ≡ first ++ (events.Commit c, replies.Committed v) ∷ later)

behind : (before calls : Calls) (v : ℕ) → HasCommit calls v → HasCommit (before ++ calls) v
behind before calls v (c, first, later, e) = (
  c,
  before ++ first,
  later,
  ap (λ (l : Calls). before ++ l) e
      ∙ sym (append_assoc before first ((events.Commit c, replies.Committed v) ∷ later)),
)

before_others : (calls after : Calls) (v : ℕ) → HasCommit calls v → HasCommit (calls ++ after) v
before_others calls after v (c, first, later, e) = (
  c,
  first,
  later ++ after,
  ap (λ (l : Calls). l ++ after) e
      ∙ append_assoc first ((events.Commit c, replies.Committed v) ∷ later) after,
)

-- a line that accepts nothing
abbrev IsOther : line.Reply → Type 0
IsOther (line.Accepted version) = ⊥
IsOther _ = Unit {0}

differs : {said other : line.Reply} → said ≡ other → IsOther other → (v : ℕ) → said ≡ line.Accepted v → ⊥
differs e p v f = subst IsOther (sym e ∙ f) p

apart : (other : line.Reply) → IsOther other → (v : ℕ) → ¬ Contains (other ∷ []) (line.Accepted v)
apart other p v k = subst IsOther (one_in other (line.Accepted v) k) p

behind_hits : (hits : List ℕ) (other : line.Reply) → IsOther other → (v : ℕ)
    → ¬ Contains (map line.Hit hits ++ other ∷ []) (line.Accepted v)
behind_hits [] other p v k = apart other p v k
behind_hits (h ∷ hs) other p v k =
    elim (first_or_rest (line.Hit h) (map line.Hit hs ++ other ∷ []) (line.Accepted v) k) [
      | inl e ↦ subst IsOther e tt
      | inr m ↦ behind_hits hs other p v m
    ]

behind_likes : (likes : List Offer) (other : line.Reply) → IsOther other → (v : ℕ)
    → ¬ Contains (map like_line likes ++ other ∷ []) (line.Accepted v)
behind_likes [] other p v k = apart other p v k
behind_likes (x ∷ xs) other p v k =
    elim (first_or_rest (like_line x) (map like_line xs ++ other ∷ []) (line.Accepted v) k) [
      | inl e ↦ subst IsOther e tt
      | inr m ↦ behind_likes xs other p v m
    ]

-- by one call
shown_other : (id : ℕ) (state : Option Status) → IsOther (shown id state)
shown_other id None = tt
shown_other id (Some (status.Live version format text)) = tt
shown_other id (Some (status.Withdrawn version)) = tt

item_other : (id : ℕ) (found : Option (List ℕ)) → IsOther (item_line id found)
item_other id None = tt
item_other id (Some text) = tt

data_other : (id : ℕ) (name : List ℕ) (state : Option Status) → IsOther (data_line id name state)
data_other id name None = tt
data_other id name (Some (status.Live version format text)) = item_other id (data_of format text name)
data_other id name (Some (status.Withdrawn version)) = tt

asked : (event : Event) (reply : Reply) (said : line.Reply) (v : ℕ) → IsLineOf event reply said
    → said ≡ line.Accepted v → HasCommit ((event, reply) ∷ []) v
asked (events.Commit change) reply said v is e =
    (change, [], [], ap (λ (r : Reply). (events.Commit change, r) ∷ []) (made_commit change reply said v is e))
asked (events.Look id) (replies.Looked state) said v (inl e) f = absurd (differs e (shown_other id state) v f)
asked (events.Look id) (replies.Looked state) said v (inr e) f = absurd (differs e tt v f)
asked (events.Look id) replies.NoMemory said v e f = absurd (differs e tt v f)
asked events.Prune (replies.Pruned count) said v e f = absurd (differs e tt v f)
asked events.Compact (replies.More left) said v e f = absurd (differs e tt v f)
asked events.Compact (replies.Done generation) said v e f = absurd (differs e tt v f)
asked events.Compact replies.Last said v e f = absurd (differs e tt v f)
asked events.Compact (replies.DiskFault doubt) said v e f = absurd (differs e tt v f)
asked events.Compact replies.NoMemory said v e f = absurd (differs e tt v f)
asked events.Stats (replies.Counted version live withdrawn kept pins) said v e f = absurd (differs e tt v f)
asked events.Pin replies.NoPin said v e f = absurd (differs e tt v f)
asked _ _ said v e f = absurd e

found_other : (id : ℕ) (name : List ℕ) (reply : Reply) (said : line.Reply) (v : ℕ) → IsDataLine id name reply said
    → said ≡ line.Accepted v → ⊥
found_other id name (replies.Looked state) said v (inl e) f = differs e (data_other id name state) v f
found_other id name (replies.Looked state) said v (inr e) f = differs e tt v f
found_other id name replies.NoMemory said v e f = differs e tt v f
found_other id name _ said v e f = e

answered : {act : Act} {calls : Calls} {said : line.Reply} (v : ℕ) → AnswersBy act calls said → said ≡ line.Accepted v
    → HasCommit calls v
answered v (Refuses refusal) f = absurd (subst IsOther f tt)
answered v Faults f = absurd (subst IsOther f tt)
answered v (Replies event reply said is) f = asked event reply said v is f

-- by one after another
each : (id sum : ℕ) (records : List (Option (List TextLine))) (calls : Calls) (lines : Lines) (v : ℕ)
    → RegistersEach id sum records calls lines → Contains lines (line.Accepted v) → HasCommit calls v
each id sum [] calls lines v h k =
    absurd (none_in (line.Accepted v) (subst (λ (l : Lines). Contains l (line.Accepted v)) h.1 k))
each id sum (r ∷ records) calls lines v (act, own, more, said, rest, may, by, e, f, next) k =
    subst (λ (cs : Calls). HasCommit cs v) (sym e)
    (elim (first_or_rest said rest (line.Accepted v) (subst (λ (l : Lines). Contains l (line.Accepted v)) f k)) [
      | inl is ↦ before_others own more v (answered v by is)
      | inr m ↦ behind own more v (each (suc id) (sum + counted r) records more rest v next m)
    ])

-- lists
noted : (note : Note) (v : ℕ) → ¬ Contains (note_lines note) (line.Accepted v)
noted Silence v k = none_in (line.Accepted v) k
noted (Refused refusal) v k = apart (line.Refused refusal) tt v k
noted Fault v k = apart line.MemoryFault tt v k

cut : (hits : List ℕ) (lines : Lines) (v : ℕ) → IsCutShort hits lines → ¬ Contains lines (line.Accepted v)
cut hits lines v c k =
    behind_hits c.0 line.MemoryFault tt v (subst (λ (l : Lines). Contains l (line.Accepted v)) c.3 k)

listed : (place : Place) (version tried : ℕ) (hits : List ℕ) (lines : Lines) (v : ℕ)
    → Lists place version tried hits lines → ¬ Contains lines (line.Accepted v)
listed End version tried hits lines v (inl e) k =
    behind_hits hits (line.End version tried (length hits)) tt v
    (subst (λ (l : Lines). Contains l (line.Accepted v)) e k)
listed End version tried hits lines v (inr c) k = cut hits lines v c k
listed (At from) version tried hits lines v c k = cut hits lines v c k

end_other : (last : Bool) (c : Cursor) → IsOther (page_end last c)
end_other true c = tt
end_other false c = tt

turned : {size : ℕ} {c c' : Cursor} {calls : Calls} {lines : Lines} (v : ℕ) → Advances size c calls lines c'
    → ¬ Contains lines (line.Accepted v)
turned {c = c} v (Ended at) k = apart (page_end true c) tt v k
turned {c = c} v (Paged from records last hits at m) k =
    behind_hits hits (page_end last (after_page c from records last hits))
    (end_other last (after_page c from records last hits)) v k
turned v (Lost from at) k = apart line.MemoryFault tt v k

same : {size : ℕ} {m : Molecule} {print : List Bool} {calls : Calls} {lines : Lines} (v : ℕ)
    → ListsSame size m print calls lines → ¬ Contains lines (line.Accepted v)
same v (AllSame calls list found) k =
    behind_hits list.hits.items (line.End list.version list.tried (length list.hits.items)) tt v k
same v (SameLost calls place lookup) k = apart line.MemoryFault tt v k

similar : {size p q n : ℕ} {print : List Bool} {calls : Calls} {lines : Lines} (v : ℕ)
    → ListsSimilar size p q n print calls lines → ¬ Contains lines (line.Accepted v)
similar v (AllSimilar calls list found) k =
    behind_likes list.best.hits (line.Scored list.version list.scored (length list.best.hits)) tt v k
similar v (SimilarLost calls want place none lookup) k = apart line.MemoryFault tt v k

-- by an act
done : {size : ℕ} {cursors cursors' : List Cursor} {act : Act} {its : Calls} {lines : Lines} (v : ℕ)
    → Does size cursors act its lines cursors' → Contains lines (line.Accepted v) → HasCommit its v
done v (Says note) k = absurd (noted note v k)
done v (Asks event reply said is) k = asked event reply said v is (one_in said (line.Accepted v) k)
done v (Searched pattern its lines s) k =
    absurd (listed s.place s.version s.tried s.hits lines v s.lists k)
done v (ListedSame m print its lines s) k = absurd (same v s k)
done v (RegisteredNew change m print its lines s) k =
    let n = accepted_made v s k in
    (n.change, n.found.first, [], n.found.made ∙ ap (λ (l : Calls). n.found.first ++ l) n.last)
done v (ListedSimilar p q n print its lines s) k = absurd (similar v s k)
done v (RegisteredEach id records its lines all) k = each id 0 records its lines v all k
done v (FoundData id name reply said is) k =
    absurd (found_other id name reply said v is (one_in said (line.Accepted v) k))
done v (Opened name pattern want slot version new need) k = absurd (apart (line.Opened version) tt v k)
done v (Turned name before after c c' its lines named advances) k = absurd (turned v advances k)
done v (Closed name before after c named) k = absurd (apart line.Closed tt v k)

watched : {size : ℕ} {w w' : List Watched} {act : Act} {its : Calls} {lines : Lines} (v : ℕ)
    → DoesWatch size w act its lines w' → ¬ Contains lines (line.Accepted v)
watched v (WatchedAll name pattern calls version hits new few found) k =
    apart (line.Watching version (length hits)) tt v k
watched v (WatchLost name pattern calls want place new few need lookup) k = apart line.MemoryFault tt v k
watched v (Current name w slot named) k =
    behind_hits w.hits (line.EndWatched w.version (length w.hits) w.rebuilt) tt v k
watched v (Refilled name w calls version hits named other found) k =
    behind_hits hits (line.EndWatched version (length hits) (rebuilt_watch version hits w).rebuilt) tt v k
watched v (HitsLost name w calls want place named need lookup anew) k = apart line.MemoryFault tt v k
watched v (TakenOut name w named) k = apart line.Unwatched tt v k

pub accepted_call : {size : ℕ} {standing standing' : Standing} {act : Act} {its : Calls} {lines : Lines} (v : ℕ)
    → DoesAll size standing act its lines standing' → Contains lines (line.Accepted v) → HasCommit its v
accepted_call v (inl d) k = done v d.0 k
accepted_call v (inr d) k = absurd (watched v d.0 k)

-- and among the caller's own calls of a run it is a commit of the history
pub stands_behind : CommitsStand → (own : ℕ → Bool) (s t : State) (steps : List Step) (first its rest : Calls) (v : ℕ)
    → IsRun s steps t → IsCalm steps → calls_of own steps ≡ first ++ (its ++ rest) → (h : HasCommit its v)
    → IsCommit t.history v h.0
stands_behind stand own s t steps first its rest v run calm made (c, front, back, e) =
    let commit : Event × Reply = (events.Commit c, replies.Committed v) in
    stand s t steps own c v (first ++ front) (back ++ rest) run calm
    (made ∙ (ap (λ (l : Calls). first ++ (l ++ rest)) e
    ∙ (ap (λ (l : Calls). first ++ l) (append_assoc front (commit ∷ back) rest)
    ∙ sym (append_assoc first front (commit ∷ (back ++ rest))))))
