-- Dialogues over a run: what their searches and cursors listed is the history's answer.
use Rattle.std.proofs.Common.{◌≡◌, ◌++◌, ◌+◌, ◌*◌, ◌≤◌, ◌∙◌, ap, ap₂, append_assoc, arith, Bool, cond, Contains, drop, nat_le, take, inl, inr, length, List, [], ◌∷◌, refl, subst, sym, ℕ}
use Rattle.chem_core.specs.Molecule.{IsMolecule, Molecule}
use Rattle.lookup.specs.Asked.{IsSameAs}
use Rattle.lookup.specs.Fetches.{lookup_calls}
use Rattle.lookup.specs.Truths.{AreAllOffered, AreAllSame, InRun, SamesAreAnswers, SimilarsAreAnswers}
use Rattle.lookup.specs.declared.hits.HitList.{HitList}
use Rattle.mol_finish.specs.Structure.{HasMolecule}
use Rattle.mol_finish.specs.declared.fault.Format.{Format}
use Rattle.mol_finish.specs.declared.fault.Format.TheVariants.{Smiles}
use Rattle.shell_lang.specs.Command as command
use Rattle.shell_lang.specs.Reply as line
use Rattle.shell_lang.specs.declared.reply.Refusal.TheVariants as refusals
use Rattle.similar_find.specs.Board.{Board, IsBest, Offer}
use Rattle.smarts_parse.specs.Pattern.{PatternTerm}
use Rattle.store_machine.specs.Answers.{AreAnswers, AreFound, AreMatched, AreTried}
use Rattle.store_machine.specs.History.{head, snapshot}
use Rattle.store_machine.specs.Laws.{IsSound}
use Rattle.store_machine.specs.Runs.{IsCalm, IsRun, calls_of}
use Rattle.store_machine.specs.Searches.{ArePieces, At, End, Fetched, fetched, past}
use Rattle.store_machine.specs.Structures.{IsNeedOf, IsScreened}
use Rattle.store_machine.specs.declared.machine.History.{History}
use Rattle.store_machine.specs.declared.machine.Event.{Event}
use Rattle.store_machine.specs.declared.machine.Event.TheVariants as events
use Rattle.store_machine.specs.declared.machine.Found.{Found}
use Rattle.store_machine.specs.declared.machine.Reply.{Reply}
use Rattle.store_machine.specs.declared.machine.Reply.TheVariants as replies
use Rattle.store_machine.specs.declared.machine.State.{State}
use Rattle.store_machine.specs.declared.machine.Step.{Step}
use Rattle.session_acts.specs.Acts.{Act, Advances, Asks, Closed, Does, Ended, FoundData, Lines, ListedSame, ListedSimilar, Lost, Opened, Paged, RegisteredEach, RegisteredNew, RequestAllows, RequestAnswer, Says, Searched, Searches, Turned, after_page, new_cursor, note_lines, page_end}
use Rattle.session_acts.specs.Cursors.{Calls, Cursor, IsNoName}
use Rattle.dialogue.specs.Dialogue.{AreExchanged, calls_in}
use Rattle.session_acts.specs.Dialogue.{AreListed, GivePage, IsCommand, IsShown, StaysOpen, hits_in, likes_in}
use Rattle.session_acts.specs.Lookups.{FindsSame, LooksUp}
use Rattle.session_acts.specs.Requests.{Request, request_of}
use Rattle.session_acts.specs.Talking.{Exchange}
use Rattle.session_acts.specs.Texts.{IsPatternOf}
use Rattle.session_acts.specs.Watching.{Standing, nothing_kept}
use Rattle.session_acts.specs.Truths.{AreAllHits, AreFoundSame, CursorsAreTrue, IsPageOf, IsUpToDate, PagesAreTrue, RegistrationsAreTrue, SamesAreTrue, SearchesAreHits, SearchesAreTrue, SimilarsAreTrue}
use Rattle.dialogue.proofs.Exchanges.{calls-parts, exchanged-parts}
use Rattle.session_acts.proofs.Sized.{sized}
use Rattle.session_acts.proofs.ActPins.{dialogue_held}
use Rattle.session_acts.proofs.Brought.{commit_behind}
use Rattle.session_acts.proofs.Acts.{OneReading, fits, quiet_ask, quiet_note}
use Rattle.session_acts.proofs.Endings.{SameEnd, advance_end, fault_or_end, listed_parts, no_page_said, says_more, search_end}
use Rattle.session_acts.proofs.Found.{IsPrinted, NewFound, accepted_made, new_by, refused_found, same_by, same_found, similar_by, similar_found}
use Rattle.session_acts.proofs.Followed.{Follows, follow_all, follow_new, places, turn_all}
use Rattle.session_acts.proofs.Parting.{Laws, last_piece, pieces_so_far, some_pages, tried_so_far, whole_pages}
use Rattle.session_acts.proofs.Passing.{IsOpen, advances_same, cut_calls, fault_or_more, fetches_keep, fetches_search, hits_listed, no_hit, one_in, open_advances, page_more, page_of}
use Rattle.session_acts.proofs.WatchActs.{new_apart, next_apart, of_cursors, same_apart, search_apart, similar_apart, start_apart}
use Rattle.session_acts.proofs.Pinned.{AreFree, are_apart, dialogue_shown, next_calls, none}

-- A search
pub searches-are-hits : Laws → SearchesAreHits
searches-are-hits laws s t steps own size pattern before its after lines sound run calm e found ended =
    let pin : Event × Reply = (events.Pin, replies.Pinned found.slot found.version) in
    let unpin : Event × Reply = (events.Unpin found.slot, replies.Unpinned) in
    let made : calls_of own steps ≡ before ++ ((pin ∷ (found.pages ++ unpin ∷ [])) ++ after) =
    e ∙ ap (λ (l : Calls). before ++ (l ++ after)) found.made in (
      whole_pages laws own s t steps before found.pages (unpin ∷ after) found.slot found.version found.searched.want
          found.place sound run calm (made ∙ cut_calls before found.pages after pin unpin)
          (fetches_keep found.slot size found.slot found.searched.want (At 0) found.place found.pages
          found.searched.fetches)
          (fetches_search found.slot size found.searched.want (At 0) found.place found.pages found.searched.fetches)
          ended found.tried pattern found.hits found.searched.need found.searched.matched found.searched.count,
      laws.pins s t steps own found.slot found.version before ((found.pages ++ unpin ∷ []) ++ after) sound run calm made,
    )

same_hits : (h : History) (version version' tried tried' : ℕ) (pattern pattern' : PatternTerm) (hits hits' : List ℕ)
    → version ≡ version' → tried ≡ tried' → pattern ≡ pattern' → hits ≡ hits'
    → AreAllHits h version pattern tried hits → AreAllHits h version' pattern' tried' hits'
same_hits h version version' tried tried' pattern pattern' hits hits' a b c d all =
    subst (λ (v : ℕ). AreAllHits h v pattern' tried' hits') a
    (subst (λ (n : ℕ). AreAllHits h version pattern' n hits') b
    (subst (λ (p : PatternTerm). AreAllHits h version p tried hits') c
    (subst (λ (l : List ℕ). AreAllHits h version pattern tried l) d all)))

-- the laws of lookups
pub record Finds : Type 0 where
  pub sames : SamesAreAnswers
  pub similars : SimilarsAreAnswers
  pub molecules : (format : Format) (text : List ℕ) (m : Molecule) → HasMolecule format text m → IsMolecule m

same_board : (b : Board) (p q k : ℕ) (likes : List Offer) → b.p ≡ p → b.q ≡ q → b.most ≡ k → b.hits ≡ likes
    → b ≡ record { p = p; q = q; most = k; hits = likes }
same_board b p q k likes e f g h = rw (sym e, sym f, sym g, sym h) refl

-- What a request did, by its command and a line of its reply: a search with an end
searched_by : OneReading → (standing : Standing) {size : ℕ} {cursors cursors' : List Cursor} {act : Act} {its : Calls} {lines : Lines}
    (request : Request) (text : List ℕ) (version tried count : ℕ) → RequestAllows standing request act
    → Does size cursors act its lines cursors' → IsCommand request (command.Search text)
    → Contains lines (line.End version tried count)
    → (pattern : PatternTerm) × IsPatternOf text pattern × Searches size pattern its lines
searched_by reading standing request text version tried count a (Says note) is k = absurd ((quiet_note note).plain _ k)
searched_by reading standing request text version tried count a (Asks event reply said q) is k =
    absurd ((quiet_ask event reply said q).plain _ k)
searched_by reading standing {act = act} request text version tried count a (Searched p its lines s) is k =
    (p, fits reading standing request act (command.Search text) a is, s)
searched_by reading standing {act = act} request text version tried count a (Opened name p want slot v new need)
    is k = absurd (fits reading standing request act (command.Search text) a is)
searched_by reading standing {act = act} request text version tried count a
    (Turned name before after c c' its lines named advances) is k =
    absurd (fits reading standing request act (command.Search text) a is)
searched_by reading standing {act = act} request text version tried count a
    (Closed name before after c named) is k = absurd (fits reading standing request act (command.Search text) a is)
searched_by reading standing {act = act} request text version tried count a (ListedSame m print its lines s)
    is k = absurd (fits reading standing request act (command.Search text) a is)
searched_by reading standing {act = act} request text version tried count a
    (RegisteredNew change m print its lines s) is k =
    absurd (fits reading standing request act (command.Search text) a is)
searched_by reading standing {act = act} request text version tried count a
    (ListedSimilar p q n print its lines s) is k = absurd (fits reading standing request act (command.Search text) a is)
searched_by reading standing {act = act} request text version tried count a
    (RegisteredEach id records its lines each) is k =
    absurd (fits reading standing request act (command.Search text) a is)
searched_by reading standing {act = act} request text version tried count a
    (FoundData id name reply said q) is k = absurd (fits reading standing request act (command.Search text) a is)

-- a cursor that was opened
record IsOpening (cursors : List Cursor) (its : Calls) (cursors' : List Cursor) (name text : List ℕ) (version : ℕ)
    : Type 0 where
  pattern : PatternTerm
  want : List Bool
  slot : ℕ
  reads : IsPatternOf text pattern
  new : IsNoName cursors name
  need : IsNeedOf pattern want
  its_are : its ≡ (events.Pin, replies.Pinned slot version) ∷ []
  then_are : cursors' ≡ cursors ++ new_cursor name pattern want slot version ∷ []

one_opened : (a b : ℕ) → line.Opened a ≡ line.Opened b → a ≡ b
one_opened a b e = cc

opened_by : OneReading → (standing : Standing) {size : ℕ} {cursors cursors' : List Cursor} {act : Act} {its : Calls} {lines : Lines}
    (request : Request) (name text : List ℕ) (version : ℕ) → RequestAllows standing request act
    → Does size cursors act its lines cursors' → IsCommand request (command.Start name text)
    → Contains lines (line.Opened version) → IsOpening cursors its cursors' name text version
opened_by reading standing request name text version a (Says note) is k = absurd ((quiet_note note).plain _ k)
opened_by reading standing request name text version a (Asks event reply said q) is k =
    absurd ((quiet_ask event reply said q).plain _ k)
opened_by reading standing {act = act} request name text version a (Searched p its lines s) is k =
    absurd (fits reading standing request act (command.Start name text) a is)
opened_by reading standing {cursors = cursors} {cursors' = then} {act = act} {its = its} request name text version a
    (Opened own p want slot v new need) is k =
    let f = fits reading standing request act (command.Start name text) a is in
    subst (λ (n : List ℕ). IsOpening cursors its then n text version) f.0
    (subst (λ (n : ℕ). IsOpening cursors its then own text n)
    (one_opened v version (one_in (line.Opened v) (line.Opened version) k)) (record {
      pattern = p;
      want = want;
      slot = slot;
      reads = f.1;
      new = new;
      need = need;
      its_are = refl;
      then_are = refl;
    }))
opened_by reading standing {act = act} request name text version a
    (Turned own before after c c' its lines named advances) is k =
    absurd (fits reading standing request act (command.Start name text) a is)
opened_by reading standing {act = act} request name text version a (Closed own before after c named) is k =
    absurd (fits reading standing request act (command.Start name text) a is)
opened_by reading standing {act = act} request name text version a (ListedSame m print its lines s) is k =
    absurd (fits reading standing request act (command.Start name text) a is)
opened_by reading standing {act = act} request name text version a
    (RegisteredNew change m print its lines s) is k =
    absurd (fits reading standing request act (command.Start name text) a is)
opened_by reading standing {act = act} request name text version a (ListedSimilar p q n print its lines s) is
    k = absurd (fits reading standing request act (command.Start name text) a is)
opened_by reading standing {act = act} request name text version a
    (RegisteredEach id records its lines each) is k =
    absurd (fits reading standing request act (command.Start name text) a is)
opened_by reading standing {act = act} request name text version a (FoundData id own reply said q) is k =
    absurd (fits reading standing request act (command.Start name text) a is)

-- a page of the cursor of a name
turned_by : OneReading → (standing : Standing) {size : ℕ} {calls : Calls} {cursors cursors' : List Cursor} {act : Act} {its : Calls}
    {lines : Lines} {name : List ℕ} {pattern : PatternTerm} {opened : ℕ} {hits : List ℕ} (request : Request)
    → RequestAllows standing request act → Does size cursors act its lines cursors'
    → IsCommand request (command.Next name) → GivePage lines
    → (f : Follows size calls cursors name pattern opened hits) → (d : Cursor) × Advances size f.c its lines d
turned_by reading standing request a (Says note) is gives f =
    let q = quiet_note note in
    absurd (no_page_said (note_lines note) gives (q.plain line.More) (λ version tried count. q.plain (line.End version tried count)))
turned_by reading standing request a (Asks event reply said i) is gives f =
    let q = quiet_ask event reply said i in
    absurd (no_page_said (said ∷ []) gives (q.plain line.More) (λ version tried count. q.plain (line.End version tried count)))
turned_by reading standing {act = act} {name = name} request a (Searched p its lines s) is gives f =
    absurd (fits reading standing request act (command.Next name) a is)
turned_by reading standing {act = act} {name = name} request a (Opened own p want slot v new need) is gives f =
    absurd (fits reading standing request act (command.Next name) a is)
turned_by reading standing {size} {act = act} {name = name} request a
    (Turned own before after c c' its lines at advances) is gives f =
    elim (places name f.c.slot f.front f.back before after f.c c f.left f.right (sym f.among ∙ at.place)) [
      | inl s ↦ (c', subst (λ (x : Cursor). Advances size x its lines c') (sym s.1) advances)
      | inr e ↦ absurd (e.name_apart (at.named ∙ fits reading standing request act (command.Next name) a is))
    ]
turned_by reading standing {act = act} {name = name} request a (Closed own before after c at) is gives f =
    absurd (fits reading standing request act (command.Next name) a is)
turned_by reading standing {act = act} {name = name} request a (ListedSame m print its lines s) is gives f =
    absurd (fits reading standing request act (command.Next name) a is)
turned_by reading standing {act = act} {name = name} request a (RegisteredNew change m print its lines s) is
    gives f = absurd (fits reading standing request act (command.Next name) a is)
turned_by reading standing {act = act} {name = name} request a (ListedSimilar p q n print its lines s) is
    gives f = absurd (fits reading standing request act (command.Next name) a is)
turned_by reading standing {act = act} {name = name} request a (RegisteredEach id records its lines each) is
    gives f = absurd (fits reading standing request act (command.Next name) a is)
turned_by reading standing {act = act} {name = name} request a (FoundData id own reply said q) is gives f =
    absurd (fits reading standing request act (command.Next name) a is)

module _ (laws : Laws) (finds : Finds) (reading : OneReading) (s t : State) (steps : List Step) (own : ℕ
    → Bool) (size : ℕ) (exchanges : List Exchange) (more : Calls) (standing : Standing)
    (sound : IsSound s) (run : IsRun s steps t) (calm : IsCalm steps)
    (made : calls_of own steps ≡ calls_in (sized size) exchanges ++ more)
    (said : AreExchanged (sized size) nothing_kept exchanges standing) where
  pub free : AreFree (calls_of own steps)
  free before pages later slot v v' e keeps = laws.slots s t steps own slot v v' before pages later run calm e keeps

  -- the calls of exchanges in two parts, behind calls
  pub parted : (xs ys : List Exchange) (first later : Calls)
      → calls_of own steps ≡ first ++ (calls_in (sized size) (xs ++ ys) ++ later)
      → calls_of own steps ≡ (first ++ calls_in (sized size) xs) ++ (calls_in (sized size) ys ++ later)
  parted xs ys first later w =
      let all = calls_in (sized size) xs in
      let others = calls_in (sized size) ys in
      w ∙ (ap (λ (l : Calls). first ++ (l ++ later)) (calls-parts (sized size) xs ys)
      ∙ (ap (λ (l : Calls). first ++ l) (append_assoc all others later)
      ∙ sym (append_assoc first all (others ++ later))))

  -- an exchange of the dialogue, between the others
  pub record Spot (before after : List Exchange) (x : Exchange) : Type 0 where
    pub here : Standing
    pub then : Standing
    pub to : AreExchanged (sized size) nothing_kept before here
    pub did : RequestAnswer size here (request_of x.request) x.calls x.reply then
    pub from : AreExchanged (sized size) then after standing
    pub calls_are : calls_of own steps
        ≡ calls_in (sized size) before ++ (x.calls ++ (calls_in (sized size) after ++ more))
    pub behind : calls_of own steps
        ≡ (calls_in (sized size) before ++ x.calls) ++ (calls_in (sized size) after ++ more)

  pub spot : (before after : List Exchange) (x : Exchange) → exchanges ≡ before ++ x ∷ after → Spot before after x
  spot before after x e =
      let p = exchanged-parts (sized size) nothing_kept standing before (x ∷ after)
      (subst (λ (l : List Exchange). AreExchanged (sized size) nothing_kept l standing) e said) in
      let b = p.2 in
      let n = next_calls (calls_of own steps) (calls_in (sized size) before) x.calls (calls_in (sized size) after)
      more (parted before (x ∷ after) [] more
      (made ∙ ap (λ (l : List Exchange). calls_in (sized size) l ++ more) e)) in
      record {
        here = p.0;
        then = b.0;
        to = p.1;
        did = b.1;
        from = b.2;
        calls_are = n.0;
        behind = n.1;
      }

  -- no version that was shown before is newer
  pub no_older : (before after : List Exchange) (x : Exchange) (a : Spot before after x) (version : ℕ)
      → IsUpToDate t.history (calls_in (sized size) before) version → (v : ℕ) → IsShown before v → v ≤ version
  no_older before after x a version fresh v shown =
      fresh.1 v (dialogue_shown size before [] nothing_kept a.here a.to (are_apart free [] (calls_in (sized size) before) _ a.calls_are) tt v shown)

  pub searches_true : SearchesAreTrue t.history exchanges
  searches_true before after x text version tried count e is k =
      let a = spot before after x e in
      let did = searched_by reading a.here (request_of x.request) text version tried count a.did.allowed
      (of_cursors (search_apart a.here (request_of x.request).more text a.did.act
      (fits reading a.here (request_of x.request) a.did.act (command.Search text) a.did.allowed is)) a.did.does) is k in
      let found = did.2 in
      let e = search_end found.place found.version found.tried found.hits x.reply version tried count found.lists k
      in
      let true_all = searches-are-hits laws s t steps own size did.0 (calls_in (sized size) before) x.calls
      ((calls_in (sized size) after) ++ more) x.reply sound run calm a.calls_are found e.place_is in (
        record {
          within = subst (λ (v : ℕ). v ≤ head t.history) e.numbers.version_is true_all.1.0;
          pattern = did.0;
          is = did.1;
          all = same_hits t.history found.version version found.tried tried did.0 did.0 found.hits
              (hits_in x.reply) e.numbers.version_is e.numbers.tried_is refl (sym e.listed) true_all.0;
          length_is = sym e.numbers.hits_is ∙ ap (λ (l : List ℕ). length l) (sym e.listed);
        },
        no_older before after x a version
            (subst (λ (v : ℕ). IsUpToDate t.history (calls_in (sized size) before) v) e.numbers.version_is true_all.1),
      )

  -- the calls of a whole listing
  listed : {calls' : Calls} (later : Calls) {turned : ℕ} (c : Cursor) {hits : List ℕ} (version tried count : ℕ)
      → calls_of own steps ≡ calls' ++ later → IsOpen size turned calls' c hits → c.place ≡ End
      → SameEnd c.version c.tried c.hits version tried count → AreAllHits t.history version c.pattern tried hits
  listed later c {hits} version tried count w o place numbers =
      same_hits t.history c.version version c.tried tried c.pattern c.pattern hits hits numbers.version_is
      numbers.tried_is refl refl
      (whole_pages laws own s t steps o.before o.pages later c.slot c.version c.want c.place sound run calm
      (w ∙ ap (λ (l : Calls). l ++ later) o.own) o.keeps o.search place c.tried c.pattern hits o.need o.matched o.tried)

  -- the last page of the cursor of a name, in what follows its opening
  last_page : (between after : List Exchange) (y : Exchange) (name : List ℕ) (hits : List ℕ) (pattern : PatternTerm)
      (opened version tried count : ℕ) (first : Calls) (here : Standing)
      → calls_of own steps ≡ first ++ (calls_in (sized size) (between ++ y ∷ after) ++ more)
      → AreExchanged (sized size) here (between ++ y ∷ after) standing
      → StaysOpen name between
      → IsCommand (request_of y.request) (command.Next name) → Contains y.reply (line.End version tried count)
      → AreListed name (between ++ y ∷ []) hits
      → Follows size first here.cursors name pattern opened [] → AreAllHits t.history version pattern tried hits × (version ≡ opened)
      × (count ≡ length hits)
  last_page between after y name hits pattern opened version tried count first here w a kept is k list f =
      let mid = calls_in (sized size) between in
      let later = calls_in (sized size) after in
      let request = request_of y.request in
      let p = exchanged-parts (sized size) here standing between (y ∷ after) a in
      let b = p.2 in
      let n = parted between (y ∷ after) first more w in
      let parts = listed_parts name between y hits list is in
      let g = follow_all reading (calls_of own steps) free size name pattern opened between first
      ((y.calls ++ later) ++ more) here p.0 [] parts.0 (n ∙ append_assoc first mid ((y.calls ++ later) ++ more)) p.1 kept
      parts.1 f in
      let m = next_calls (calls_of own steps) (first ++ mid) y.calls later more n in
      let turn = turned_by reading p.0 request b.1.allowed
      (of_cursors (next_apart p.0 request.more name b.1.act
      (fits reading p.0 request b.1.act (command.Next name) b.1.allowed is)) b.1.does) is (inr (version, tried, count, k)) g in
      let same = advances_same turn.1 in
      let end = advance_end version tried count turn.1 k in
      let next = open_advances turn.1 g.open_since in (
        subst (λ (l : List ℕ). AreAllHits t.history version pattern tried l) (sym parts.2)
            (subst (λ (q : PatternTerm). AreAllHits t.history version q tried (parts.0 ++ hits_in y.reply))
            (same.pattern ∙ g.pattern_is)
            (listed (later ++ more) turn.0 version tried count m.1 next.2 end.0 end.1)),
        sym end.1.version_is ∙ (same.version ∙ g.version_is),
        sym end.1.hits_is ∙ (next.2.count ∙ ap (λ (l : List ℕ). length l) (sym parts.2)),
      )

  -- the cursor that an exchange opened
  begin : (before after : List Exchange) (x : Exchange) (name text : List ℕ) (version : ℕ) (a : Spot before after x)
      → (o : IsOpening a.here.cursors x.calls a.then.cursors name text version)
      → (f : Follows size ((calls_in (sized size) before) ++ x.calls) a.then.cursors name o.pattern version []) × (f.turned ≡ 0) × (f.c.place ≡ At 0)
  begin before after x name text version a o =
      subst (λ (l : List Cursor). (f : Follows size ((calls_in (sized size) before) ++ x.calls) l name o.pattern version []) × (f.turned ≡ 0)
      × (f.c.place ≡ At 0)) (sym o.then_are)
      (follow_new reading (calls_of own steps) free size name o.pattern version (calls_in (sized size) before) x.calls ((calls_in (sized size) after) ++ more) a.here.cursors
      o.want o.slot a.calls_are o.its_are
      (dialogue_held none size before nothing_kept a.here a.to (are_apart free [] (calls_in (sized size) before) _ a.calls_are) tt) o.new o.need)

  pub cursors_true : CursorsAreTrue t.history exchanges
  cursors_true before between after x y name text hits version0 version tried count e start k kept next end list =
      let a = spot before (between ++ y ∷ after) x e in
      let o = opened_by reading a.here (request_of x.request) name text version0 a.did.allowed
      (of_cursors (start_apart a.here (request_of x.request).more name text a.did.act
      (fits reading a.here (request_of x.request) a.did.act (command.Start name text) a.did.allowed start)) a.did.does) start k in
      let r = last_page between after y name hits o.pattern version0 version tried count
      (calls_in (sized size) before ++ x.calls) a.then
      a.behind a.from kept next end list (begin before (between ++ y ∷ after) x name text version0 a o).0 in
      let fresh : IsUpToDate t.history (calls_in (sized size) before) version0 =
      laws.pins s t steps own o.slot version0 (calls_in (sized size) before) ((calls_in (sized size) (between ++ y ∷ after)) ++ more) sound run calm
      (a.calls_are ∙ ap (λ (l : Calls). (calls_in (sized size) before) ++ (l ++ ((calls_in (sized size) (between ++ y ∷ after)) ++ more))) o.its_are) in (
        record {
          within = subst (λ (v : ℕ). v ≤ head t.history) (sym r.1) fresh.0;
          pattern = o.pattern;
          is = o.reads;
          all = r.0;
          length_is = r.2;
        },
        r.1,
        no_older before (between ++ y ∷ after) x a version
            (subst (λ (v : ℕ). IsUpToDate t.history (calls_in (sized size) before) v) (sym r.1) fresh),
      )

  -- a page of the cursor of a name
  abbrev TruePage : PatternTerm → ℕ → ℕ → Lines → Type 0
  TruePage pattern at_version k lines = (want : List Bool) × IsNeedOf pattern want
      × (all : List Found) × AreFound (IsScreened want) (snapshot t.history at_version) all
      × IsPageOf pattern size (drop (k * size) all) lines

  at_end_or : (from : ℕ) → End ≡ At from → ⊥
  at_end_or from e = cc

  page_true : (calls' its later : Calls) (c c' : Cursor) (lines : Lines) (hits : List ℕ) (from k : ℕ)
      → calls_of own steps ≡ (calls' ++ its) ++ later → c.place ≡ At from → GivePage lines
      → Advances size c its lines c' → IsOpen size k calls' c hits → TruePage c.pattern c.version k lines
  page_true calls' its later c c' lines hits from0 k w at0 gives (Ended at) o = absurd (at_end_or from0 (sym at ∙ at0))
  page_true calls' its later c c' lines hits from0 k w at0 gives (Lost from at) o =
      absurd (no_page_said lines gives (λ m. fault_or_more (one_in line.MemoryFault line.More m))
      (λ version tried count m. fault_or_end version tried count
      (one_in line.MemoryFault (line.End version tried count) m)))
  page_true calls' its later c c' lines hits from0 k w at0 gives (Paged from records last turned at matched) o =
      let m = page_more turned from records last at matched o in
      let own_is : calls_of own steps ≡ (m.0.before ++ (events.Pin, replies.Pinned c.slot c.version) ∷ m.0.pages)
      ++ later = w ∙ ap (λ (l : Calls). l ++ later) m.0.own in
      let some = tried_so_far laws own s t steps m.0.before m.0.pages later c.slot c.version c.want
      (cond last End (At (past from records))) sound run calm own_is m.0.keeps m.0.search
      (some_pages (fetched c.slot o.pages) (fetched c.slot m.0.pages) (page_of c size from records last) m.1) in
      let all = some.0 in
      let pieces = pieces_so_far laws own s t steps m.0.before m.0.pages later c.slot c.version c.want
      (cond last End (At (past from records))) sound run calm own_is m.0.keeps m.0.search size all m.0.sized some.1 in
      let piece = last_piece size all (fetched c.slot o.pages) (page_of c size from records last)
      (subst (λ (fs : List Fetched). ArePieces size all fs) m.1 pieces) in
      let here = subst (λ (n : ℕ). (records ≡ take size (drop (n * size) all))
      × (last ≡ nat_le (length (drop (n * size) all)) size)) o.turned_is piece in
      let next = after_page c from records last turned in
      let listed : hits_in lines ≡ turned = hits_listed turned (page_end last next) (no_hit last next) in (
        c.want,
        o.need,
        all,
        some.1,
        record {
          hits = subst (λ (l : List ℕ). AreMatched c.pattern (take size (drop (k * size) all)) l) (sym listed)
              (subst (λ (rs : List Found). AreMatched c.pattern rs turned) here.0 matched);
          more = says_more next last turned (length (drop (k * size) all)) size here.1;
        },
      )

  pub pages_true : PagesAreTrue t.history size exchanges
  pages_true before between after x y name text version k e start o kept turned next gives =
      let a = spot before (between ++ y ∷ after) x e in
      let opening = opened_by reading a.here (request_of x.request) name text version a.did.allowed
      (of_cursors (start_apart a.here (request_of x.request).more name text a.did.act
      (fits reading a.here (request_of x.request) a.did.act (command.Start name text) a.did.allowed start)) a.did.does) start o in
      let f = begin before (between ++ y ∷ after) x name text version a opening in
      let mid = calls_in (sized size) between in
      let later = calls_in (sized size) after in
      let request = request_of y.request in
      let p = exchanged-parts (sized size) a.then standing between (y ∷ after) a.from in
      let b = p.2 in
      let first : Calls = calls_in (sized size) before ++ x.calls in
      let n = parted between (y ∷ after) first more a.behind in
      let g = turn_all reading (calls_of own steps) free size name opening.pattern version between first
      ((y.calls ++ later) ++ more) a.then p.0 0 k (n ∙ append_assoc first mid ((y.calls ++ later) ++ more)) p.1 kept turned
      ([], f.0, f.1, 0, f.2) in
      let m = next_calls (calls_of own steps) (first ++ mid) y.calls later more n in
      let turn = turned_by reading p.0 request b.1.allowed
      (of_cursors (next_apart p.0 request.more name b.1.act
      (fits reading p.0 request b.1.act (command.Next name) b.1.allowed next)) b.1.does) next gives g.1 in
      let k_is : 0 + k ≡ k = omega arith in
      let page = page_true (first ++ mid) y.calls (later ++ more) g.1.c turn.0 y.reply g.0 g.3 g.1.turned m.1 g.4 gives turn.1
      g.1.open_since in
      let r : TruePage opening.pattern version k y.reply =
      subst (λ (n : ℕ). TruePage opening.pattern version n y.reply) (g.2 ∙ k_is)
      (subst (λ (v : ℕ). TruePage opening.pattern v g.1.turned y.reply) g.1.version_is
      (subst (λ (q : PatternTerm). TruePage q g.1.c.version g.1.turned y.reply) g.1.pattern_is page)) in
      record {
        pattern = opening.pattern;
        is = opening.reads;
        want = r.0;
        need = r.1;
        tried = r.2;
        found = r.3;
        page = r.4;
      }

  -- a lookup of a request, in the run
  in_run : (first its rest : Calls) {want : List Bool} → calls_of own steps ≡ first ++ (its ++ rest)
      → (l : LooksUp size want End its) → InRun s t size want l.slot l.version l.pages
  in_run first its rest w l = record {
    steps = steps;
    own = own;
    before = first;
    after = rest;
    sound = sound;
    run = run;
    calm = calm;
    made = w ∙ ap (λ (cs : Calls). first ++ (cs ++ rest)) l.made;
    fetches = l.fetches;
  }

  -- its version is no older than any that was told
  up_to_date : (first its rest : Calls) {want : List Bool} → calls_of own steps ≡ first ++ (its ++ rest)
      → (l : LooksUp size want End its) → IsUpToDate t.history first l.version
  up_to_date first its rest w l =
      laws.pins s t steps own l.slot l.version first ((l.pages ++ (events.Unpin l.slot, replies.Unpinned) ∷ []) ++ rest)
      sound run calm (w ∙ ap (λ (cs : Calls). first ++ (cs ++ rest)) l.made)

  -- what is the same as a structure, by what a lookup listed
  all_same : (first its rest : Calls) {text : List ℕ} {m : Molecule} {print : List Bool} {list : HitList}
      → calls_of own steps ≡ first ++ (its ++ rest) → IsPrinted text m print → FindsSame size m print its list
      → AreAllSame t.history m print list
  all_same first its rest {text} {m} {print} {list} w p found =
      let l = found.lookup in
      finds.sames s t size l.slot l.version l.pages m print list (in_run first its rest w l)
      (finds.molecules Smiles text m p.structure) p.print_is.bits found.is

  pub sames_true : SamesAreTrue t.history exchanges
  sames_true before after x text version tried count e is k =
      let a = spot before after x e in
      let did = same_by reading a.here (request_of x.request) text version tried count a.did.allowed
      (of_cursors (same_apart a.here (request_of x.request).more text a.did.act
      (fits reading a.here (request_of x.request) a.did.act (command.Same text) a.did.allowed is)) a.did.does) is k in
      let r = same_found version tried count did.3 k in
      let l = r.found.lookup in
      let all = all_same (calls_in (sized size) before) x.calls ((calls_in (sized size) after) ++ more) a.calls_are did.2 r.found in
      let version_is : l.version ≡ version = sym r.found.is.version_is ∙ r.numbers.version_is in
      let fresh = up_to_date (calls_in (sized size) before) x.calls ((calls_in (sized size) after) ++ more) a.calls_are l in (
        record {
          within = subst (λ (v : ℕ). v ≤ head t.history) version_is fresh.0;
          same = record {
            molecule = did.0;
            structure = did.2.structure;
            are = subst (λ (v : ℕ). AreAnswers (IsSameAs did.0) t.history v (hits_in x.reply)) r.numbers.version_is
                (subst (λ (ids : List ℕ). AreAnswers (IsSameAs did.0) t.history r.list.version ids) (sym r.listed)
                all.are);
          };
          print = did.1;
          print_is = did.2.print_is;
          screened = all.screened;
          all = subst (λ (v : ℕ). AreTried t.history v did.1 all.screened) r.numbers.version_is all.all;
          tried_is = sym r.numbers.tried_is ∙ all.count;
          length_is = sym r.numbers.hits_is ∙ ap (λ (ids : List ℕ). length ids) (sym r.listed);
        },
        no_older before after x a version (subst (λ (v : ℕ). IsUpToDate t.history (calls_in (sized size) before) v) version_is fresh),
      )

  -- what a `register-new` found
  found_same : (before after : List Exchange) (x : Exchange) (a : Spot before after x) {text ids : List ℕ} {m : Molecule}
      {print : List Bool} → IsPrinted text m print → NewFound size m print x.calls ids
      → AreFoundSame t.history before text ids
  found_same before after x a {text} {ids} {m} {print} p n =
      let l = n.found.lookup in
      let rest : Calls = n.rest ++ ((calls_in (sized size) after) ++ more) in
      let w : calls_of own steps ≡ (calls_in (sized size) before) ++ (n.first ++ rest) =
      a.calls_are ∙ (ap (λ (cs : Calls). (calls_in (sized size) before) ++ (cs ++ ((calls_in (sized size) after) ++ more))) n.made
      ∙ ap (λ (cs : Calls). (calls_in (sized size) before) ++ cs) (append_assoc n.first n.rest ((calls_in (sized size) after) ++ more))) in
      let all = all_same (calls_in (sized size) before) n.first rest w p n.found in
      let fresh = up_to_date (calls_in (sized size) before) n.first rest w l in
      record {
        version = l.version;
        within = fresh.0;
        no_older = no_older before after x a l.version fresh;
        same = record {
          molecule = m;
          structure = p.structure;
          are = subst (λ (v : ℕ). AreAnswers (IsSameAs m) t.history v ids) n.found.is.version_is
              (subst (λ (is : List ℕ). AreAnswers (IsSameAs m) t.history n.list.version is) (sym n.listed) all.are);
        };
      }

  pub registrations_true : RegistrationsAreTrue t.history exchanges
  unfolding found_same
  registrations_true before after x id text e is =
      let a = spot before after x e in (
        λ v k.
            let did = new_by reading a.here (request_of x.request) id text (line.Accepted v) a.did.allowed
            (of_cursors (new_apart a.here (request_of x.request).more id text a.did.act
            (fits reading a.here (request_of x.request) a.did.act (command.RegisterNew id text) a.did.allowed is)) a.did.does) is k tt in
            let n = accepted_made v did.4 k in
            let l = n.found.found.lookup in
            let pages : Calls = l.pages ++ (events.Unpin l.slot, replies.Unpinned) ∷ [] in
            let commit : Calls = (events.Commit n.change, replies.Committed v) ∷ [] in
            let rest : Calls = (calls_in (sized size) after) ++ more in
            let its : x.calls ≡ lookup_calls l.slot l.version l.pages ++ commit =
            n.found.made ∙ ap₂ (λ (xs ys : Calls). xs ++ ys) l.made n.last in
            let made_is : calls_of own steps ≡ ((calls_in (sized size) before) ++ (events.Pin, replies.Pinned l.slot l.version) ∷ pages)
            ++ (events.Commit n.change, replies.Committed v) ∷ rest =
            a.calls_are ∙ (ap (λ (cs : Calls). (calls_in (sized size) before) ++ (cs ++ rest)) its
            ∙ (ap (λ (cs : Calls). (calls_in (sized size) before) ++ cs) (append_assoc (lookup_calls l.slot l.version l.pages) commit rest)
            ∙ sym (append_assoc (calls_in (sized size) before) (lookup_calls l.slot l.version l.pages) (commit ++ rest)))) in (
              found_same before after x a did.3 n.found,
              commit_behind laws.pins own s t steps (calls_in (sized size) before) pages rest l.slot l.version n.change v sound run calm made_is,
            ),
        λ same k.
            let did = new_by reading a.here (request_of x.request) id text (line.Refused (refusals.Same same)) a.did.allowed
            (of_cursors (new_apart a.here (request_of x.request).more id text a.did.act
            (fits reading a.here (request_of x.request) a.did.act (command.RegisterNew id text) a.did.allowed is)) a.did.does) is k tt
            in
            let n = refused_found same did.4 k in
            (n.0, found_same before after x a did.3 n.1),
      )

  pub similars_true : SimilarsAreTrue t.history exchanges
  similars_true before after x p q n text version scored count e is k =
      let a = spot before after x e in
      let did = similar_by reading a.here (request_of x.request) p q n text version scored count a.did.allowed
      (of_cursors (similar_apart a.here (request_of x.request).more p q n text a.did.act
      (fits reading a.here (request_of x.request) a.did.act (command.Similar p q n text) a.did.allowed is)) a.did.does) is k in
      let r = similar_found version scored count did.3 k in
      let l = r.found.lookup in
      let all = finds.similars s t size l.slot l.version p q n l.pages r.found.want text did.0 did.1 r.list
      (in_run (calls_in (sized size) before) x.calls ((calls_in (sized size) after) ++ more) a.calls_are l) r.found.none did.2.structure did.2.print_is r.found.is in
      let version_is : l.version ≡ version = sym r.found.is.version_is ∙ r.numbers.version_is in
      let fresh = up_to_date (calls_in (sized size) before) x.calls ((calls_in (sized size) after) ++ more) a.calls_are l in (
        record {
          within = subst (λ (v : ℕ). v ≤ head t.history) version_is fresh.0;
          molecule = did.0;
          structure = did.2.structure;
          print = did.1;
          print_is = did.2.print_is;
          offers = all.offers;
          all = subst (λ (v : ℕ). AreAllOffered did.1 t.history v all.offers) r.numbers.version_is all.are;
          best = subst (λ (b : Board). IsBest all.offers b)
              (same_board r.list.best p q n (likes_in x.reply) all.p_is all.q_is all.most_is (sym r.listed)) all.best;
          scored_is = sym r.numbers.tried_is ∙ all.count;
          length_is = sym r.numbers.hits_is ∙ ap (λ (o : List Offer). length o) (sym r.listed);
        },
        no_older before after x a version (subst (λ (v : ℕ). IsUpToDate t.history (calls_in (sized size) before) v) version_is fresh),
      )
