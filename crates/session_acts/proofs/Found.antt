-- What a lookup's lines say of what it found, and which act a request's lines are of.
use Rattle.std.proofs.Common.{◌≡◌, ◌∙◌, ap, append-nil, Bool, Contains, Err, inl, inr, length, List, [], ◌∷◌, ◌++◌, map, Ok, refl, Result, subst, sym, ℕ}
use Rattle.chem_core.specs.Molecule.{Molecule}
use Rattle.lookup.specs.declared.hits.HitList.{HitList}
use Rattle.lookup.specs.declared.similar.SimilarList.{SimilarList}
use Rattle.mol_finish.specs.Structure.{IsStructureOf}
use Rattle.path_print.specs.Prints.{IsPrint}
use Rattle.shell_lang.specs.Command as command
use Rattle.shell_lang.specs.Command.{Command, IsLine}
use Rattle.shell_lang.specs.Reply as line
use Rattle.shell_lang.specs.declared.command.LineRefusal.{LineRefusal}
use Rattle.shell_lang.specs.declared.reply.Refusal.{Refusal}
use Rattle.shell_lang.specs.declared.reply.Refusal.TheVariants as refusals
use Rattle.similar_find.specs.Board.{Offer}
use Rattle.store_machine.specs.declared.machine.Change.{Change}
use Rattle.store_machine.specs.declared.machine.Event.{Event}
use Rattle.store_machine.specs.declared.machine.Event.TheVariants as events
use Rattle.store_machine.specs.declared.machine.Reply.{Reply}
use Rattle.store_machine.specs.declared.machine.Reply.TheVariants as replies
use Rattle.session_acts.specs.Acts.{Act, AllSame, AllSimilar, Allows, Asks, Closed, Does, Fault, FoundData, IsLineOf, IsNew, Lines, ListedSame, ListedSimilar, ListsSame, ListsSimilar, NewLost, NotNew, Note, Opened, Refused, RegisteredEach, RegisteredNew, RegistersNew, RequestAllows, SameLost, Say, Says, Searched, Silence, SimilarLost, Turned, like_line, note_lines}
use Rattle.session_acts.specs.Cursors.{Calls, Cursor}
use Rattle.session_acts.specs.Dialogue.{IsCommand, hits_in, likes_in}
use Rattle.session_acts.specs.Lookups.{FindsSame, FindsSimilar}
use Rattle.session_acts.specs.Requests.{Request}
use Rattle.session_acts.specs.Watching.{Standing}
use Rattle.session_acts.proofs.Acts.{OneReading, fits, quiet_ask, quiet_note}
use Rattle.session_acts.proofs.Endings.{SameEnd, end_behind, fault_or_end, same_end}
use Rattle.session_acts.proofs.Passing.{first_or_rest, hits_listed, none_in, one_in}

-- What `same` found
pub record SameFound (size : ℕ) (m : Molecule) (print : List Bool) (calls : Calls) (lines : Lines)
    (version tried count : ℕ) : Type 0 where
  pub list : HitList
  pub found : FindsSame size m print calls list
  pub numbers : SameEnd list.version list.tried (length list.hits.items) version tried count
  pub listed : hits_in lines ≡ list.hits.items

pub same_found : {size : ℕ} {m : Molecule} {print : List Bool} {calls : Calls} {lines : Lines} (version tried count : ℕ)
    → ListsSame size m print calls lines → Contains lines (line.End version tried count)
    → SameFound size m print calls lines version tried count
same_found version tried count (AllSame calls list found) k =
    let hits = list.hits.items in
    let end = line.End list.version list.tried (length hits) in
    record {
      list = list;
      found = found;
      numbers = same_end list.version list.tried (length hits) version tried count
          (end_behind hits end version tried count k);
      listed = hits_listed hits end refl;
    }
same_found version tried count (SameLost calls place lookup) k =
    absurd (fault_or_end version tried count (one_in line.MemoryFault (line.End version tried count) k))

-- What `similar` found
like_or_scored : (x : Offer) (version scored count : ℕ) → like_line x ≡ line.Scored version scored count → ⊥
like_or_scored x version scored count e = cc

scored_behind : (likes : List Offer) (said : line.Reply) (version scored count : ℕ)
    → Contains (map like_line likes ++ said ∷ []) (line.Scored version scored count)
    → said ≡ line.Scored version scored count
scored_behind [] said version scored count k = one_in said (line.Scored version scored count) k
scored_behind (x ∷ xs) said version scored count k =
    elim (first_or_rest (like_line x) (map like_line xs ++ said ∷ []) (line.Scored version scored count) k) [
      | inl e ↦ absurd (like_or_scored x version scored count e)
      | inr m ↦ scored_behind xs said version scored count m
    ]

likes_listed : (likes : List Offer) (version scored count : ℕ)
    → likes_in (map like_line likes ++ line.Scored version scored count ∷ []) ≡ likes
likes_listed [] version scored count = refl
likes_listed (x ∷ xs) version scored count = ap (λ (l : List Offer). x ∷ l) (likes_listed xs version scored count)

same_scored : (version scored count version' scored' count' : ℕ)
    → line.Scored version scored count ≡ line.Scored version' scored' count'
    → SameEnd version scored count version' scored' count'
same_scored version scored count version' scored' count' e = record { version_is = a; tried_is = b; hits_is = c } where
  a : version ≡ version'
  a = cc

  b : scored ≡ scored'
  b = cc

  c : count ≡ count'
  c = cc

fault_or_scored : (version scored count : ℕ) → line.MemoryFault ≡ line.Scored version scored count → ⊥
fault_or_scored version scored count e = cc

pub record SimilarFound (size p q k : ℕ) (print : List Bool) (calls : Calls) (lines : Lines)
    (version scored count : ℕ) : Type 0 where
  pub list : SimilarList
  pub found : FindsSimilar size p q k print calls list
  pub numbers : SameEnd list.version list.scored (length list.best.hits) version scored count
  pub listed : likes_in lines ≡ list.best.hits

pub similar_found : {size p q k : ℕ} {print : List Bool} {calls : Calls} {lines : Lines} (version scored count : ℕ)
    → ListsSimilar size p q k print calls lines → Contains lines (line.Scored version scored count)
    → SimilarFound size p q k print calls lines version scored count
similar_found version scored count (AllSimilar calls list found) k =
    let likes = list.best.hits in
    let end = line.Scored list.version list.scored (length likes) in
    record {
      list = list;
      found = found;
      numbers = same_scored list.version list.scored (length likes) version scored count
          (scored_behind likes end version scored count k);
      listed = likes_listed likes list.version list.scored (length likes);
    }
similar_found version scored count (SimilarLost calls want place none lookup) k =
    absurd (fault_or_scored version scored count (one_in line.MemoryFault (line.Scored version scored count) k))

-- What `register-new` found, by calls that others follow
pub record NewFound (size : ℕ) (m : Molecule) (print : List Bool) (calls : Calls) (ids : List ℕ) : Type 0 where
  pub list : HitList
  pub first : Calls
  pub rest : Calls
  pub made : calls ≡ first ++ rest
  pub found : FindsSame size m print first list
  pub listed : ids ≡ list.hits.items

refused_or_accepted : (id v : ℕ) → line.Refused (refusals.Same id) ≡ line.Accepted v → ⊥
refused_or_accepted id v e = cc

fault_or_accepted : (v : ℕ) → line.MemoryFault ≡ line.Accepted v → ⊥
fault_or_accepted v e = cc

-- a commit that is accepted was made
pub made_commit : (change : Change) (reply : Reply) (said : line.Reply) (v : ℕ) → IsLineOf (events.Commit change) reply said
    → said ≡ line.Accepted v → reply ≡ replies.Committed v
made_commit change (replies.Committed version) said v e f = let same : version ≡ v = cc in ap replies.Committed same
made_commit change replies.Known said v e f = cc
made_commit change replies.Absent said v e f = cc
made_commit change replies.Withdrawn said v e f = cc
made_commit change replies.Full said v e f = cc
made_commit change (replies.DiskFault doubt) said v e f = cc
made_commit change replies.NoMemory said v e f = cc
made_commit change _ said v e f = absurd e

-- A lookup that found none, and the commit of a version behind it
pub record NewMade (size : ℕ) (m : Molecule) (print : List Bool) (calls : Calls) (v : ℕ) : Type 0 where
  pub found : NewFound size m print calls []
  pub change : Change
  pub last : found.rest ≡ (events.Commit change, replies.Committed v) ∷ []

pub accepted_made : {size : ℕ} {change : Change} {m : Molecule} {print : List Bool} {calls : Calls} {lines : Lines}
    (v : ℕ) → RegistersNew size change m print calls lines → Contains lines (line.Accepted v)
    → NewMade size m print calls v
accepted_made v (NotNew calls list id more found first) k = absurd (refused_or_accepted id v (one_in _ _ k))
accepted_made {change = change} v (IsNew calls list reply said found none is) k = record {
  found = record {
    list = list;
    first = calls;
    rest = (events.Commit change, reply) ∷ [];
    made = refl;
    found = found;
    listed = sym none;
  };
  change = change;
  last = ap (λ (r : Reply). (events.Commit change, r) ∷ [])
      (made_commit change reply said v is (one_in said (line.Accepted v) k));
}
accepted_made v (NewLost calls place lookup) k = absurd (fault_or_accepted v (one_in _ _ k))

same_id : (a b : ℕ) → line.Refused (refusals.Same a) ≡ line.Refused (refusals.Same b) → a ≡ b
same_id a b e = cc

fault_or_refused : (id : ℕ) → line.MemoryFault ≡ line.Refused (refusals.Same id) → ⊥
fault_or_refused id e = cc

-- a commit is not refused for what is the same
no_same : (change : Change) (reply : Reply) (said : line.Reply) (id : ℕ) → IsLineOf (events.Commit change) reply said
    → said ≡ line.Refused (refusals.Same id) → ⊥
no_same change (replies.Committed version) said id e f = cc
no_same change replies.Known said id e f = cc
no_same change replies.Absent said id e f = cc
no_same change replies.Withdrawn said id e f = cc
no_same change replies.Full said id e f = cc
no_same change (replies.DiskFault doubt) said id e f = cc
no_same change replies.NoMemory said id e f = cc
no_same change _ said id e f = absurd e

pub refused_found : {size : ℕ} {change : Change} {m : Molecule} {print : List Bool} {calls : Calls} {lines : Lines}
    (id : ℕ) → RegistersNew size change m print calls lines → Contains lines (line.Refused (refusals.Same id))
    → (more : List ℕ) × NewFound size m print calls (id ∷ more)
refused_found id (NotNew calls list least more found first) k = (
  more,
  record {
    list = list;
    first = calls;
    rest = [];
    made = sym (append-nil calls);
    found = found;
    listed = ap (λ (n : ℕ). n ∷ more) (sym (same_id least id (one_in _ _ k))) ∙ sym first;
  },
)
refused_found {change = change} id (IsNew calls list reply said found none is) k =
    absurd (no_same change reply said id is (one_in said (line.Refused (refusals.Same id)) k))
refused_found id (NewLost calls place lookup) k = absurd (fault_or_refused id (one_in _ _ k))

-- A structure of a text, with its print
pub record IsPrinted (text : List ℕ) (m : Molecule) (print : List Bool) : Type 0 where
  pub structure : IsStructureOf text m
  pub print_is : IsPrint m print

-- Which act the lines of a request are of: a `same` that came to its end
pub same_by : OneReading → (standing : Standing) {size : ℕ} {cursors cursors' : List Cursor} {act : Act} {its : Calls} {lines : Lines}
    (request : Request) (text : List ℕ) (version tried count : ℕ) → RequestAllows standing request act
    → Does size cursors act its lines cursors' → IsCommand request (command.Same text)
    → Contains lines (line.End version tried count)
    → (m : Molecule) × (print : List Bool) × IsPrinted text m print × ListsSame size m print its lines
same_by reading standing request text version tried count a (Says note) is k = absurd ((quiet_note note).plain _ k)
same_by reading standing request text version tried count a (Asks event reply said q) is k =
    absurd ((quiet_ask event reply said q).plain _ k)
same_by reading standing {act = act} request text version tried count a (ListedSame m print its lines s) is k =
    let f = fits reading standing request act (command.Same text) a is in
    (m, print, record { structure = f.0; print_is = f.1 }, s)
same_by reading standing {act = act} request text version tried count a (Searched p its lines s) is k =
    absurd (fits reading standing request act (command.Same text) a is)
same_by reading standing {act = act} request text version tried count a
    (Opened name p want slot v new need) is k = absurd (fits reading standing request act (command.Same text) a is)
same_by reading standing {act = act} request text version tried count a
    (Turned name before after c c' its lines named advances) is k =
    absurd (fits reading standing request act (command.Same text) a is)
same_by reading standing {act = act} request text version tried count a (Closed name before after c named) is
    k = absurd (fits reading standing request act (command.Same text) a is)
same_by reading standing {act = act} request text version tried count a
    (RegisteredNew change m print its lines s) is k =
    absurd (fits reading standing request act (command.Same text) a is)
same_by reading standing {act = act} request text version tried count a
    (ListedSimilar p q n print its lines s) is k = absurd (fits reading standing request act (command.Same text) a is)
same_by reading standing {act = act} request text version tried count a
    (RegisteredEach id records its lines each) is k =
    absurd (fits reading standing request act (command.Same text) a is)
same_by reading standing {act = act} request text version tried count a (FoundData id name reply said q) is
    k = absurd (fits reading standing request act (command.Same text) a is)

-- a `similar` that did
pub similar_by : OneReading → (standing : Standing) {size : ℕ} {cursors cursors' : List Cursor} {act : Act} {its : Calls} {lines : Lines}
    (request : Request) (p q k : ℕ) (text : List ℕ) (version scored count : ℕ) → RequestAllows standing request act
    → Does size cursors act its lines cursors' → IsCommand request (command.Similar p q k text)
    → Contains lines (line.Scored version scored count)
    → (m : Molecule) × (print : List Bool) × IsPrinted text m print × ListsSimilar size p q k print its lines
similar_by reading standing request p q k text version scored count a (Says note) is has =
    absurd ((quiet_note note).plain _ has)
similar_by reading standing request p q k text version scored count a (Asks event reply said u) is has =
    absurd ((quiet_ask event reply said u).plain _ has)
similar_by reading standing {size} {act = act} request p q k text version scored count a
    (ListedSimilar p' q' k' print its lines s) is has =
    let f = fits reading standing request act (command.Similar p q k text) a is in
    (f.3, print, record { structure = f.4; print_is = f.5 }, rw (f.0, f.1, f.2) at s)
similar_by reading standing {act = act} request p q k text version scored count a
    (Searched pattern its lines s) is has =
    absurd (fits reading standing request act (command.Similar p q k text) a is)
similar_by reading standing {act = act} request p q k text version scored count a
    (Opened name pattern want slot v new need) is has =
    absurd (fits reading standing request act (command.Similar p q k text) a is)
similar_by reading standing {act = act} request p q k text version scored count a
    (Turned name before after c c' its lines named advances) is has =
    absurd (fits reading standing request act (command.Similar p q k text) a is)
similar_by reading standing {act = act} request p q k text version scored count a
    (Closed name before after c named) is has =
    absurd (fits reading standing request act (command.Similar p q k text) a is)
similar_by reading standing {act = act} request p q k text version scored count a
    (RegisteredNew change m print its lines s) is has =
    absurd (fits reading standing request act (command.Similar p q k text) a is)
similar_by reading standing {act = act} request p q k text version scored count a
    (ListedSame m print its lines s) is has =
    absurd (fits reading standing request act (command.Similar p q k text) a is)
similar_by reading standing {act = act} request p q k text version scored count a
    (RegisteredEach id records its lines each) is has =
    absurd (fits reading standing request act (command.Similar p q k text) a is)
similar_by reading standing {act = act} request p q k text version scored count a
    (FoundData id name reply said u) is has =
    absurd (fits reading standing request act (command.Similar p q k text) a is)

-- a line by which a `register-new` says what it found
abbrev pub IsFinding : line.Reply → Type 0
IsFinding (line.Accepted version) = Unit {0}
IsFinding (line.Refused (refusals.Same id)) = Unit {0}
IsFinding _ = ⊥

-- no note and no call of a pin says so
never_same : (standing : Standing) (request : Request) (id : ℕ)
    → RequestAllows standing request (Say (Refused (refusals.Same id))) → ⊥
never_same standing request id (inl a) = cc
never_same standing request id (inr (short, text, e, read, line, a)) = by read line a where
  by : (read : Result Command LineRefusal) → IsLine text read
      → Allows standing request.more read (Say (Refused (refusals.Same id))) → ⊥
  by (Err refusal) line a = cc
  by (Ok command.Empty) line a = cc
  by (Ok (command.RegisterSd id count)) line a = cc
  by (Ok _) line a = absurd a

no_finding : (standing : Standing) (request : Request) (note : Note) (said : line.Reply)
    → RequestAllows standing request (Say note) → Contains (note_lines note) said → IsFinding said → ⊥
no_finding standing request Silence said a k f = none_in said k
no_finding standing request (Refused refusal) said a k f =
    by refusal a (subst IsFinding (sym (one_in (line.Refused refusal) said k)) f) where
      by : (r : Refusal) → RequestAllows standing request (Say (Refused r)) → IsFinding (line.Refused r) → ⊥
      by (refusals.Same id) a f = never_same standing request id a
      by _ a f = f
no_finding standing request Fault said a k f = subst IsFinding (sym (one_in line.MemoryFault said k)) f

no_pin_finding : (event : Event) (reply : Reply) (said : line.Reply) → event ≡ events.Pin → IsLineOf event reply said
    → IsFinding said → ⊥
no_pin_finding event reply said e is f =
    by reply (subst (λ (x : Event). IsLineOf x reply said) e is) where
      by : (r : Reply) → IsLineOf events.Pin r said → ⊥
      by replies.NoPin i = subst IsFinding i f
      by _ i = i

-- a `register-new` that says what it found
pub new_by : OneReading → (standing : Standing) {size : ℕ} {cursors cursors' : List Cursor} {act : Act} {its : Calls} {lines : Lines}
    (request : Request) (id : ℕ) (text : List ℕ) (said : line.Reply) → RequestAllows standing request act
    → Does size cursors act its lines cursors' → IsCommand request (command.RegisterNew id text) → Contains lines said
    → IsFinding said
    → (change : Change) × (m : Molecule) × (print : List Bool) × IsPrinted text m print
    × RegistersNew size change m print its lines
new_by reading standing request id text said a (Says note) is has f =
    absurd (no_finding standing request note said a has f)
new_by reading standing {act = act} request id text said a (Asks event reply one u) is has f =
    absurd (no_pin_finding event reply one (fits reading standing request act (command.RegisterNew id text) a is).0 u
    (subst IsFinding (sym (one_in one said has)) f))
new_by reading standing {act = act} request id text said a (RegisteredNew change m print its lines s) is has
    f =
    let g = fits reading standing request act (command.RegisterNew id text) a is in
    (change, m, print, record { structure = g.1; print_is = g.2 }, s)
new_by reading standing {act = act} request id text said a (Searched pattern its lines s) is has f =
    absurd (fits reading standing request act (command.RegisterNew id text) a is)
new_by reading standing {act = act} request id text said a (Opened name pattern want slot v new need) is has
    f = absurd (fits reading standing request act (command.RegisterNew id text) a is)
new_by reading standing {act = act} request id text said a
    (Turned name before after c c' its lines named advances) is has f =
    absurd (fits reading standing request act (command.RegisterNew id text) a is)
new_by reading standing {act = act} request id text said a (Closed name before after c named) is has f =
    absurd (fits reading standing request act (command.RegisterNew id text) a is)
new_by reading standing {act = act} request id text said a (ListedSame m print its lines s) is has f =
    absurd (fits reading standing request act (command.RegisterNew id text) a is)
new_by reading standing {act = act} request id text said a (ListedSimilar p q k print its lines s) is has f =
    absurd (fits reading standing request act (command.RegisterNew id text) a is)
new_by reading standing {act = act} request id text said a (RegisteredEach own records its lines each) is has
    f = absurd (fits reading standing request act (command.RegisterNew id text) a is)
new_by reading standing {act = act} request id text said a (FoundData own name reply one u) is has f =
    absurd (fits reading standing request act (command.RegisterNew id text) a is)
