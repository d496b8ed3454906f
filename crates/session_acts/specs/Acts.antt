-- For callers: the acts for a request, and their answers. An act makes calls, with their replies in order, has reply
-- lines, and leaves cursors and watches. A command allows certain acts. A memory fault may replace most replies, and
-- after some calls alone. The request has then done nothing, but a search may have listed some of its hits, and a step
-- of a compaction may have written some of its items.
use Rattle.std.specs.Prelude.{◌≡◌, ◌≢◌, ◌⊎◌, ◌≤◌, ◌<◌, ℕ, suc, ◌+◌, Bool, true, false, if◌then◌else◌, List, [], ◌∷◌, ◌++◌, length, map, Option, None, Some, Result, Ok, Err}
use Rattle.chem_core.specs.Molecule.{Molecule}
use Rattle.io_edge.specs.Lines.{TextLine, Whole}
use Rattle.lookup.specs.Asked.{IsEmptyPrint}
use Rattle.lookup.specs.Fetches.{IsAnew}
use Rattle.lookup.specs.declared.hits.HitList.{HitList}
use Rattle.lookup.specs.declared.similar.SimilarList.{SimilarList}
use Rattle.mol_finish.specs.Structure.{IsStructureOf}
use Rattle.mol_finish.specs.declared.fault.Format.{Format}
use Rattle.mol_finish.specs.declared.fault.Format.TheVariants.{Smiles, Molfile}
use Rattle.path_print.specs.Prints.{IsPrint}
use Rattle.similar_find.specs.Board.{Offer}
use Rattle.smarts_parse.specs.Pattern.{PatternTerm}
use Rattle.shell_lang.specs.declared.command.LineRefusal.{LineRefusal}
use Rattle.shell_lang.specs.declared.reply.Refusal.{Refusal}
use Rattle.shell_lang.specs.declared.reply.Refusal.TheVariants as refusals
use Rattle.shell_lang.specs.Command as command
use Rattle.shell_lang.specs.Command.{Command, IsLine}
use Rattle.shell_lang.specs.Reply as line
use Rattle.store_machine.specs.Answers.{AreMatched}
use Rattle.store_machine.specs.Searches.{Place, At, End, past}
use Rattle.store_machine.specs.Structures.{IsNeedOf, IsText}
use Rattle.store_machine.specs.declared.machine.Change.{Change}
use Rattle.store_machine.specs.declared.machine.Change.TheVariants as changes
use Rattle.store_machine.specs.declared.machine.Event.{Event}
use Rattle.store_machine.specs.declared.machine.Event.TheVariants as events
use Rattle.store_machine.specs.declared.machine.Found.{Found}
use Rattle.store_machine.specs.declared.machine.Reply.{Reply}
use Rattle.store_machine.specs.declared.machine.Reply.TheVariants as replies
use Rattle.store_machine.specs.declared.machine.Status.{Status}
use Rattle.store_machine.specs.declared.machine.Status.TheVariants as status
use Rattle.watch_list.specs.declared.list.TheConstants.{MOST_WATCHES}
use Rattle.session_acts.specs.Cursors.{Calls, Cursor, IsNoName, IsSearched}
use Rattle.session_acts.specs.Lookups.{FindsHits, FindsSame, FindsSimilar, LooksUp}
use Rattle.session_acts.specs.declared.limits.TheConstants.{MOST_SD_BYTES}
use Rattle.session_acts.specs.Records.{counted, data_of, records_in}
use Rattle.session_acts.specs.Requests.{Request, IsLong, has_long, molfile_text}
use Rattle.session_acts.specs.Texts.{IsTextFault, IsPatternOf, IsPatternFault}
use Rattle.session_acts.specs.Watching.{AfterCalls, IsUnwatched, Standing, Watched, new_watch, rebuilt_in, rebuilt_watch, watch_of, without}

-- reply lines
abbrev pub Lines : Type 0
Lines = List line.Reply

-- an answer without a call
pub data Note : Type 0 where
  Silence : Note
  Refused : (refusal : Refusal) → Note
  Fault : Note

abbrev pub note_lines : Note → Lines
note_lines Silence = []
note_lines (Refused refusal) = line.Refused refusal ∷ []
note_lines Fault = line.MemoryFault ∷ []

-- The acts. A note alone, one call, or a search. A cursor is opened, turns a page, or is closed. A lookup of the same
-- structure, a registration after one, or a lookup of similar prints. Registrations of the records of an SD file under
-- identifiers from `id` on, or a look at a data item. A watch is added, listed or removed.
pub data Act : Type 0 where
  Say : (note : Note) → Act
  Ask : (event : Event) → Act
  Search : (pattern : PatternTerm) → Act
  Open : (name : List ℕ) (pattern : PatternTerm) → Act
  Turn : (name : List ℕ) → Act
  Close : (name : List ℕ) → Act
  Same : (m : Molecule) (print : List Bool) → Act
  RegisterNew : (change : Change) (m : Molecule) (print : List Bool) → Act
  Similar : (p q k : ℕ) (print : List Bool) → Act
  RegisterEach : (id : ℕ) (records : List (Option (List TextLine))) → Act
  FindData : (id : ℕ) (name : List ℕ) → Act
  Watch : (name : List ℕ) (pattern : PatternTerm) → Act
  ListHits : (name : List ℕ) → Act
  Unwatch : (name : List ℕ) → Act

-- the line of `show`, by the status of an identifier
abbrev pub shown : ℕ → Option Status → line.Reply
shown id None = line.Refused refusals.Absent
shown id (Some (status.Live version format text)) = line.Shown id version format text
shown id (Some (status.Withdrawn version)) = line.Gone id version

-- the line that the reply to a call gives. There may be no room for the record that `show` found; no pin may be free
abbrev pub IsLineOf : Event → Reply → line.Reply → Type 0
IsLineOf (events.Commit change) (replies.Committed version) said = said ≡ line.Accepted version
IsLineOf (events.Commit change) replies.Known said = said ≡ line.Refused refusals.Known
IsLineOf (events.Commit change) replies.Absent said = said ≡ line.Refused refusals.Absent
IsLineOf (events.Commit change) replies.Withdrawn said = said ≡ line.Refused refusals.Withdrawn
IsLineOf (events.Commit change) replies.Full said = said ≡ line.Refused refusals.Full
IsLineOf (events.Commit change) (replies.DiskFault doubt) said = said ≡ line.DiskFault doubt
IsLineOf (events.Commit change) replies.NoMemory said = said ≡ line.MemoryFault
IsLineOf (events.Look id) (replies.Looked state) said = (said ≡ shown id state) ⊎ (said ≡ line.MemoryFault)
IsLineOf (events.Look id) replies.NoMemory said = said ≡ line.MemoryFault
IsLineOf events.Prune (replies.Pruned count) said = said ≡ line.Pruned count
IsLineOf events.Compact (replies.More left) said = said ≡ line.Compacting left
IsLineOf events.Compact (replies.Done generation) said = said ≡ line.Compacted generation
IsLineOf events.Compact replies.Last said = said ≡ line.Refused refusals.Generation
IsLineOf events.Compact (replies.DiskFault doubt) said = said ≡ line.DiskFault doubt
IsLineOf events.Compact replies.NoMemory said = said ≡ line.MemoryFault
IsLineOf events.Stats (replies.Counted version live withdrawn kept pins) said =
    said ≡ line.Counts version live withdrawn kept pins
IsLineOf events.Pin replies.NoPin said = said ≡ line.Refused refusals.Pins
IsLineOf _ _ said = ⊥

-- the line of `data`, by the data item of a name
abbrev pub item_line : ℕ → Option (List ℕ) → line.Reply
item_line id None = line.Refused refusals.Data
item_line id (Some text) = line.Data id text

abbrev pub data_line : ℕ → List ℕ → Option Status → line.Reply
data_line id name None = line.Refused refusals.Absent
data_line id name (Some (status.Live version format text)) = item_line id (data_of format text name)
data_line id name (Some (status.Withdrawn version)) = line.Refused refusals.Withdrawn

-- the line that the reply to a look gives. There may be no room for the item that `data` found
abbrev pub IsDataLine : ℕ → List ℕ → Reply → line.Reply → Type 0
IsDataLine id name (replies.Looked state) said = (said ≡ data_line id name state) ⊎ (said ≡ line.MemoryFault)
IsDataLine id name replies.NoMemory said = said ≡ line.MemoryFault
IsDataLine id name _ said = ⊥

-- an answer of one line: a refusal or a fault, or that of one call
pub data AnswersBy : Act → Calls → line.Reply → Type 0 where
  Refuses : (refusal : Refusal) → AnswersBy (Say (Refused refusal)) [] (line.Refused refusal)
  Faults : AnswersBy (Say Fault) [] line.MemoryFault
  Replies : (event : Event) (reply : Reply) (said : line.Reply) (is : IsLineOf event reply said)
      → AnswersBy (Ask event) ((event, reply) ∷ []) said

-- the first of the hits, and then memory ran out
abbrev pub IsCutShort : List ℕ → Lines → Type 0
IsCutShort hits lines = (some others : List ℕ) × (hits ≡ some ++ others)
    × (lines ≡ map line.Hit some ++ line.MemoryFault ∷ [])

-- a search that came to its end lists its hits and their end, or is cut short; any other is cut short
abbrev pub Lists : Place → ℕ → ℕ → List ℕ → Lines → Type 0
Lists End version tried hits lines = (lines ≡ map line.Hit hits ++ line.End version tried (length hits) ∷ [])
    ⊎ IsCutShort hits lines
Lists (At from) version tried hits lines = IsCutShort hits lines

-- a pin, pages, and the pin is given back
pub record Searches (size : ℕ) (pattern : PatternTerm) (calls : Calls) (lines : Lines) : Type 0 where
  pub slot : ℕ
  pub version : ℕ
  pub place : Place
  pub pages : Calls
  pub tried : ℕ
  pub hits : List ℕ
  pub made : calls ≡ (events.Pin, replies.Pinned slot version) ∷ (pages ++ (events.Unpin slot, replies.Unpinned) ∷ [])
  pub searched : IsSearched pattern slot size place pages tried hits
  pub lists : Lists place version tried hits lines

-- a cursor before its first page
abbrev pub new_cursor : List ℕ → PatternTerm → List Bool → ℕ → ℕ → Cursor
new_cursor name pattern want slot version = record {
  name = name;
  pattern = pattern;
  want = want;
  slot = slot;
  version = version;
  place = At 0;
  tried = 0;
  hits = 0;
}

-- the cursor after a page
abbrev pub after_page : Cursor → ℕ → List Found → Bool → List ℕ → Cursor
after_page c from records last hits = record c {
  place = if last then End else At (past from records);
  tried = c.tried + length records;
  hits = c.hits + length hits;
}

abbrev pub page_end : Bool → Cursor → line.Reply
page_end true c = line.End c.version c.tried c.hits
page_end false c = line.More

-- how a cursor goes on: a page, with its hits; after the last page the end alone. A fetch may find no memory
pub data Advances (size : ℕ) (c : Cursor) : Calls → Lines → Cursor → Type 0 where
  Ended : (at : c.place ≡ End) → Advances size c [] (page_end true c ∷ []) c
  Paged : (from : ℕ) (records : List Found) (last : Bool) (hits : List ℕ) (at : c.place ≡ At from)
      (matched : AreMatched c.pattern records hits)
      → Advances size c ((events.Fetch c.slot c.want from size, replies.Page records last) ∷ [])
      (map line.Hit hits ++ page_end last (after_page c from records last hits) ∷ [])
      (after_page c from records last hits)
  Lost : (from : ℕ) (at : c.place ≡ At from)
      → Advances size c ((events.Fetch c.slot c.want from size, replies.NoMemory) ∷ []) (line.MemoryFault ∷ []) c

-- the lines of the same structures, and of the similar ones
abbrev pub same_lines : HitList → Lines
same_lines list = map line.Hit list.hits.items ++ line.End list.version list.tried (length list.hits.items) ∷ []

abbrev pub like_line : Offer → line.Reply
like_line x = line.Like x.0 x.1 x.2

abbrev pub similar_lines : SimilarList → Lines
similar_lines list = map like_line list.best.hits ++ line.Scored list.version list.scored (length list.best.hits) ∷ []

-- How `same` is answered: the structures found are listed; or memory ran out, in a lookup that came to a place, or for
-- the lines
pub data ListsSame (size : ℕ) (m : Molecule) (print : List Bool) : Calls → Lines → Type 0 where
  AllSame : (calls : Calls) (list : HitList) (found : FindsSame size m print calls list)
      → ListsSame size m print calls (same_lines list)
  SameLost : (calls : Calls) (place : Place) (lookup : LooksUp size print place calls)
      → ListsSame size m print calls (line.MemoryFault ∷ [])

-- How `register-new` is answered. A structure is the same: the first is named, and nothing is committed. No structure
-- is the same: the change is committed, as that of `register`. Or memory ran out, and nothing is committed
pub data RegistersNew (size : ℕ) (change : Change) (m : Molecule) (print : List Bool) : Calls → Lines → Type 0 where
  NotNew : (calls : Calls) (list : HitList) (id : ℕ) (more : List ℕ) (found : FindsSame size m print calls list)
      (first : list.hits.items ≡ id ∷ more)
      → RegistersNew size change m print calls (line.Refused (refusals.Same id) ∷ [])
  IsNew : (calls : Calls) (list : HitList) (reply : Reply) (said : line.Reply)
      (found : FindsSame size m print calls list) (none : list.hits.items ≡ [])
      (is : IsLineOf (events.Commit change) reply said)
      → RegistersNew size change m print (calls ++ (events.Commit change, reply) ∷ []) (said ∷ [])
  NewLost : (calls : Calls) (place : Place) (lookup : LooksUp size print place calls)
      → RegistersNew size change m print calls (line.MemoryFault ∷ [])

-- how `similar` is answered, as `same` is
pub data ListsSimilar (size p q k : ℕ) (print : List Bool) : Calls → Lines → Type 0 where
  AllSimilar : (calls : Calls) (list : SimilarList) (found : FindsSimilar size p q k print calls list)
      → ListsSimilar size p q k print calls (similar_lines list)
  SimilarLost : (calls : Calls) (want : List Bool) (place : Place) (none : IsEmptyPrint want)
      (lookup : LooksUp size want place calls) → ListsSimilar size p q k print calls (line.MemoryFault ∷ [])

-- a change to a text: the text is read first
abbrev pub MayChange : Change → Format → List ℕ → Act → Type 0
MayChange change format text (Say Fault) = Unit {0}
MayChange change format text (Say (Refused (refusals.Text fault))) = IsTextFault format text fault
MayChange change format text (Ask event) = (event ≡ events.Commit change) × IsText format text
MayChange change format text _ = ⊥

-- the acts for a record of an SD file, if the texts up to and with it count `sum` bytes. It is refused if no line of it
-- was left, if the texts have too many bytes, or if a line is too long. Otherwise its text is registered
abbrev pub MayRegister : ℕ → ℕ → Option (List TextLine) → Act → Type 0
MayRegister id sum r (Say Fault) = Unit {0}
MayRegister id sum None act = act ≡ Say (Refused refusals.SdCut)
MayRegister id sum (Some lines) act =
    ((MOST_SD_BYTES < sum) × (act ≡ Say (Refused refusals.SdLimit)))
    ⊎ ((sum ≤ MOST_SD_BYTES)
    × (((has_long lines ≡ true) × (act ≡ Say (Refused refusals.Long)))
    ⊎ ((has_long lines ≡ false) × MayChange (changes.Register id Molfile (molfile_text lines)) Molfile
    (molfile_text lines) act)))

-- the records are answered one after another, each by one line, under identifiers from `id` on, if the texts before
-- count `sum` bytes
abbrev pub RegistersEach : ℕ → ℕ → List (Option (List TextLine)) → Calls → Lines → Type 0
RegistersEach id sum [] calls lines = (calls ≡ []) × (lines ≡ [])
RegistersEach id sum (r ∷ records) calls lines =
    (act : Act) × (own more : Calls) × (said : line.Reply) × (rest : Lines)
    × MayRegister id (sum + counted r) r act × AnswersBy act own said
    × (calls ≡ own ++ more) × (lines ≡ said ∷ rest)
    × RegistersEach (suc id) (sum + counted r) records more rest

-- the cursor of a name is in its place among the others
pub record IsNamed (name : List ℕ) (cursors before : List Cursor) (c : Cursor) (after : List Cursor) : Type 0 where
  pub place : cursors ≡ before ++ c ∷ after
  pub named : c.name ≡ name

-- the effects of an act if these cursors are open: its calls, its lines, and the cursors that are open then. A page has
-- at most `size` records
pub data Does (size : ℕ) (cursors : List Cursor) : Act → Calls → Lines → List Cursor → Type 0 where
  Says : (note : Note) → Does size cursors (Say note) [] (note_lines note) cursors
  Asks : (event : Event) (reply : Reply) (said : line.Reply) (is : IsLineOf event reply said)
      → Does size cursors (Ask event) ((event, reply) ∷ []) (said ∷ []) cursors
  Searched : (pattern : PatternTerm) (calls : Calls) (lines : Lines) (found : Searches size pattern calls lines)
      → Does size cursors (Search pattern) calls lines cursors
  Opened : (name : List ℕ) (pattern : PatternTerm) (want : List Bool) (slot version : ℕ) (new : IsNoName cursors name)
      (need : IsNeedOf pattern want)
      → Does size cursors (Open name pattern) ((events.Pin, replies.Pinned slot version) ∷ [])
      (line.Opened version ∷ []) (cursors ++ new_cursor name pattern want slot version ∷ [])
  Turned : (name : List ℕ) (before after : List Cursor) (c c' : Cursor) (calls : Calls) (lines : Lines)
      (named : IsNamed name cursors before c after) (advances : Advances size c calls lines c')
      → Does size cursors (Turn name) calls lines (before ++ c' ∷ after)
  Closed : (name : List ℕ) (before after : List Cursor) (c : Cursor) (named : IsNamed name cursors before c after)
      → Does size cursors (Close name) ((events.Unpin c.slot, replies.Unpinned) ∷ []) (line.Closed ∷ [])
      (before ++ after)
  ListedSame : (m : Molecule) (print : List Bool) (calls : Calls) (lines : Lines)
      (lists : ListsSame size m print calls lines) → Does size cursors (Same m print) calls lines cursors
  RegisteredNew : (change : Change) (m : Molecule) (print : List Bool) (calls : Calls) (lines : Lines)
      (registers : RegistersNew size change m print calls lines)
      → Does size cursors (RegisterNew change m print) calls lines cursors
  ListedSimilar : (p q k : ℕ) (print : List Bool) (calls : Calls) (lines : Lines)
      (lists : ListsSimilar size p q k print calls lines)
      → Does size cursors (Similar p q k print) calls lines cursors
  RegisteredEach : (id : ℕ) (records : List (Option (List TextLine))) (calls : Calls) (lines : Lines)
      (each : RegistersEach id 0 records calls lines) → Does size cursors (RegisterEach id records) calls lines cursors
  FoundData : (id : ℕ) (name : List ℕ) (reply : Reply) (said : line.Reply) (is : IsDataLine id name reply said)
      → Does size cursors (FindData id name) ((events.Look id, reply) ∷ []) (said ∷ []) cursors

-- the lines of the hits of a watch
abbrev pub hit_lines : ℕ → List ℕ → ℕ → Lines
hit_lines version hits rebuilt = map line.Hit hits ++ line.EndWatched version (length hits) rebuilt ∷ []

abbrev pub watch_lines : Watched → Lines
watch_lines w = hit_lines w.version w.hits w.rebuilt

-- The effects of an act with these watches: its calls, its lines, and the watches then. A pattern is watched from its
-- hits at the pinned version on. The hits of a watch are listed if they are of the pinned version; else they are
-- searched anew. Or memory ran out, in a search that came to a place, or for the lines. Nothing is searched for a name
-- that is watched, for one watch too many, or if the hits are of the pinned version
pub data DoesWatch (size : ℕ) (watches : List Watched) : Act → Calls → Lines → List Watched → Type 0 where
  WatchedAll : (name : List ℕ) (pattern : PatternTerm) (calls : Calls) (version : ℕ) (hits : List ℕ)
      (new : IsUnwatched watches name) (few : length watches < MOST_WATCHES)
      (found : FindsHits size pattern calls version hits)
      → DoesWatch size watches (Watch name pattern) calls (line.Watching version (length hits) ∷ [])
      (watches ++ new_watch name pattern version hits ∷ [])
  WatchLost : (name : List ℕ) (pattern : PatternTerm) (calls : Calls) (want : List Bool) (place : Place)
      (new : IsUnwatched watches name) (few : length watches < MOST_WATCHES) (need : IsNeedOf pattern want)
      (lookup : LooksUp size want place calls)
      → DoesWatch size watches (Watch name pattern) calls (line.MemoryFault ∷ []) watches
  Current : (name : List ℕ) (w : Watched) (slot : ℕ) (named : watch_of name watches ≡ Some w)
      → DoesWatch size watches (ListHits name)
      ((events.Pin, replies.Pinned slot w.version) ∷ (events.Unpin slot, replies.Unpinned) ∷ []) (watch_lines w) watches
  Refilled : (name : List ℕ) (w : Watched) (calls : Calls) (version : ℕ) (hits : List ℕ)
      (named : watch_of name watches ≡ Some w) (other : version ≢ w.version)
      (found : FindsHits size w.pattern calls version hits)
      → DoesWatch size watches (ListHits name) calls (watch_lines (rebuilt_watch version hits w))
      (map (rebuilt_in name version hits) watches)
  HitsLost : (name : List ℕ) (w : Watched) (calls : Calls) (want : List Bool) (place : Place)
      (named : watch_of name watches ≡ Some w) (need : IsNeedOf w.pattern want)
      (lookup : LooksUp size want place calls) (anew : IsAnew w.version lookup.version lookup.pages)
      → DoesWatch size watches (ListHits name) calls (line.MemoryFault ∷ []) watches
  TakenOut : (name : List ℕ) (w : Watched) (named : watch_of name watches ≡ Some w)
      → DoesWatch size watches (Unwatch name) [] (line.Unwatched ∷ []) (without name watches)

-- Memory is taken before this call of a command without a text, and may run out: a commit, for the watches that follow
-- it
abbrev pub TakesMemory : Event → Type 0
TakesMemory (events.Commit change) = Unit {0}
TakesMemory _ = ⊥

-- The acts that a command allows. First one call, without a text
abbrev pub MayAsk : Event → Act → Type 0
MayAsk event (Say Fault) = TakesMemory event
MayAsk event (Ask other) = other ≡ event
MayAsk event _ = ⊥

-- a search, if the text is a pattern and a pin is free
abbrev pub MaySearch : List ℕ → Act → Type 0
MaySearch text (Say Fault) = Unit {0}
MaySearch text (Say (Refused (refusals.Pattern fault))) = IsPatternFault text fault
MaySearch text (Ask event) = (event ≡ events.Pin) × (pattern : PatternTerm) × IsPatternOf text pattern
MaySearch text (Search pattern) = IsPatternOf text pattern
MaySearch text _ = ⊥

-- a cursor is opened, if the name is free too
abbrev pub MayOpen : List Cursor → List ℕ → List ℕ → Act → Type 0
MayOpen cursors name text (Say Fault) = Unit {0}
MayOpen cursors name text (Say (Refused (refusals.Pattern fault))) = IsPatternFault text fault
MayOpen cursors name text (Say (Refused refusals.Cursor)) =
    (pattern : PatternTerm) × IsPatternOf text pattern × ¬ IsNoName cursors name
MayOpen cursors name text (Ask event) =
    (event ≡ events.Pin) × (pattern : PatternTerm) × IsPatternOf text pattern × IsNoName cursors name
MayOpen cursors name text (Open own pattern) = (own ≡ name) × IsPatternOf text pattern
MayOpen cursors name text _ = ⊥

-- the cursor of a name turns a page, or is closed
abbrev pub MayTurn : List Cursor → List ℕ → Act → Type 0
MayTurn cursors name (Say Fault) = Unit {0}
MayTurn cursors name (Say (Refused refusals.Cursor)) = IsNoName cursors name
MayTurn cursors name (Turn own) = own ≡ name
MayTurn cursors name _ = ⊥

abbrev pub MayClose : List Cursor → List ℕ → Act → Type 0
MayClose cursors name (Say (Refused refusals.Cursor)) = IsNoName cursors name
MayClose cursors name (Close own) = own ≡ name
MayClose cursors name _ = ⊥

-- a lookup of the structure of a text, if a pin is free
abbrev pub MaySame : List ℕ → Act → Type 0
MaySame text (Say Fault) = Unit {0}
MaySame text (Say (Refused (refusals.Text fault))) = IsTextFault Smiles text fault
MaySame text (Ask event) = (event ≡ events.Pin) × IsText Smiles text
MaySame text (Same m print) = IsStructureOf text m × IsPrint m print
MaySame text _ = ⊥

-- a registration, if no structure is the same
abbrev pub MayRegisterNew : ℕ → List ℕ → Act → Type 0
MayRegisterNew id text (Say Fault) = Unit {0}
MayRegisterNew id text (Say (Refused (refusals.Text fault))) = IsTextFault Smiles text fault
MayRegisterNew id text (Ask event) = (event ≡ events.Pin) × IsText Smiles text
MayRegisterNew id text (RegisterNew change m print) =
    (change ≡ changes.Register id Smiles text) × IsStructureOf text m × IsPrint m print
MayRegisterNew id text _ = ⊥

-- a lookup of prints similar to that of the structure of a text
abbrev pub MaySimilar : ℕ → ℕ → ℕ → List ℕ → Act → Type 0
MaySimilar p q k text (Say Fault) = Unit {0}
MaySimilar p q k text (Say (Refused (refusals.Text fault))) = IsTextFault Smiles text fault
MaySimilar p q k text (Ask event) = (event ≡ events.Pin) × IsText Smiles text
MaySimilar p q k text (Similar own_p own_q own_k print) =
    (own_p ≡ p) × (own_q ≡ q) × (own_k ≡ k) × (m : Molecule) × IsStructureOf text m × IsPrint m print
MaySimilar p q k text _ = ⊥

-- a look at a data item
abbrev pub MayFind : ℕ → List ℕ → Act → Type 0
MayFind id name (FindData own_id own_name) = (own_id ≡ id) × (own_name ≡ name)
MayFind id name _ = ⊥

-- a pattern is watched, if the name is free, fewer than `MOST_WATCHES` are watched, and a pin is free
abbrev pub MayWatch : List Watched → List ℕ → List ℕ → Act → Type 0
MayWatch watches name text (Say Fault) = Unit {0}
MayWatch watches name text (Say (Refused (refusals.Pattern fault))) = IsPatternFault text fault
MayWatch watches name text (Say (Refused refusals.Watch)) =
    (pattern : PatternTerm) × IsPatternOf text pattern × ¬ IsUnwatched watches name
MayWatch watches name text (Say (Refused refusals.Watches)) =
    (pattern : PatternTerm) × IsPatternOf text pattern × IsUnwatched watches name × (MOST_WATCHES ≤ length watches)
MayWatch watches name text (Ask event) = (event ≡ events.Pin) × (pattern : PatternTerm) × IsPatternOf text pattern
    × IsUnwatched watches name × (length watches < MOST_WATCHES)
MayWatch watches name text (Watch own pattern) = (own ≡ name) × IsPatternOf text pattern
MayWatch watches name text _ = ⊥

-- the hits of the watch of a name are listed, if a pin is free; or the watch is removed
abbrev pub MayHits : List Watched → List ℕ → Act → Type 0
MayHits watches name (Say Fault) = Unit {0}
MayHits watches name (Say (Refused refusals.Watch)) = IsUnwatched watches name
MayHits watches name (Ask event) = (event ≡ events.Pin) × ¬ IsUnwatched watches name
MayHits watches name (ListHits own) = own ≡ name
MayHits watches name _ = ⊥

abbrev pub MayUnwatch : List Watched → List ℕ → Act → Type 0
MayUnwatch watches name (Say (Refused refusals.Watch)) = IsUnwatched watches name
MayUnwatch watches name (Unwatch own) = own ≡ name
MayUnwatch watches name _ = ⊥

-- the acts for a line, by its command or refusal, with the lines that it may take
abbrev pub Allows : Standing → List TextLine → Result Command LineRefusal → Act → Type 0
Allows standing more (Err refusal) act = act ≡ Say (Refused (refusals.Line refusal))
Allows standing more (Ok command.Empty) act = act ≡ Say Silence
Allows standing more (Ok (command.Register id text)) act =
    MayChange (changes.Register id Smiles text) Smiles text act
Allows standing more (Ok (command.Revise id text)) act = MayChange (changes.Revise id Smiles text) Smiles text act
Allows standing more (Ok (command.RegisterMol id)) act =
    MayChange (changes.Register id Molfile (molfile_text more)) Molfile (molfile_text more) act
Allows standing more (Ok (command.ReviseMol id)) act =
    MayChange (changes.Revise id Molfile (molfile_text more)) Molfile (molfile_text more) act
Allows standing more (Ok (command.RegisterSd id count)) act = act ≡ RegisterEach id (records_in count more)
Allows standing more (Ok (command.Withdraw id)) act = MayAsk (events.Commit (changes.Withdraw id)) act
Allows standing more (Ok (command.Show id)) act = MayAsk (events.Look id) act
Allows standing more (Ok (command.Data id name)) act = MayFind id name act
Allows standing more (Ok (command.RegisterNew id text)) act = MayRegisterNew id text act
Allows standing more (Ok (command.Search text)) act = MaySearch text act
Allows standing more (Ok (command.Same text)) act = MaySame text act
Allows standing more (Ok (command.Similar p q k text)) act = MaySimilar p q k text act
Allows standing more (Ok (command.Start name text)) act = MayOpen standing.cursors name text act
Allows standing more (Ok (command.Next name)) act = MayTurn standing.cursors name act
Allows standing more (Ok (command.Close name)) act = MayClose standing.cursors name act
Allows standing more (Ok (command.Watch name text)) act = MayWatch standing.watches name text act
Allows standing more (Ok (command.Hits name)) act = MayHits standing.watches name act
Allows standing more (Ok (command.Unwatch name)) act = MayUnwatch standing.watches name act
Allows standing more (Ok command.Prune) act = MayAsk events.Prune act
Allows standing more (Ok command.Compact) act = MayAsk events.Compact act
Allows standing more (Ok command.Stats) act = MayAsk events.Stats act

-- one of the allowed acts was done, by the cursors
pub record Answers (size : ℕ) (Allowed : Act → Type 0) (cursors : List Cursor) (calls : Calls) (lines : Lines)
    (cursors' : List Cursor) : Type 0 where
  pub act : Act
  pub allowed : Allowed act
  pub does : Does size cursors act calls lines cursors'

-- the effects of an act on the whole state: on the cursors, and the watches follow the commits among its calls; or on
-- the watches, and the cursors stay
abbrev pub DoesAll : ℕ → Standing → Act → Calls → Lines → Standing → Type 0
DoesAll size standing act calls lines standing' =
    (Does size standing.cursors act calls lines standing'.cursors
    × AfterCalls calls standing.watches standing'.watches)
    ⊎ (DoesWatch size standing.watches act calls lines standing'.watches × (standing'.cursors ≡ standing.cursors))

-- one of the allowed acts was done, on the whole state
pub record Responds (size : ℕ) (Allowed : Act → Type 0) (standing : Standing) (calls : Calls) (lines : Lines)
    (standing' : Standing) : Type 0 where
  pub act : Act
  pub allowed : Allowed act
  pub does : DoesAll size standing act calls lines standing'

-- a line that is too long, among those of its molfile too, is refused before all else
abbrev pub RequestAllows : Standing → Request → Act → Type 0
RequestAllows standing request act =
    (IsLong request × (act ≡ Say (Refused refusals.Long)))
    ⊎ (¬ IsLong request × (line : List ℕ) × (request.line ≡ Whole line) × (read : Result Command LineRefusal)
    × IsLine line read × Allows standing request.more read act)

abbrev pub RequestAnswer : ℕ → Standing → Request → Calls → Lines → Standing → Type 0
RequestAnswer size standing request calls lines standing' =
    Responds size (RequestAllows standing request) standing calls lines standing'
