-- For callers: the laws of a session's listings. Its searches, cursors and watches list the hits in the history, and
-- its lookups the structures that are the same or most similar there, whatever other callers did meanwhile.
use Rattle.std.specs.Prelude.{◌≡◌, ◌≤◌, ◌<◌, ◌↔◌, ◌*◌, ℕ, Bool, Contains, List, [], ◌∷◌, ◌++◌, drop, length, take}
use Rattle.chem_core.specs.Molecule.{Molecule}
use Rattle.dialogue.specs.Dialogue.{AreExchanged, calls_in}
use Rattle.dialogue.specs.declared.end.EndStatus.{EndStatus}
use Rattle.dialogue.specs.declared.end.EndStatus.TheVariants.{Done}
use Rattle.io_edge.specs.Lines.{TextLine}
use Rattle.lookup.specs.Asked.{IsSameAs}
use Rattle.lookup.specs.Truths.{AreAllOffered}
use Rattle.mol_finish.specs.Structure.{IsStructureOf}
use Rattle.path_print.specs.Prints.{IsPrint}
use Rattle.shell_lang.specs.Command as command
use Rattle.shell_lang.specs.Reply as line
use Rattle.shell_lang.specs.declared.reply.Refusal.TheVariants as refusals
use Rattle.similar_find.specs.Board.{IsBest, Offer}
use Rattle.smarts_parse.specs.Pattern.{PatternTerm}
use Rattle.store_machine.specs.Answers.{AreAnswers, AreFound, AreHits, AreMatched, AreTried}
use Rattle.store_machine.specs.History.{head, snapshot}
use Rattle.store_machine.specs.Laws.{IsSound}
use Rattle.store_machine.specs.Runs.{IsCalm, IsRun, calls_of}
use Rattle.store_machine.specs.Searches.{End}
use Rattle.store_machine.specs.Structures.{IsNeedOf, IsScreened}
use Rattle.store_machine.specs.declared.machine.Change.{Change}
use Rattle.store_machine.specs.declared.machine.Event.TheVariants.{Commit}
use Rattle.store_machine.specs.declared.machine.History.{History}
use Rattle.store_machine.specs.declared.machine.Found.{Found}
use Rattle.store_machine.specs.declared.machine.Reply.TheVariants.{Committed}
use Rattle.store_machine.specs.declared.machine.State.{State}
use Rattle.store_machine.specs.declared.machine.Step.{Step}
use Rattle.store_machine.specs.Told.{IsCommit, IsTold}
use Rattle.session_acts.specs.Acts.{Lines, RequestAnswer, Searches}
use Rattle.session_acts.specs.Cursors.{Calls}
use Rattle.session_acts.specs.Dialogue.{AreListed, AreTurned, GivePage, IsCommand, IsShown, StaysOpen, StaysWatched, hits_in, likes_in}
use Rattle.session_acts.specs.Requests.{request_of}
use Rattle.session_acts.specs.Served.{IsDialogue, IsPrefixOf, IsServed}
use Rattle.session_acts.specs.Talking.{Exchange, Kept, begun, sessions}
use Rattle.session_acts.specs.Texts.{IsPatternOf}
use Rattle.session_acts.specs.Watching.{Standing}

-- These are the hits of the pattern at a version of the history, each once, ascending; and `tried` records have in
-- their print the bits that the pattern needs
pub record AreAllHits (h : History) (version : ℕ) (pattern : PatternTerm) (tried : ℕ) (hits : List ℕ) : Type 0 where
  pub are : AreHits h version pattern hits
  pub want : List Bool
  pub need : IsNeedOf pattern want
  pub screened : List ℕ
  pub all : AreTried h version want screened
  pub count : tried ≡ length screened

-- a version in the history that is no older than any that these calls returned
abbrev pub IsUpToDate : History → Calls → ℕ → Type 0
IsUpToDate h before version = (version ≤ head h) × ((v : ℕ) → IsTold before v → v ≤ version)

-- A search that came to its end listed the hits of the history, at a version no older than any that earlier calls of
-- its caller returned
abbrev pub SearchesAreHits : Type 0
SearchesAreHits =
    (s t : State) (steps : List Step) (own : ℕ → Bool) (size : ℕ) (pattern : PatternTerm) (before its after : Calls)
    (lines : Lines)
    → IsSound s → IsRun s steps t → IsCalm steps → calls_of own steps ≡ before ++ (its ++ after)
    → (listed : Searches size pattern its lines) → listed.place ≡ End
    → AreAllHits t.history listed.version pattern listed.tried listed.hits × IsUpToDate t.history before listed.version

-- the list for the text of a pattern, with the numbers of its end, at a version of the history
pub record IsTrueList (h : History) (text : List ℕ) (version tried count : ℕ) (hits : List ℕ) : Type 0 where
  pub within : version ≤ head h
  pub pattern : PatternTerm
  pub is : IsPatternOf text pattern
  pub all : AreAllHits h version pattern tried hits
  pub length_is : count ≡ length hits

-- each search that came to its end listed the hits, at a version no older than any that a line before it shows
abbrev pub SearchesAreTrue : History → List Exchange → Type 0
SearchesAreTrue h exchanges =
    (before after : List Exchange) (x : Exchange) (text : List ℕ) (version tried count : ℕ)
    → exchanges ≡ before ++ x ∷ after
    → IsCommand (request_of x.request) (command.Search text) → Contains x.reply (line.End version tried count)
    → IsTrueList h text version tried count (hits_in x.reply) × ((v : ℕ) → IsShown before v → v ≤ version)

-- Each cursor that was opened, and whose pages came to their end before it was closed, listed the hits at the version
-- of its opening. That is no older than any version that a line before the opening shows
abbrev pub CursorsAreTrue : History → List Exchange → Type 0
CursorsAreTrue h exchanges =
    (before between after : List Exchange) (x y : Exchange) (name text hits : List ℕ) (opened version tried count : ℕ)
    → exchanges ≡ before ++ x ∷ (between ++ y ∷ after)
    → IsCommand (request_of x.request) (command.Start name text) → Contains x.reply (line.Opened opened)
    → StaysOpen name between
    → IsCommand (request_of y.request) (command.Next name) → Contains y.reply (line.End version tried count)
    → AreListed name (between ++ y ∷ []) hits
    → IsTrueList h text version tried count hits × (version ≡ opened) × ((v : ℕ) → IsShown before v → v ≤ version)

-- the lines list the hits among the first `size` of these records, and say `more` exactly if more records follow
pub record IsPageOf (pattern : PatternTerm) (size : ℕ) (records : List Found) (lines : Lines) : Type 0 where
  pub hits : AreMatched pattern (take size records) (hits_in lines)
  pub more : Contains lines line.More ↔ (size < length records)

-- page k, from 0, of the list of the records tried for the pattern of a text at a version of the history
pub record IsTruePage (h : History) (text : List ℕ) (version size k : ℕ) (lines : Lines) : Type 0 where
  pub pattern : PatternTerm
  pub is : IsPatternOf text pattern
  pub want : List Bool
  pub need : IsNeedOf pattern want
  pub tried : List Found
  pub found : AreFound (IsScreened want) (snapshot h version) tried
  pub page : IsPageOf pattern size (drop (k * size) tried) lines

-- Each reply to `next` that gave a page of a cursor listed the hits among its piece of the records tried. These are of
-- the version of the cursor's opening, whether the cursor came to its end or not
abbrev pub PagesAreTrue : History → ℕ → List Exchange → Type 0
PagesAreTrue h size exchanges =
    (before between after : List Exchange) (x y : Exchange) (name text : List ℕ) (version k : ℕ)
    → exchanges ≡ before ++ x ∷ (between ++ y ∷ after)
    → IsCommand (request_of x.request) (command.Start name text) → Contains x.reply (line.Opened version)
    → StaysOpen name between → AreTurned name between k
    → IsCommand (request_of y.request) (command.Next name) → GivePage y.reply
    → IsTruePage h text version size k y.reply

-- These are live at a version of the history with the structure of a text, each once, ascending
pub record AreSames (h : History) (text : List ℕ) (version : ℕ) (ids : List ℕ) : Type 0 where
  pub molecule : Molecule
  pub structure : IsStructureOf text molecule
  pub are : AreAnswers (IsSameAs molecule) h version ids

-- the list for `same` of a text, with the numbers of its end, at a version of the history: `tried` records have in
-- their print the bits of that of the structure
pub record IsTrueSameList (h : History) (text : List ℕ) (version tried count : ℕ) (hits : List ℕ) : Type 0 where
  pub within : version ≤ head h
  pub same : AreSames h text version hits
  pub print : List Bool
  pub print_is : IsPrint same.molecule print
  pub screened : List ℕ
  pub all : AreTried h version print screened
  pub tried_is : tried ≡ length screened
  pub length_is : count ≡ length hits

-- each `same` that came to its end listed the records with the same structure, at a version no older than any that a
-- line before it shows
abbrev pub SamesAreTrue : History → List Exchange → Type 0
SamesAreTrue h exchanges =
    (before after : List Exchange) (x : Exchange) (text : List ℕ) (version tried count : ℕ)
    → exchanges ≡ before ++ x ∷ after
    → IsCommand (request_of x.request) (command.Same text) → Contains x.reply (line.End version tried count)
    → IsTrueSameList h text version tried count (hits_in x.reply) × ((v : ℕ) → IsShown before v → v ≤ version)

-- These were found to have the structure of a text, at a version of the history that is no older than any that the
-- lines before show
pub record AreFoundSame (h : History) (before : List Exchange) (text : List ℕ) (ids : List ℕ) : Type 0 where
  pub version : ℕ
  pub within : version ≤ head h
  pub no_older : (v : ℕ) → IsShown before v → v ≤ version
  pub same : AreSames h text version ids

-- Each `register-new` that was accepted found no record with the same structure at a version before its commit. Each
-- that was refused for such a record named the least
abbrev pub RegistrationsAreTrue : History → List Exchange → Type 0
RegistrationsAreTrue h exchanges =
    (before after : List Exchange) (x : Exchange) (id : ℕ) (text : List ℕ)
    → exchanges ≡ before ++ x ∷ after → IsCommand (request_of x.request) (command.RegisterNew id text)
    → ((v : ℕ) → Contains x.reply (line.Accepted v)
    → (found : AreFoundSame h before text []) × (found.version < v))
    × ((same : ℕ) → Contains x.reply (line.Refused (refusals.Same same))
    → (more : List ℕ) × AreFoundSame h before text (same ∷ more))

-- the list for `similar` of a text, with the numbers of its end, at a version of the history. It is the best of all
-- live records, each with the numbers of bits in both prints and in at least one
pub record IsTrueSimilarList (h : History) (p q k : ℕ) (text : List ℕ) (version scored count : ℕ) (likes : List Offer)
    : Type 0 where
  pub within : version ≤ head h
  pub molecule : Molecule
  pub structure : IsStructureOf text molecule
  pub print : List Bool
  pub print_is : IsPrint molecule print
  pub offers : List Offer
  pub all : AreAllOffered print h version offers
  pub best : IsBest offers (record { p = p; q = q; most = k; hits = likes })
  pub scored_is : scored ≡ length offers
  pub length_is : count ≡ length likes

-- each `similar` that came to its end listed the best, at a version no older than any that a line before it shows
abbrev pub SimilarsAreTrue : History → List Exchange → Type 0
SimilarsAreTrue h exchanges =
    (before after : List Exchange) (x : Exchange) (p q k : ℕ) (text : List ℕ) (version scored count : ℕ)
    → exchanges ≡ before ++ x ∷ after
    → IsCommand (request_of x.request) (command.Similar p q k text) → Contains x.reply (line.Scored version scored count)
    → IsTrueSimilarList h p q k text version scored count (likes_in x.reply)
    × ((v : ℕ) → IsShown before v → v ≤ version)

-- the hits of a watched pattern, for its text: those at a version of the history, and their number
pub record IsTrueWatch (h : History) (text : List ℕ) (version count : ℕ) (hits : List ℕ) : Type 0 where
  pub within : version ≤ head h
  pub pattern : PatternTerm
  pub is : IsPatternOf text pattern
  pub are : AreHits h version pattern hits
  pub length_is : count ≡ length hits

-- each `watch` that was answered shows the number of hits, at a version no older than any that a line before it shows
abbrev pub WatchingsAreTrue : History → List Exchange → Type 0
WatchingsAreTrue h exchanges =
    (before after : List Exchange) (x : Exchange) (name text : List ℕ) (version count : ℕ)
    → exchanges ≡ before ++ x ∷ after
    → IsCommand (request_of x.request) (command.Watch name text) → Contains x.reply (line.Watching version count)
    → (hits : List ℕ) × IsTrueWatch h text version count hits × ((v : ℕ) → IsShown before v → v ≤ version)

-- Each `hits` that came to its end listed the hits of the pattern that is watched under its name, whoever committed
-- meanwhile. Its version is no older than any that a line before it shows
abbrev pub WatchesAreTrue : History → List Exchange → Type 0
WatchesAreTrue h exchanges =
    (before between after : List Exchange) (x y : Exchange) (name text : List ℕ) (first found version count rebuilt : ℕ)
    → exchanges ≡ before ++ x ∷ (between ++ y ∷ after)
    → IsCommand (request_of x.request) (command.Watch name text) → Contains x.reply (line.Watching first found)
    → StaysWatched name between
    → IsCommand (request_of y.request) (command.Hits name) → Contains y.reply (line.EndWatched version count rebuilt)
    → IsTrueWatch h text version count (hits_in y.reply)
    × ((v : ℕ) → IsShown (before ++ x ∷ between) v → v ≤ version)

-- The request made a change as commit v: calls that may answer it by these lines have that commit among them
pub record IsMadeBy (size : ℕ) (x : Exchange) (c : Change) (v : ℕ) : Type 0 where
  pub here : Standing
  pub then : Standing
  pub calls : Calls
  pub answer : RequestAnswer size here (request_of x.request) calls x.reply then
  pub before : Calls
  pub later : Calls
  pub made : calls ≡ before ++ (Commit c, Committed v) ∷ later

-- each `ok v` of a reply is commit v of the history, and its change is one that the request made
abbrev pub CommitsAreTrue : History → ℕ → List Exchange → Type 0
CommitsAreTrue h size exchanges =
    (before after : List Exchange) (x : Exchange) (v : ℕ)
    → exchanges ≡ before ++ x ∷ after → Contains x.reply (line.Accepted v)
    → (c : Change) × IsMadeBy size x c v × IsCommit h v c

-- every commit, search, cursor, lookup and watch of the dialogue, by pages of a size, is true by the history
pub record AreTrue (h : History) (size : ℕ) (exchanges : List Exchange) : Type 0 where
  pub commits : CommitsAreTrue h size exchanges
  pub searches : SearchesAreTrue h exchanges
  pub cursors : CursorsAreTrue h exchanges
  pub pages : PagesAreTrue h size exchanges
  pub sames : SamesAreTrue h exchanges
  pub registrations : RegistrationsAreTrue h exchanges
  pub similars : SimilarsAreTrue h exchanges
  pub watchings : WatchingsAreTrue h exchanges
  pub watches : WatchesAreTrue h exchanges

-- a dialogue over a part of a run that begins at a sound state
abbrev pub DialoguesAreTrue : Type 0
DialoguesAreTrue =
    (s t : State) (steps : List Step) (own : ℕ → Bool) (size : ℕ) (exchanges : List Exchange) (more : Calls)
    (kept : Kept)
    → IsSound s → IsRun s steps t → IsCalm steps → calls_of own steps ≡ calls_in sessions exchanges ++ more
    → AreExchanged sessions (begun size) exchanges kept → AreTrue t.history size exchanges

-- A transcript that is true by a history. The text is the replies of a true dialogue over all the lines, and the calls
-- of the dialogue are the first of these
pub record IsTrueTranscript (h : History) (size : ℕ) (lines : List TextLine) (calls : Calls) (text : List ℕ)
    : Type 0 where
  pub own : Calls
  pub left_kept : Kept
  pub dialogue : IsDialogue size lines [] own text left_kept
  pub made : IsPrefixOf own calls
  pub are_true : AreTrue h size dialogue.exchanges

-- As `IsTrueTranscript`, of a session that stopped early: the text is a beginning of the replies of a dialogue over the
-- first lines
pub record IsTrueBeginning (h : History) (size : ℕ) (lines : List TextLine) (calls : Calls) (text : List ℕ)
    : Type 0 where
  pub left : List TextLine
  pub own : Calls
  pub replies : List ℕ
  pub left_kept : Kept
  pub dialogue : IsDialogue size lines left own replies left_kept
  pub said : IsPrefixOf text replies
  pub made : IsPrefixOf own calls
  pub are_true : AreTrue h size dialogue.exchanges

-- the truth of the output for a script, by how the session ended
abbrev pub IsTrueService : EndStatus → History → ℕ → List TextLine → Calls → List ℕ → Type 0
IsTrueService Done h size lines calls text = IsTrueTranscript h size lines calls text
IsTrueService _ h size lines calls text = IsTrueBeginning h size lines calls text

-- a run from a sound state in which these are the caller's own calls, perhaps with others after them
pub record IsInRun (calls : Calls) (h : History) : Type 0 where
  pub before : State
  pub after : State
  pub steps : List Step
  pub own : ℕ → Bool
  pub more : Calls
  pub sound : IsSound before
  pub run : IsRun before steps after
  pub calm : IsCalm steps
  pub made : calls_of own steps ≡ calls ++ more
  pub is : h ≡ after.history

-- the output of a session over such a run is true by the history at the run's end
abbrev pub ServicesAreTrue : Type 0
ServicesAreTrue =
    (end : EndStatus) (size : ℕ) (lines : List TextLine) (calls : Calls) (text : List ℕ) (h : History)
    → IsInRun calls h → IsServed end size lines calls text → IsTrueService end h size lines calls text
