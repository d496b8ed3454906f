-- What an act did, by its calls and lines, and which acts a command may be.
use Rattle.std.proofs.Common.{◌≡◌, ◌∙◌, ◌+◌, ◌++◌, arith, Contains, false, inl, inr, List, [], ◌∷◌, None, Ok, Option, refl, Result, Some, subst, suc, sym, zero, ℕ}
use Rattle.io_edge.specs.Lines.{TextLine, Whole}
use Rattle.shell_lang.specs.Command.{Command, IsLine}
use Rattle.shell_lang.specs.Reply as line
use Rattle.shell_lang.specs.declared.command.LineRefusal.{LineRefusal}
use Rattle.store_machine.specs.Searches.{page_in, unpins}
use Rattle.store_machine.specs.declared.machine.Event.{Event}
use Rattle.store_machine.specs.declared.machine.Event.TheVariants as events
use Rattle.store_machine.specs.declared.machine.Reply.{Reply}
use Rattle.store_machine.specs.declared.machine.Reply.TheVariants as replies
use Rattle.store_machine.specs.declared.machine.Status.{Status}
use Rattle.store_machine.specs.declared.machine.Status.TheVariants as status
use Rattle.store_machine.specs.Told.{IsTold, TellsVersion}
use Rattle.session_acts.specs.Acts.{Act, Allows, AnswersBy, Fault, Faults, IsDataLine, IsLineOf, Lines, Note, Refused, Refuses, RegistersEach, Replies, RequestAllows, Say, Silence, data_line, item_line, note_lines, shown}
use Rattle.session_acts.specs.Cursors.{Calls}
use Rattle.session_acts.specs.Dialogue.{IsCommand, IsShownIn, ShowsVersion, hits_in}
use Rattle.session_acts.specs.Requests.{Request}
use Rattle.session_acts.specs.Pins.{Leaves, effect}
use Rattle.session_acts.specs.Records.{counted, data_of}
use Rattle.session_acts.specs.Watching.{Standing}
use Rattle.session_acts.proofs.Held.{Leave}
use Rattle.session_acts.proofs.Passing.{PassBy, none_in, one_in, passes-append}

-- lines that are of no search, no cursor, no watch and no lookup of what is similar
abbrev pub IsPlainLine : line.Reply → Type 0
IsPlainLine (line.Hit id) = ⊥
IsPlainLine (line.End version tried hits) = ⊥
IsPlainLine (line.Like id c u) = ⊥
IsPlainLine (line.Scored version scored hits) = ⊥
IsPlainLine (line.Opened version) = ⊥
IsPlainLine line.More = ⊥
IsPlainLine (line.Watching version hits) = ⊥
IsPlainLine (line.EndWatched version hits rebuilt) = ⊥
IsPlainLine _ = Unit {0}

-- calls that leave all pins, and plain lines, which show no version but what was told
pub record IsQuiet (calls : Calls) (lines : Lines) : Type 0 where
  pub leave : Leave calls
  pub pass : (slot : ℕ) → PassBy slot calls
  pub hits : hits_in lines ≡ []
  pub plain : (said : line.Reply) → Contains lines said → IsPlainLine said
  pub shows : (v : ℕ) → IsShownIn lines v → IsTold calls v

plain_hits : (said : line.Reply) → IsPlainLine said → hits_in (said ∷ []) ≡ []
plain_hits (line.Hit id) p = absurd p
plain_hits _ p = refl

plain_one : (calls : Calls) (said : line.Reply) → Leave calls → ((slot : ℕ) → PassBy slot calls) → IsPlainLine said
    → ((v : ℕ) → ShowsVersion said v → IsTold calls v) → IsQuiet calls (said ∷ [])
plain_one calls said leave pass p told = record {
  leave = leave;
  pass = pass;
  hits = plain_hits said p;
  plain = λ other k. subst IsPlainLine (one_in said other k) p;
  shows = λ v k. elim k [ inl s ↦ told v s | inr n ↦ absurd n ];
}

pub quiet_note : (note : Note) → IsQuiet [] (note_lines note)
quiet_note Silence = record {
  leave = tt;
  pass = λ slot. tt;
  hits = refl;
  plain = λ said k. absurd (none_in said k);
  shows = λ v k. k;
}
quiet_note (Refused refusal) = plain_one [] (line.Refused refusal) tt (λ slot. tt) tt (λ v k. k)
quiet_note Fault = plain_one [] line.MemoryFault tt (λ slot. tt) tt (λ v k. k)

-- a line that a reply gives
record IsQuietCall (event : Event) (reply : Reply) (said : line.Reply) : Type 0 where
  leaves : effect event reply ≡ Leaves
  keeps : (slot : ℕ) → unpins slot event ≡ false
  no_page : (slot : ℕ) → page_in slot event reply ≡ None
  plain : IsPlainLine said
  told : (v : ℕ) → ShowsVersion said v → TellsVersion reply v

shown_plain : (id : ℕ) (state : Option Status) → IsPlainLine (shown id state)
shown_plain id None = tt
shown_plain id (Some (status.Live version format text)) = tt
shown_plain id (Some (status.Withdrawn version)) = tt

shown_told : (id : ℕ) (state : Option Status) (v : ℕ) → ShowsVersion (shown id state) v
    → TellsVersion (replies.Looked state) v
shown_told id None v k = k
shown_told id (Some (status.Live version format text)) v k = k
shown_told id (Some (status.Withdrawn version)) v k = k

is : {event : Event} {reply : Reply} {said other : line.Reply} → said ≡ other → effect event reply ≡ Leaves → ((slot : ℕ) → unpins slot event ≡ false)
    → ((slot : ℕ) → page_in slot event reply ≡ None) → IsPlainLine other
    → ((v : ℕ) → ShowsVersion other v → TellsVersion reply v) → IsQuietCall event reply said
is {event} {reply} e leaves keeps none plain told =
    subst (IsQuietCall event reply) (sym e)
    (record { leaves = leaves; keeps = keeps; no_page = none; plain = plain; told = told })

quiet_call : (event : Event) (reply : Reply) (said : line.Reply) → IsLineOf event reply said
    → IsQuietCall event reply said
quiet_call (events.Commit change) (replies.Committed version) said e = is e refl (λ s. refl) (λ s. refl) tt (λ v k. k)
quiet_call (events.Commit change) replies.Known said e = is e refl (λ s. refl) (λ s. refl) tt (λ v k. k)
quiet_call (events.Commit change) replies.Absent said e = is e refl (λ s. refl) (λ s. refl) tt (λ v k. k)
quiet_call (events.Commit change) replies.Withdrawn said e = is e refl (λ s. refl) (λ s. refl) tt (λ v k. k)
quiet_call (events.Commit change) replies.Full said e = is e refl (λ s. refl) (λ s. refl) tt (λ v k. k)
quiet_call (events.Commit change) (replies.DiskFault doubt) said e = is e refl (λ s. refl) (λ s. refl) tt (λ v k. k)
quiet_call (events.Commit change) replies.NoMemory said e = is e refl (λ s. refl) (λ s. refl) tt (λ v k. k)
quiet_call (events.Look id) (replies.Looked state) said (inl e) =
    is e refl (λ s. refl) (λ s. refl) (shown_plain id state) (shown_told id state)
quiet_call (events.Look id) (replies.Looked state) said (inr e) =
    is e refl (λ s. refl) (λ s. refl) tt (λ v k. absurd k)
quiet_call (events.Look id) replies.NoMemory said e = is e refl (λ s. refl) (λ s. refl) tt (λ v k. k)
quiet_call events.Prune (replies.Pruned count) said e = is e refl (λ s. refl) (λ s. refl) tt (λ v k. k)
quiet_call events.Compact (replies.More left) said e = is e refl (λ s. refl) (λ s. refl) tt (λ v k. k)
quiet_call events.Compact (replies.Done generation) said e = is e refl (λ s. refl) (λ s. refl) tt (λ v k. k)
quiet_call events.Compact replies.Last said e = is e refl (λ s. refl) (λ s. refl) tt (λ v k. k)
quiet_call events.Compact (replies.DiskFault doubt) said e = is e refl (λ s. refl) (λ s. refl) tt (λ v k. k)
quiet_call events.Compact replies.NoMemory said e = is e refl (λ s. refl) (λ s. refl) tt (λ v k. k)
quiet_call events.Stats (replies.Counted version live withdrawn kept pins) said e =
    is e refl (λ s. refl) (λ s. refl) tt (λ v k. k)
quiet_call events.Pin replies.NoPin said e = is e refl (λ s. refl) (λ s. refl) tt (λ v k. k)
quiet_call _ _ said e = absurd e

pub quiet_ask : (event : Event) (reply : Reply) (said : line.Reply) → IsLineOf event reply said
    → IsQuiet ((event, reply) ∷ []) (said ∷ [])
quiet_ask event reply said e =
    let q = quiet_call event reply said e in
    plain_one ((event, reply) ∷ []) said (q.leaves, tt) (λ slot. (q.keeps slot, q.no_page slot, tt)) q.plain (λ v k. inl (q.told v k))

-- the line of a data item
item_plain : (id : ℕ) (found : Option (List ℕ)) → IsPlainLine (item_line id found)
item_plain id None = tt
item_plain id (Some text) = tt

data_plain : (id : ℕ) (name : List ℕ) (state : Option Status) → IsPlainLine (data_line id name state)
data_plain id name None = tt
data_plain id name (Some (status.Live version format text)) = item_plain id (data_of format text name)
data_plain id name (Some (status.Withdrawn version)) = tt

item_shows : (id : ℕ) (found : Option (List ℕ)) (v : ℕ) → ShowsVersion (item_line id found) v → ⊥
item_shows id None v k = k
item_shows id (Some text) v k = k

data_shows : (id : ℕ) (name : List ℕ) (state : Option Status) (v : ℕ) → ShowsVersion (data_line id name state) v → ⊥
data_shows id name None v k = k
data_shows id name (Some (status.Live version format text)) v k = item_shows id (data_of format text name) v k
data_shows id name (Some (status.Withdrawn version)) v k = k

found_call : (id : ℕ) (name : List ℕ) (reply : Reply) (said : line.Reply) → IsDataLine id name reply said
    → IsQuietCall (events.Look id) reply said
found_call id name (replies.Looked state) said (inl e) =
    is e refl (λ s. refl) (λ s. refl) (data_plain id name state) (λ v k. absurd (data_shows id name state v k))
found_call id name (replies.Looked state) said (inr e) =
    is e refl (λ s. refl) (λ s. refl) tt (λ v k. absurd k)
found_call id name replies.NoMemory said e = is e refl (λ s. refl) (λ s. refl) tt (λ v k. k)
found_call id name _ said e = absurd e

pub quiet_data : (id : ℕ) (name : List ℕ) (reply : Reply) (said : line.Reply) → IsDataLine id name reply said
    → IsQuiet ((events.Look id, reply) ∷ []) (said ∷ [])
quiet_data id name reply said e =
    let q = found_call id name reply said e in
    plain_one ((events.Look id, reply) ∷ []) said (q.leaves, tt) (λ slot. (q.keeps slot, q.no_page slot, tt)) q.plain
    (λ v k. inl (q.told v k))

-- lines that follow a plain one
quiet_by : {act : Act} {calls : Calls} {said : line.Reply} → AnswersBy act calls said → IsQuiet calls (said ∷ [])
quiet_by (Refuses refusal) = quiet_note (Refused refusal)
quiet_by Faults = quiet_note Fault
quiet_by (Replies event reply said is) = quiet_ask event reply said is

pub told_right : (xs ys : Calls) (v : ℕ) → IsTold ys v → IsTold (xs ++ ys) v
told_right [] ys v k = k
told_right (x ∷ xs) ys v k = inr (told_right xs ys v k)

pub told_left : (xs ys : Calls) (v : ℕ) → IsTold xs v → IsTold (xs ++ ys) v
told_left [] ys v k = absurd k
told_left (x ∷ xs) ys v (inl k) = inl k
told_left (x ∷ xs) ys v (inr k) = inr (told_left xs ys v k)

leave-append : (xs ys : Calls) → Leave xs → Leave ys → Leave (xs ++ ys)
leave-append [] ys h k = k
leave-append (x ∷ xs) ys h k = (h.0, leave-append xs ys h.1 k)

plain_before : (said : line.Reply) (lines : Lines) → IsPlainLine said → hits_in (said ∷ lines) ≡ hits_in lines
plain_before (line.Hit id) lines p = absurd p
plain_before _ lines p = refl

quiet_more : (own more : Calls) (said : line.Reply) (lines : Lines) → IsQuiet own (said ∷ []) → IsQuiet more lines
    → IsQuiet (own ++ more) (said ∷ lines)
quiet_more own more said lines q n =
    let plain : IsPlainLine said = q.plain said (0, omega arith, refl) in
    record {
      leave = leave-append own more q.leave n.leave;
      pass = λ slot. passes-append slot own more (q.pass slot) (n.pass slot);
      hits = plain_before said lines plain ∙ n.hits;
      plain = λ other k. by other plain k;
      shows = λ v k. elim k [
        | inl s ↦ told_left own more v (q.shows v (inl s))
        | inr s ↦ told_right own more v (n.shows v s)
      ];
    }
  where
    by : (other : line.Reply) → IsPlainLine said → Contains (said ∷ lines) other → IsPlainLine other
    by other plain (zero, lt, e) = subst IsPlainLine e plain
    by other plain (suc k, lt, e) = n.plain other (k, omega (arith, lt), e)

pub quiet_each : (id sum : ℕ) (records : List (Option (List TextLine))) (calls : Calls) (lines : Lines)
    → RegistersEach id sum records calls lines → IsQuiet calls lines
quiet_each id sum [] calls lines h =
    subst (λ (cs : Calls). IsQuiet cs lines) (sym h.0)
    (subst (λ (l : Lines). IsQuiet [] l) (sym h.1) (quiet_note Silence))
quiet_each id sum (r ∷ records) calls lines (act, own, more, said, rest, may, by, e, f, next) =
    subst (λ (cs : Calls). IsQuiet cs lines) (sym e)
    (subst (λ (l : Lines). IsQuiet (own ++ more) l) (sym f)
    (quiet_more own more said rest (quiet_by by) (quiet_each (suc id) (sum + counted r) records more rest next)))

-- a line has one reading
abbrev pub OneReading : Type 0
OneReading = (text : List ℕ) (a b : Result Command LineRefusal) → IsLine text a → IsLine text b → a ≡ b

-- the act is one of the command's, unless it only says something
abbrev pub Fits : Standing → List TextLine → Command → Act → Type 0
Fits standing more order (Say note) = Unit {0}
Fits standing more order act = Allows standing more (Ok order) act

fits_say : (standing : Standing) (more : List TextLine) (order : Command) (act : Act) (note : Note) → act ≡ Say note
    → Fits standing more order act
fits_say standing more order act note e = subst (Fits standing more order) (sym e) tt

fits_all : (standing : Standing) (more : List TextLine) (order : Command) (act : Act)
    → Allows standing more (Ok order) act → Fits standing more order act
fits_all standing more order (Say note) a = tt
fits_all standing more order _ a = a

pub fits : OneReading → (standing : Standing) (request : Request) (act : Act) (order : Command)
    → RequestAllows standing request act → IsCommand request order
    → Fits standing request.more order act
fits reading standing request act order (inl a) is =
    fits_say standing request.more order act _ a.1
fits reading standing request act order (inr (short, text, e, read, line, a)) is =
    let same : is.0 ≡ text = one_text is.0 text (sym is.1 ∙ e) in
    let one : read ≡ Ok order =
    reading text read (Ok order) line (subst (λ (t : List ℕ). IsLine t (Ok order)) same is.2) in
    fits_all standing request.more order act
    (subst (λ (r : Result Command LineRefusal). Allows standing request.more r act) one a)
  where
    one_text : (a b : List ℕ) → Whole a ≡ Whole b → a ≡ b
    one_text a b e = cc
