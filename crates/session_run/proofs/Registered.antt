-- Records that are answered one after another.
use Rattle.std.proofs.Common.{◌≡◌, ◌∙◌, ◌≤◌, ◌<◌, ◌+◌, ◌++◌, ap, append_assoc, append-nil, arith, drop, Err, false, IsSome, inl, inr, length, List, [], ◌∷◌, None, Ok, Option, option_to_list, refl, Result, slice_get, Some, subst, suc, sym, zero, ℕ}
use Rattle.std.proofs.lemmas.Grind.{flat_map-append}
use Rattle.std.specs.Arc.{arc_value}
use Rattle.std.specs.declared.alloc.Global.{Global}
use Rattle.std.specs.declared.vec.Vec.{Vec}
use Rattle.io_edge.specs.Lines.{TextLine}
use Rattle.mol_finish.specs.Structure.{IsAnswer}
use Rattle.mol_finish.specs.declared.fault.Format.{Format}
use Rattle.mol_finish.specs.declared.fault.Format.TheVariants.{Molfile}
use Rattle.mol_finish.specs.declared.fault.TextFault.{TextFault}
use Rattle.mol_finish.specs.declared.fault.TextFault.TheVariants as faults
use Rattle.sd_read.specs.Records.{AreMade, IsMade}
use Rattle.shell_lang.specs.Reply as line
use Rattle.shell_lang.specs.Reply.{reply_line, text_of}
use Rattle.shell_lang.specs.declared.reply.Refusal.{Refusal}
use Rattle.shell_lang.specs.declared.reply.Refusal.TheVariants as refusals
use Rattle.store_core.specs.Records.{IsRecord, Shared}
use Rattle.store_core.specs.Replies.{change_of}
use Rattle.store_core.specs.declared.service.Service as meaning
use Rattle.store_core.specs.declared.words.Change.TheVariants as asked
use Rattle.store_machine.specs.Runs.{IsCalm, IsRun}
use Rattle.store_machine.specs.Structures.{IsText}
use Rattle.store_machine.specs.declared.machine.Change.{Change}
use Rattle.store_machine.specs.declared.machine.Change.TheVariants as changes
use Rattle.store_machine.specs.declared.machine.Event.TheVariants as events
use Rattle.store_machine.specs.declared.machine.State.{State}
use Rattle.store_machine.specs.declared.machine.Step.{Step}
use Rattle.session_acts.specs.Acts.{Act, AnswersBy, Ask, Asks, Does, Fault, Faults, FoundData, Lines, ListedSame, ListedSimilar, Closed, MayAsk, MayChange, MayRegister, Opened, Refused, Refuses, RegisterEach, RegisteredEach, RegisteredNew, RegistersEach, Replies, Responds, Say, Says, Searched, Silence, Turned}
use Rattle.session_acts.specs.Cursors.{Calls, Cursor}
use Rattle.session_acts.specs.Records.{counted}
use Rattle.session_acts.specs.Requests.{has_long, molfile_text}
use Rattle.session_acts.specs.Watching.{AfterCalls, Standing, Watched}
use Rattle.session_acts.specs.declared.limits.TheConstants.{MOST_SD_BYTES}
use Rattle.session_acts.proofs.WatchActs.{by_commit}
use Rattle.session_run.specs.Made.{AnsweredBy, Broken, Said, Unsaid, Uses}
use Rattle.session_run.specs.Responds.{IsTextRefusal}
use Rattle.session_run.specs.Standings.{Keeps, both}
use Rattle.session_run.specs.Taken.{AreKept, AreRead, AreTaken, IsReady, Registers}
use Rattle.session_run.specs.declared.records.Kept.{Kept}
use Rattle.session_run.specs.declared.records.Kept.TheVariants as keeps
use Rattle.session_run.specs.declared.records.SdTexts.{SdTexts}
use Rattle.dialogue.specs.declared.end.Stop.{Stop}
use Rattle.dialogue.specs.declared.end.Stop.TheVariants as stops
use Rattle.session_run.proofs.Joined.{uses-more}
use Rattle.session_run.proofs.Lines.{answered_as, may_change, text_is}
use Rattle.session_run.proofs.Standing.{over-append}

-- the records that are left are not called for
abbrev faults_of : List (Option (List TextLine)) → Lines
faults_of [] = []
faults_of (r ∷ rs) = line.MemoryFault ∷ faults_of rs

faults_each : (id sum : ℕ) (rs : List (Option (List TextLine))) → RegistersEach id sum rs [] (faults_of rs)
faults_each id sum [] = (refl, refl)
faults_each id sum (r ∷ rs) =
    let others = faults_each (suc id) (sum + counted r) rs in
    (Say Fault, [], [], line.MemoryFault, faults_of rs, tt, Faults, refl, refl, others)

-- a record, and those behind it
each_more : (id sum : ℕ) (r : Option (List TextLine)) (rs : List (Option (List TextLine))) (own more : Calls)
    (lines others : Lines) → Registers id (sum + counted r) r own lines
    → RegistersEach (suc id) (sum + counted r) rs more others
    → RegistersEach id sum (r ∷ rs) (own ++ more) (lines ++ others)
each_more id sum r rs own more lines others (act, said, may, by, e) h =
    (act, own, more, said, others, may, by, refl, ap (λ (l : Lines). l ++ others) e, h)

-- Records under way: the calls and lines so far, however those that are left are answered
pub record IsUnderWay {S : Type 0} (of : meaning.Ghosts S) (old now : S) (first : ℕ)
    (records : List (Option (List TextLine))) (w w' : List Watched) (out out' : List ℕ) (id sum : ℕ)
    (rest : List (Option (List TextLine))) : Type 0 where
  pub calls : Calls
  pub lines : Lines
  pub made : Uses of old now calls
  pub over : AfterCalls calls w w'
  pub said : out' ≡ out ++ text_of lines
  pub goes : (more : Calls) (others : Lines) → RegistersEach id sum rest more others
      → RegistersEach first 0 records (calls ++ more) (lines ++ others)

-- what is answered in the end
abbrev pub EachAnswer : ℕ → List (Option (List TextLine)) → List Watched → Calls → Lines → List Watched → Type 0
EachAnswer first records w calls lines w' = Keeps (RegistersEach first 0 records) w calls lines w'

module _ {S : Type 0} {of : meaning.Ghosts S} (first : ℕ) (records : List (Option (List TextLine))) where
  pub way_none : (old : S) (w : List Watched) (out : List ℕ) → Uses of old old []
      → IsUnderWay of old old first records w w out out first 0 records
  way_none old w out made = record {
    calls = [];
    lines = [];
    made = made;
    over = refl;
    said = sym (append-nil out);
    goes = λ more others h. h;
  }

  -- all were answered
  pub way_done : {old now : S} {w w' : List Watched} {out out' : List ℕ} {id sum : ℕ}
      → IsUnderWay of old now first records w w' out out' id sum []
      → AnsweredBy of old now (EachAnswer first records w) out out' w' (Ok tt)
  way_done u = Said tt (record {
    calls = u.calls;
    lines = u.lines;
    made = u.made;
    is = (
      subst (λ (l : Lines). RegistersEach first 0 records u.calls l) (append-nil u.lines)
          (subst (λ (cs : Calls). RegistersEach first 0 records cs (u.lines ++ [])) (append-nil u.calls)
          (u.goes [] [] (refl, refl))),
      u.over,
    );
  }) u.said

  -- none was, since there is no room for the lines
  pub none_done : {old : S} {w : List Watched} {out out' : List ℕ} → Uses of old old []
      → AnsweredBy of old old (EachAnswer first records w) out out' w (Err stops.NoMemory)
  none_done made = Unsaid (record {
    calls = [];
    lines = faults_of records;
    made = made;
    is = (faults_each first 0 records, refl);
  })

  -- a record more was answered
  pub way_more : ((a b c : S) (s t u : State) (xs ys : List Step) → of.stretch a b s xs t → of.stretch b c t ys u
      → of.stretch a c s (xs ++ ys) u)
      → ((a b : S) (s t : State) (xs : List Step) → of.stretch a b s xs t → of.at b t × IsRun s xs t × IsCalm xs)
      → ((a b : S) (s t : State) (xs : List Step) (n : ℕ) → of.stretch a b s xs t → of.owns b n ≡ of.owns a n)
      → {old now next : S} {w w' w'' : List Watched} {out out' out'' : List ℕ} {id sum : ℕ} {r : Option (List TextLine)}
      {rs : List (Option (List TextLine))} → IsUnderWay of old now first records w w' out out' id sum (r ∷ rs)
      → AnsweredBy of now next (Keeps (Registers id (sum + counted r) r) w') out' out'' w'' (Ok tt)
      → IsUnderWay of old next first records w w'' out out'' (suc id) (sum + counted r) rs
  way_more joins lands same {w = w} {w'} {w''} {out = out} {id = id} {sum} {r} {rs} way (Said u did e) = record {
    calls = way.calls ++ did.calls;
    lines = way.lines ++ did.lines;
    made = uses-more joins lands same way.made did.made;
    over = over-append way.calls did.calls w w' w'' way.over did.is.1;
    said = e ∙ (ap (λ t. t ++ text_of did.lines) way.said
        ∙ (append_assoc out (text_of way.lines) (text_of did.lines)
        ∙ ap (λ t. out ++ t) (sym (flat_map-append reply_line way.lines did.lines))));
    goes = λ more others h.
        subst (λ (l : Lines). RegistersEach first 0 records ((way.calls ++ did.calls) ++ more) l)
        (sym (append_assoc way.lines did.lines others))
        (subst (λ (cs : Calls). RegistersEach first 0 records cs (way.lines ++ (did.lines ++ others)))
        (sym (append_assoc way.calls did.calls more))
        (way.goes (did.calls ++ more) (did.lines ++ others)
        (each_more id sum r rs did.calls more did.lines others did.is.0 h)));
  }

  -- no more is answered
  pub way_stopped : ((a b c : S) (s t u : State) (xs ys : List Step) → of.stretch a b s xs t → of.stretch b c t ys u
      → of.stretch a c s (xs ++ ys) u)
      → ((a b : S) (s t : State) (xs : List Step) → of.stretch a b s xs t → of.at b t × IsRun s xs t × IsCalm xs)
      → ((a b : S) (s t : State) (xs : List Step) (n : ℕ) → of.stretch a b s xs t → of.owns b n ≡ of.owns a n)
      → {old now next : S} {w w' w'' : List Watched} {out out' out'' : List ℕ} {id sum : ℕ} {r : Option (List TextLine)}
      {rs : List (Option (List TextLine))} (stop : Stop)
      → IsUnderWay of old now first records w w' out out' id sum (r ∷ rs)
      → AnsweredBy of now next (Keeps (Registers id (sum + counted r) r) w') out' out'' w'' (Err stop)
      → AnsweredBy of old next (EachAnswer first records w) out out'' w'' (Err stop)
  way_stopped joins lands same {w = w} {w'} {w''} {id = id} {sum} {r} {rs} stop way (Unsaid did) = Unsaid (record {
    calls = way.calls ++ (did.calls ++ []);
    lines = way.lines ++ (did.lines ++ faults_of rs);
    made = uses-more joins lands same way.made
        (subst (λ (cs : Calls). Uses of _ _ cs) (sym (append-nil did.calls)) did.made);
    is = (
      way.goes (did.calls ++ []) (did.lines ++ faults_of rs)
          (each_more id sum r rs did.calls [] did.lines (faults_of rs) did.is.0
          (faults_each (suc id) (sum + counted r) rs)),
      over-append way.calls (did.calls ++ []) w w' w'' way.over
          (over-append did.calls [] w' w'' w'' did.is.1 refl),
    );
  })
  way_stopped joins lands same {w = w} {w'} {id = id} {sum} {r} {rs} stop way (Broken b) = Broken (record {
    calls = way.calls ++ b.calls;
    whole = way.calls ++ (b.whole ++ []);
    lines = way.lines ++ (b.lines ++ faults_of rs);
    after = b.after;
    made = uses-more joins lands same way.made b.made;
    begins = (
      b.begins.0,
      append_assoc way.calls b.calls b.begins.0
          ∙ ap (λ (cs : Calls). way.calls ++ cs) (b.begins.1 ∙ sym (append-nil b.whole)),
    );
    is = (
      way.goes (b.whole ++ []) (b.lines ++ faults_of rs)
          (each_more id sum r rs b.whole [] b.lines (faults_of rs) b.is.0
          (faults_each (suc id) (sum + counted r) rs)),
      over-append way.calls (b.whole ++ []) w w' b.after way.over
          (over-append b.whole [] w' b.after b.after b.is.1 refl),
    );
    worn = b.worn;
  })

  -- as an act
  pub each_done : {old now : S} {w w' : List Watched} {out out' : List ℕ} {result : Result (Unit {0}) Stop} (size : ℕ)
      (cursors : List Cursor) → AnsweredBy of old now (EachAnswer first records w) out out' w' result
      → AnsweredBy of old now (Responds size (λ act. act ≡ RegisterEach first records) (both cursors w)) out out'
      (both cursors w') result
  each_done size cursors a =
      answered_as (λ (w : List Watched). both cursors w) (λ calls lines x e.
      record {
        act = RegisterEach first records;
        allowed = refl;
        does = inl (RegisteredEach first records calls lines e.0, e.1);
      }) a

-- one line that is said
pub registers_note : (id sum : ℕ) (r : Option (List TextLine)) (refusal : Refusal)
    → MayRegister id sum r (Say (Refused refusal)) → Registers id sum r [] (line.Refused refusal ∷ [])
registers_note id sum r refusal may = (Say (Refused refusal), line.Refused refusal, may, Refuses refusal, refl)

pub registers_fault : (id sum : ℕ) (r : Option (List TextLine)) → Registers id sum r [] (line.MemoryFault ∷ [])
registers_fault id sum r = (Say Fault, line.MemoryFault, tt, Faults, refl)

-- a text that is refused
pub registers_refused : (id sum : ℕ) (r : Option (List TextLine)) (fault : TextFault) (one : line.Reply)
    → IsReady id sum r (Some keeps.Text) (Some (Err fault)) → IsTextRefusal fault one
    → Registers id sum r [] (one ∷ [])
registers_refused id sum r fault one (lines, e, le, short, made) is =
    subst (λ (x : Option (List TextLine)). Registers id sum x [] (one ∷ [])) (sym e)
    (by fault made.refused is)
  where
    by : (f : TextFault) → IsAnswer Molfile (molfile_text lines) (Err f) → IsTextRefusal f one
        → Registers id sum (Some lines) [] (one ∷ [])
    by faults.NoMemory h is =
        subst (λ (l : line.Reply). Registers id sum (Some lines) [] (l ∷ [])) (sym is)
        (registers_fault id sum (Some lines))
    by f h is =
        subst (λ (l : line.Reply). Registers id sum (Some lines) [] (l ∷ [])) (sym is)
        (registers_note id sum (Some lines) (refusals.Text f) (inr (le, inr (short, h))))

-- what a commit did
may_register : (id sum : ℕ) (lines : List TextLine) (act : Act) → sum ≤ MOST_SD_BYTES → has_long lines ≡ false
    → MayChange (changes.Register id Molfile (molfile_text lines)) Molfile (molfile_text lines) act
    → MayRegister id sum (Some lines) act
may_register id sum lines (Say Fault) le short may = tt
may_register id sum lines (Say Silence) le short may = absurd may
may_register id sum lines (Say (Refused refusal)) le short may = inr (le, inr (short, may))
may_register id sum lines (Ask event) le short may = inr (le, inr (short, may))
may_register id sum lines _ le short may = absurd may

committed : {size : ℕ} {cursors cursors' : List Cursor} (change : Change) (act : Act) (calls : Calls) (lines : Lines)
    → MayAsk (events.Commit change) act → Does size cursors act calls lines cursors'
    → (said : line.Reply) × AnswersBy act calls said × (lines ≡ said ∷ [])
committed change act calls lines may (Says Fault) = (line.MemoryFault, Faults, refl)
committed change act calls lines may (Says Silence) = absurd may
committed change act calls lines may (Says (Refused refusal)) = absurd may
committed change act calls lines may (Asks event reply said is) = (said, Replies event reply said is, refl)
committed change act calls lines may (Searched pattern _ _ found) = absurd may
committed change act calls lines may (Opened name pattern want slot version new need) = absurd may
committed change act calls lines may (Turned name before after c c' _ _ named advances) = absurd may
committed change act calls lines may (Closed name before after c named) = absurd may
committed change act calls lines may (ListedSame m print _ _ s) = absurd may
committed change act calls lines may (RegisteredNew own m print _ _ s) = absurd may
committed change act calls lines may (ListedSimilar p q k print _ _ s) = absurd may
committed change act calls lines may (RegisteredEach own records _ _ s) = absurd may
committed change act calls lines may (FoundData own name reply said is) = absurd may

pub registers_committed : (id sum : ℕ) (r : Option (List TextLine)) (entry : Shared) (size : ℕ) (cursors : List Cursor)
    (w : List Watched) → IsReady id sum r (Some keeps.Text) (Some (Ok entry)) → IsRecord (arc_value entry)
    → (calls : Calls) (lines : Lines) (x : Standing)
    → Responds size (MayAsk (events.Commit (change_of (asked.Register entry)))) (both cursors w) calls lines x
    → Keeps (Registers id sum r) w calls lines x.watches
registers_committed id sum r entry size cursors w (own, e, le, short, made) sound calls lines x a =
    let it = arc_value entry in
    let text = molfile_text own in
    let same : changes.Register it.id it.format it.text ≡ changes.Register id Molfile text =
    rw (made.identifier, made.molfile, made.bytes) refl in
    let is : IsText Molfile text =
    subst (λ (t : List ℕ). IsText Molfile t) made.bytes
    (subst (λ (f : Format). IsText f it.text) made.molfile (text_is it sound)) in
    let d = by_commit _ a.allowed a.does in
    let c = committed (change_of (asked.Register entry)) a.act calls lines a.allowed d.0 in
    let may = may_change _ (changes.Register id Molfile text) Molfile text same is a.act a.allowed in (
      subst (λ (k : Option (List TextLine)). Registers id sum k calls lines) (sym e)
          (a.act, c.0, may_register id sum own a.act le short may, c.1, c.2),
      d.1,
    )

-- what is kept of the first of the records that are left
abbrev pub head_of : {X : Type 0} → List X → Option X
head_of [] = None
head_of (x ∷ xs) = Some x

abbrev pub tail_of : {X : Type 0} → List X → List X
tail_of [] = []
tail_of (x ∷ xs) = xs

pub ready : (id sum : ℕ) (r : Option (List TextLine)) (rs : List (Option (List TextLine))) (ks : List Kept)
    (ts : List (Vec ℕ Global)) (answers : List (Result Shared TextFault)) → AreKept sum (r ∷ rs) ks ts
    → AreRead id ts answers
    → IsReady id (sum + counted r) r (head_of ks) (head_of answers)
    × AreKept (sum + counted r) rs (tail_of ks) (tail_of ts) × AreRead (suc id) (tail_of ts) (tail_of answers)
ready id sum r rs [] ts [] h k = (tt, tt, tt)
ready id sum r rs [] [] (a ∷ answers) h k = absurd k
ready id sum r rs [] (t ∷ ts) (a ∷ answers) h k = (tt, tt, k.1)
ready id sum r rs (keeps.Lost ∷ ks) [] answers h k = absurd h
ready id sum r rs (keeps.Lost ∷ ks) (t ∷ ts) [] h k = (tt, h.1, tt)
ready id sum r rs (keeps.Lost ∷ ks) (t ∷ ts) (a ∷ answers) h k = (tt, h.1, k.1)
ready id sum r rs (keeps.Refused refusal ∷ ks) [] answers h k = absurd h
ready id sum r rs (keeps.Refused refusal ∷ ks) (t ∷ ts) [] h k = (h.0 id, h.1, tt)
ready id sum r rs (keeps.Refused refusal ∷ ks) (t ∷ ts) (a ∷ answers) h k = (h.0 id, h.1, k.1)
ready id sum r rs (keeps.Text ∷ ks) [] answers h k = absurd h
ready id sum r rs (keeps.Text ∷ ks) (t ∷ ts) [] h k = ((h.0.0, h.0.1, h.0.2, h.0.3, tt), h.1, tt)
ready id sum r rs (keeps.Text ∷ ks) (t ∷ ts) (a ∷ answers) h k = (
  (h.0.0, h.0.1, h.0.2, h.0.3, subst (λ (x : List ℕ). IsMade id x a) h.0.4 k.0),
  h.1,
  k.1,
)

pub head_at : (ks : List Kept) (place : ℕ) → slice_get ks place ≡ head_of (drop place ks)
head_at [] zero = refl
head_at [] (suc place) = refl
head_at (k ∷ ks) zero = refl
head_at (k ∷ ks) (suc place) = head_at ks place

pub tail_at : (ks : List Kept) (place : ℕ) → drop (suc place) ks ≡ tail_of (drop place ks)
tail_at [] zero = refl
tail_at [] (suc place) = refl
tail_at (k ∷ ks) zero = refl
tail_at (k ∷ ks) (suc place) = tail_at ks place

-- the answers to texts are those to the first of them, one after another
pub read_all : (first : ℕ) (ts : List (Vec ℕ Global)) (answers : List (Result Shared TextFault))
    → AreMade first ts answers → AreRead first ts answers
read_all first ts [] h = tt
read_all first [] (a ∷ answers) h = absurd h
read_all first (t ∷ ts) (a ∷ answers) h =
    let e : first + 1 ≡ suc first = omega arith in
    (h.0, read_all (suc first) ts answers (subst (λ (n : ℕ). AreMade n ts answers) e h.1))

-- where the records and their answers are
pub record IsAt {S : Type 0} (of : meaning.Ghosts S) (old now : S) (first : ℕ)
    (records : List (Option (List TextLine))) (texts : SdTexts) (w w' : List Watched) (out out' : List ℕ) (place : ℕ)
    (answers : List (Result Shared TextFault)) : Type 0 where
  pub sum : ℕ
  pub rest : List (Option (List TextLine))
  pub ts : List (Vec ℕ Global)
  pub under : IsUnderWay of old now first records w w' out out' (first + place) sum rest
  pub number : place + length rest ≡ length records
  pub kept : AreKept sum rest (drop place texts.kept.items) ts
  pub read : AreRead (first + place) ts answers

pub at_none : {S : Type 0} (of : meaning.Ghosts S) (old : S) (first : ℕ) (records : List (Option (List TextLine)))
    (texts : SdTexts) (w : List Watched) (out : List ℕ) (answers : List (Result Shared TextFault)) → Uses of old old []
    → AreTaken records texts → AreRead first texts.texts.items answers
    → IsAt of old old first records texts w w out out 0 answers
at_none of old first records texts w out answers made taken read =
    let e : first ≡ first + 0 = omega arith in
    record {
      sum = 0;
      rest = records;
      ts = texts.texts.items;
      under = subst (λ (n : ℕ). IsUnderWay of old old first records w w out out n 0 records) e
          (way_none first records old w out made);
      number = omega arith;
      kept = taken.are;
      read = subst (λ (n : ℕ). AreRead n texts.texts.items answers) e read;
    }

none_is_some : (X : Type 0) → IsSome {T = X} None → ⊥
none_is_some X h = cc

-- the next answer that is taken
pub popped : {X : Type 0} (old new : List X) (r : Option X) → old ≡ option_to_list r ++ new
    → (0 < length old → IsSome r) → (r ≡ head_of old) × (new ≡ tail_of old)
popped [] new None e some = (refl, sym e)
popped {X} (x ∷ old) new None e some = absurd (none_is_some X (some (omega arith)))
popped {X} old new (Some x) e some =
    subst (λ (l : List X). (Some x ≡ head_of l) × (new ≡ tail_of l)) (sym e) (refl, refl)

-- what is kept of the record at a place, and what making it answered
ready_at : (first : ℕ) (texts : SdTexts) (place : ℕ) (answers others : List (Result Shared TextFault))
    (kept : Option Kept) (answer : Option (Result Shared TextFault)) → kept ≡ slice_get texts.kept.items place
    → answer ≡ head_of answers → others ≡ tail_of answers
    → (sum : ℕ) (r : Option (List TextLine)) (rs : List (Option (List TextLine))) (ts : List (Vec ℕ Global))
    → AreKept sum (r ∷ rs) (drop place texts.kept.items) ts → AreRead (first + place) ts answers
    → IsReady (first + place) (sum + counted r) r kept answer
    × AreKept (sum + counted r) rs (drop (suc place) texts.kept.items) (tail_of ts)
    × AreRead (first + suc place) (tail_of ts) others
ready_at first texts place answers others kept answer kept_is answer_is others_are sum r rs ts k read =
    let h = ready (first + place) sum r rs (drop place texts.kept.items) ts answers k read in
    let next_id : suc (first + place) ≡ first + suc place = omega arith in (
      subst (λ (q : Option Kept). IsReady (first + place) (sum + counted r) r q answer)
          (sym (kept_is ∙ head_at texts.kept.items place))
          (subst (λ (q : Option (Result Shared TextFault)).
          IsReady (first + place) (sum + counted r) r (head_of (drop place texts.kept.items)) q) (sym answer_is) h.0),
      subst (λ (l : List Kept). AreKept (sum + counted r) rs l (tail_of ts)) (sym (tail_at texts.kept.items place)) h.1,
      subst (λ (n : ℕ). AreRead n (tail_of ts) others) next_id
          (subst (λ (l : List (Result Shared TextFault)). AreRead (suc (first + place)) (tail_of ts) l)
          (sym others_are) h.2),
    )

-- a record more is answered, or no more are
module _ {S : Type 0} {of : meaning.Ghosts S} (first : ℕ) (records : List (Option (List TextLine))) (texts : SdTexts)
    (joins : (a b c : S) (s t u : State) (xs ys : List Step) → of.stretch a b s xs t → of.stretch b c t ys u
    → of.stretch a c s (xs ++ ys) u)
    (lands : (a b : S) (s t : State) (xs : List Step) → of.stretch a b s xs t → of.at b t × IsRun s xs t × IsCalm xs)
    (same : (a b : S) (s t : State) (xs : List Step) (n : ℕ) → of.stretch a b s xs t → of.owns b n ≡ of.owns a n)
    (old now next : S) {w w' w'' : List Watched} (out out' out'' : List ℕ) (place : ℕ)
    (answers others : List (Result Shared TextFault)) (kept : Option Kept) (answer : Option (Result Shared TextFault)) (kept_is : kept ≡ slice_get texts.kept.items place)
    (answer_is : answer ≡ head_of answers) (others_are : others ≡ tail_of answers) where
  pub at_more : IsAt of old now first records texts w w' out out' place answers → place < length records
      → ((id sum : ℕ) (r : Option (List TextLine)) → IsReady id sum r kept answer
      → AnsweredBy of now next (Keeps (Registers id sum r) w') out' out'' w'' (Ok tt))
      → IsAt of old next first records texts w w'' out out'' (suc place) others
  at_more t within did = by t.rest t.number t.under t.kept where
    by : (rest : List (Option (List TextLine))) → place + length rest ≡ length records
        → IsUnderWay of old now first records w w' out out' (first + place) t.sum rest
        → AreKept t.sum rest (drop place texts.kept.items) t.ts
        → IsAt of old next first records texts w w'' out out'' (suc place) others
    by [] e way k = absurd (omega (arith, e, within))
    by (r ∷ rs) e way k =
        let h = ready_at first texts place answers others kept answer kept_is answer_is others_are t.sum r rs t.ts k
        t.read in
        let next_id : suc (first + place) ≡ first + suc place = omega arith in
        record {
          sum = t.sum + counted r;
          rest = rs;
          ts = tail_of t.ts;
          under = subst (λ (n : ℕ). IsUnderWay of old next first records w w'' out out'' n (t.sum + counted r) rs) next_id
              (way_more first records joins lands same way (did (first + place) (t.sum + counted r) r h.0));
          number = omega (arith, e);
          kept = h.1;
          read = h.2;
        }

  pub at_stopped : (stop : Stop) → IsAt of old now first records texts w w' out out' place answers
      → place < length records
      → ((id sum : ℕ) (r : Option (List TextLine)) → IsReady id sum r kept answer
      → AnsweredBy of now next (Keeps (Registers id sum r) w') out' out'' w'' (Err stop))
      → AnsweredBy of old next (EachAnswer first records w) out out'' w'' (Err stop)
  at_stopped stop t within did = by t.rest t.number t.under t.kept where
    by : (rest : List (Option (List TextLine))) → place + length rest ≡ length records
        → IsUnderWay of old now first records w w' out out' (first + place) t.sum rest
        → AreKept t.sum rest (drop place texts.kept.items) t.ts
        → AnsweredBy of old next (EachAnswer first records w) out out'' w'' (Err stop)
    by [] e way k = absurd (omega (arith, e, within))
    by (r ∷ rs) e way k =
        let h = ready_at first texts place answers others kept answer kept_is answer_is others_are t.sum r rs t.ts k
        t.read in
        way_stopped first records joins lands same stop way (did (first + place) (t.sum + counted r) r h.0)

pub at_end : {S : Type 0} {of : meaning.Ghosts S} {old now : S} {w w' : List Watched} {out out' : List ℕ} (first : ℕ)
    (records : List (Option (List TextLine))) (texts : SdTexts) (place : ℕ) (answers : List (Result Shared TextFault))
    → IsAt of old now first records texts w w' out out' place answers → length records ≤ place
    → AnsweredBy of old now (EachAnswer first records w) out out' w' (Ok tt)
at_end {of = of} {old} {now} {w} {w'} {out} {out'} first records texts place answers t all = by t.rest t.number t.under where
  by : (rest : List (Option (List TextLine))) → place + length rest ≡ length records
      → IsUnderWay of old now first records w w' out out' (first + place) t.sum rest
      → AnsweredBy of old now (EachAnswer first records w) out out' w' (Ok tt)
  by [] e way = way_done first records way
  by (r ∷ rs) e way = absurd (omega (arith, e, all))
