-- Answers by their lines: what was said, what a call's reply gave, and answers told in other words.
use Rattle.std.proofs.Common.{◌≡◌, ◌≢◌, IfErr, IfOk, ◌++◌, ◌∙◌, ap, append-nil, Bool, Err, inr, length, List, [], ◌∷◌, Ok, OnErr, refl, Result, subst, sym, true, ℕ}
use Rattle.chem_core.specs.Molecule.{Molecule}
use Rattle.mol_finish.specs.Structure.{IsAnswer}
use Rattle.mol_finish.specs.declared.fault.Format.{Format}
use Rattle.mol_finish.specs.declared.fault.TextFault.{TextFault}
use Rattle.mol_finish.specs.declared.fault.TextFault.TheVariants as faults
use Rattle.par_search.specs.declared.fault.SearchFault.{SearchFault}
use Rattle.par_search.specs.declared.fault.SearchFault.TheVariants as searches
use Rattle.path_print.specs.Prints.{IsPrint}
use Rattle.shell_lang.specs.Reply as line
use Rattle.shell_lang.specs.Reply.{reply_line, reply_of}
use Rattle.shell_lang.specs.declared.reply.Refusal.TheVariants as refusals
use Rattle.shell_lang.specs.declared.reply.Reply as written
use Rattle.smarts_parse.specs.Pattern.{pattern_of}
use Rattle.smarts_parse.specs.Reading.{IsReading, answer_of}
use Rattle.smarts_parse.specs.declared.fault.SmartsFault.{SmartsFault}
use Rattle.smarts_parse.specs.declared.fault.SmartsFault.TheVariants as patterns
use Rattle.smarts_parse.specs.declared.pattern.Pattern.{Pattern}
use Rattle.store_core.specs.Calls as core
use Rattle.store_core.specs.Calls.{NotRaised, SameHeld}
use Rattle.store_core.specs.Records.{IsRecord, RecordTerm}
use Rattle.store_core.specs.declared.service.Service as meaning
use Rattle.store_machine.specs.Structures.{IsPrintOf, IsText}
use Rattle.store_machine.specs.declared.machine.Change.{Change}
use Rattle.store_machine.specs.declared.machine.Event.{Event}
use Rattle.store_machine.specs.declared.machine.Event.TheVariants as events
use Rattle.store_machine.specs.declared.machine.Reply.{Reply}
use Rattle.store_machine.specs.declared.machine.Reply.TheVariants as replies
use Rattle.store_machine.specs.declared.machine.State.{State}
use Rattle.session_acts.specs.Acts.{Act, Answers, Ask, Asks, Fault, IsLineOf, Lines, MayAsk, MayChange, Note, Refused, Say, Says, note_lines}
use Rattle.session_acts.specs.Cursors.{Calls, Cursor}
use Rattle.session_acts.specs.Pins.{Leaves, effect}
use Rattle.session_acts.specs.Texts.{IsPatternFault, IsPatternOf}
use Rattle.session_run.specs.Made.{Answered, AnsweredBy, Broken, Gives, IsLineIn, Said, Tells, Unsaid, Uses, Writes, without_room}
use Rattle.session_run.specs.Responds.{IsTextRefusal}
use Rattle.session_run.specs.Searched.{Begins, IsFaultLine, IsPatternRefusal}
use Rattle.dialogue.specs.declared.end.Stop.{Stop}
use Rattle.dialogue.specs.declared.end.Stop.TheVariants as stops
use Rattle.session_run.proofs.Joined.{uses-kept}

-- a line that is said
pub said : {X : Type 0} {Made : Calls → Type 0} {IsWorn : Type 0} {Is : Calls → Lines → X → Type 0} {out out' : List ℕ}
    {x : X} (calls : Calls) (one : line.Reply) (result : Result (Unit {0}) Stop) → Made calls → Is calls (one ∷ []) x
    → Tells one out out' result → Answered Made IsWorn Is out out' x result
said {out = out} calls one (Ok u) m is e =
    Said u (record { calls = calls; lines = one ∷ []; made = m; is = is })
    (e ∙ ap (λ t. out ++ t) (sym (append-nil (reply_line one))))
said calls one (Err stops.NoMemory) m is e = Unsaid (record { calls = calls; lines = one ∷ []; made = m; is = is })
said calls one (Err stops.Worn) m is e = absurd e

-- a service that is worn before the first call
pub broken : {X : Type 0} {Made : Calls → Type 0} {IsWorn : Type 0} {Is : Calls → Lines → X → Type 0}
    {out out' : List ℕ} {x : X} (whole : Calls) (lines : Lines) (after : X) (result : Result (Unit {0}) Stop) → Made []
    → IsWorn → Is whole lines after → result ≡ Err stops.Worn → Answered Made IsWorn Is out out' x result
broken {Made = Made} {IsWorn} {Is} {out} {out'} {x} whole lines after result m worn is e =
    subst (λ (r : Result (Unit {0}) Stop). Answered Made IsWorn Is out out' x r) (sym e) (Broken (record {
      calls = [];
      whole = whole;
      lines = lines;
      after = after;
      made = m;
      begins = (whole, refl);
      is = is;
      worn = worn;
    }))

-- an answer that is told in other words
pub answered_as : {X Y : Type 0} {Made : Calls → Type 0} {IsWorn : Type 0} {Is : Calls → Lines → X → Type 0}
    {As : Calls → Lines → Y → Type 0} {out out' : List ℕ} {x : X} {result : Result (Unit {0}) Stop} (to : X → Y)
    → ((calls : Calls) (lines : Lines) (x : X) → Is calls lines x → As calls lines (to x))
    → Answered Made IsWorn Is out out' x result → Answered Made IsWorn As out out' (to x) result
answered_as to f (Said u did e) =
    Said u (record { calls = did.calls; lines = did.lines; made = did.made; is = f _ _ _ did.is }) e
answered_as to f (Unsaid did) =
    Unsaid (record { calls = did.calls; lines = did.lines; made = did.made; is = f _ _ _ did.is })
answered_as to f (Broken w) = Broken (record {
  calls = w.calls;
  whole = w.whole;
  lines = w.lines;
  after = to w.after;
  made = w.made;
  begins = w.begins;
  is = f _ _ _ w.is;
  worn = w.worn;
})

-- a note
pub noted : {size : ℕ} {Allowed : Act → Type 0} {cursors : List Cursor} (note : Note) → Allowed (Say note)
    → Answers size Allowed cursors [] (note_lines note) cursors
noted note may = record { act = Say note; allowed = may; does = Says note }

-- the line that a call's reply gave
pub in_line : (event : Event) (calls : Calls) (one : line.Reply) → IsLineIn event calls one
    → (reply : Reply) × (calls ≡ (event, reply) ∷ []) × IsLineOf event reply one
in_line event [] one l = absurd l
in_line event (c ∷ cs) one l =
    (c.1, ap (λ (rest : Calls). c ∷ rest) l.2 ∙ ap (λ (e : Event). (e, c.1) ∷ []) l.0, l.1)

module _ {S : Type 0} {of : meaning.Ghosts S} {old new : S} {size : ℕ} {Allowed : Act → Type 0} {cursors : List Cursor}
    {out out' : List ℕ} where
  pub asked : (event : Event) (calls : Calls) (worn : Bool) (given : Result written.Reply Stop)
      (result : Result (Unit {0}) Stop) → ((r : Reply) → effect event r ≡ Leaves)
      → Allowed (Ask event) → (other : Reply) → (one : line.Reply) → IsLineOf event other one
      → ((s : State) → of.at old s → core.Calls of.stretch (of.owns old) old new s calls)
      → SameHeld (of.holds old) (of.holds new) → NotRaised (of.bounds old) (of.bounds new)
      → (worn ≡ true → of.worn new) → Gives event calls worn given → Writes given out out' result
      → AnsweredBy of old new (Answers size Allowed cursors) out out' cursors result
  asked event calls worn (Ok reply) result leaves may other one answers made held bounds is_worn g w =
      let l = in_line event calls (reply_of reply) g in
      said ((event, l.0) ∷ []) (reply_of reply) result
      (uses-kept ((event, l.0) ∷ []) (subst (λ (cs : Calls). (s : State) → of.at old s
      → core.Calls of.stretch (of.owns old) old new s cs) l.1 made) (leaves l.0, tt) held bounds)
      (record { act = Ask event; allowed = may; does = Asks event l.0 (reply_of reply) l.2 }) w
  asked event calls worn (Err stops.Worn) result leaves may other one answers made held bounds is_worn g w =
      broken ((event, other) ∷ []) (one ∷ []) cursors result
      (uses-kept [] (subst (λ (cs : Calls). (s : State) → of.at old s
      → core.Calls of.stretch (of.owns old) old new s cs) g.0 made) tt held bounds) (is_worn g.1)
      (record { act = Ask event; allowed = may; does = Asks event other one answers }) w
  asked event calls worn (Err stops.NoMemory) result leaves may other one answers made held bounds is_worn g w = absurd g

  -- where no search began
  pub unbegun : (fault : SearchFault) (given : Result written.Reply Stop) (result : Result (Unit {0}) Stop)
      → Allowed (Ask events.Pin) → Allowed (Say Fault) → Begins (Uses of old new) (of.worn new) (Err fault)
      → IsFaultLine fault given → Writes given out out' result
      → AnsweredBy of old new (Answers size Allowed cursors) out out' cursors result
  unbegun searches.Pins given result may lacks made is w =
      said ((events.Pin, replies.NoPin) ∷ []) (line.Refused refusals.Pins) result made
      (record { act = Ask events.Pin; allowed = may; does = Asks events.Pin replies.NoPin _ refl })
      (subst (λ (g : Result written.Reply Stop). Writes g out out' result) is w)
  unbegun searches.NoMemory given result may lacks made is w =
      said [] line.MemoryFault result made (noted Fault lacks)
      (subst (λ (g : Result written.Reply Stop). Writes g out out' result) is w)
  unbegun searches.Worn given result may lacks made is w =
      broken [] (line.MemoryFault ∷ []) cursors result made.0 made.1 (noted Fault lacks)
      (subst (λ (g : Result written.Reply Stop). Writes g out out' result) is w)

-- where there is no room for what was looked up
look_short : (id : ℕ) (r : Reply) (one : line.Reply) → IsLineOf (events.Look id) r one
    → IsLineOf (events.Look id) r line.MemoryFault
look_short id (replies.Looked state) one h = inr refl
look_short id replies.NoMemory one h = refl
look_short id _ one h = absurd h

pub gives_room : (id : ℕ) (calls : Calls) (worn : Bool) (given : Result written.Reply Stop)
    → Gives (events.Look id) calls worn given → Gives (events.Look id) calls worn (without_room given)
gives_room id [] worn (Ok reply) g = absurd g
gives_room id (c ∷ cs) worn (Ok reply) g = (g.0, look_short id c.1 (reply_of reply) g.1, g.2)
gives_room id calls worn (Err stop) g = g

-- a text that is refused
pub text_refused : {size : ℕ} {cursors : List Cursor} (change : Change) (format : Format) (text : List ℕ)
    (fault : TextFault) (one : line.Reply) → IsAnswer format text (Err fault) → IsTextRefusal fault one
    → Answers size (MayChange change format text) cursors [] (one ∷ []) cursors
text_refused {size} {cursors} change format text faults.NoMemory one is e =
    subst (λ (l : line.Reply). Answers size (MayChange change format text) cursors [] (l ∷ []) cursors) (sym e)
    (noted Fault tt)
text_refused {size} {cursors} change format text fault one is e =
    subst (λ (l : line.Reply). Answers size (MayChange change format text) cursors [] (l ∷ []) cursors) (sym e)
    (noted (Refused (refusals.Text fault)) is)

-- the change of a text that has a structure
pub may_change : (change change' : Change) (format : Format) (text : List ℕ) → change ≡ change' → IsText format text
    → (act : Act) → MayAsk (events.Commit change) act → MayChange change' format text act
may_change change change' format text e is (Say Fault) a = tt
may_change change change' format text e is (Ask event) a = (a ∙ ap (λ (c : Change). events.Commit c) e, is)
may_change change change' format text e is _ a = absurd a

-- a text that is no pattern
pub pattern_refused : {size : ℕ} {cursors : List Cursor} (Allowed : Act → Type 0) (text : List ℕ) (fault : SmartsFault)
    (one : line.Reply) → Allowed (Say Fault)
    → ((f : SmartsFault) → IsPatternFault text f → Allowed (Say (Refused (refusals.Pattern f))))
    → ((fault ≡ patterns.NoMemory → ⊥) → IsPatternFault text fault) → IsPatternRefusal fault one
    → Answers size Allowed cursors [] (one ∷ []) cursors
pattern_refused {size} {cursors} Allowed text patterns.NoMemory one lacks may is e =
    subst (λ (l : line.Reply). Answers size Allowed cursors [] (l ∷ []) cursors) (sym e) (noted Fault lacks)
pattern_refused {size} {cursors} Allowed text fault one lacks may is e =
    subst (λ (l : line.Reply). Answers size Allowed cursors [] (l ∷ []) cursors) (sym e)
    (noted (Refused (refusals.Pattern fault)) (may fault (is (λ p. cc))))

-- what a text was read as
pub pattern_read : (text : List ℕ) (r : Result Pattern SmartsFault) → IsReading text (answer_of r)
    → IfOk r (λ p. IsPatternOf text (pattern_of p))
pattern_read text (Ok p) is = is
pattern_read text (Err fault) is = tt

pub pattern_fault : (text : List ℕ) (r : Result Pattern SmartsFault) → IsReading text (answer_of r)
    → IfErr r (λ fault. fault ≢ patterns.NoMemory → IsPatternFault text fault)
pattern_fault text (Ok p) is = tt
pattern_fault text (Err fault) is = λ n. (n, is)

pub on_err : {X E : Type 0} (r : Result X E) (P : Type 0) → P → OnErr r P
on_err (Ok x) P p = tt
on_err (Err e) P p = p

pub text_is : (r : RecordTerm) → IsRecord r → IsText r.format r.text
text_is r is = (r.mol, is.structure)

pub printed : (m : Molecule) (print other : List Bool) → other ≡ print → length other ≡ 1024 → IsPrintOf m other
    → IsPrint m print
printed m print other e size bits =
    subst (λ (p : List Bool). IsPrint m p) e (record { size = size; bits = bits })
