-- Which acts a request allows, by what was read of it.
use Rattle.std.proofs.Common.{◌≡◌, ◌⊎◌, ◌++◌, ap, arith, codes, Err, false, true, get_or, inl, inr, length, List, [], ◌∷◌, Ok, refl, Result, subst, suc, sym, zero, ℕ}
use Rattle.std.specs.Fmt.{decimal}
use Rattle.io_edge.specs.Lines.{TextLine, Whole}
use Rattle.mol_finish.specs.declared.fault.Format.{Format}
use Rattle.mol_finish.specs.Structure.{IsAnswer}
use Rattle.mol_finish.specs.declared.fault.Format.TheVariants.{Molfile}
use Rattle.mol_finish.specs.declared.fault.TextFault.{TextFault}
use Rattle.mol_finish.specs.declared.fault.TextFault.TheVariants as faults
use Rattle.shell_lang.specs.Command as command
use Rattle.shell_lang.specs.Command.{Command, IsLine, Spells, StartsMolfile, StartsWith, TakesLines, TakesRecords, molfile_command}
use Rattle.shell_lang.specs.CommandView.{command_of}
use Rattle.shell_lang.specs.Reply as line
use Rattle.shell_lang.specs.declared.command.Command as read
use Rattle.shell_lang.specs.declared.command.Command.TheVariants as variants
use Rattle.shell_lang.specs.declared.command.LineRefusal.{LineRefusal}
use Rattle.shell_lang.specs.declared.command.MolfileChange.{MolfileChange}
use Rattle.shell_lang.specs.declared.command.MolfileChange.TheVariants as molfile
use Rattle.shell_lang.specs.declared.reply.Refusal.TheVariants as refusals
use Rattle.shell_lang.proofs.Cuts.{no_space}
use Rattle.store_machine.specs.declared.machine.Change.{Change}
use Rattle.store_machine.specs.declared.machine.Change.TheVariants as changes
use Rattle.session_acts.specs.Acts.{Act, Allows, Fault, Lines, MayChange, Refused, RegisterEach, RequestAllows, RequestAnswer, Say}
use Rattle.session_acts.specs.Cursors.{Calls}
use Rattle.session_acts.specs.Records.{behind_record, records_in}
use Rattle.session_acts.specs.Requests.{Request, IsLong, TakesMolfile, has_long, molfile_text}
use Rattle.session_acts.specs.Watching.{Standing}
use Rattle.session_run.specs.Made.{Answered}
use Rattle.session_run.specs.Responds.{IsLineWithout, IsTextChange, IsTextRefusal, change_by}
use Rattle.session_run.specs.Underway.{IsNext}
use Rattle.session_run.specs.declared.commands.TextChange.{TextChange}
use Rattle.session_run.specs.declared.commands.Verb.{Verb}
use Rattle.session_run.specs.declared.commands.Verb.TheVariants as verbs
use Rattle.session_run.specs.declared.records.Part.TheVariants as parts
use Rattle.session_run.specs.declared.records.SdTexts.{SdTexts}
use Rattle.session_run.specs.declared.request.Next.TheVariants as nexts
use Rattle.dialogue.specs.declared.end.Stop.{Stop}
use Rattle.session_run.proofs.Standing.{rests}

-- the reply was empty before
pub behind_nothing : {X : Type 0} {Made : Calls → Type 0} {IsWorn : Type 0} {Is : Calls → Lines → X → Type 0}
    {out out' : List ℕ} {x : X} {result : Result (Unit {0}) Stop} → out ≡ []
    → Answered Made IsWorn Is out out' x result → Answered Made IsWorn Is [] out' x result
behind_nothing {Made = Made} {IsWorn} {Is} {out' = out'} {x} {result} e a =
    subst (λ (l : List ℕ). Answered Made IsWorn Is l out' x result) e a

-- a line that is whole, before a molfile without a line that is too long, or before records
pub whole_line : (request : Request) (line : List ℕ) → request.line ≡ Whole line → has_long request.more ≡ false
    → ¬ IsLong request
whole_line request line e none (inl (size, long)) = cc
whole_line request line e none (inr (takes, long)) = cc

pub long_molfile : (request : Request) (line : List ℕ) → request.line ≡ Whole line → StartsMolfile line
    → has_long request.more ≡ true → IsLong request
long_molfile request line e starts long = inr (subst TakesMolfile (sym e) starts, long)

-- the word of records is that of no molfile
abbrev byte_at : ℕ → List ℕ → ℕ
byte_at place line = get_or line place 0

abbrev sd_line : List ℕ → ℕ → List ℕ
sd_line part count = codes "register-sd" ++ 32 ∷ (part ++ 32 ∷ decimal count)

register_apart : (part : List ℕ) (count : ℕ) → StartsWith (sd_line part count) (codes "register-mol") → ⊥
register_apart part count (inl e) =
    let h : 115 ≡ 109 = ap (byte_at 9) e in absurd (omega (arith, h))
register_apart part count (inr (rest, e)) =
    let h : 115 ≡ 109 = ap (byte_at 9) e in absurd (omega (arith, h))

revise_apart : (part : List ℕ) (count : ℕ) → StartsWith (sd_line part count) (codes "revise-mol") → ⊥
revise_apart part count (inl e) =
    let h : 103 ≡ 118 = ap (byte_at 2) e in absurd (omega (arith, h))
revise_apart part count (inr (rest, e)) =
    let h : 103 ≡ 118 = ap (byte_at 2) e in absurd (omega (arith, h))

pub records_apart : (line part : List ℕ) (count : ℕ) → TakesRecords line part count → StartsMolfile line → ⊥
records_apart line part count t starts = by (subst StartsMolfile t.2 starts) where
  by : StartsMolfile (sd_line part count) → ⊥
  by (inl s) = register_apart part count s
  by (inr s) = revise_apart part count s

records_line : (request : Request) (line part : List ℕ) (count : ℕ) → request.line ≡ Whole line
    → TakesRecords line part count → ¬ IsLong request
records_line request line part count e t (inl (size, long)) = cc
records_line request line part count e t (inr long) =
    records_apart line part count t (subst TakesMolfile e long.0)

-- a line that takes no lines
pub line_allows : (standing : Standing) (request : Request) (line : List ℕ) (read : Result Command LineRefusal)
    → (request ≡ record { line = Whole line; more = [] }) × ¬ TakesLines line → IsLine line read → (act : Act)
    → Allows standing request.more read act → RequestAllows standing request act
line_allows standing request line read next is act a = inr (
  subst (λ (r : Request). ¬ IsLong r) (sym next.0)
      (whole_line (record { line = Whole line; more = [] }) line refl refl),
  line,
  ap (λ (r : Request). r.line) next.0,
  read,
  is,
  a,
)

-- a line with its molfile
pub molfile_refused : (standing : Standing) (request : Request) (refusal : LineRefusal) (text : List ℕ)
    (any : List ℕ) (texts : SdTexts) → IsNext (nexts.WithMolfile (Err refusal) parts.Text) request any text texts
    → RequestAllows standing request (Say (Refused (refusals.Line refusal)))
molfile_refused standing request refusal text any texts n =
    inr (whole_line request n.0 n.1 n.4.0, n.0, n.1, Err refusal, n.3, refl)

may_be : (standing : Standing) (more : List TextLine) (text : List ℕ) (change : MolfileChange) (t : TextChange)
    (act : Act) → text ≡ molfile_text more → IsTextChange change t
    → MayChange (change_by t.verb t.id t.format text) t.format text act
    → Allows standing more (molfile_command (Ok change)) act
may_be standing more text (molfile.Register id) t act e is a =
    subst (λ (x : List ℕ). MayChange (change_by verbs.Register id Molfile x) Molfile x act) e
    (subst (λ (v : Verb). MayChange (change_by v id Molfile text) Molfile text act) is.0
    (subst (λ (i : ℕ). MayChange (change_by t.verb i Molfile text) Molfile text act) is.1
    (subst (λ (f : Format). MayChange (change_by t.verb t.id f text) f text act) is.2 a)))
may_be standing more text (molfile.Revise id) t act e is a =
    subst (λ (x : List ℕ). MayChange (change_by verbs.Revise id Molfile x) Molfile x act) e
    (subst (λ (v : Verb). MayChange (change_by v id Molfile text) Molfile text act) is.0
    (subst (λ (i : ℕ). MayChange (change_by t.verb i Molfile text) Molfile text act) is.1
    (subst (λ (f : Format). MayChange (change_by t.verb t.id f text) f text act) is.2 a)))

pub molfile_allows : (standing : Standing) (request : Request) (change : MolfileChange) (t : TextChange)
    (text : List ℕ) (any : List ℕ) (texts : SdTexts)
    → IsNext (nexts.WithMolfile (Ok change) parts.Text) request any text texts
    → IsTextChange change t → (act : Act) → MayChange (change_by t.verb t.id t.format text) t.format text act
    → RequestAllows standing request act
molfile_allows standing request change t text any texts n is act a = inr (
  whole_line request n.0 n.1 n.4.0,
  n.0,
  n.1,
  molfile_command (Ok change),
  n.3,
  may_be standing request.more text change t act n.4.1 is a,
)

-- a line with its molfile, of which no text is kept
module _ {size : ℕ} {standing : Standing} (request : Request) (own : List ℕ) (is : request.line ≡ Whole own)
    (short : ¬ IsLong request) (said : line.Reply) where
  fault_answer : (change : Change) (c : Command) → IsLine own (Ok c)
      → ((act : Act) → MayChange change Molfile (molfile_text request.more) act
      → Allows standing request.more (Ok c) act)
      → (fault : TextFault) → IsAnswer Molfile (molfile_text request.more) (Err fault) → IsTextRefusal fault said
      → RequestAnswer size standing request [] (said ∷ []) standing
  fault_answer change c line_is allows faults.NoMemory h e =
      subst (λ (l : line.Reply). RequestAnswer size standing request [] (l ∷ []) standing) (sym e)
      (rests Fault (inr (short, own, is, Ok c, line_is, allows (Say Fault) tt)))
  fault_answer change c line_is allows fault h e =
      subst (λ (l : line.Reply). RequestAnswer size standing request [] (l ∷ []) standing) (sym e)
      (rests (Refused (refusals.Text fault))
      (inr (short, own, is, Ok c, line_is, allows (Say (Refused (refusals.Text fault))) h)))

  pub untold_answer : (read : Result MolfileChange LineRefusal) → IsLine own (molfile_command read)
      → (fault : TextFault) → IsAnswer Molfile (molfile_text request.more) (Err fault)
      → IsLineWithout fault read said → RequestAnswer size standing request [] (said ∷ []) standing
  untold_answer (Ok (molfile.Register id)) line_is fault h e =
      fault_answer (changes.Register id Molfile (molfile_text request.more)) (command.RegisterMol id) line_is
      (λ act may. may) fault h e
  untold_answer (Ok (molfile.Revise id)) line_is fault h e =
      fault_answer (changes.Revise id Molfile (molfile_text request.more)) (command.ReviseMol id) line_is
      (λ act may. may) fault h e
  untold_answer (Err refusal) line_is fault h e =
      subst (λ (l : line.Reply). RequestAnswer size standing request [] (l ∷ []) standing) (sym e)
      (rests (Refused (refusals.Line refusal)) (inr (short, own, is, Err refusal, line_is, refl)))

-- a line with its records
pub records_refused : (standing : Standing) (request : Request) (count : ℕ) (refusal : LineRefusal)
    (any text : List ℕ) (texts : SdTexts) → IsNext (nexts.WithRecords count (Err refusal)) request any text texts
    → RequestAllows standing request (Say (Refused (refusals.Line refusal)))
records_refused standing request count refusal any text texts n =
    inr (records_line request n.0 n.1 count n.2 n.3, n.0, n.2, Err refusal, n.4, refl)

pub records_allow : (standing : Standing) (request : Request) (count id : ℕ) (any text : List ℕ) (texts : SdTexts)
    → IsNext (nexts.WithRecords count (Ok id)) request any text texts → (act : Act)
    → act ≡ RegisterEach id (records_in count request.more) → RequestAllows standing request act
records_allow standing request count id any text texts n act e =
    inr (records_line request n.0 n.1 count n.2 n.3, n.0, n.2, Ok (command.RegisterSd id count), n.4, e)

pub records_length : (count : ℕ) (lines : List TextLine) → length (records_in count lines) ≡ count
records_length zero lines = refl
records_length (suc n) [] = ap suc (records_length n [])
records_length (suc n) (line ∷ lines) = ap suc (records_length n (behind_record (line ∷ lines)))

-- a command that takes lines is spelled by no other line
pub spells_lines : (line : List ℕ) (c : read.Command)
    → ((id : ℕ) × (c ≡ variants.RegisterMol id)) ⊎ (((id : ℕ) × (c ≡ variants.ReviseMol id))
    ⊎ ((id : ℕ) × (count : ℕ) × (c ≡ variants.RegisterSd id count)))
    → Spells line (command_of c) → ¬ TakesLines line → ⊥
spells_lines line c (inl (id, e)) s none =
    let t = rw e at s in
    none (inl (inl (inr (decimal id, t.1))))
spells_lines line c (inr (inl (id, e))) s none =
    let t = rw e at s in
    none (inl (inr (inr (decimal id, t.1))))
spells_lines line c (inr (inr (id, count, e))) s none =
    let t = rw e at s in
    none (inr (decimal id, count, (no_space id (t.1.0, omega (arith, t.1.1, t.0.0)), t.0, t.2)))
