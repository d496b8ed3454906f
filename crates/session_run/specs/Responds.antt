-- For private clauses alone: when requests can be answered, answers of a responder, and changes to a text.
use Rattle.std.specs.Prelude.{◌≡◌, Err, ℕ, List, Ok, Result}
use Rattle.dialogue.specs.declared.end.Stop.{Stop}
use Rattle.mol_finish.specs.declared.fault.Format.{Format}
use Rattle.mol_finish.specs.declared.fault.Format.TheVariants.{Molfile}
use Rattle.mol_finish.specs.declared.fault.TextFault.{TextFault}
use Rattle.mol_finish.specs.declared.fault.TextFault.TheVariants as faults
use Rattle.shell_lang.specs.Reply as line
use Rattle.shell_lang.specs.declared.command.LineRefusal.{LineRefusal}
use Rattle.shell_lang.specs.declared.command.MolfileChange.{MolfileChange}
use Rattle.shell_lang.specs.declared.command.MolfileChange.TheVariants as molfile
use Rattle.shell_lang.specs.declared.reply.Refusal.TheVariants as refusals
use Rattle.store_core.specs.declared.service.Service as meaning
use Rattle.store_machine.specs.declared.machine.Change.{Change}
use Rattle.store_machine.specs.declared.machine.Change.TheVariants as changes
use Rattle.session_acts.specs.Acts.{Act, Responds}
use Rattle.session_acts.specs.Cursors.{Cursor}
use Rattle.session_acts.specs.Pins.{AreHeld, SameOthers}
use Rattle.session_run.specs.Made.{AnsweredBy}
use Rattle.session_run.specs.Opened.{opened}
use Rattle.session_run.specs.Servable.{IsServable}
use Rattle.session_run.specs.Standings.{standing_of}
use Rattle.session_run.specs.Walks.{AreSized, cursors_of}
use Rattle.session_run.specs.declared.commands.TextChange.{TextChange}
use Rattle.session_run.specs.declared.commands.Verb.{Verb}
use Rattle.session_run.specs.declared.commands.Verb.TheVariants as verbs
use Rattle.session_run.specs.declared.cursors.Cursors.{Cursors}
use Rattle.session_run.specs.declared.respond.Responder.{Responder}

-- settings within their limits, and the cursors' pages have the size that they name
pub record IsFit (cursors : Cursors) : Type 0 where
  pub servable : IsServable cursors.settings
  pub sized : AreSized cursors.settings.page (opened cursors)

-- the settings and the cursors fit, and the pins of the cursors are held
pub record IsReady {S : Type 0} (of : meaning.Ghosts S) (service : S) (cursors : Cursors) : Type 0 where
  pub fit : IsFit cursors
  pub held : AreHeld (of.holds service) (cursors_of (opened cursors))

-- the pins of the cursors are held, and all others are the same
pub record KeepsPins (held : ℕ → ℕ → Type 0) (cursors : List Cursor) (held' : ℕ → ℕ → Type 0)
    (cursors' : List Cursor) : Type 0 where
  pub are_held : AreHeld held' cursors'
  pub others : SameOthers held cursors held' cursors'

-- a responder did one of the allowed acts, by calls of a service, and its lines follow the text before
abbrev pub RespondedBy : {S : Type 0} → meaning.Ghosts S → S → S → (Act → Type 0) → Responder → Responder
    → Result (Unit {0}) Stop → Type 0
RespondedBy of service service' Allowed r r' result =
    AnsweredBy of service service' (Responds r.cursors.settings.page Allowed (standing_of r)) r.out.items r'.out.items
    (standing_of r') result

abbrev pub change_by : Verb → ℕ → Format → List ℕ → Change
change_by verbs.Register id format text = changes.Register id format text
change_by verbs.Revise id format text = changes.Revise id format text

-- the change to the text of a molfile
abbrev pub IsTextChange : MolfileChange → TextChange → Type 0
IsTextChange (molfile.Register id) change =
    (change.verb ≡ verbs.Register) × (change.id ≡ id) × (change.format ≡ Molfile)
IsTextChange (molfile.Revise id) change =
    (change.verb ≡ verbs.Revise) × (change.id ≡ id) × (change.format ≡ Molfile)

-- the line of a text without structure. Want of memory is no refusal
abbrev pub IsTextRefusal : TextFault → line.Reply → Type 0
IsTextRefusal faults.NoMemory said = said ≡ line.MemoryFault
IsTextRefusal fault said = said ≡ line.Refused (refusals.Text fault)

-- the line of a request with a molfile whose text is not kept, for this cause
abbrev pub IsLineWithout : TextFault → Result MolfileChange LineRefusal → line.Reply → Type 0
IsLineWithout fault (Ok change) said = IsTextRefusal fault said
IsLineWithout fault (Err refusal) said = said ≡ line.Refused (refusals.Line refusal)
