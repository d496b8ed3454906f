-- A record's payload is short, and a logged change is the machine's.
use Rattle.std.proofs.Common.{◌≡◌, ◌≢◌, ◌⊎◌, ◌+◌, ◌++◌, ◌≤◌, ◌∙◌, ap, arith, Err, IfErr, inl, inr, IsErrAnd, length, length-append, List, [], ◌∷◌, map, Ok, refl, Result, ℕ}
use Rattle.std.specs.Int.{to_le_bytes, w32}
use Rattle.chem_core.specs.Molecule.{Molecule}
use Rattle.commit_log.specs.Change.{Change as Logged, format_byte, registered, revised, withdrawn, written}
use Rattle.commit_log.specs.declared.change.Format.{Format as LoggedFormat}
use Rattle.commit_log.specs.declared.change.Format.TheVariants as logged
use Rattle.commit_log.specs.Base.{base_payloads}
use Rattle.commit_log.specs.Entry as entry
use Rattle.commit_log.specs.Entry.{Entry, EntryState}
use Rattle.commit_log.specs.Log.{payloads as log_payloads}
use Rattle.journal_core.specs.Records.{IsShort}
use Rattle.mol_finish.specs.Structure.{HasMolecule, IsAnswer}
use Rattle.mol_finish.specs.declared.fault.Format.{Format}
use Rattle.mol_finish.specs.declared.fault.Format.TheVariants.{Smiles, Molfile}
use Rattle.mol_finish.specs.declared.fault.TextFault.{TextFault}
use Rattle.mol_finish.specs.declared.fault.TextFault.TheVariants.{NoMemory}
use Rattle.store_machine.specs.History.{IsValid, made_at}
use Rattle.store_machine.specs.Structures.{IsText}
use Rattle.store_machine.specs.declared.machine.Change.{Change}
use Rattle.store_machine.specs.declared.machine.Change.TheVariants.{Register, Revise, Withdraw}
use Rattle.store_disk.specs.Payloads.{base_payload, logged_change, logged_entry, logged_format, logged_state, payload, stored_format, told, told_entry, told_state}

-- a text that has a structure is short
text-short : (format : Format) (text : List ℕ) (m : Molecule) → HasMolecule format text m → length text ≤ 262144
text-short Smiles text m h = omega (arith, h.1.0)
text-short Molfile text m h = omega (arith, h.1.0)

text-length : (kind id : ℕ) (format : LoggedFormat) (text : List ℕ)
    → length (kind ∷ (to_le_bytes w32 id ++ format_byte format ∷ text)) ≡ 6 + length text
text-length kind id format text = omega (arith, length-append (to_le_bytes w32 id) (format_byte format ∷ text))

pub valid-short : (c : Change) → IsValid c → IsShort (payload c)
valid-short (Register id format text) v = omega (
  arith,
  text-length 1 id (logged_format format) text,
  text-short format text v.1.0 v.1.1,
)
valid-short (Revise id format text) v = omega (
  arith,
  text-length 2 id (logged_format format) text,
  text-short format text v.1.0 v.1.1,
)
valid-short (Withdraw id) v = omega arith

pub some-payload : (c : Change) → 1 ≤ length (payload c)
some-payload (Register id format text) = omega arith
some-payload (Revise id format text) = omega arith
some-payload (Withdraw id) = omega arith

-- a change of a log, told and logged again
same-format : (f : LoggedFormat) → logged_format (stored_format f) ≡ f
same-format logged.Smiles = refl
same-format logged.Molfile = refl

told-logged : (c : Logged) → logged_change (told c) ≡ c
told-logged (registered id format text) = ap (λ f. registered id f text) (same-format format)
told-logged (revised id format text) = ap (λ f. revised id f text) (same-format format)
told-logged (withdrawn id) = refl

pub same-payloads : (cs : List Logged) → map payload (map told cs) ≡ log_payloads cs
same-payloads [] = refl
same-payloads (c ∷ cs) = λ i. written (told-logged c i) ∷ same-payloads cs i

-- and an entry of a base
told-made : (version : ℕ) (state : EntryState) → made_at (told_state version state) ≡ version
told-made version (entry.live format text) = refl
told-made version entry.withdrawn = refl

told-state : (version : ℕ) (state : EntryState) → logged_state (told_state version state) ≡ state
told-state version (entry.live format text) = ap (λ f. entry.live f text) (same-format format)
told-state version entry.withdrawn = refl

told-entry : (e : Entry) → logged_entry (told_entry e) ≡ e
told-entry e =
    let made = told-made e.version e.state in
    let state = told-state e.version e.state in λ i. record { id = e.id; version = made i; state = state i }

pub same-bases : (es : List Entry) → map base_payload (map told_entry es) ≡ base_payloads es
same-bases [] = refl
same-bases (e ∷ es) = λ i. entry.written (told-entry e i) ∷ same-bases es i

-- a text that is refused has no structure
abbrev pub OneAnswer : Type 0
OneAnswer = (format : Format) (text : List ℕ) (a b : Result Molecule TextFault) → IsAnswer format text a
    → IsAnswer format text b → (a ≡ b) ⊎ (a ≡ Err NoMemory) ⊎ (b ≡ Err NoMemory)

has-answer : (format : Format) (text : List ℕ) (m : Molecule) → HasMolecule format text m → IsAnswer format text (Ok m)
has-answer Smiles text m h = h
has-answer Molfile text m h = h

abbrev refusal : TextFault → Result Molecule TextFault
refusal f = Err f

ok-err : (m : Molecule) (f : TextFault) → Ok m ≡ refusal f → ⊥
ok-err m f e = cc e

same-fault : (f g : TextFault) → refusal f ≡ refusal g → f ≡ g
same-fault f g e = cc e

no-text : OneAnswer → (format : Format) (text : List ℕ) (f : TextFault) → IsAnswer format text (Err f) → f ≢ NoMemory
    → ¬ IsText format text
no-text one format text f refused other has =
    elim (one format text (Ok has.0) (Err f) (has-answer format text has.0 has.1) refused) [
      | inl e ↦ ok-err has.0 f e
      | inr rest ↦ elim rest [ inl e ↦ ok-err has.0 NoMemory e | inr e ↦ other (same-fault f NoMemory e) ]
    ]

-- what needs the text's structure does not hold
pub refused-text : {X : Type 0} → OneAnswer → (V : Type 0)
    → (format : Format) (text : List ℕ) (f : TextFault) (r : Result X TextFault) → IsErrAnd r (λ e. e ≡ f)
    → IsAnswer format text (Err f) → (V → IsText format text) → IfErr r (λ e. e ≢ NoMemory → ¬ V)
refused-text one V format text f (Ok x) is refused has = tt
refused-text one V format text f (Err e) is refused has =
    λ other valid. no-text one format text f refused (λ same. other (is ∙ same)) (has valid)
