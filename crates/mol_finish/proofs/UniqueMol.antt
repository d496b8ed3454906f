-- A molfile has one answer, but for want of memory.
use Rattle.std.proofs.Common.{ℕ, ◌≡◌, ◌≢◌, ◌⊎◌, inl, inr, List, refl, sym, ap, subst, ◌∙◌, Result, Ok, Err}
use Rattle.chem_core.specs.Sketch.{SketchTerm}
use Rattle.chem_core.specs.Molecule.{Molecule}
use Rattle.molfile_read.specs.declared.fault.MolfileFault.{MolfileFault}
use Rattle.molfile_read.specs.declared.fault.MolfileFault.TheVariants as mol
use Rattle.molfile_read.specs.Reading.{IsReading}
use Rattle.mol_finish.specs.declared.fault.Format.{Format}
use Rattle.mol_finish.specs.declared.fault.Format.TheVariants as formats
use Rattle.mol_finish.specs.declared.fault.TextFault.{TextFault}
use Rattle.mol_finish.specs.declared.fault.TextFault.TheVariants.{Smiles, Molfile, NoMemory}
use Rattle.mol_finish.specs.Structure.{IsMeant, IsMolfileStructure, HasMolecule, IsAnswer, prepared}
use Rattle.mol_finish.proofs.Unique as smiles
use Rattle.mol_finish.proofs.Unique.{OneRings, meant-one, structure-one, answer-one}

-- the law of the reader
abbrev pub OneReading : Type 0
OneReading = (text : List ℕ) (a b : Result SketchTerm MolfileFault) → IsReading text a → IsReading text b → (a ≡ b)
    ⊎ (a ≡ Err mol.NoMemory) ⊎ (b ≡ Err mol.NoMemory)

sketch-one : OneReading → (text : List ℕ) (s t : SketchTerm) → IsReading text (Ok s) → IsReading text (Ok t) → s ≡ t
sketch-one one text s t p q = elim (one text (Ok s) (Ok t) p q) [
  | inl e ↦ cc
  | inr r ↦
      elim r [ inl e ↦ absurd (cc) | inr e ↦ absurd (cc) ]
]

fault-one : OneReading → (text : List ℕ) (e f : MolfileFault) → e ≢ mol.NoMemory → f ≢ mol.NoMemory
    → IsReading text (Err e) → IsReading text (Err f) → e ≡ f
fault-one one text e f ne nf p q = elim (one text (Err e) (Err f) p q) [
  | inl h ↦ cc
  | inr r ↦
      elim r [ inl h ↦ absurd (ne (cc)) | inr h ↦ absurd (nf (cc)) ]
]

read-not : OneReading → (text : List ℕ) (s : SketchTerm) (e : MolfileFault) → e ≢ mol.NoMemory → IsReading text (Ok s)
    → IsReading text (Err e) → ⊥
read-not one text s e ne p q = elim (one text (Ok s) (Err e) p q) [
  | inl h ↦ absurd (cc)
  | inr r ↦
      elim r [ inl h ↦ absurd (cc) | inr h ↦ ne (cc) ]
]

molecule-one : OneReading → OneRings → (text : List ℕ) (m n : Molecule) → HasMolecule formats.Molfile text m
    → HasMolecule formats.Molfile text n → m ≡ n
molecule-one one lists text m n p q =
    let same : p.0 ≡ q.0 = sketch-one one text p.0 q.0 p.1 q.1 in
    meant-one lists (prepared q.0) m n (subst (λ s. IsMeant (prepared s) m) same p.2) q.2

-- the ways of an answer
data Way (text : List ℕ) (a : Result Molecule TextFault) : Type 0 where
  short : a ≡ Err NoMemory → Way text a
  unread : (e : MolfileFault) → e ≢ mol.NoMemory → a ≡ Err (Molfile e) → IsReading text (Err e) → Way text a
  made : (m : Molecule) → a ≡ Ok m → HasMolecule formats.Molfile text m → Way text a

way-of : (text : List ℕ) (a : Result Molecule TextFault) → IsMolfileStructure text a → Way text a
way-of text (Ok m) h = made m refl h
way-of text (Err (Molfile mol.Header)) h = unread mol.Header (λ q. cc) refl h
way-of text (Err (Molfile (mol.Columns n))) h = unread (mol.Columns n) (λ q. cc) refl h
way-of text (Err (Molfile (mol.Bond n))) h = unread (mol.Bond n) (λ q. cc) refl h
way-of text (Err (Molfile (mol.Query n))) h = unread (mol.Query n) (λ q. cc) refl h
way-of text (Err (Molfile mol.Limit)) h = unread mol.Limit (λ q. cc) refl h
way-of text (Err (Molfile mol.Cut)) h = unread mol.Cut (λ q. cc) refl h
way-of text (Err (Molfile mol.NoMemory)) h = absurd h
way-of text (Err (Smiles fault)) h = absurd h
way-of text (Err NoMemory) h = short refl

ways-one : OneReading → OneRings → (text : List ℕ) (a b : Result Molecule TextFault) → Way text a → Way text b → (a ≡ b)
    ⊎ (a ≡ Err NoMemory) ⊎ (b ≡ Err NoMemory)
ways-one one lists text a b (short p) h = inr (inl p)
ways-one one lists text a b h (short p) = inr (inr p)
ways-one one lists text a b (unread e ne p r) (unread f nf q t) =
    inl (p ∙ ap (λ x. Err (Molfile x)) (fault-one one text e f ne nf r t) ∙ sym q)
ways-one one lists text a b (unread e ne p r) (made m q k) = absurd (read-not one text k.0 e ne k.1 r)
ways-one one lists text a b (made m q k) (unread e ne p r) = absurd (read-not one text k.0 e ne k.1 r)
ways-one one lists text a b (made m q k) (made n p l) = inl (q ∙ ap Ok (molecule-one one lists text m n k l) ∙ sym p)

pub structures-one : smiles.OneReading → OneReading → OneRings → (format : Format) (text : List ℕ) (m n : Molecule)
    → HasMolecule format text m → HasMolecule format text n → m ≡ n
structures-one readings one lists formats.Smiles text m n p q = structure-one readings lists text m n p q
structures-one readings one lists formats.Molfile text m n p q = molecule-one one lists text m n p q

pub answers-one : smiles.OneReading → OneReading → OneRings
    → (format : Format) (text : List ℕ) (a b : Result Molecule TextFault) → IsAnswer format text a
    → IsAnswer format text b → (a ≡ b) ⊎ (a ≡ Err NoMemory) ⊎ (b ≡ Err NoMemory)
answers-one readings one lists formats.Smiles text a b p q = answer-one readings lists text a b p q
answers-one readings one lists formats.Molfile text a b p q = ways-one one lists text a b (way-of text a p)
    (way-of text b q)
