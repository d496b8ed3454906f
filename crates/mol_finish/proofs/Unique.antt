-- A text has one answer, but for want of memory: the stages have one answer each.
use Rattle.std.proofs.Common.{ℕ, ◌<◌, ◌≡◌, ◌≢◌, ◌↔◌, ◌⊎◌, inl, inr, Bool, true, false, List, length, get_or, slice_get, map, refl, sym, ap, subst, ◌∙◌, arith, Result, Ok, Err, Some}
use Rattle.std.specs.List.{enumerate_from}
use Rattle.std.proofs.lemmas.Bool.{cases_Bool, cases_lt, cases_eq}
use Rattle.std.proofs.lemmas.List.{ext_get_or}
use Rattle.chem_core.specs.declared.sketch.SketchAtom.{SketchAtom}
use Rattle.chem_core.specs.Sketch.{SketchTerm}
use Rattle.chem_core.specs.Graph.{Ends}
use Rattle.chem_core.specs.Molecule.{Molecule}
use Rattle.chem_core.specs.RingFacts.{AreRingBonds}
use Rattle.chem_core.specs.Sound.{sketch_ends}
use Rattle.smiles_read.specs.declared.fault.SmilesFault.{SmilesFault}
use Rattle.smiles_read.specs.declared.fault.SmilesFault.TheVariants as smiles
use Rattle.smiles_read.specs.Reading.{IsReading}
use Rattle.aromatic.specs.Huckel.{IsPerceived, IsFirstRefused, IsAromaticAtom, IsAromaticBond, valence_of}
use Rattle.mol_finish.specs.declared.fault.TextFault.{TextFault}
use Rattle.mol_finish.specs.declared.fault.TextFault.TheVariants.{Smiles, Molfile, NoMemory}
use Rattle.mol_finish.specs.Meant.{meant}
use Rattle.mol_finish.specs.Structure.{IsMeant, IsRefusedAt, IsStructure, IsStructureOf, prepared}

-- the laws of the stages
abbrev pub OneReading : Type 0
OneReading = (text : List ℕ) (a b : Result SketchTerm SmilesFault) → IsReading text a → IsReading text b → (a ≡ b)
    ⊎ (a ≡ Err smiles.NoMemory) ⊎ (b ≡ Err smiles.NoMemory)

abbrev pub OneRings : Type 0
OneRings = (ends : Ends) (xs ys : List Bool) → AreRingBonds ends xs → AreRingBonds ends ys → xs ≡ ys

-- one sketch
reading-one : OneReading → (text : List ℕ) (s t : SketchTerm) → IsReading text (Ok s) → IsReading text (Ok t) → s ≡ t
reading-one readings text s t p q = elim (readings text (Ok s) (Ok t) p q) [
  | inl e ↦ cc
  | inr (inl e) ↦ absurd (cc)
  | inr (inr e) ↦ absurd (cc)
]

-- a text that is read has no fault
reading-not : OneReading → (text : List ℕ) (s : SketchTerm) (e : SmilesFault) → IsReading text (Ok s)
    → IsReading text (Err e) → e ≡ smiles.NoMemory
reading-not readings text s e p q = elim (readings text (Ok s) (Err e) p q) [
  | inl h ↦ absurd (cc)
  | inr (inl h) ↦ absurd (cc)
  | inr (inr h) ↦ cc
]

faults-one : OneReading → (text : List ℕ) (e f : SmilesFault) → e ≢ smiles.NoMemory → f ≢ smiles.NoMemory
    → IsReading text (Err e) → IsReading text (Err f) → e ≡ f
faults-one readings text e f ne nf p q = elim (readings text (Err e) (Err f) p q) [
  | inl h ↦ cc
  | inr (inl h) ↦ absurd (ne (cc))
  | inr (inr h) ↦ absurd (nf (cc))
]

same_flag : (x y : Bool) (P : Type 0) → (x ≡ true) ↔ P → (y ≡ true) ↔ P → x ≡ y
same_flag x y P f g =
    elim (cases_Bool x) [
      | inl a ↦ a ∙ sym (g.1 (f.0 a))
      | inr a ↦ elim (cases_Bool y) [
        | inl b ↦ f.1 (g.0 b) ∙ sym b
        | inr b ↦ a ∙ sym b
      ]
    ]

pub flags-one : (P : ℕ → Type 0) (n : ℕ) (xs ys : List Bool) → length xs ≡ n → length ys ≡ n
    → ((a : ℕ) → a < n → (get_or xs a false ≡ true) ↔ P a) → ((a : ℕ) → a < n → (get_or ys a false ≡ true) ↔ P a)
    → xs ≡ ys
flags-one P n xs ys p q f g =
    ext_get_or false xs ys (p ∙ sym q) (λ a l.
    let within : a < n = omega arith in
    same_flag _ _ (P a) (f a within) (g a within))

perceived-one : (s : SketchTerm) (rings atoms bonds atoms' bonds' : List Bool) (sums sums' : List ℕ)
    → IsPerceived s rings atoms bonds sums → IsPerceived s rings atoms' bonds' sums' → meant s atoms bonds sums
    ≡ meant s atoms' bonds' sums'
perceived-one s rings atoms bonds atoms' bonds' sums sums' p q =
    let one : atoms ≡ atoms' = flags-one (IsAromaticAtom s rings) (length s.atoms) atoms atoms' p.atom_each q.atom_each
    p.atoms q.atoms in
    let two : bonds ≡ bonds' = flags-one (IsAromaticBond s rings) (length s.bonds) bonds bonds' p.bond_each q.bond_each
    p.bonds q.bonds in
    let same : sums ≡ sums' = p.valences
    ∙ ap (λ xs. map (λ p. valence_of s rings xs bonds p.0 p.1) (enumerate_from 0 s.atoms)) one
    ∙ ap (λ xs. map (λ p. valence_of s rings atoms' xs p.0 p.1) (enumerate_from 0 s.atoms)) two ∙ sym q.valences in
    ap (λ xs. meant s xs bonds sums) one ∙ ap (λ xs. meant s atoms' xs sums) two
    ∙ ap (λ xs. meant s atoms' bonds' xs) same

pub meant-one : OneRings → (s : SketchTerm) (m n : Molecule) → IsMeant s m → IsMeant s n → m ≡ n
meant-one lists s m n p q =
    let same = lists (sketch_ends s) p.0 q.0 p.4 q.4 in
    let again = subst (λ r. IsPerceived s r q.1 q.2 q.3) (sym same) q.5 in
    p.6 ∙ perceived-one s p.0 p.1 p.2 q.1 q.2 p.3 q.3 p.5 again ∙ sym q.6

meant-not : OneRings → (s : SketchTerm) (m : Molecule) (w : ℕ) → IsMeant s m → IsRefusedAt s w → ⊥
meant-not lists s m w p q =
    let same = lists (sketch_ends s) p.0 q.0 p.4 q.1 in
    let first = subst (λ r. IsFirstRefused s r w) (sym same) q.2 in
    p.5.accepted first.0 first.1 first.2 first.3

same-atom : (o : List SketchAtom) (a b : ℕ) (x y : SketchAtom) → a ≡ b → slice_get o a ≡ Some x → slice_get o b ≡ Some y
    → x ≡ y
same-atom o a b x y is p q = cc

first-one : (s : SketchTerm) (rings : List Bool) (v w : ℕ) → IsFirstRefused s rings v → IsFirstRefused s rings w → v ≡ w
first-one s rings v w p q =
    elim (cases_lt p.0 q.0) [
      | inl l ↦ absurd (q.5 p.0 p.1 l p.2 p.3)
      | inr l ↦ elim (cases_eq p.0 q.0) [
        | inl is ↦
            let one : p.1 ≡ q.1 = same-atom s.atoms _ _ _ _ is p.2 q.2 in
            sym p.4 ∙ ap (λ x. x.written) one ∙ q.4
        | inr other ↦ absurd (p.5 q.0 q.1 (omega arith) q.2 q.3)
      ]
    ]

refused-one : OneRings → (s : SketchTerm) (v w : ℕ) → IsRefusedAt s v → IsRefusedAt s w → v ≡ w
refused-one lists s v w p q =
    let same = lists (sketch_ends s) p.0 q.0 p.1 q.1 in
    first-one s p.0 v w p.2 (subst (λ r. IsFirstRefused s r w) (sym same) q.2)

pub structure-one : OneReading → OneRings → (text : List ℕ) (m n : Molecule) → IsStructureOf text m
    → IsStructureOf text n → m ≡ n
structure-one readings lists text m n p q =
    let one : p.0 ≡ q.0 = reading-one readings text p.0 q.0 p.1 q.1 in
    meant-one lists (prepared q.0) m n (subst (λ s. IsMeant (prepared s) m) one p.2) q.2

-- the ways of an answer
data Way (text : List ℕ) (a : Result Molecule TextFault) : Type 0 where
  short : a ≡ Err NoMemory → Way text a
  unread : (e : SmilesFault) → e ≢ smiles.NoMemory → a ≡ Err (Smiles e) → IsReading text (Err e) → Way text a
  made : (s : SketchTerm) (m : Molecule) → a ≡ Ok m → IsReading text (Ok s) → IsMeant (prepared s) m → Way text a
  refused : (s : SketchTerm) (w : ℕ) → a ≡ Err (Smiles (smiles.Aromatic w)) → IsReading text (Ok s)
      → IsRefusedAt (prepared s) w → Way text a

way-of : (text : List ℕ) (a : Result Molecule TextFault) → IsStructure text a → Way text a
way-of text (Ok m) h = made h.0 m refl h.1 h.2
way-of text (Err (Smiles smiles.Syntax)) h = unread smiles.Syntax (λ q. cc) refl h
way-of text (Err (Smiles smiles.Ring)) h = unread smiles.Ring (λ q. cc) refl h
way-of text (Err (Smiles smiles.Limit)) h = unread smiles.Limit (λ q. cc) refl h
way-of text (Err (Smiles (smiles.Aromatic w))) h = refused h.0 w refl h.1 h.2
way-of text (Err (Smiles smiles.NoMemory)) h = absurd h
way-of text (Err (Molfile fault)) h = absurd h
way-of text (Err NoMemory) h = short refl

ways-one : OneReading → OneRings → (text : List ℕ) (a b : Result Molecule TextFault) → Way text a → Way text b → (a ≡ b)
    ⊎ (a ≡ Err NoMemory) ⊎ (b ≡ Err NoMemory)
ways-one readings lists text a b (short p) h = inr (inl p)
ways-one readings lists text a b h (short p) = inr (inr p)
ways-one readings lists text a b (unread e ne p r) (unread f nf q t) =
    inl (p ∙ ap (λ x. Err (Smiles x)) (faults-one readings text e f ne nf r t) ∙ sym q)
ways-one readings lists text a b (unread e ne p r) (made s m q t k) = absurd (ne (reading-not readings text s e t r))
ways-one readings lists text a b (unread e ne p r) (refused s w q t k) = absurd (ne (reading-not readings text s e t r))
ways-one readings lists text a b (made s m q t k) (unread e ne p r) = absurd (ne (reading-not readings text s e t r))
ways-one readings lists text a b (refused s w q t k) (unread e ne p r) = absurd (ne (reading-not readings text s e t r))
ways-one readings lists text a b (made s m q t k) (made s' m' q' t' k') =
    inl (q ∙ ap Ok (structure-one readings lists text m m' (s, t, k) (s', t', k')) ∙ sym q')
ways-one readings lists text a b (made s m q t k) (refused s' w q' t' k') =
    let one : s ≡ s' = reading-one readings text s s' t t' in
    absurd (meant-not lists (prepared s') m w (subst (λ x. IsMeant (prepared x) m) one k) k')
ways-one readings lists text a b (refused s' w q' t' k') (made s m q t k) =
    let one : s ≡ s' = reading-one readings text s s' t t' in
    absurd (meant-not lists (prepared s') m w (subst (λ x. IsMeant (prepared x) m) one k) k')
ways-one readings lists text a b (refused s v q t k) (refused s' w q' t' k') =
    let one : s ≡ s' = reading-one readings text s s' t t' in
    let same : v ≡ w = refused-one lists (prepared s') v w (subst (λ x. IsRefusedAt (prepared x) v) one k) k' in
    inl (q ∙ ap (λ x. Err (Smiles (smiles.Aromatic x))) same ∙ sym q')

pub answer-one : OneReading → OneRings → (text : List ℕ) (a b : Result Molecule TextFault) → IsStructure text a
    → IsStructure text b → (a ≡ b) ⊎ (a ≡ Err NoMemory) ⊎ (b ≡ Err NoMemory)
answer-one readings lists text a b p q = ways-one readings lists text a b (way-of text a p) (way-of text b q)
