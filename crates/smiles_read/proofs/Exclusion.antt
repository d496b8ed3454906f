-- But for want of memory a text has one reading.
use Rattle.std.proofs.Common.{◌≡◌, ℕ, ◌⊎◌, inl, inr, List, map, Result, Ok, Err, refl, sym, ◌∙◌, ap, subst, arith}
use Rattle.chem_core.specs.declared.sketch.SketchBond.{SketchBond}
use Rattle.chem_core.specs.declared.sketch.SketchKind.{SketchKind}
use Rattle.chem_core.specs.Sketch.{SketchTerm}
use Rattle.line_walk.specs.declared.pairs.Link.{Link}
use Rattle.line_walk.specs.Partners.{Entry, IsGraph}
use Rattle.smiles_read.specs.declared.fault.SmilesFault.{SmilesFault}
use Rattle.smiles_read.specs.declared.fault.SmilesFault.TheVariants.{Syntax, Ring, Limit, Aromatic, NoMemory}
use Rattle.smiles_words.specs.Words.{agreed_kind, Tree, IsTreeOf}
use Rattle.smiles_read.specs.Sketch.{link_of, IsSketchOf}
use Rattle.smiles_read.specs.Reading.{IsWithinLimits, IsReading}
use Rattle.smiles_read.specs.Limits.{bond_of}
use Rattle.smiles_read.proofs.Answer.{bonds_back}

-- the laws of the walk
abbrev pub OneTree : Type 0
OneTree = (text : List ℕ) (s t : Tree) → IsTreeOf text s → IsTreeOf text t → s ≡ t

abbrev pub OneGraph : Type 0
OneGraph = (es : List (Entry SketchKind)) (xs ys : List (Link SketchKind)) → IsGraph agreed_kind es xs
    → IsGraph agreed_kind es ys → xs ≡ ys

same_bonds : (xs ys : List SketchBond) → map link_of xs ≡ map link_of ys → xs ≡ ys
same_bonds xs ys e = sym (bonds_back xs) ∙ ap (λ (v : List (Link SketchKind)). map bond_of v) e ∙ bonds_back ys

sketch_parts : (a b : SketchTerm) → a.atoms ≡ b.atoms → a.bonds ≡ b.bonds → a ≡ b
sketch_parts a b e f = ap (λ v. record a { atoms = v }) e ∙ ap (λ v. record b { bonds = v }) f

same_sketch : OneGraph → (s t : Tree) (a b : SketchTerm) → s ≡ t → IsSketchOf s a → IsSketchOf t b → a ≡ b
same_sketch graphs s t a b is p q =
    let P : Tree → Type 0 = λ v. IsSketchOf v b in
    let r = subst P (sym is) q in
    sketch_parts a b (p.atoms ∙ sym r.atoms) (same_bonds a.bonds b.bonds (graphs _ _ _ p.bonds r.bonds))

within_moved : (s t : Tree) (a b : SketchTerm) → s ≡ t → a ≡ b → IsWithinLimits s a → IsWithinLimits t b
within_moved s t a b is same h =
    let P : Tree → Type 0 = λ v. IsWithinLimits v b in
    let Q : SketchTerm → Type 0 = λ v. IsWithinLimits s v in
    subst P is (subst Q same h)

-- a tree with a sketch, and one with none
not_both : OneTree → (text : List ℕ) (s t : Tree) (a : SketchTerm) → IsTreeOf text s → IsTreeOf text t → IsSketchOf s a
    → ((b : SketchTerm) → IsSketchOf t b → ⊥) → ⊥
not_both trees text s t a is it h none = let P : Tree → Type 0 = λ v. IsSketchOf v a in
    none a (subst P (trees text s t is it) h)

-- where there is a sketch, there is no fault
not_read : OneTree → OneGraph → (text : List ℕ) (s : SketchTerm) (e : SmilesFault) → IsReading text (Ok s)
    → IsReading text (Err e) → e ≡ NoMemory
not_read trees graphs text s Syntax p q = absurd (q.1 p.1 p.2)
not_read trees graphs text s Ring p q = absurd (not_both trees text p.1 q.1 s p.2 q.2 p.3 q.3)
not_read trees graphs text s Limit p (inl long) = absurd (omega (arith, p.0))
not_read trees graphs text s Limit p (inr q) =
    let same = trees text p.1 q.0 p.2 q.2 in
    absurd (q.4 (within_moved p.1 q.0 s q.1 same (same_sketch graphs p.1 q.0 s q.1 same p.3 q.3) p.4))
not_read trees graphs text s (Aromatic w) p q = absurd q
not_read trees graphs text s NoMemory p q = refl

-- two faults
one_fault : OneTree → (text : List ℕ) (e f : SmilesFault) → IsReading text (Err e) → IsReading text (Err f) → (e ≡ f)
    ⊎ (e ≡ NoMemory) ⊎ (f ≡ NoMemory)
one_fault trees text NoMemory f p q = inr (inl refl)
one_fault trees text e NoMemory p q = inr (inr refl)
one_fault trees text (Aromatic w) f p q = absurd p
one_fault trees text e (Aromatic w) p q = absurd q
one_fault trees text Syntax Syntax p q = inl refl
one_fault trees text Ring Ring p q = inl refl
one_fault trees text Limit Limit p q = inl refl
one_fault trees text Syntax Ring p q = absurd (p.1 q.1 q.2)
one_fault trees text Ring Syntax p q = absurd (q.1 p.1 p.2)
one_fault trees text Syntax Limit p (inl long) = absurd (omega (arith, p.0))
one_fault trees text Syntax Limit p (inr q) = absurd (p.1 q.0 q.2)
one_fault trees text Limit Syntax (inl long) q = absurd (omega (arith, q.0))
one_fault trees text Limit Syntax (inr p) q = absurd (q.1 p.0 p.2)
one_fault trees text Ring Limit p (inl long) = absurd (omega (arith, p.0))
one_fault trees text Ring Limit p (inr q) = absurd (not_both trees text q.0 p.1 q.1 q.2 p.2 q.3 p.3)
one_fault trees text Limit Ring (inl long) q = absurd (omega (arith, q.0))
one_fault trees text Limit Ring (inr p) q = absurd (not_both trees text p.0 q.1 p.1 p.2 q.2 p.3 q.3)

pub one_reading : OneTree → OneGraph → (text : List ℕ) (a b : Result SketchTerm SmilesFault) → IsReading text a
    → IsReading text b → (a ≡ b) ⊎ (a ≡ Err NoMemory) ⊎ (b ≡ Err NoMemory)
one_reading trees graphs text (Ok s) (Ok t) p q =
    inl (ap Ok (same_sketch graphs p.1 q.1 s t (trees text p.1 q.1 p.2 q.2) p.3 q.3))
one_reading trees graphs text (Ok s) (Err e) p q = inr (inr (ap Err (not_read trees graphs text s e p q)))
one_reading trees graphs text (Err e) (Ok s) p q = inr (inl (ap Err (not_read trees graphs text s e q p)))
one_reading trees graphs text (Err e) (Err f) p q = elim (one_fault trees text e f p q) [
  | inl same ↦ inl (ap Err same)
  | inr (inl none) ↦ inr (inl (ap Err none))
  | inr (inr none) ↦ inr (inr (ap Err none))
]
