-- An expression is true only at atoms of its classes.
use Rattle.std.proofs.Common.{◌≡◌, ◌⊎◌, ℕ, ◌<◌, take, Bool, true, false, bit_and, bit_or, List, length, get_or, slice_index, pos, Some, slice_get, sym, ap, ◌∙◌, subst, arith, inl, inr, refl}
use Rattle.std.specs.Int.{bit_at}
use Rattle.std.proofs.lemmas.Nat.Bits.{bit_at_and, bit_at_or, bit_at_ones, bit_at-lt, bit_at-zero}
use Rattle.std.proofs.lemmas.List.{get_or-take, length-take-le}
use Rattle.std.proofs.lemmas.List.Elements.{Contains-get_or}
use Rattle.std.proofs.lemmas.Option.{same_Some, slice_get-get_or}
use Rattle.chem_core.specs.declared.mol.Atom.{Atom}
use Rattle.chem_core.specs.Molecule.{Molecule}
use Rattle.chem_core.specs.Symbols.{HasClass, class_at, class_of}
use Rattle.smarts_parse.specs.declared.pattern.AtomPrim.{AtomPrim}
use Rattle.smarts_parse.specs.declared.pattern.AtomPrim.TheVariants as atoms
use Rattle.smarts_parse.specs.Embedding.{IsEmbedding}
use Rattle.smarts_parse.specs.Pattern.{GraphTerm, Term, Prim, Not, And, Or}
use Rattle.smarts_parse.specs.Truth.{AtomPrimTrue, AtomTrue}
use Rattle.matcher.specs.Class.{Covers, MayBe, PrimMayBe}
use Rattle.matcher.specs.declared.plan.EarlierBonds.{EarlierBonds}
use Rattle.matcher.specs.Partial.{Parts}
use Rattle.matcher.specs.Plan.{IsReady, step_at}

pub class_below : (number : ℕ) (aromatic : Bool) → class_at number aromatic < 64
class_below number true = omega arith
class_below number false = omega arith

either_class : (number : ℕ) (aromatic : Bool) → (class_at number aromatic ≡ class_at number false)
    ⊎ (class_at number aromatic ≡ class_at number true)
either_class number true = inr refl
either_class number false = inl refl

prim_may_be : (parts : Parts) (p : AtomPrim) (m : Molecule) (a : ℕ) (x : Atom) → AtomPrimTrue parts p m a x
    → PrimMayBe p (class_of x)
prim_may_be parts (atoms.Symbol number lower) m a x h = ap (λ n. class_at n x.aromatic) h.0 ∙ ap (class_at number) h.1
prim_may_be parts (atoms.Number number) m a x h = subst (λ n. (class_at n x.aromatic ≡ class_at number false)
    ⊎ (class_at n x.aromatic ≡ class_at number true)) (sym h) (either_class number x.aromatic)
prim_may_be parts _ m a x h = tt

pub may_be_true : (parts : Parts) (e : Term AtomPrim) (m : Molecule) (a : ℕ) (x : Atom) → slice_get m.atoms a ≡ Some x
    → AtomTrue parts e m a → MayBe e (class_of x)
may_be_true parts (Prim p) m a x get h = subst (λ y. PrimMayBe p (class_of y)) (same_Some h.0 x (sym h.1 ∙ get))
    (prim_may_be parts p m a h.0 h.2)
may_be_true parts (Not e) m a x get h = tt
may_be_true parts (And e f) m a x get h = (may_be_true parts e m a x get h.0, may_be_true parts f m a x get h.1)
may_be_true parts (Or e f) m a x get (inl h) = inl (may_be_true parts e m a x get h)
may_be_true parts (Or e f) m a x get (inr h) = inr (may_be_true parts f m a x get h)

-- bits of a union, of an intersection, and of all
pub or_one : (a b i : ℕ) → bit_at a i ≡ 1 → bit_at (bit_or a b) i ≡ 1
or_one a b i h = omega (arith, bit_at_or a b i, bit_at-lt a i, bit_at-lt b i)

pub or_two : (a b i : ℕ) → bit_at b i ≡ 1 → bit_at (bit_or a b) i ≡ 1
or_two a b i h = omega (arith, bit_at_or a b i, bit_at-lt a i, bit_at-lt b i)

pub and_both : (a b i : ℕ) → bit_at a i ≡ 1 → bit_at b i ≡ 1 → bit_at (bit_and a b) i ≡ 1
and_both a b i h k = omega (arith, bit_at_and a b i)

pub all_bits : (i : ℕ) → i < 64 → bit_at 18446744073709551615 i ≡ 1
all_bits i l = bit_at_ones 64 i l

abbrev pub no_element : Atom
no_element = record { number = 0; isotope = 0; charge = pos 0; hydrogens = 0; aromatic = false; valence = 0 }

-- an atom that stands where its expression is true is of one of its classes
pub stands_in : (parts : Parts) (m : Molecule) (a classes : ℕ) (e : Term AtomPrim) → Covers classes e
    → a < length m.atoms → AtomTrue parts e m a → bit_at classes (class_of (get_or m.atoms a no_element)) ≡ 1
stands_in parts m a classes e covers within h =
    let x = get_or m.atoms a no_element in
    covers (class_of x) (class_below x.number x.aromatic)
    (may_be_true parts e m a x (slice_get-get_or m.atoms a no_element within) h)

-- the same of any place of an embedding
pub stands_at : (parts : Parts) (g : GraphTerm) (m : Molecule) (steps : List EarlierBonds) (image : List ℕ) (place atom : ℕ)
    → IsReady g steps → place < length g.atoms → IsEmbedding parts g m image → slice_index image place ≡ atom
    → bit_at (step_at steps place).classes (class_of (get_or m.atoms atom no_element)) ≡ 1
stands_at parts g m steps image place atom ready few h is =
    let e : Term AtomPrim = get_or g.atoms place (Prim atoms.Any) in
    let within : slice_index image place < length m.atoms = h.in_range place 0 (omega (arith, h.one_each)) in
    subst (λ a. bit_at (step_at steps place).classes (class_of (get_or m.atoms a no_element)) ≡ 1) is
    (stands_in parts m (slice_index image place) (step_at steps place).classes e
    (ready.covered place few (Prim atoms.Any)) within
    (h.atoms place e (slice_get-get_or g.atoms place (Prim atoms.Any) few)))

-- no embedding, where none of the molecule's atoms is of a class of some step
pub no_atom : (parts : Parts) (g : GraphTerm) (m : Molecule) (steps : List EarlierBonds) (n k present : ℕ) → IsReady g steps
    → n ≡ length g.atoms → k < length (take n steps) → ((c : ℕ) → c < 64 → HasClass m.atoms c → bit_at present c ≡ 1)
    → bit_and (step_at (take n steps) k).classes present ≡ 0 → (image : List ℕ) → IsEmbedding parts g m image → ⊥
no_atom parts g m steps n k present ready all short here none image h =
    let room = ready.planned.room in
    let few : k < n = omega (arith, length-take-le n steps (omega arith)) in
    let read : step_at (take n steps) k ≡ step_at steps k = get_or-take n steps k
    (record { from = 0; to = 0; classes = 0; again = false }) few in
    let within : slice_index image k < length m.atoms = h.in_range k 0 (omega (arith, h.one_each)) in
    let x : Atom = get_or m.atoms (slice_index image k) no_element in
    let c : ℕ = class_of x in
    let both = and_both (step_at steps k).classes present c
    (stands_at parts g m steps image k (slice_index image k) ready (omega arith) h refl)
    (here c (class_below x.number x.aromatic)
    (x, Contains-get_or m.atoms (slice_index image k) no_element within, refl)) in
    let zero : bit_at (bit_and (step_at steps k).classes present) c ≡ 0 =
    ap (λ (s : EarlierBonds). bit_at (bit_and s.classes present) c) (sym read) ∙ ap (λ n. bit_at n c) none ∙ bit_at-zero c in
    omega arith
