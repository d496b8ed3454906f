-- Counts of atoms and bonds by sorts: raised one after another, and those of one atom or bond more.
use Rattle.std.proofs.Common.{◌≡◌, ◌↔◌, ◌||◌, ℕ, ◌+◌, ◌<◌, ◌≤◌, ◌∙◌, Bool, false, true, List, cond, count_by, get_or, inl, inr, length, min, nat_lt, pos, set, slice_index, take, All, refl, sym, ap, subst, arith}
use mir.Val.{bool_byte}
use Rattle.std.proofs.lemmas.Bool.{cases_eq, false≢true, ltb-true, lt-ltb, or_cases, or_left, or_right}
use Rattle.std.proofs.lemmas.List.{get_or-map, get_or-set_other, get_or-set_same, length-map, length-set}
use Rattle.std.proofs.lemmas.List.Sums.{sum_by_more}
use Rattle.std.proofs.lemmas.Option.{slice_get-get_or}
use Rattle.chem_core.specs.declared.sort_counts.BondSort.{BondSort}
use Rattle.chem_core.specs.declared.mol.Atom.{Atom}
use Rattle.chem_core.specs.declared.mol.Bond.{Bond}
use Rattle.chem_core.specs.declared.mol.BondKind.TheVariants.{Single}
use Rattle.chem_core.specs.Graph.{IsSimpleGraph}
use Rattle.chem_core.specs.Molecule.{bond_ends}
use Rattle.chem_core.specs.Sorts.{class_in, class_there, is_of_sort}
use Rattle.chem_core.specs.Symbols.{class_of}

pub byte-is : (b : Bool) → bool_byte b ≡ cond b 1 0
byte-is true = refl
byte-is false = refl

-- counts of which those before place i are raised
pub record AreRaised (more : ℕ → ℕ) (old new : List ℕ) (i : ℕ) : Type 0 where
  pub long : length new ≡ 8
  pub done : (k : ℕ) → k < i → slice_index new k ≡ min 255 (slice_index old k + more k)
  pub left : (k : ℕ) → i ≤ k → slice_index new k ≡ slice_index old k

pub raised-none : (more : ℕ → ℕ) (old : List ℕ) → length old ≡ 8 → AreRaised more old old 0
raised-none more old long = record {
  long = long;
  done = λ k h. absurd (omega arith);
  left = λ k h. refl;
}

pub raised-next : (more : ℕ → ℕ) (old new : List ℕ) (i v : ℕ) → i < 8 → v ≡ min 255 (slice_index new i + more i)
    → AreRaised more old new i → AreRaised more old (set new i v) (i + 1)
raised-next more old new i v few is h =
    let size : length new ≡ 8 = h.long in
    let room : i < length new = omega arith in
    record {
      long = length-set new i v ∙ size;
      done = λ k l. elim (cases_eq k i) [
        | inl here ↦ rw here
            (get_or-set_same new i v 0 room ∙ is ∙ ap (λ n. min 255 (n + more i)) (h.left i (omega arith)))
        | inr other ↦ get_or-set_other new i k v 0 other ∙ h.done k (omega arith)
      ];
      left = λ k l. get_or-set_other new i k v 0 (λ here. omega arith) ∙ h.left k (omega arith);
    }

-- each count with one element more
pub counted-more : {X : Type 0} (p : ℕ → X → Bool) (xs : List X) (i : ℕ) (d : X) (old new : List ℕ) (more : ℕ → Bool)
    → i < length xs → ((k : ℕ) → more k ≡ p k (get_or xs i d))
    → ((k : ℕ) → k < 8 → slice_index new k ≡ min 255 (slice_index old k + cond (more k) 1 0))
    → ((k : ℕ) → k < 8 → slice_index old k ≡ min 255 (count_by (p k) (take i xs))) → (k : ℕ) → k < 8
    → slice_index new k ≡ min 255 (count_by (p k) (take (i + 1) xs))
counted-more p xs i d old new more within is step known k low =
    let one : cond {A = ℕ} (more k) 1 0 ≡ cond {A = ℕ} (p k (get_or xs i d)) 1 0 =
    ap (λ (b : Bool). cond {A = ℕ} b 1 0) (is k) in
    let sum : count_by (p k) (take (i + 1) xs) ≡ count_by (p k) (take i xs) + cond {A = ℕ} (p k (get_or xs i d)) 1 0 =
    sum_by_more (λ x. cond (p k x) 1 0) xs i d within in
    let now = step k low in
    let before = known k low in
    omega arith

-- what is read where a list has no element
abbrev pub no_atom : Atom
no_atom = record { number = 0; isotope = 0; charge = pos 0; hydrogens = 0; aromatic = false; valence = 0 }

abbrev pub no_bond : Bond
no_bond = record { a = 0; b = 0; kind = Single }

-- the class of the atom at a place
pub class-there : (atoms : List Atom) (i : ℕ) (d : Atom) → i < length atoms
    → class_in atoms i ≡ class_of (get_or atoms i d)
class-there atoms i d within = ap class_there (slice_get-get_or atoms i d within)

pub same-sort : (s : BondSort) (k l a b x y : ℕ) → k ≡ l → a ≡ b → x ≡ y → is_of_sort s k a x ≡ is_of_sort s l b y
same-sort s k l a b x y e f g = λ i. is_of_sort s (e i) (f i) (g i)

-- one of the counts before place i is less
abbrev pub LessBefore : List ℕ → List ℕ → ℕ → Type 0
LessBefore xs ys i = (k : ℕ) × (k < i) × (slice_index xs k < slice_index ys k)

pub less-none : (xs ys : List ℕ) → ((false ≡ true) ↔ LessBefore xs ys 0)
less-none xs ys = (λ h. absurd (false≢true h), λ (k, low, less). absurd (omega arith))

pub less-more : (less : Bool) (xs ys : List ℕ) (i : ℕ) → ((less ≡ true) ↔ LessBefore xs ys i)
    → (((less || nat_lt (slice_index xs i) (slice_index ys i)) ≡ true) ↔ LessBefore xs ys (i + 1))
less-more less xs ys i known = (
  λ h. elim (or_cases _ _ h) [
    | inl before ↦ let (k, low, one) = known.0 before in (k, omega arith, one)
    | inr here ↦ (i, omega arith, ltb-true (slice_index xs i) (slice_index ys i) here)
  ],
  λ (k, low, one). elim (cases_eq k i) [
    | inl here ↦ or_right _ _ (lt-ltb (slice_index xs i) (slice_index ys i)
        (subst (λ n. slice_index xs n < slice_index ys n) here one))
    | inr other ↦ or_left _ _ (known.1 (k, omega arith, one))
  ],
)

-- the ends of each bond are atoms
pub ends-within : (n : ℕ) (bonds : List Bond) → IsSimpleGraph n (bond_ends bonds)
    → All (λ b. (b.a < n) × (b.b < n)) bonds
ends-within n bonds graph k d l =
    subst (λ (e : ℕ × ℕ). (e.0 < n) × (e.1 < n)) (get_or-map (λ (b : Bond). (b.a, b.b)) bonds k d (0, 0) l)
    (graph.in_range k (0, 0) (subst (λ m. k < m) (sym (length-map bonds (λ (b : Bond). (b.a, b.b)))) l))
