-- At which atoms the expressions of a graph are true, as bits of words.
use Rattle.std.proofs.Common.{◌≡◌, ◌↔◌, ◌∙◌, ◌+◌, ◌-◌, ◌*◌, ◌/◌, ◌%◌, ◌^◌, ◌<◌, ◌≤◌, ℕ, Bool, false, true, List, inl, inr, bit_and, bit_or, get_or, length, slice_get, slice_index, set, suc, None, Option, Some, All, ap, arith, refl, subst, sym, w64}
use Rattle.std.specs.Int.{bit_at}
use Rattle.std.specs.Int.{bit_not, from_bool}
use Rattle.std.proofs.lemmas.Nat.Bits.{bit_at-lt, bit_at-zero, bit_at_and, bit_at_not, bit_at_or, bit_at-suc, bit_at_above, bit_at_lowest, bit_at_ones, bit_at_ones_above}
use Rattle.std.specs.Option.{IsSomeAnd}
use Rattle.std.proofs.Math.Nat.{mod-eq_of_lt}
use Rattle.std.proofs.Math.Pow.{pow-lt}
use Rattle.std.proofs.lemmas.Bool.{cases_eq, cases_lt, false≢true}
use Rattle.std.proofs.lemmas.List.{get_or-set_other, get_or-set_same}
use Rattle.std.proofs.lemmas.Nat.{and_mask}
use Rattle.std.proofs.lemmas.Option.{get_or_from_slice_get, none-some, same_Some, slice_get_within, slice_get-get_or}
use Rattle.chem_core.specs.declared.mol.Atom.{Atom}
use Rattle.chem_core.specs.Molecule.{Molecule}
use Rattle.chem_core.specs.Symbols.{HasSymbolAt}
use Rattle.smarts_mean.specs.Table.{HoldsIn, Table, holds_at}
use Rattle.smarts_parse.specs.declared.pattern.AtomPrim.{AtomPrim}
use Rattle.smarts_parse.specs.declared.pattern.AtomPrim.TheVariants as atoms
use Rattle.smarts_parse.specs.Pattern.{And, GraphTerm, Not, Or, Prim, Term, graph_of}
use Rattle.smarts_parse.specs.Sound.{NamesBelow}
use Rattle.smarts_parse.specs.Truth.{AtomPrimTrue, AtomTrue}
use Rattle.matcher.specs.Candidates.{AreTruths, AreTruthsIn, IsTruth, IsTruthAt}
use Rattle.matcher.specs.declared.task.Task.{Task}
use Rattle.matcher.specs.Partial.{Parts}
use Rattle.matcher.proofs.Asked.{names_below}
use Rattle.matcher.proofs.Classes.{no_element, or_one, or_two}
use Rattle.matcher.proofs.PartsHeld.{AreKept, parts_term}

-- a primitive at the atom that is read
pub prim_at : (parts : Parts) (m : Molecule) (a : ℕ) (p : AtomPrim) (r : Bool) (x : Atom) → slice_get m.atoms a ≡ Some x
    → (r ≡ true) ↔ AtomPrimTrue parts p m a x → (r ≡ true) ↔ AtomTrue parts (Prim p) m a
prim_at parts m a p r x get h = (
  λ t. (x, get, h.0 t),
  λ w. h.1 (subst (AtomPrimTrue parts p m a) (same_Some w.0 x (sym w.1 ∙ get)) w.2),
)

-- the lowest k bits are set
pub shifted : (k : ℕ) → k < 64 → 1 * 2 ^ k % 2 ^ 64 ≡ 2 ^ k
shifted k l =
    let one : 1 * 2 ^ k ≡ 2 ^ k = omega arith in
    ap (λ n. n % 2 ^ 64) one ∙ mod-eq_of_lt (pow-lt l)

pub ones_below : (k i : ℕ) → bit_at (2 ^ k - 1) i ≡ 1 ↔ i < k
ones_below k i = (
  λ t. elim (cases_lt i k) [
    | inl before ↦ before
    | inr after ↦ absurd (let zero' = bit_at_ones_above k i after in omega arith)
  ],
  λ l. bit_at_ones k i l,
)

-- no atoms, those of a word but not of another, those of both, and those of either
pub truth_none : (parts : Parts) (m : Molecule) (e : Term AtomPrim) (block : ℕ) → IsTruth parts m e block 0 0
truth_none parts m e block i l =
    let zero' = bit_at-zero i in
    (λ t. absurd (omega arith), λ w. w.0)

pub truth_not : (parts : Parts) (m : Molecule) (e : Term AtomPrim) (block within word : ℕ) → word < 2 ^ 64
    → IsTruth parts m e block within word
    → IsTruth parts m (Not e) block within (bit_and within (bit_not w64 word))
truth_not parts m e block within word room h i l =
    let both = bit_at_and within (bit_not w64 word) i in
    let other = bit_at_not w64 word i room l in
    let one = bit_at-lt word i in
    let two = bit_at-lt within i in (
      λ t. (omega arith, λ yes'. let set' = (h i l).1 (omega arith, yes') in omega arith),
      λ w. elim (cases_eq (bit_at word i) 1) [
        | inl yes' ↦ absurd (w.1 ((h i l).0 yes').1)
        | inr apart ↦ (let set' = w.0 in omega arith)
      ],
    )

pub truth_and : (parts : Parts) (m : Molecule) (e f : Term AtomPrim) (block within a b : ℕ)
    → IsTruth parts m e block within a → IsTruth parts m f block a b → IsTruth parts m (And e f) block within b
truth_and parts m e f block within a b h k i l = (
  λ t. let both = (k i l).0 t in let first = (h i l).0 both.0 in (first.0, (first.1, both.1)),
  λ w. (k i l).1 ((h i l).1 (w.0, w.1.0), w.1.1),
)

pub truth_or : (parts : Parts) (m : Molecule) (e f : Term AtomPrim) (block within a b : ℕ)
    → IsTruth parts m e block within a → IsTruth parts m f block within b
    → IsTruth parts m (Or e f) block within (bit_or a b)
truth_or parts m e f block within a b h k i l =
    let is = bit_at_or a b i in
    let one = bit_at-lt a i in
    let two = bit_at-lt b i in (
      λ t. elim (cases_eq (bit_at a i) 1) [
        | inl yes' ↦ (let w = (h i l).0 yes' in (w.0, inl w.1))
        | inr apart ↦ (let w = (k i l).0 (omega arith) in (w.0, inr w.1))
      ],
      λ w. elim w.1 [
        | inl x ↦ (let y = (h i l).1 (w.0, x) in omega arith)
        | inr x ↦ (let y = (k i l).1 (w.0, x) in omega arith)
      ],
    )

-- a `bool` as a bit
pub bool_bit : (b : Bool) (bit : ℕ) → bit ≡ from_bool b → (bit < 2) × ((bit ≡ 1) ↔ (b ≡ true))
bool_bit true bit is = (omega arith, (λ _. refl, λ _. is))
bool_bit false bit is = (omega arith, (λ one. absurd (omega arith), λ no. absurd (false≢true no)))

-- the lowest bit of a word is new, and the others are those of a second one, one place up
pub lowest_new : (word bit : ℕ) → bit < 2 → bit_at (bit_or (word * 2 % 2 ^ 64) bit) 0 ≡ bit
lowest_new word bit low =
    let both = bit_at_or (word * 2 % 2 ^ 64) bit 0 in
    let one = bit_at_lowest (word * 2 % 2 ^ 64) in
    let two = bit_at_lowest bit in
    omega arith

low_bits : (word i : ℕ) → i < 63 → bit_at (word % 2 ^ 63) i ≡ bit_at word i
low_bits word i low =
    let both = bit_at_and word (2 ^ 63 - 1) i in
    let ones = bit_at_ones 63 i low in
    let one = bit_at-lt word i in
    ap (λ x. bit_at x i) (sym (and_mask word 63)) ∙ omega arith

pub others_up : (word bit i : ℕ) → bit < 2 → i + 1 < 64
    → bit_at (bit_or (word * 2 % 2 ^ 64) bit) (i + 1) ≡ bit_at word i
others_up word bit i low within =
    let up : ℕ = word * 2 % 2 ^ 64 in
    let next : i + 1 ≡ suc i = omega arith in
    let half : up / 2 ≡ word % 2 ^ 63 = omega arith in
    let moved : bit_at up (i + 1) ≡ bit_at word i = ap (bit_at up) next ∙ bit_at-suc up i ∙ ap (λ x. bit_at x i) half
    ∙ low_bits word i (omega arith) in
    let both = bit_at_or up bit (i + 1) in
    let zero' = bit_at_above bit 1 (i + 1) (omega arith) (omega arith) in
    omega arith

-- the bits of the word say where in the block, from the n-th atom on, the primitive is true
abbrev pub IsSeen : Parts → Molecule → AtomPrim → ℕ → ℕ → ℕ → Type 0
IsSeen parts m p block n word = (i : ℕ) → n + i < 64
    → bit_at word i ≡ 1 ↔ AtomTrue parts (Prim p) m (64 * block + (n + i))

-- one atom more, before the others
pub one_seen : (parts : Parts) (m : Molecule) (p : AtomPrim) (block n next word new : ℕ) (r : Bool) → n + 1 ≡ next
    → ((bit_at new 0 ≡ 1) ↔ (r ≡ true)) → ((i : ℕ) → i + 1 < 64 → bit_at new (i + 1) ≡ bit_at word i)
    → (r ≡ true) ↔ AtomTrue parts (Prim p) m (64 * block + n) → IsSeen parts m p block next word
    → IsSeen parts m p block n new
one_seen parts m p block n next word new r after lowest others asked h i l = elim (cases_eq i 0) [
  | inl first ↦
      let here : 64 * block + n ≡ 64 * block + (n + i) = omega arith in
      subst (λ k. bit_at new i ≡ 1 ↔ AtomTrue parts (Prim p) m k) here
      (subst (λ k. bit_at new k ≡ 1 ↔ AtomTrue parts (Prim p) m (64 * block + n)) (sym first)
      (λ t. asked.0 (lowest.0 t), λ w. lowest.1 (asked.1 w)))
  | inr other ↦
      let before : ℕ = i - 1 in
      let is : before + 1 ≡ i = omega arith in
      let there : 64 * block + (next + before) ≡ 64 * block + (n + i) = omega arith in
      let same : bit_at new i ≡ bit_at word before = ap (bit_at new) (sym is) ∙ others before (omega arith) in
      let old = h before (omega arith) in
      subst (λ k. bit_at new i ≡ 1 ↔ AtomTrue parts (Prim p) m k) there
      (λ t. old.0 (sym same ∙ t), λ w. same ∙ old.1 w)
]

-- those of the first block, as they are found at once
pub first_seen : (parts : Parts) (m : Molecule) (p : AtomPrim) (block word : ℕ) → block ≡ 0
    → ((i : ℕ) → i < 64 → bit_at word i ≡ 1 ↔ AtomTrue parts (Prim p) m i) → IsSeen parts m p block 0 word
first_seen parts m p block word first h i l =
    let here : i ≡ 64 * block + (0 + i) = omega arith in
    subst (λ k. bit_at word i ≡ 1 ↔ AtomTrue parts (Prim p) m k) here (h i (omega arith))

some_held : (o : Option Atom) (P : Atom → Type 0) → IsSomeAnd o P ↔ ((x : Atom) × (o ≡ Some x) × P x)
some_held None P = (λ h. absurd h, λ w. absurd (none-some w.0 w.1))
some_held (Some x) P = (λ h. (x, refl, h), λ w. subst P (same_Some w.0 x (sym w.1)) w.2)

pub symbol_found : (parts : Parts) (m : Molecule) (number : ℕ) (lower : Bool) (word i : ℕ)
    → bit_at word i ≡ 1 ↔ HasSymbolAt m.atoms i number lower
    → bit_at word i ≡ 1 ↔ AtomTrue parts (Prim (atoms.Symbol number lower)) m i
symbol_found parts m number lower word i h =
    let held = some_held (slice_get m.atoms i) (λ x. (x.number ≡ number) × (x.aromatic ≡ lower)) in
    (λ t. held.0 (h.0 t), λ w. h.1 (held.1 w))

-- an atom of a number is aromatic or not
pub number_found : (parts : Parts) (m : Molecule) (number a b i : ℕ)
    → bit_at a i ≡ 1 ↔ HasSymbolAt m.atoms i number false → bit_at b i ≡ 1 ↔ HasSymbolAt m.atoms i number true
    → bit_at (bit_or a b) i ≡ 1 ↔ AtomTrue parts (Prim (atoms.Number number)) m i
number_found parts m number a b i h k = (
  λ t.
      let is = bit_at_or a b i in
      let one = bit_at-lt a i in
      let two = bit_at-lt b i in
      elim (cases_eq (bit_at a i) 1) [
        | inl yes' ↦ (let w = plain.0 yes' in (w.0, w.1, w.2.0))
        | inr apart ↦ (let w = aromatic.0 (omega arith) in (w.0, w.1, w.2.0))
      ],
  λ w. of_kind w.0.aromatic w refl,
)
  where
    plain : bit_at a i ≡ 1 ↔ AtomTrue parts (Prim (atoms.Symbol number false)) m i
    plain = symbol_found parts m number false a i h

    aromatic : bit_at b i ≡ 1 ↔ AtomTrue parts (Prim (atoms.Symbol number true)) m i
    aromatic = symbol_found parts m number true b i k

    of_kind : (kind : Bool) (w : AtomTrue parts (Prim (atoms.Number number)) m i) → w.0.aromatic ≡ kind
        → bit_at (bit_or a b) i ≡ 1
    of_kind false w is = or_one a b i (plain.1 (w.0, w.1, (w.2, is)))
    of_kind true w is = or_two a b i (aromatic.1 (w.0, w.1, (w.2, is)))

-- all atoms of the block are seen, and those of a word are taken
pub all_seen : (parts : Parts) (m : Molecule) (p : AtomPrim) (block within n word : ℕ) → n ≡ 0
    → IsSeen parts m p block n word → IsTruth parts m (Prim p) block within (bit_and word within)
all_seen parts m p block within n word none h i l =
    let both = bit_at_and word within i in
    let one = bit_at-lt word i in
    let two = bit_at-lt within i in
    let all : 64 * block + (n + i) ≡ 64 * block + i = omega arith in
    let here : bit_at word i ≡ 1 ↔ AtomTrue parts (Prim p) m (64 * block + i) =
    subst (λ k. bit_at word i ≡ 1 ↔ AtomTrue parts (Prim p) m k) all (h i (omega arith)) in (
      λ t. (omega arith, here.0 (omega arith)),
      λ w.
          let mine = w.0 in
          let set' = here.1 w.1 in
          omega arith,
    )

-- the atom of a block, as it is read
pub prim_seen : (parts : Parts) (m : Molecule) (p : AtomPrim) (block i : ℕ) (atoms' : List Atom) (r : Bool)
    → i < length atoms' → ((j : ℕ) → j < length atoms' → slice_get atoms' j ≡ slice_get m.atoms (64 * block + j))
    → (r ≡ true) ↔ AtomPrimTrue parts p m (64 * block + i) (get_or atoms' i no_element)
    → (r ≡ true) ↔ AtomTrue parts (Prim p) m (64 * block + i)
prim_seen parts m p block i atoms' r within same asked = prim_at parts m (64 * block + i) p r
    (get_or atoms' i no_element) (sym (same i within) ∙ slice_get-get_or atoms' i no_element within) asked

-- all atoms of the block are asked
pub truth_whole : (task : Task) (block place within word : ℕ) (t : Term AtomPrim)
    → ((i : ℕ) → i < 64 → 64 * block + i < length task.mol.now.atoms → bit_at within i ≡ 1)
    → slice_get (graph_of task.graph.now).atoms place ≡ Some t
    → IsTruth (HoldsIn task.table.now) task.mol.now t block within word → IsTruthAt task block place word
truth_whole task block place within word t all get h e at i l r =
    let one = subst (λ x. bit_at word i ≡ 1
    ↔ ((bit_at within i ≡ 1) × AtomTrue (HoldsIn task.table.now) x task.mol.now (64 * block + i)))
    (same_Some t e (sym get ∙ at)) (h i l) in
    (λ s. (one.0 s).1, λ w. one.1 (all i l r, w))

-- the same expression as at another place
pub truth_same : (task : Task) (block before place word : ℕ) (t : Term AtomPrim)
    → slice_get (graph_of task.graph.now).atoms before ≡ Some t
    → slice_get (graph_of task.graph.now).atoms place ≡ Some t
    → IsTruthAt task block before word → IsTruthAt task block place word
truth_same task block before place word t get here h e at = h e (get ∙ sym here ∙ at)

-- the words of the first n places of a block, with one more
pub block_more : (task : Task) (block n word : ℕ) (words : List ℕ) → 256 * block + n < length words
    → ((p : ℕ) → p < n → IsTruthAt task block p (slice_index words (256 * block + p))) → IsTruthAt task block n word
    → (p : ℕ) → p < n + 1 → IsTruthAt task block p (slice_index (set words (256 * block + n) word) (256 * block + p))
block_more task block n word words room h here p l = elim (cases_eq p n) [
  | inl same ↦ subst (λ q. IsTruthAt task block q (slice_index (set words (256 * block + n) word) (256 * block + q)))
      (sym same) (subst (IsTruthAt task block n) (sym (get_or-set_same words (256 * block + n) word 0 room)) here)
  | inr other ↦ subst (IsTruthAt task block p)
      (sym (get_or-set_other words (256 * block + n) (256 * block + p) word 0 (λ same. other (omega arith))))
      (h p (omega arith))
]

-- the words of all blocks
pub truths_all : (task : Task) (blocks : ℕ) (words : List ℕ) → length task.mol.now.atoms ≤ 64 * blocks
    → ((b p : ℕ) → b < blocks → p < length (graph_of task.graph.now).atoms
    → IsTruthAt task b p (slice_index words (256 * b + p))) → AreTruths task words
truths_all task blocks words enough h p a l r =
    let block : ℕ = a / 64 in
    let bit : ℕ = a % 64 in
    let is : 64 * block + bit ≡ a = omega arith in
    let both : (e : Term AtomPrim) → slice_get (graph_of task.graph.now).atoms p ≡ Some e
    → bit_at (slice_index words (256 * block + p)) bit ≡ 1 ↔ AtomTrue (HoldsIn task.table.now) e task.mol.now a =
    λ e get. subst (λ k. bit_at (slice_index words (256 * block + p)) bit ≡ 1
    ↔ AtomTrue (HoldsIn task.table.now) e task.mol.now k) is
    (h block p (omega arith) l e get bit (omega arith) (omega arith)) in
    let e : Term AtomPrim = get_or (graph_of task.graph.now).atoms p (Prim atoms.Any) in
    let get : slice_get (graph_of task.graph.now).atoms p ≡ Some e = slice_get-get_or (graph_of task.graph.now).atoms p (Prim atoms.Any) l in (
      λ t f at. (both f at).0 t,
      λ w. (both e get).1 (w e get),
    )

-- the same where the parts that the graph names hold at the same atoms
truths_still : (P Q : Parts) (n : ℕ) (g : GraphTerm) (m : Molecule) (words : List ℕ) → All (NamesBelow n) g.atoms
    → ((k a : ℕ) → k < n → a < length m.atoms → P k a ↔ Q k a) → AreTruthsIn P g m words → AreTruthsIn Q g m words
truths_still P Q n g m words names same h p a l r = (
  λ t e get. (alike e get).0 ((h p a l r).0 t e get),
  λ w. (h p a l r).1 (λ e get. (alike e get).1 (w e get)),
)
  where
    named : (e : Term AtomPrim) → slice_get g.atoms p ≡ Some e → NamesBelow n e
    named e get = subst (NamesBelow n) (get_or_from_slice_get g.atoms p e e get)
        (names p e (slice_get_within g.atoms p e get))

    alike : (e : Term AtomPrim) → slice_get g.atoms p ≡ Some e → AtomTrue P e m a ↔ AtomTrue Q e m a
    alike e get = parts_term P Q e m a
        (names_below (λ k. P k a ↔ Q k a) n e (named e get) (λ k j. same k a j r))

-- the same where a block of the part is noted
pub truths_noted : (g : GraphTerm) (m : Molecule) (words : List ℕ) (old new : Table) (part block : ℕ)
    → AreKept old new part block → part < 64 → length m.atoms ≤ 999 → All (NamesBelow part) g.atoms
    → AreTruthsIn (HoldsIn old) g m words → AreTruthsIn (HoldsIn new) g m words
truths_noted g m words old new part block others low few names =
    truths_still (HoldsIn old) (HoldsIn new) part g m words names (λ k a l r.
    let same : holds_at new k a ≡ holds_at old k a = others k a (omega arith) (omega arith) (λ e _. omega arith) in
    (λ h. same ∙ h, λ h. sym same ∙ h))

-- the atoms of the molecule at which a part holds by its row, and all atoms
pub truth_part : (table : Table) (m : Molecule) (k block within all row : ℕ)
    → ((i : ℕ) → i < 64 → bit_at all i ≡ 1 ↔ 64 * block + i < length m.atoms)
    → ((i : ℕ) → i < 64 → bit_at row i ≡ 1 ↔ HoldsIn table k (64 * block + i))
    → IsTruth (HoldsIn table) m (Prim (atoms.Rec k)) block within (bit_and (bit_and within all) row)
truth_part table m k block within all row inside holds i l =
    let both = bit_at_and (bit_and within all) row i in
    let first = bit_at_and within all i in
    let one = bit_at-lt within i in
    let two = bit_at-lt all i in
    let three = bit_at-lt row i in
    let a : ℕ = 64 * block + i in (
      λ t.
          let here : a < length m.atoms = (inside i l).0 (omega arith) in (
            omega arith,
            (get_or m.atoms a no_element, slice_get-get_or m.atoms a no_element here, (holds i l).0 (omega arith)),
          ),
      λ w.
          let mine = w.0 in
          let inner = (inside i l).1 (slice_get_within m.atoms a w.1.0 w.1.1) in
          let held = (holds i l).1 w.1.2 in
          omega arith,
    )

pub truth_any : (parts : Parts) (m : Molecule) (block within all : ℕ)
    → ((i : ℕ) → i < 64 → bit_at all i ≡ 1 ↔ 64 * block + i < length m.atoms)
    → IsTruth parts m (Prim atoms.Any) block within (bit_and within all)
truth_any parts m block within all inside i l =
    let both = bit_at_and within all i in
    let one = bit_at-lt within i in
    let two = bit_at-lt all i in
    let a : ℕ = 64 * block + i in (
      λ t.
          let here : a < length m.atoms = (inside i l).0 (omega arith) in
          (omega arith, (get_or m.atoms a no_element, slice_get-get_or m.atoms a no_element here, tt)),
      λ w.
          let mine = w.0 in
          let inner = (inside i l).1 (slice_get_within m.atoms a w.1.0 w.1.1) in
          omega arith,
    )
