-- A graph of two places and one bond: it stands at two atoms that a bond joins, where all three are as asked.
use Rattle.std.proofs.Common.{◌≡◌, ◌≢◌, ◌⊎◌, ◌∙◌, ◌+◌, ◌*◌, ◌<◌, ◌≤◌, ℕ, zero, suc, List, [], ◌∷◌, bit_and, get_or, inl, inr, length, map, min, slice_get, slice_index, Some, All, AllPairs, ap, arith, refl, subst, sym}
use Rattle.std.specs.Int.{bit_at}
use Rattle.std.proofs.lemmas.List.{get_or-map, get_or_default, length-map}
use Rattle.std.proofs.lemmas.Nat.Bits.{bit_at-lt, bit_at_and}
use Rattle.std.proofs.lemmas.Option.{slice_get-get_or, slice_get_within, get_or_from_slice_get}
use Rattle.chem_core.specs.declared.mol.Bond.{Bond}
use Rattle.chem_core.specs.Component.{Reaches}
use Rattle.chem_core.specs.Graph.{JoinsAt}
use Rattle.chem_core.specs.Molecule.{IsMolecule, Molecule, ends_of}
use Rattle.chem_core.proofs.Components.{reaches_back, reaches_joined, reaches_self}
use Rattle.smarts_parse.specs.declared.pattern.AtomPrim.{AtomPrim}
use Rattle.smarts_parse.specs.declared.pattern.BondPrim.{BondPrim}
use Rattle.smarts_parse.specs.declared.pattern.PatBond.{PatBond}
use Rattle.smarts_parse.specs.Embedding.{AreGrouped, BondEmbeds}
use Rattle.smarts_parse.specs.Pattern.{GraphTerm, Term, bond_of, term_of}
use Rattle.smarts_parse.specs.Truth.{AtomTrue, BondTrue}
use Rattle.matcher.specs.declared.plan.EarlierBonds.{EarlierBonds}
use Rattle.matcher.specs.Candidates.{AreTruthsIn, IsCandidate, IsTrueIn}
use Rattle.matcher.specs.Partial.{CanComplete, Parts}
use Rattle.matcher.specs.Plan.{IsReady, step_at}
use Rattle.matcher.proofs.Joins.{joined_back, joins_in_range}
use Rattle.matcher.proofs.Narrowings.{low_candidate}
use Rattle.matcher.proofs.Partials.{embeds_joined}
use Rattle.matcher.proofs.Plans.{first_bond}
use Rattle.matcher.proofs.Refusals.{no_bond}

-- a bond of the first n at which the expression is true joins the atom to one of a word
abbrev pub IsLed : Term BondPrim → Molecule → List Bond → ℕ → ℕ → ℕ → Type 0
IsLed expr m bonds second n x = (k : ℕ) × (k < n) × BondTrue expr m k
    × (((x ≡ (get_or bonds k no_bond).a) × (bit_at second (get_or bonds k no_bond).b ≡ 1))
    ⊎ ((x ≡ (get_or bonds k no_bond).b) × (bit_at second (get_or bonds k no_bond).a ≡ 1)))

pub led_more : (expr : Term BondPrim) (m : Molecule) (bonds : List Bond) (second n x : ℕ)
    → IsLed expr m bonds second n x → IsLed expr m bonds second (n + 1) x
led_more expr m bonds second n x h = (h.0, let l = h.1 in omega arith, h.2, h.3)

pub led_here : (expr : Term BondPrim) (m : Molecule) (bonds : List Bond) (second n place x : ℕ) → place ≡ n
    → BondTrue expr m n
    → ((x ≡ (get_or bonds place no_bond).a) × (bit_at second (get_or bonds place no_bond).b ≡ 1))
    ⊎ ((x ≡ (get_or bonds place no_bond).b) × (bit_at second (get_or bonds place no_bond).a ≡ 1))
    → IsLed expr m bonds second (n + 1) x
led_here expr m bonds second n place x same holds h =
    (place, omega arith, subst (BondTrue expr m) (sym same) holds, h)

pub joined_read : (m : Molecule) (k : ℕ) → k < length m.bonds
    → JoinsAt (ends_of m) k (get_or m.bonds k no_bond).a (get_or m.bonds k no_bond).b
joined_read m k l =
    let inside : k < length (ends_of m) = subst (λ n. k < n) (sym (length-map m.bonds (λ (z : Bond). (z.a, z.b)))) l in
    inl (slice_get-get_or (ends_of m) k (0, 0) inside
    ∙ ap (λ (p : ℕ × ℕ). Some p) (get_or-map (λ (z : Bond). (z.a, z.b)) m.bonds k no_bond (0, 0) l))

pub led_joins : (expr : Term BondPrim) (m : Molecule) (second n x : ℕ) → n ≤ length m.bonds
    → IsLed expr m m.bonds second n x
    → (b y : ℕ) × JoinsAt (ends_of m) b x y × BondTrue expr m b × (bit_at second y ≡ 1)
led_joins expr m second n x room h =
    let k : ℕ = h.0 in
    let l = h.1 in
    let here = joined_read m k (omega arith) in
    let low : ℕ = (get_or m.bonds k no_bond).a in
    let high : ℕ = (get_or m.bonds k no_bond).b in
    elim h.3 [
      | inl p ↦ (k, high, subst (λ u. JoinsAt (ends_of m) k u high) (sym p.0) here, h.2, p.1)
      | inr p ↦
          let back = joined_back (ends_of m) k low high here in
          (k, low, subst (λ u. JoinsAt (ends_of m) k u low) (sym p.0) back, h.2, p.1)
    ]

two_all : (P : ℕ → Type 0) (a y : ℕ) → P a → P y → All P (a ∷ y ∷ [])
two_all P a y h k zero d l = h
two_all P a y h k (suc zero) d l = k
two_all P a y h k (suc (suc i)) d l = absurd (omega arith)

two_apart : (a y : ℕ) → a ≢ y → AllPairs ◌≢◌ (a ∷ y ∷ [])
two_apart a y h zero zero d l r = absurd (omega arith)
two_apart a y h zero (suc zero) d l r = h
two_apart a y h zero (suc (suc j)) d l r = absurd (omega arith)
two_apart a y h (suc i) j d l r = absurd (omega arith)

two_grouped : (groups : List ℕ) (m : Molecule) (a y : ℕ) → slice_index groups 0 ≡ slice_index groups 1
    → Reaches (ends_of m) a y → AreGrouped groups m (a ∷ y ∷ [])
two_grouped groups m a y same there zero zero l k n o = (λ _. reaches_self (ends_of m) a, λ _. refl)
two_grouped groups m a y same there zero (suc zero) l k n o = (λ _. there, λ _. same)
two_grouped groups m a y same there (suc zero) zero l k n o = (λ _. reaches_back (ends_of m) a y there, λ _. sym same)
two_grouped groups m a y same there (suc zero) (suc zero) l k n o = (λ _. reaches_self (ends_of m) y, λ _. refl)
two_grouped groups m a y same there zero (suc (suc j)) l k n o = absurd (omega arith)
two_grouped groups m a y same there (suc zero) (suc (suc j)) l k n o = absurd (omega arith)
two_grouped groups m a y same there (suc (suc i)) j l k n o = absurd (omega arith)

joined_apart : (m : Molecule) (b x y : ℕ) → IsMolecule m → JoinsAt (ends_of m) b x y → x ≢ y
joined_apart m b x y valid (inl e) = subst (λ (z : ℕ × ℕ). z.0 ≢ z.1)
    (get_or_from_slice_get (ends_of m) b (x, y) (x, y) e)
    (valid.graph.distinct b (x, y) (slice_get_within (ends_of m) b (x, y) e))
joined_apart m b x y valid (inr e) = λ same. (subst (λ (z : ℕ × ℕ). z.0 ≢ z.1)
    (get_or_from_slice_get (ends_of m) b (y, x) (y, x) e)
    (valid.graph.distinct b (y, x) (slice_get_within (ends_of m) b (y, x) e))) (sym same)

two_true : (parts : Parts) (g : GraphTerm) (m : Molecule) (a y : ℕ) → length g.atoms ≡ 2 → IsTrueIn parts g m 0 a
    → IsTrueIn parts g m 1 y → (k : ℕ) (e : Term AtomPrim) → slice_get g.atoms k ≡ Some e
    → AtomTrue parts e m (slice_index (a ∷ y ∷ []) k)
two_true parts g m a y two here there zero e get = here e get
two_true parts g m a y two here there (suc zero) e get = there e get
two_true parts g m a y two here there (suc (suc k)) e get = absurd
    (let l = slice_get_within g.atoms (suc (suc k)) e get in omega arith)

-- the graph stands at the two atoms
pub pair_completes : (parts : Parts) (g : GraphTerm) (m : Molecule) (steps : List EarlierBonds) (bonds : List PatBond)
    (bond : PatBond) (a y b : ℕ) → g.bonds ≡ map bond_of bonds → IsReady g steps → length g.atoms ≡ 2
    → length g.bonds ≡ 1 → slice_index g.groups 0 ≡ slice_index g.groups 1
    → (step_at steps 1).from < (step_at steps 1).to → bond ≡ get_or bonds (step_at steps 1).from bond → IsMolecule m
    → IsTrueIn parts g m 0 a → IsTrueIn parts g m 1 y → JoinsAt (ends_of m) b a y → BondTrue (term_of bond.expr) m b
    → CanComplete parts g m (a ∷ [])
pair_completes parts g m steps bonds bond a y b same ready two one groups lt is valid here there joins true' =
    let place : ℕ = (step_at steps 1).from in
    let first = first_bond bonds g steps 1 bond same ready (omega arith) lt is in
    let end = ready.planned.ends 1 (omega arith) in
    let zero' : place ≡ 0 = omega arith in
    let high = first.0 in
    let apart = first.1 in
    let low : min bond.a bond.b ≡ 0 = omega arith in
    let embedded : BondEmbeds m (a ∷ y ∷ []) (bond_of bond) = (embeds_joined m (a ∷ []) y (bond_of bond) high apart).1
    (b, subst (λ k. JoinsAt (ends_of m) b (slice_index (a ∷ []) k) y) (sym low) joins, true') in (
      y ∷ [],
      record {
        one_each = sym two;
        in_range = two_all (λ x. x < length m.atoms) a y
            (joins_in_range m b y a valid (joined_back (ends_of m) b a y joins)).1
            (joins_in_range m b a y valid joins).1;
        distinct = two_apart a y (joined_apart m b a y valid joins);
        atoms = two_true parts g m a y two here there;
        bonds = λ k d l. subst (λ j. BondEmbeds m (a ∷ y ∷ []) (get_or g.bonds j d)) (omega arith)
            (subst (BondEmbeds m (a ∷ y ∷ [])) (sym (first.2 d)) embedded);
        groups = two_grouped g.groups m a y groups (reaches_joined (ends_of m) a y (b, joins));
      },
    )

-- an embedding begins at each atom of a word that a bond, as is asked, joins to a candidate of the second place
pub pair_begins : (parts : Parts) (g : GraphTerm) (m : Molecule) (words : List ℕ) (steps : List EarlierBonds)
    (bonds : List PatBond) (bond : PatBond) (block all second found i : ℕ) → length m.atoms ≤ 64 → IsMolecule m
    → g.bonds ≡ map bond_of bonds → IsReady g steps → length g.atoms ≡ 2 → length g.bonds ≡ 1
    → slice_index g.groups 0 ≡ slice_index g.groups 1 → AreTruthsIn parts g m words
    → (step_at steps 1).from < (step_at steps 1).to → bond ≡ get_or bonds (step_at steps 1).from bond
    → 1 < length words → second ≡ get_or words 1 second
    → ((x : ℕ) → bit_at found x ≡ 1 → (b y : ℕ) × JoinsAt (ends_of m) b x y × BondTrue (term_of bond.expr) m b
    × (bit_at second y ≡ 1))
    → ((i : ℕ) → i < 64 → bit_at all i ≡ 1 → (64 * block + i < length m.atoms) × IsCandidate words 0 (64 * block + i))
    → i < 64 → bit_at (bit_and all found) i ≡ 1
    → (bit_at all i ≡ 1) × CanComplete parts g m ((64 * block + i) ∷ [])
pair_begins parts g m words steps bonds bond block all second found i small valid same ready two one groups truths lt is
    room read only first low bit =
    let a : ℕ = 64 * block + i in
    let both = bit_at_and all found i in
    let left = bit_at-lt all i in
    let right = bit_at-lt found i in
    let mine : bit_at all i ≡ 1 = omega arith in
    let led = only i (omega arith) in
    let here = first i low mine in
    let within = here.0 in
    let at : i ≡ a = omega arith in
    let joins : JoinsAt (ends_of m) led.0 a led.1 = subst (λ k. JoinsAt (ends_of m) led.0 k led.1) at led.2 in
    let there : led.1 < length m.atoms = (joins_in_range m led.0 a led.1 valid joins).1 in
    let word : second ≡ get_or words 1 0 = read ∙ get_or_default words 1 second 0 room in
    let candidate : IsCandidate words 1 led.1 = low_candidate words 1 led.1 (omega arith)
    (subst (λ v. bit_at v led.1 ≡ 1) word led.4) in (
      mine,
      pair_completes parts g m steps bonds bond a led.1 led.0 same ready two one groups lt is valid
          ((truths 0 a (omega arith) within).0 here.1) ((truths 1 led.1 (omega arith) there).0 candidate) joins led.3,
    )
