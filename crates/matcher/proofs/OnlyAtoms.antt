-- A graph of one atom.
use Rattle.std.proofs.Common.{◌≡◌, ◌≢◌, ◌<◌, ℕ, zero, suc, List, [], ◌∷◌, length, get_or, slice_get, slice_index, Some, All, inl, inr, refl, sym, subst, arith}
use Rattle.std.proofs.lemmas.Bool.{cases_eq}
use Rattle.std.proofs.lemmas.List.{get_or-map, length-map}
use Rattle.std.proofs.lemmas.Option.{slice_get_within}
use Rattle.chem_core.specs.Molecule.{Molecule, ends_of}
use Rattle.chem_core.proofs.Components.{reaches_self}
use Rattle.smarts_parse.specs.Embedding.{AreGrouped}
use Rattle.smarts_parse.specs.Pattern.{BondTerm, GraphTerm}
use Rattle.smarts_parse.specs.Sound.{pattern_ends}
use Rattle.smarts_parse.specs.Truth.{AtomTrue}
use Rattle.matcher.specs.Candidates.{IsTrueIn}
use Rattle.matcher.specs.Partial.{CanComplete, IsSearchable, Parts}
use Rattle.matcher.proofs.Places.{all_apart}

pub all_one : (P : ℕ → Type 0) (a : ℕ) → P a → All P (a ∷ [])
all_one P a h zero d l = h
all_one P a h (suc i) d l = absurd (omega arith)

-- one atom keeps to any groups
pub one_grouped : (groups : List ℕ) (m : Molecule) (a : ℕ) → AreGrouped groups m (a ∷ [])
one_grouped groups m a zero zero l k n o = (λ _. reaches_self (ends_of m) a, λ _. refl)
one_grouped groups m a zero (suc j) l k n o = absurd (omega arith)
one_grouped groups m a (suc i) j l k n o = absurd (omega arith)

-- a graph of one atom has no bond
pub no_bonds : (g : GraphTerm) → All (λ e. (e.0 < length g.atoms) × (e.1 < length g.atoms)) (pattern_ends g)
    → All (λ e. e.0 ≢ e.1) (pattern_ends g) → length g.atoms ≡ 1 → (k : ℕ) (d : BondTerm) → k < length g.bonds → ⊥
no_bonds g ends distinct one k d l =
    let bond : BondTerm = get_or g.bonds k d in
    let within = subst (λ n. k < n) (sym (length-map g.bonds (λ (b : BondTerm). (b.a, b.b)))) l in
    let both : (bond.a < length g.atoms) × (bond.b < length g.atoms) =
    subst (λ (e : ℕ × ℕ). (e.0 < length g.atoms) × (e.1 < length g.atoms))
    (get_or-map (λ (b : BondTerm). (b.a, b.b)) g.bonds k d (0, 0) l) (ends k (0, 0) within) in
    let left : bond.a < length g.atoms = both.0 in
    let right : bond.b < length g.atoms = both.1 in
    let apart : bond.a ≢ bond.b = all_apart g distinct k d l in
    apart (omega arith)

-- it stands at each atom where its expression is true
pub one_completes : (parts : Parts) (g : GraphTerm) (m : Molecule) (a : ℕ) → IsSearchable g → length g.atoms ≡ 1
    → a < length m.atoms → IsTrueIn parts g m 0 a → CanComplete parts g m (a ∷ [])
one_completes parts g m a graph one within holds = (
  [],
  record {
    one_each = sym one;
    in_range = all_one (λ x. x < length m.atoms) a within;
    distinct = λ i j d l r. absurd (omega arith);
    atoms = λ i e get. elim (cases_eq i 0) [
      | inl first ↦ subst (λ j. AtomTrue parts e m (slice_index (a ∷ []) j)) (sym first)
          (holds e (subst (λ j. slice_get g.atoms j ≡ Some e) first get))
      | inr later ↦ absurd (let few = slice_get_within g.atoms i e get in omega arith)
    ];
    bonds = λ i d l. absurd (no_bonds g graph.ends graph.apart one i d l);
    groups = one_grouped g.groups m a;
  },
)
