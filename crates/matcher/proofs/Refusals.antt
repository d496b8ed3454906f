-- Where a place of a graph cannot stand, and a graph whose places are more than their atoms.
use Rattle.std.proofs.Common.{◌≡◌, ℕ, ◌<◌, ◌≤◌, ◌++◌, ◌⊎◌, [], inl, inr, Bool, true, false, bit_or, count_by, List, length, map, take, slice_index, get_or, Contains, sym, ap, ◌∙◌, subst, arith, refl}
use Rattle.std.proofs.Math.Seq.{take-length}
use Rattle.std.specs.Int.{bit_at}
use Rattle.std.proofs.lemmas.Bool.{eqb-true, eq-eqb}
use Rattle.std.proofs.lemmas.List.{get_or_default, get_or-map, get_or-take, length-map, length-take-le}
use Rattle.std.proofs.lemmas.Option.{get_or_from_slice_get}
use Rattle.chem_core.specs.declared.mol.Bond.{Bond}
use Rattle.chem_core.specs.declared.mol.BondKind.TheVariants.{Single}
use Rattle.chem_core.specs.Graph.{JoinsAt}
use Rattle.chem_core.specs.Molecule.{IsMolecule, Molecule, ends_of}
use Rattle.chem_core.specs.Symbols.{class_of}
use Rattle.smarts_parse.specs.Embedding.{BondEmbeds, IsEmbedding}
use Rattle.smarts_parse.specs.Pattern.{BondTerm, GraphTerm}
use Rattle.smarts_parse.specs.Truth.{BondTrue}
use Rattle.matcher.specs.Class.{is_among, is_within}
use Rattle.matcher.specs.declared.plan.EarlierBonds.{EarlierBonds}
use Rattle.matcher.specs.Partial.{CanComplete, Parts}
use Rattle.matcher.specs.Plan.{IsReady, step_at}
use Rattle.matcher.proofs.Classes.{no_element, or_one, stands_at}
use Rattle.matcher.proofs.Joins.{joins_in_range}
use Rattle.matcher.proofs.Partials.{index_front}
use Rattle.matcher.proofs.Pigeons.{marks, marks_map, pigeons}
use Rattle.matcher.proofs.Plans.{empty}

-- not where an earlier one stands
pub stands_before : (parts : Parts) (g : GraphTerm) (m : Molecule) (front rest : List ℕ) (place atom : ℕ)
    → Contains front atom → length front ≤ place → place < length g.atoms → IsEmbedding parts g m (front ++ rest)
    → slice_index (front ++ rest) place ≡ atom → ⊥
stands_before parts g m front rest place atom old after few e is =
    let size : length (front ++ rest) ≡ length g.atoms = e.one_each in
    let there : slice_index (front ++ rest) old.0 ≡ atom = index_front front rest old.0 old.1
    ∙ get_or_default front old.0 0 atom old.1 ∙ old.2 in
    e.distinct old.0 place 0 (omega (arith, old.1)) (omega arith) (there ∙ sym is)

-- more places than atoms
pub excluded : (parts : Parts) (g : GraphTerm) (m : Molecule) (front : List ℕ) (places atoms : List Bool)
    → length places ≤ length g.atoms → marks atoms < marks places
    → ((k : ℕ) → k < length places → get_or places k false ≡ true → (rest : List ℕ)
    → IsEmbedding parts g m (front ++ rest) → get_or atoms (slice_index (front ++ rest) k) false ≡ true)
    → CanComplete parts g m front → ⊥
excluded parts g m front places atoms few fewer within w =
    let e = w.1 in
    let size : length (front ++ w.0) ≡ length g.atoms = e.one_each in
    let all : marks (take (length places) places) ≤ marks atoms =
    pigeons (λ i. slice_index (front ++ w.0) i) places (length places) atoms (omega arith) (λ i l h. within i l h w.0 e)
    (λ i j l k same. e.distinct i j 0 l (omega arith) same) in
    let whole : marks (take (length places) places) ≡ marks places = ap marks (take-length places) in
    omega arith

-- a place of no classes but these stands at an atom of one of them
among_within : (parts : Parts) (g : GraphTerm) (m : Molecule) (steps : List EarlierBonds) (classes : ℕ) (image : List ℕ) (k : ℕ)
    → IsReady g steps → k < length g.atoms → IsEmbedding parts g m image → is_within classes (step_at steps k) ≡ true
    → bit_at classes (class_of (get_or m.atoms (slice_index image k) no_element)) ≡ 1
among_within parts g m steps classes image k ready few e yes' =
    let c : ℕ = class_of (get_or m.atoms (slice_index image k) no_element) in
    let all : bit_or (step_at steps k).classes classes ≡ classes = eqb-true
    (bit_or (step_at steps k).classes classes) classes yes' in
    subst (λ n. bit_at n c ≡ 1) all (or_one (step_at steps k).classes classes c
    (stands_at parts g m steps image k (slice_index image k) ready few e refl))

-- more places of no classes but these than atoms of them
pub crowded : (parts : Parts) (g : GraphTerm) (m : Molecule) (steps : List EarlierBonds) (n classes : ℕ) → IsReady g steps
    → n ≡ length g.atoms → count_by (is_among classes) m.atoms < count_by (is_within classes) (take n steps)
    → CanComplete parts g m [] → ⊥
crowded parts g m steps n classes ready all fewer =
    let room = ready.planned.room in
    let size : length (take n steps) ≡ n = length-take-le n steps (omega arith) in
    let places : length (map (is_within classes) (take n steps)) ≡ n = length-map (take n steps) (is_within classes)
    ∙ size in
    let one = marks_map (is_within classes) (take n steps) in
    let two = marks_map (is_among classes) m.atoms in
    excluded parts g m [] (map (is_within classes) (take n steps)) (map (is_among classes) m.atoms) (omega arith)
    (omega arith)
    (λ k l yes' rest e.
    let short : k < length (take n steps) = omega arith in
    let few : k < length g.atoms = omega arith in
    let within : slice_index rest k < length m.atoms = e.in_range k 0 (omega (arith, e.one_each)) in
    let step : get_or (take n steps) k empty ≡ step_at steps k = get_or-take n steps k empty (omega arith) in
    let mark = sym (ap (is_within classes) step)
    ∙ sym (get_or-map (is_within classes) (take n steps) k empty false short) ∙ yes' in
    get_or-map (is_among classes) m.atoms (slice_index rest k) no_element false within
    ∙ eq-eqb (bit_at classes (class_of (get_or m.atoms (slice_index rest k) no_element))) 1
    (among_within parts g m steps classes rest k ready few e mark))

-- the ends of a bond are those that are read
pub ends_read : (m : Molecule) (b x y : ℕ) (d : Bond) → b < length m.bonds → JoinsAt (ends_of m) b x y
    → ((x ≡ (get_or m.bonds b d).a) × (y ≡ (get_or m.bonds b d).b))
    ⊎ ((x ≡ (get_or m.bonds b d).b) × (y ≡ (get_or m.bonds b d).a))
ends_read m b x y d l joins =
    let inside : b < length (ends_of m) = subst (λ n. b < n) (sym (length-map m.bonds (λ (z : Bond). (z.a, z.b)))) l in
    let read : get_or (ends_of m) b (0, 0) ≡ ((get_or m.bonds b d).a, (get_or m.bonds b d).b) = get_or-map
    (λ (z : Bond). (z.a, z.b)) m.bonds b d (0, 0) l in
    elim joins [
      | inl e ↦
          let is : (x, y) ≡ ((get_or m.bonds b d).a, (get_or m.bonds b d).b) = sym
          (get_or_from_slice_get (ends_of m) b (x, y) (0, 0) e) ∙ read in
          inl (ap (λ (p : ℕ × ℕ). p.0) is, ap (λ (p : ℕ × ℕ). p.1) is)
      | inr e ↦
          let is : (y, x) ≡ ((get_or m.bonds b d).a, (get_or m.bonds b d).b) = sym
          (get_or_from_slice_get (ends_of m) b (y, x) (0, 0) e) ∙ read in
          inr (ap (λ (p : ℕ × ℕ). p.1) is, ap (λ (p : ℕ × ℕ). p.0) is)
    ]

-- the ends of a bond are atoms
pub ends_in_range : (m : Molecule) (b : ℕ) (d : Bond) → IsMolecule m → b < length m.bonds
    → ((get_or m.bonds b d).a < length m.atoms) × ((get_or m.bonds b d).b < length m.atoms)
ends_in_range m b d valid l =
    let inside : b < length (ends_of m) = subst (λ n. b < n) (sym (length-map m.bonds (λ (z : Bond). (z.a, z.b)))) l in
    subst (λ (p : ℕ × ℕ). (p.0 < length m.atoms) × (p.1 < length m.atoms))
    (get_or-map (λ (z : Bond). (z.a, z.b)) m.bonds b d (0, 0) l) (valid.graph.in_range b (0, 0) inside)

abbrev pub no_bond : Bond
no_bond = record { a = 0; b = 0; kind = Single }

-- no embedding, where a bond of the graph lies at no bond
pub no_place : (parts : Parts) (g : GraphTerm) (m : Molecule) (k : ℕ) (bond : BondTerm) → k < length g.bonds
    → ((d : BondTerm) → get_or g.bonds k d ≡ bond)
    → ((b : ℕ) → b < length m.bonds → (image : List ℕ) → IsEmbedding parts g m image
    → JoinsAt (ends_of m) b (slice_index image bond.a) (slice_index image bond.b) → BondTrue bond.expr m b → ⊥)
    → IsMolecule m → CanComplete parts g m [] → ⊥
no_place parts g m k bond l is none valid w =
    let here : BondEmbeds m w.0 bond = subst (BondEmbeds m w.0) (is bond) (w.1.bonds k bond l) in
    none here.0 (joins_in_range m here.0 (slice_index w.0 bond.a) (slice_index w.0 bond.b) valid here.1).0 w.0 w.1
    here.1 here.2
