-- A molecule in which a graph embeds lacks none of what is surely in the graph.
use Rattle.std.proofs.Common.{◌≡◌, ◌≢◌, ◌&&◌, ◌||◌, ℕ, zero, suc, ◌+◌, ◌<◌, ◌≤◌, ◌∙◌, Bool, true, false, List, bit_or, cond, count_by, get_or, length, map, min, set, slice_index, take, AllPairs, Some, slice_get, refl, sym, ap, subst, inl, inr, arith}
use Rattle.std.proofs.Math.Seq.{take-length}
use Rattle.std.specs.Int.{bit_at}
use Rattle.std.proofs.lemmas.Bool.{and_from, and_parts, cases_Bool, cases_eq, cases_lt, eq-eqb, eqb-true, or_cases, or_left, or_right}
use Rattle.std.proofs.lemmas.List.{get_or-map, get_or-set_other, get_or-set_same, length-map, length-set}
use Rattle.std.proofs.lemmas.List.Sums.{count_by_more_no, count_by_more_yes, sum_by_more}
use Rattle.std.proofs.lemmas.Option.{same_Some, slice_get-get_or, slice_get_within}
use Rattle.chem_core.specs.declared.sort_counts.BondSort.{BondSort}
use Rattle.chem_core.specs.declared.sort_counts.SortCounts.{SortCounts}
use Rattle.chem_core.specs.declared.mol.Bond.{Bond}
use Rattle.chem_core.specs.declared.mol.BondKind.{BondKind}
use Rattle.chem_core.specs.declared.mol.BondKind.TheVariants as kinds
use Rattle.chem_core.specs.Graph.{Ends, JoinsAt}
use Rattle.chem_core.specs.Molecule.{Molecule, ends_of}
use Rattle.chem_core.specs.Sorts.{AreCounts, Lacks, atom_sort, bond_sort, class_in, has_class, is_bond_of, is_of_sort, kind_number}
use Rattle.chem_core.specs.Symbols.{class_of}
use Rattle.chem_core.proofs.Sorts.{class-there}
use Rattle.smarts_parse.specs.declared.pattern.BondPrim.{BondPrim}
use Rattle.smarts_parse.specs.declared.pattern.BondPrim.TheVariants as bonds
use Rattle.smarts_parse.specs.declared.pattern.PatBond.{PatBond}
use Rattle.smarts_parse.specs.Embedding.{BondEmbeds, IsEmbedding}
use Rattle.smarts_parse.specs.Pattern.{BondTerm, GraphTerm, Term, Prim, Not, And, Or, bond_of}
use Rattle.smarts_parse.specs.Sound.{pattern_ends}
use Rattle.smarts_parse.specs.Truth.{BondPrimTrue, BondTrue}
use Rattle.matcher.specs.Class.{is_among, is_within}
use Rattle.matcher.specs.Counted.{AreGraphCounts, is_inside, is_sure, is_surely, kinds_of, prim_kinds}
use Rattle.matcher.specs.declared.plan.EarlierBonds.{EarlierBonds}
use Rattle.matcher.specs.Partial.{IsSearchable, Parts}
use Rattle.matcher.specs.Plan.{IsReady, step_at}
use Rattle.matcher.proofs.Classes.{and_both, no_element, or_one, or_two, stands_at}
use Rattle.matcher.proofs.Joins.{joined_back}
use Rattle.matcher.proofs.Narrowings.{end_below, no_term}
use Rattle.matcher.proofs.Pigeons.{marks, marks_map, marks_set}
use Rattle.matcher.proofs.Refusals.{crowded, ends_read, no_bond}
use Rattle.matcher.proofs.Rings.{same_ends}

-- ---- kinds

any_kind : (k : BondKind) → bit_at 31 (kind_number k) ≡ 1
any_kind kinds.Single = refl
any_kind kinds.Double = refl
any_kind kinds.Triple = refl
any_kind kinds.Quad = refl
any_kind kinds.Aromatic = refl

prim_true : (p : BondPrim) (m : Molecule) (b : ℕ) (x : Bond) → BondPrimTrue p m b x
    → bit_at (prim_kinds p) (kind_number x.kind) ≡ 1
prim_true bonds.Single m b x h = ap (λ k. bit_at 1 (kind_number k)) h
prim_true bonds.Double m b x h = ap (λ k. bit_at 2 (kind_number k)) h
prim_true bonds.Triple m b x h = ap (λ k. bit_at 4 (kind_number k)) h
prim_true bonds.Quad m b x h = ap (λ k. bit_at 8 (kind_number k)) h
prim_true bonds.Aromatic m b x h = ap (λ k. bit_at 16 (kind_number k)) h
prim_true bonds.Any m b x h = any_kind x.kind
prim_true bonds.Ring m b x h = any_kind x.kind
prim_true bonds.Unwritten m b x (inl h) = ap (λ k. bit_at 17 (kind_number k)) h
prim_true bonds.Unwritten m b x (inr h) = ap (λ k. bit_at 17 (kind_number k)) h

-- a bond at which an expression is true is of one of its kinds
pub kinds_true : (e : Term BondPrim) (m : Molecule) (b : ℕ) (x : Bond) → slice_get m.bonds b ≡ Some x → BondTrue e m b
    → bit_at (kinds_of e) (kind_number x.kind) ≡ 1
kinds_true (Prim p) m b x get h = subst (λ (y : Bond). bit_at (prim_kinds p) (kind_number y.kind) ≡ 1)
    (same_Some h.0 x (sym h.1 ∙ get)) (prim_true p m b h.0 h.2)
kinds_true (Not e) m b x get h = any_kind x.kind
kinds_true (And e f) m b x get h = and_both (kinds_of e) (kinds_of f) (kind_number x.kind)
    (kinds_true e m b x get h.0) (kinds_true f m b x get h.1)
kinds_true (Or e f) m b x get (inl h) = or_one (kinds_of e) (kinds_of f) (kind_number x.kind)
    (kinds_true e m b x get h)
kinds_true (Or e f) m b x get (inr h) = or_two (kinds_of e) (kinds_of f) (kind_number x.kind)
    (kinds_true f m b x get h)

-- ---- what is surely of a sort is of it

inside_bit : (all some i : ℕ) → is_inside all some ≡ true → bit_at some i ≡ 1 → has_class all i ≡ true
inside_bit all some i h one = eq-eqb (bit_at all i) 1
    (subst (λ n. bit_at n i ≡ 1) (eqb-true (bit_or some all) all h) (or_one some all i one))

forth : (k x y z : Bool) → k ≡ true → x ≡ true → y ≡ true → (k && ((x && y) || z)) ≡ true
forth k x y z e f g = and_from k ((x && y) || z) e (or_left (x && y) z (and_from x y f g))

back : (k z x y : Bool) → k ≡ true → x ≡ true → y ≡ true → (k && (z || (x && y))) ≡ true
back k z x y e f g = and_from k (z || (x && y)) e (or_right z (x && y) (and_from x y f g))

-- either way round
surely_of : (s : BondSort) (some a b kind x y : ℕ) → is_surely s some a b ≡ true → bit_at some kind ≡ 1
    → bit_at a x ≡ 1 → bit_at b y ≡ 1 → (is_of_sort s kind x y ≡ true) × (is_of_sort s kind y x ≡ true)
surely_of s some a b kind x y sure of_kind one two =
    let both = and_parts (is_inside s.kinds some)
    ((is_inside s.one a && is_inside s.other b) || (is_inside s.one b && is_inside s.other a)) sure in
    let k : has_class s.kinds kind ≡ true = inside_bit s.kinds some kind both.0 of_kind in
    elim (or_cases (is_inside s.one a && is_inside s.other b) (is_inside s.one b && is_inside s.other a) both.1) [
      | inl h ↦
          let w = and_parts (is_inside s.one a) (is_inside s.other b) h in
          let f : has_class s.one x ≡ true = inside_bit s.one a x w.0 one in
          let g : has_class s.other y ≡ true = inside_bit s.other b y w.1 two in (
            forth (has_class s.kinds kind) (has_class s.one x) (has_class s.other y)
                (has_class s.one y && has_class s.other x) k f g,
            back (has_class s.kinds kind) (has_class s.one y && has_class s.other x) (has_class s.one x)
                (has_class s.other y) k f g,
          )
      | inr h ↦
          let w = and_parts (is_inside s.one b) (is_inside s.other a) h in
          let f : has_class s.one y ≡ true = inside_bit s.one b y w.0 two in
          let g : has_class s.other x ≡ true = inside_bit s.other a x w.1 one in (
            back (has_class s.kinds kind) (has_class s.one x && has_class s.other y) (has_class s.one y)
                (has_class s.other x) k f g,
            forth (has_class s.kinds kind) (has_class s.one y) (has_class s.other x)
                (has_class s.one x && has_class s.other y) k f g,
          )
    ]

-- ---- different bonds of a graph lie at different bonds

abbrev bond_at : GraphTerm → ℕ → BondTerm
bond_at g i = get_or g.bonds i no_term

-- an embedding takes the bond at place i of the graph to bond b
abbrev LiesAt : GraphTerm → Molecule → List ℕ → ℕ → ℕ → Type 0
LiesAt g m image i b = JoinsAt (ends_of m) b (slice_index image (bond_at g i).a) (slice_index image (bond_at g i).b)

own_ends : (g : GraphTerm) (i : ℕ) → i < length g.bonds
    → JoinsAt (pattern_ends g) i (bond_at g i).a (bond_at g i).b
own_ends g i l =
    let long : i < length (pattern_ends g) =
    subst (λ n. i < n) (sym (length-map g.bonds (λ (z : BondTerm). (z.a, z.b)))) l in
    inl (slice_get-get_or (pattern_ends g) i (0, 0) long
    ∙ ap Some (get_or-map (λ (z : BondTerm). (z.a, z.b)) g.bonds i no_term (0, 0) l))

same_place : (image : List ℕ) (p q : ℕ) → AllPairs ◌≢◌ image → p < length image → q < length image
    → slice_index image p ≡ slice_index image q → p ≡ q
same_place image p q distinct lp lq same = elim (cases_lt p q) [
  | inl before ↦ absurd (distinct p q 0 before lq same)
  | inr after ↦ elim (cases_lt q p) [
    | inl before ↦ absurd (distinct q p 0 before lp (sym same))
    | inr le ↦ omega arith
  ]
]

apart_bonds : (parts : Parts) (g : GraphTerm) (m : Molecule) (image : List ℕ) (i j b : ℕ) → IsSearchable g
    → IsEmbedding parts g m image → i < j → j < length g.bonds → LiesAt g m image i b → LiesAt g m image j b → ⊥
apart_bonds parts g m image i j b searchable e before within h k =
    let ends : Ends = pattern_ends g in
    let p : BondTerm = bond_at g i in
    let q : BondTerm = bond_at g j in
    let one : JoinsAt ends i p.a p.b = own_ends g i (omega arith) in
    let two : JoinsAt ends j q.a q.b = own_ends g j within in
    let size : length image ≡ length g.atoms = e.one_each in
    let pa : p.a < length g.atoms = end_below g i p.b p.a searchable (joined_back ends i p.a p.b one) in
    let pb : p.b < length g.atoms = end_below g i p.a p.b searchable one in
    let qa : q.a < length g.atoms = end_below g j q.b q.a searchable (joined_back ends j q.a q.b two) in
    let qb : q.b < length g.atoms = end_below g j q.a q.b searchable two in
    let same : JoinsAt ends j p.a p.b = elim (same_ends (ends_of m) b (slice_index image p.a) (slice_index image p.b)
    (slice_index image q.a) (slice_index image q.b) h k) [
      | inl w ↦
          let a : q.a ≡ p.a = same_place image q.a p.a e.distinct (omega arith) (omega arith) w.0 in
          let c : q.b ≡ p.b = same_place image q.b p.b e.distinct (omega arith) (omega arith) w.1 in
          subst (λ u. JoinsAt ends j u p.b) a (subst (λ v. JoinsAt ends j q.a v) c two)
      | inr w ↦
          let a : q.a ≡ p.b = same_place image q.a p.b e.distinct (omega arith) (omega arith) w.0 in
          let c : q.b ≡ p.a = same_place image q.b p.a e.distinct (omega arith) (omega arith) w.1 in
          joined_back ends j p.b p.a
          (subst (λ u. JoinsAt ends j u p.a) a (subst (λ v. JoinsAt ends j q.a v) c two))
    ] in
    let equal : i ≡ j = searchable.once i j p.a p.b one same in
    omega arith

-- marked places, of which each stands at a marked one and no two at the same: as many are marked
pigeons_by : (R : ℕ → ℕ → Type 0) (places : List Bool) (k : ℕ) (holes : List Bool) → k ≤ length places
    → ((i : ℕ) → i < k → get_or places i false ≡ true → (b : ℕ) × R i b × (get_or holes b false ≡ true))
    → ((i j b : ℕ) → i < j → j < k → R i b → R j b → ⊥) → marks (take k places) ≤ marks holes
pigeons_by R places zero holes l within apart = omega arith
pigeons_by R places (suc k) holes l within apart =
    let next : k + 1 ≡ suc k = omega arith in
    elim (cases_Bool (get_or places k false)) [
      | inl yes' ↦
          let here = within k (omega arith) yes' in
          let b : ℕ = here.0 in
          let rest : marks (take k places) ≤ marks (set holes b false) = pigeons_by R places k (set holes b false)
          (omega arith)
          (λ i m h.
          let there = within i (omega arith) h in (
            there.0,
            there.1,
            get_or-set_other holes b there.0 false false
                (λ same. apart i k b m (omega arith) (subst (R i) same there.1) here.1) ∙ there.2,
          ))
          (λ i j c m n. apart i j c m (omega arith)) in
          let more : marks (take (k + 1) places) ≡ marks (take k places) + 1 = count_by_more_yes
          (λ (x : Bool). x) places k false (omega arith) yes' in
          let less = marks_set holes b here.2 in
          subst (λ n. marks (take n places) ≤ marks holes) next (omega arith)
      | inr no' ↦
          let rest : marks (take k places) ≤ marks holes = pigeons_by R places k holes (omega arith)
          (λ i m. within i (omega arith)) (λ i j c m n. apart i j c m (omega arith)) in
          let same : marks (take (k + 1) places) ≡ marks (take k places) = count_by_more_no
          (λ (x : Bool). x) places k false (omega arith) no' in
          subst (λ n. marks (take n places) ≤ marks holes) next (omega arith)
    ]

-- ---- a bond that is surely of a sort lies at one of it

joins_below : (m : Molecule) (b x y : ℕ) → JoinsAt (ends_of m) b x y → b < length m.bonds
joins_below m b x y (inl e) =
    subst (λ n. b < n) (length-map m.bonds (λ (z : Bond). (z.a, z.b))) (slice_get_within (ends_of m) b (x, y) e)
joins_below m b x y (inr e) =
    subst (λ n. b < n) (length-map m.bonds (λ (z : Bond). (z.a, z.b))) (slice_get_within (ends_of m) b (y, x) e)

lies_of : (parts : Parts) (g : GraphTerm) (m : Molecule) (steps : List EarlierBonds) (image : List ℕ) (k i b : ℕ)
    → IsReady g steps → IsEmbedding parts g m image → i < length g.bonds
    → is_sure (bond_sort k) steps (bond_at g i) ≡ true → LiesAt g m image i b → BondTrue (bond_at g i).expr m b
    → get_or (map (is_bond_of k m.atoms) m.bonds) b false ≡ true
lies_of parts g m steps image k i b ready e within sure joins truth =
    let ends : Ends = pattern_ends g in
    let p : BondTerm = bond_at g i in
    let own : JoinsAt ends i p.a p.b = own_ends g i within in
    let size : length image ≡ length g.atoms = e.one_each in
    let pa : p.a < length g.atoms = end_below g i p.b p.a ready.searchable (joined_back ends i p.a p.b own) in
    let pb : p.b < length g.atoms = end_below g i p.a p.b ready.searchable own in
    let u : ℕ = slice_index image p.a in
    let v : ℕ = slice_index image p.b in
    let lu : u < length m.atoms = e.in_range p.a 0 (omega arith) in
    let lv : v < length m.atoms = e.in_range p.b 0 (omega arith) in
    let below : b < length m.bonds = joins_below m b u v joins in
    let x : Bond = get_or m.bonds b no_bond in
    let of_kind = kinds_true p.expr m b x (slice_get-get_or m.bonds b no_bond below) truth in
    let either = surely_of (bond_sort k) (kinds_of p.expr) (step_at steps p.a).classes (step_at steps p.b).classes
    (kind_number x.kind) (class_of (get_or m.atoms u no_element)) (class_of (get_or m.atoms v no_element)) sure of_kind
    (stands_at parts g m steps image p.a u ready pa e refl) (stands_at parts g m steps image p.b v ready pb e refl) in
    let cu : class_in m.atoms u ≡ class_of (get_or m.atoms u no_element) = class-there m.atoms u no_element lu in
    let cv : class_in m.atoms v ≡ class_of (get_or m.atoms v no_element) = class-there m.atoms v no_element lv in
    get_or-map (is_bond_of k m.atoms) m.bonds b no_bond false below
    ∙ elim (ends_read m b u v no_bond below joins) [
      | inl w ↦
          (λ t. is_of_sort (bond_sort k) (kind_number x.kind) (class_in m.atoms (sym w.0 t))
          (class_in m.atoms (sym w.1 t)))
          ∙ (λ t. is_of_sort (bond_sort k) (kind_number x.kind) (cu t) (cv t)) ∙ either.0
      | inr w ↦
          (λ t. is_of_sort (bond_sort k) (kind_number x.kind) (class_in m.atoms (sym w.1 t))
          (class_in m.atoms (sym w.0 t)))
          ∙ (λ t. is_of_sort (bond_sort k) (kind_number x.kind) (cv t) (cu t)) ∙ either.1
    ]

bonds_reach : (parts : Parts) (g : GraphTerm) (m : Molecule) (steps : List EarlierBonds) (image : List ℕ) (k : ℕ)
    → IsReady g steps → IsEmbedding parts g m image
    → count_by (is_sure (bond_sort k) steps) g.bonds ≤ count_by (is_bond_of k m.atoms) m.bonds
bonds_reach parts g m steps image k ready e =
    let places : List Bool = map (is_sure (bond_sort k) steps) g.bonds in
    let holes : List Bool = map (is_bond_of k m.atoms) m.bonds in
    let size : length places ≡ length g.bonds = length-map g.bonds (is_sure (bond_sort k) steps) in
    let all : marks (take (length places) places) ≤ marks holes =
    pigeons_by (LiesAt g m image) places (length places) holes (omega arith)
    (λ i l h.
    let within : i < length g.bonds = omega arith in
    let sure : is_sure (bond_sort k) steps (bond_at g i) ≡ true =
    sym (get_or-map (is_sure (bond_sort k) steps) g.bonds i no_term false within) ∙ h in
    let here : BondEmbeds m image (bond_at g i) = e.bonds i no_term within in
    (here.0, here.1, lies_of parts g m steps image k i here.0 ready e within sure here.1 here.2))
    (λ i j b before l h q. apart_bonds parts g m image i j b ready.searchable e before (omega arith) h q) in
    let whole : marks (take (length places) places) ≡ marks places = ap marks (take-length places) in
    let one : marks places ≡ count_by (is_sure (bond_sort k) steps) g.bonds =
    marks_map (is_sure (bond_sort k) steps) g.bonds in
    let two : marks holes ≡ count_by (is_bond_of k m.atoms) m.bonds = marks_map (is_bond_of k m.atoms) m.bonds in
    omega arith

pub graph_reaches : (parts : Parts) (g : GraphTerm) (m : Molecule) (steps : List EarlierBonds) (image : List ℕ)
    (have asked : SortCounts) → IsReady g steps → AreGraphCounts g steps asked → AreCounts m.atoms m.bonds have
    → IsEmbedding parts g m image → Lacks have asked → ⊥
graph_reaches parts g m steps image have asked ready counts are e (inl (k, low, less)) =
    let there : slice_index have.atoms k ≡ min 255 (count_by (is_among (atom_sort k)) m.atoms) = are.of_atoms k low in
    let here : slice_index asked.atoms k
    ≡ min 255 (count_by (is_within (atom_sort k)) (take (length g.atoms) steps)) = counts.of_atoms k low in
    crowded parts g m steps (length g.atoms) (atom_sort k) ready refl (omega arith) (image, e)
graph_reaches parts g m steps image have asked ready counts are e (inr (k, low, less)) =
    let there : slice_index have.bonds k ≡ min 255 (count_by (is_bond_of k m.atoms) m.bonds) = are.of_bonds k low in
    let here : slice_index asked.bonds k ≡ min 255 (count_by (is_sure (bond_sort k) steps) g.bonds) =
    counts.of_bonds k low in
    let reach = bonds_reach parts g m steps image k ready e in
    omega arith

-- ---- the counts of a graph

-- the counts before place i are these
pub record AreFilled (whole : ℕ → ℕ) (counts : List ℕ) (i : ℕ) : Type 0 where
  pub long : length counts ≡ 8
  pub done : (k : ℕ) → k < i → slice_index counts k ≡ whole k

pub filled-next : (whole : ℕ → ℕ) (counts : List ℕ) (i v : ℕ) → i < 8 → v ≡ whole i → AreFilled whole counts i
    → AreFilled whole (set counts i v) (i + 1)
filled-next whole counts i v few is h =
    let size : length counts ≡ 8 = h.long in
    record {
      long = length-set counts i v ∙ size;
      done = λ k l. elim (cases_eq k i) [
        | inl here ↦ rw here (get_or-set_same counts i v 0 (omega arith) ∙ is)
        | inr other ↦ get_or-set_other counts i k v 0 other ∙ h.done k (omega arith)
      ];
    }

-- one bond more
pub counted-next : (p : BondTerm → Bool) (items : List PatBond) (i : ℕ) (bond : PatBond) (count raised : ℕ)
    (more : Bool) → i < length items → bond ≡ get_or items i bond → more ≡ p (bond_of bond)
    → raised ≡ min 255 (count + cond more 1 0) → count ≡ min 255 (count_by p (take i (map bond_of items)))
    → raised ≡ min 255 (count_by p (take (i + 1) (map bond_of items)))
counted-next p items i bond count raised more within is sure now before =
    let terms : List BondTerm = map bond_of items in
    let l : i < length terms = subst (λ n. i < n) (sym (length-map items bond_of)) within in
    let read : get_or terms i (bond_of bond) ≡ bond_of bond =
    get_or-map bond_of items i bond (bond_of bond) within ∙ ap bond_of (sym is) in
    let one : cond {A = ℕ} more 1 0 ≡ cond {A = ℕ} (p (get_or terms i (bond_of bond))) 1 0 =
    ap (λ (t : Bool). cond {A = ℕ} t 1 0) (sure ∙ ap p (sym read)) in
    let sum : count_by p (take (i + 1) terms)
    ≡ count_by p (take i terms) + cond {A = ℕ} (p (get_or terms i (bond_of bond))) 1 0 =
    sum_by_more (λ x. cond (p x) 1 0) terms i (bond_of bond) l in
    omega arith

pub same_surely : (s : BondSort) (k l a b x y : ℕ) → k ≡ l → a ≡ b → x ≡ y → is_surely s k a x ≡ is_surely s l b y
same_surely s k l a b x y e f g = λ i. is_surely s (e i) (f i) (g i)
