-- Candidates of a place: what an embedding keeps of them.
use Rattle.std.proofs.Common.{◌≡◌, ◌≢◌, ◌⊎◌, ℕ, ◌+◌, ◌*◌, ◌/◌, ◌%◌, ◌^◌, ◌<◌, ◌≤◌, w64, Bool, List, [], ◌∷◌, length, map, get_or, set, slice_index, bit_and, bit_or, Some, slice_get, sym, ap, ◌∙◌, subst, arith, inl, inr, refl}
use Rattle.std.specs.Int.{bit_at}
use Rattle.std.specs.Prelude.{count_ones}
use Rattle.std.proofs.lemmas.Bool.{cases_lt, cases_eq}
use Rattle.std.proofs.lemmas.List.{get_or-map, get_or-set_other, get_or-set_same, length-map}
use Rattle.std.proofs.lemmas.List.Elements.{All-cons}
use Rattle.std.proofs.lemmas.List.Kept.{AllPairs-cons}
use Rattle.std.proofs.lemmas.Nat.Bits.{bit_at-zero, bit_at_set_same}
use Rattle.std.proofs.lemmas.Option.{get_or_from_slice_get, slice_get_within, slice_get-get_or}
use Rattle.chem_core.specs.declared.mol.Bond.{Bond}
use Rattle.chem_core.specs.Graph.{IsRingBond, JoinsAt, Joined}
use Rattle.chem_core.specs.Molecule.{IsMolecule, Molecule, ends_of}
use Rattle.smarts_parse.specs.declared.pattern.BondPrim.TheVariants as bonds
use Rattle.smarts_parse.specs.declared.pattern.PatBond.{PatBond}
use Rattle.smarts_parse.specs.Embedding.{BondEmbeds}
use Rattle.smarts_parse.specs.Pattern.{BondTerm, GraphTerm, Prim, bond_of, graph_of, term_of}
use Rattle.smarts_parse.specs.Sound.{pattern_ends}
use Rattle.matcher.specs.declared.task.Task.{Task}
use Rattle.matcher.specs.Candidates.{AreCandidates, IsCandidate}
use Rattle.matcher.specs.declared.narrow.Around.{Around}
use Rattle.matcher.specs.Narrow.{AreAround, AreNear, AreRingNear, HasAround, IsReach, around_at, more_around}
use Rattle.matcher.specs.Partial.{IsSearchable}
use Rattle.matcher.specs.Ring.{AreOnRings, IsMarked}
use Rattle.matcher.specs.Task.{Completes, Embeds, IsReadyTask}
use Rattle.matcher.specs.Wanted.{IsWithin}
use Rattle.matcher.proofs.Classes.{and_both, or_one, or_two}
use Rattle.matcher.proofs.Joins.{joined_back, joins_in_range}
use Rattle.matcher.proofs.Ones.{distinct_ones}
use Rattle.matcher.proofs.Refusals.{ends_in_range, ends_read, no_bond}

abbrev pub no_term : BondTerm
no_term = record { a = 0; b = 0; expr = Prim bonds.Any }

-- the ends of a bond of a graph, as they are read
pub ends_at : (g : GraphTerm) (j x y : ℕ) → JoinsAt (pattern_ends g) j x y → (j < length g.bonds)
    × (((x ≡ (get_or g.bonds j no_term).a) × (y ≡ (get_or g.bonds j no_term).b))
    ⊎ ((x ≡ (get_or g.bonds j no_term).b) × (y ≡ (get_or g.bonds j no_term).a)))
ends_at g j x y (inl e) =
    let inside : j < length g.bonds = subst (λ n. j < n) (length-map g.bonds (λ (b : BondTerm). (b.a, b.b)))
    (slice_get_within (pattern_ends g) j (x, y) e) in
    let is : (x, y) ≡ ((get_or g.bonds j no_term).a, (get_or g.bonds j no_term).b) = sym
    (get_or_from_slice_get (pattern_ends g) j (x, y) (0, 0) e)
    ∙ get_or-map (λ (b : BondTerm). (b.a, b.b)) g.bonds j no_term (0, 0) inside in
    (inside, inl (ap (λ (p : ℕ × ℕ). p.0) is, ap (λ (p : ℕ × ℕ). p.1) is))
ends_at g j x y (inr e) =
    let inside : j < length g.bonds = subst (λ n. j < n) (length-map g.bonds (λ (b : BondTerm). (b.a, b.b)))
    (slice_get_within (pattern_ends g) j (y, x) e) in
    let is : (y, x) ≡ ((get_or g.bonds j no_term).a, (get_or g.bonds j no_term).b) = sym
    (get_or_from_slice_get (pattern_ends g) j (y, x) (0, 0) e)
    ∙ get_or-map (λ (b : BondTerm). (b.a, b.b)) g.bonds j no_term (0, 0) inside in
    (inside, inr (ap (λ (p : ℕ × ℕ). p.1) is, ap (λ (p : ℕ × ℕ). p.0) is))

-- a bond that is read joins its ends
pub joins_bond : (g : GraphTerm) (items : List PatBond) (place x y : ℕ) (b : PatBond) → g.bonds ≡ map bond_of items
    → place < length items → b ≡ get_or items place b → ((x ≡ b.a) × (y ≡ b.b)) ⊎ ((x ≡ b.b) × (y ≡ b.a))
    → JoinsAt (pattern_ends g) place x y
joins_bond g items place x y b same l is either =
    let inside : place < length g.bonds = subst (λ n. place < n) (sym (ap length same ∙ length-map items bond_of)) l in
    let long : place < length (pattern_ends g) = subst (λ n. place < n)
    (sym (length-map g.bonds (λ (z : BondTerm). (z.a, z.b)))) inside in
    let read : get_or g.bonds place no_term ≡ bond_of b = ap (λ bs. get_or bs place no_term) same
    ∙ get_or-map bond_of items place b no_term l ∙ ap bond_of (sym is) in
    let pair : slice_get (pattern_ends g) place ≡ Some (b.a, b.b) = slice_get-get_or (pattern_ends g) place (0, 0) long
    ∙ ap Some (get_or-map (λ (z : BondTerm). (z.a, z.b)) g.bonds place no_term (0, 0) inside
    ∙ ap (λ (z : BondTerm). (z.a, z.b)) read) in
    elim either [
      | inl h ↦ inl (pair ∙ ap Some (ap (λ p. (p, b.b)) (sym h.0) ∙ ap (λ q. (x, q)) (sym h.1)))
      | inr h ↦ inr (pair ∙ ap Some (ap (λ p. (p, b.b)) (sym h.1) ∙ ap (λ q. (y, q)) (sym h.0)))
    ]

-- and these are places
pub end_below : (g : GraphTerm) (j x y : ℕ) → IsSearchable g → JoinsAt (pattern_ends g) j x y → y < length g.atoms
end_below g j x y searchable joined =
    let h = ends_at g j x y joined in
    let below : ((get_or g.bonds j no_term).a < length g.atoms) × ((get_or g.bonds j no_term).b < length g.atoms) = subst
    (λ (p : ℕ × ℕ). (p.0 < length g.atoms) × (p.1 < length g.atoms))
    (get_or-map (λ (b : BondTerm). (b.a, b.b)) g.bonds j no_term (0, 0) h.0)
    (searchable.ends j (0, 0) (subst (λ n. j < n) (sym (length-map g.bonds (λ (b : BondTerm). (b.a, b.b)))) h.0)) in
    let one = below.0 in
    let two = below.1 in
    elim h.1 [ inl p ↦ (let e = p.1 in omega arith) | inr p ↦ (let e = p.1 in omega arith) ]

-- an embedding takes the ends of a bond to the ends of one
pub embedded : (task : Task) (image : List ℕ) (j x y : ℕ) → Embeds task image
    → JoinsAt (pattern_ends (graph_of task.graph.now)) j x y
    → Joined (ends_of task.mol.now) (slice_index image x) (slice_index image y)
embedded task image j x y e joined =
    let g : GraphTerm = graph_of task.graph.now in
    let h = ends_at g j x y joined in
    let there : BondEmbeds task.mol.now image (get_or g.bonds j no_term) = e.bonds j no_term h.0 in
    elim h.1 [
      | inl p ↦ (
        there.0,
        subst (λ a. JoinsAt (ends_of task.mol.now) there.0 (slice_index image a) (slice_index image y)) (sym p.0)
            (subst (λ b. JoinsAt (ends_of task.mol.now) there.0 (slice_index image (get_or g.bonds j no_term).a)
            (slice_index image b)) (sym p.1) there.1),
      )
      | inr p ↦ (
        there.0,
        subst (λ a. JoinsAt (ends_of task.mol.now) there.0 (slice_index image a) (slice_index image y)) (sym p.0)
            (subst (λ b. JoinsAt (ends_of task.mol.now) there.0 (slice_index image (get_or g.bonds j no_term).b)
            (slice_index image b)) (sym p.1)
            (joined_back (ends_of task.mol.now) there.0 (slice_index image (get_or g.bonds j no_term).a)
            (slice_index image (get_or g.bonds j no_term).b) there.1)),
      )
    ]

-- all neighbours are near
pub near_reach : (task : Task) (marks : List Bool) (near : List ℕ) → AreNear task.mol.now near
    → IsReach task marks near
near_reach task marks near all image e j x y marked joined =
    let there = embedded task image j x y e joined in
    all there.0 (slice_index image x) (slice_index image y) there.1

-- neighbours by ring bonds are near by bonds on rings
pub ring_reach : (task : Task) (marks : List Bool) (near : List ℕ) → AreOnRings task marks
    → AreRingNear task.mol.now near → IsReach task marks near
ring_reach task marks near rings all image e j x y marked joined =
    let there = embedded task image j x y e joined in
    all there.0 (slice_index image x) (slice_index image y) there.1
    (rings j marked image e x y there.0 joined there.1)

-- no place yet
pub around_none : (g : GraphTerm) (marks : List Bool) (words : List ℕ) (place : ℕ) → AreAround g marks words place 0 0 0
around_none g marks words place = record {
  places = [];
  size = refl;
  distinct = λ i j d l m. absurd (omega arith);
  bonded = λ k d l. absurd (omega arith);
  within = λ k d l. absurd (omega arith);
}

-- one bond more, which leads to no place
pub around_kept : (g : GraphTerm) (marks : List Bool) (words : List ℕ) (place k atoms count : ℕ)
    → AreAround g marks words place k atoms count → AreAround g marks words place (k + 1) atoms count
around_kept g marks words place k atoms count h = record {
  places = h.places;
  size = h.size;
  distinct = h.distinct;
  bonded = λ i d l. let w = h.bonded i d l in (w.0, (let below = w.1 in omega arith), w.2, w.3);
  within = h.within;
}

-- one bond more, which leads to a place
pub around_more : (g : GraphTerm) (marks : List Bool) (words : List ℕ) (place k atoms count other : ℕ)
    → IsSearchable g → AreAround g marks words place k atoms count → IsMarked marks k
    → JoinsAt (pattern_ends g) k place other
    → AreAround g marks words place (k + 1) (bit_or atoms (slice_index words other)) (count + 1)
around_more g marks words place k atoms count other searchable h marked joined = record {
  places = other ∷ h.places;
  size = (let before = h.size in omega arith);
  distinct = AllPairs-cons ◌≢◌ other h.places
      (λ i d l same.
      let w = h.bonded i d l in
      let once : k ≡ w.0 = searchable.once k w.0 place (get_or h.places i d)
      (subst (λ q. JoinsAt (pattern_ends g) k place q) same joined) w.3 in
      let below = w.1 in
      omega arith)
      h.distinct;
  bonded = All-cons (λ q. (j : ℕ) × (j < k + 1) × IsMarked marks j × JoinsAt (pattern_ends g) j place q) other h.places
      (k, omega arith, marked, joined)
      (λ i d l. let w = h.bonded i d l in (w.0, (let below = w.1 in omega arith), w.2, w.3));
  within = All-cons (λ q. IsWithin (slice_index words q) (bit_or atoms (slice_index words other))) other h.places
      (λ c one. or_two atoms (slice_index words other) c one)
      (λ i d l c one. or_one atoms (slice_index words other) c (h.within i d l c one));
}

-- an embedding has different atoms at different places
pub apart : (task : Task) (image : List ℕ) (p q : ℕ) → Embeds task image → p < length image → q < length image → p ≢ q
    → slice_index image p ≡ slice_index image q → ⊥
apart task image p q e lp lq differ same = elim (cases_lt p q) [
  | inl before ↦ e.distinct p q 0 before lq same
  | inr after ↦ elim (cases_lt q p) [
    | inl before ↦ e.distinct q p 0 before lp (sym same)
    | inr le ↦ absurd (differ (omega arith))
  ]
]

-- of the first block of atoms the bits of a word are the candidates
pub low_bit : (words : List ℕ) (p a : ℕ) → a < 64 → IsCandidate words p a → bit_at (slice_index words p) a ≡ 1
low_bit words p a l h =
    let none : a / 64 ≡ 0 = omega arith in
    let bit : a % 64 ≡ a = omega arith in
    let place : 256 * (a / 64) + p ≡ p = omega (arith, none) in
    subst (λ i. bit_at (slice_index words p) i ≡ 1) bit
    (subst (λ k. bit_at (slice_index words k) (a % 64) ≡ 1) place h)

pub low_candidate : (words : List ℕ) (p a : ℕ) → a < 64 → bit_at (slice_index words p) a ≡ 1 → IsCandidate words p a
low_candidate words p a l h =
    let none : a / 64 ≡ 0 = omega arith in
    let bit : a % 64 ≡ a = omega arith in
    let place : 256 * (a / 64) + p ≡ p = omega (arith, none) in
    subst (λ k. bit_at (slice_index words k) (a % 64) ≡ 1) (sym place)
    (subst (λ i. bit_at (slice_index words p) i ≡ 1) (sym bit) h)

-- an embedding has as many atoms near that of a place
pub has_around : (task : Task) (marks : List Bool) (near words : List ℕ) (place k atoms count : ℕ) (image : List ℕ)
    → IsReadyTask task → AreAround (graph_of task.graph.now) marks words place k atoms count
    → IsReach task marks near → AreCandidates task words → length task.mol.now.atoms ≤ 64 → Embeds task image
    → count ≤ count_ones (bit_and (slice_index near (slice_index image place)) atoms)
has_around task marks near words place k atoms count image ready h reach candidates small e =
    let g : GraphTerm = graph_of task.graph.now in
    let at : ℕ → ℕ = λ q. slice_index image q in
    let size : length (map at h.places) ≡ length h.places = length-map h.places at in
    let word : ℕ = bit_and (slice_index near (slice_index image place)) atoms in
    let whole = e.one_each in
    let below : (i : ℕ) → i < length h.places → get_or h.places i 0 < length image = λ i l.
    (let few = end_below g (h.bonded i 0 l).0 place (get_or h.places i 0) ready.searchable (h.bonded i 0 l).3 in
    omega arith) in
    let ones = distinct_ones word (map at h.places)
    (λ i j d l m same.
    let one = get_or-map at h.places i 0 d (omega arith) in
    let two = get_or-map at h.places j 0 d (omega arith) in
    apart task image (get_or h.places i 0) (get_or h.places j 0) e (below i (omega arith)) (below j (omega arith))
    (h.distinct i j 0 l (omega arith)) (sym one ∙ same ∙ two))
    (λ i d l.
    let m : i < length h.places = omega arith in
    let w = h.bonded i 0 m in
    subst (λ a. bit_at word a ≡ 1) (sym (get_or-map at h.places i 0 d m))
    (and_both (slice_index near (slice_index image place)) atoms (slice_index image (get_or h.places i 0))
    (reach image e w.0 place (get_or h.places i 0) w.2 w.3)
    (h.within i 0 m (slice_index image (get_or h.places i 0))
    (low_bit words (get_or h.places i 0) (slice_index image (get_or h.places i 0))
    (let r = e.in_range (get_or h.places i 0) 0 (below i m) in omega arith)
    (candidates.whole image e (get_or h.places i 0) (below i m)))))) in
    let is = h.size in
    omega arith

-- no embedding, where a place has no candidates
pub none_left : (task : Task) (words : List ℕ) (place : ℕ) → AreCandidates task words
    → length task.mol.now.atoms ≤ 64 → place < length (graph_of task.graph.now).atoms → slice_index words place ≡ 0
    → Completes task [] → ⊥
none_left task words place candidates small l none w =
    let size = w.1.one_each in
    let r = w.1.in_range place 0 (omega arith) in
    let one = low_bit words place (slice_index w.0 place) (omega arith)
    (candidates.whole w.0 w.1 place (omega arith)) in
    let zero' : bit_at (slice_index words place) (slice_index w.0 place) ≡ 0 =
    ap (λ n. bit_at n (slice_index w.0 place)) none ∙ bit_at-zero (slice_index w.0 place) in
    omega arith

-- the ends of each bond are near each other
pub near_all : (m : Molecule) (near : List ℕ) → IsMolecule m
    → ((k : ℕ) → k < length m.bonds
    → (bit_at (slice_index near (get_or m.bonds k no_bond).a) (get_or m.bonds k no_bond).b ≡ 1)
    × (bit_at (slice_index near (get_or m.bonds k no_bond).b) (get_or m.bonds k no_bond).a ≡ 1))
    → AreNear m near
near_all m near valid h b x y joins =
    let l = (joins_in_range m b x y valid joins).0 in
    let both = h b l in
    elim (ends_read m b x y no_bond l joins) [
      | inl p ↦ subst (λ u. bit_at (slice_index near u) y ≡ 1) (sym p.0)
          (subst (λ v. bit_at (slice_index near (get_or m.bonds b no_bond).a) v ≡ 1) (sym p.1) both.0)
      | inr p ↦ subst (λ u. bit_at (slice_index near u) y ≡ 1) (sym p.0)
          (subst (λ v. bit_at (slice_index near (get_or m.bonds b no_bond).b) v ≡ 1) (sym p.1) both.1)
    ]

-- the same of ring bonds
pub ring_near_all : (m : Molecule) (near : List ℕ) → IsMolecule m
    → ((k : ℕ) → k < length m.bonds → IsRingBond (ends_of m) k
    → (bit_at (slice_index near (get_or m.bonds k no_bond).a) (get_or m.bonds k no_bond).b ≡ 1)
    × (bit_at (slice_index near (get_or m.bonds k no_bond).b) (get_or m.bonds k no_bond).a ≡ 1))
    → AreRingNear m near
ring_near_all m near valid h b x y joins ring =
    let l = (joins_in_range m b x y valid joins).0 in
    let both = h b l ring in
    elim (ends_read m b x y no_bond l joins) [
      | inl p ↦ subst (λ u. bit_at (slice_index near u) y ≡ 1) (sym p.0)
          (subst (λ v. bit_at (slice_index near (get_or m.bonds b no_bond).a) v ≡ 1) (sym p.1) both.0)
      | inr p ↦ subst (λ u. bit_at (slice_index near u) y ≡ 1) (sym p.0)
          (subst (λ v. bit_at (slice_index near (get_or m.bonds b no_bond).b) v ≡ 1) (sym p.1) both.1)
    ]

-- fewer candidates of one place
pub narrowed : (task : Task) (near words : List ℕ) (place new : ℕ) (around : Around) → length task.mol.now.atoms ≤ 64
    → place < length words → HasAround task near place around → AreCandidates task words
    → ((a : ℕ) → a < 64 → bit_at (slice_index words place) a ≡ 1
    → around.count ≤ count_ones (bit_and (slice_index near a) around.atoms) → bit_at new a ≡ 1)
    → ((a : ℕ) → bit_at new a ≡ 1 → bit_at (slice_index words place) a ≡ 1)
    → AreCandidates task (set words place new)
narrowed task near words place new around small room enough candidates kept within = record {
  held = λ p a l r h.
      let bit = low_bit (set words place new) p a (omega arith) h in
      candidates.held p a l r (low_candidate words p a (omega arith) (elim (cases_eq p place) [
        | inl here ↦ subst (λ q. bit_at (slice_index words q) a ≡ 1) (sym here) (within a
            (subst (λ w. bit_at w a ≡ 1) (get_or-set_same words place new 0 room)
            (subst (λ q. bit_at (slice_index (set words place new) q) a ≡ 1) here bit)))
        | inr other ↦ subst (λ w. bit_at w a ≡ 1) (get_or-set_other words place p new 0 other) bit
      ]));
  whole = λ image e p l.
      let r : slice_index image p < length task.mol.now.atoms = e.in_range p 0 l in
      let old = low_bit words p (slice_index image p) (omega arith) (candidates.whole image e p l) in
      low_candidate (set words place new) p (slice_index image p) (omega arith) (elim (cases_eq p place) [
        | inl here ↦ subst (λ q. bit_at (slice_index (set words place new) q) (slice_index image p) ≡ 1) (sym here)
            (subst (λ w. bit_at w (slice_index image p) ≡ 1) (sym (get_or-set_same words place new 0 room))
            (kept (slice_index image p) (omega arith)
            (subst (λ q. bit_at (slice_index words q) (slice_index image p) ≡ 1) here old)
            (subst (λ q. around.count ≤ count_ones (bit_and (slice_index near (slice_index image q)) around.atoms))
            (sym here) (enough image e))))
        | inr other ↦ subst (λ w. bit_at w (slice_index image p) ≡ 1)
            (sym (get_or-set_other words place p new 0 other)) old
      ]);
}

-- what the first k bonds lead to from a place
pub record IsGathered (g : GraphTerm) (marks : List Bool) (words : List ℕ) (place k : ℕ) (x : Around) : Type 0 where
  pub few : x.count ≤ k
  pub around : AreAround g marks words place k x.atoms x.count

pub gathered_kept : (g : GraphTerm) (marks : List Bool) (words : List ℕ) (place k : ℕ) (x : Around)
    → IsGathered g marks words place k x → IsGathered g marks words place (k + 1) x
gathered_kept g marks words place k x h = record {
  few = (let few = h.few in omega arith);
  around = around_kept g marks words place k x.atoms x.count h.around;
}

gathered_more : (g : GraphTerm) (marks : List Bool) (words : List ℕ) (place k other : ℕ) (x : Around) → IsSearchable g
    → IsMarked marks k → JoinsAt (pattern_ends g) k place other → IsGathered g marks words place k x
    → IsGathered g marks words place (k + 1) (more_around x (slice_index words other))
gathered_more g marks words place k other x searchable marked joined h = record {
  few = (let few = h.few in omega arith);
  around = around_more g marks words place k x.atoms x.count other searchable h.around marked joined;
}

-- the ends of a bond are apart
pub ends_apart : (g : GraphTerm) (k a b : ℕ) → IsSearchable g → JoinsAt (pattern_ends g) k a b → a ≢ b
ends_apart g k a b searchable (inl e) = subst (λ (p : ℕ × ℕ). p.0 ≢ p.1)
    (get_or_from_slice_get (pattern_ends g) k (a, b) (0, 0) e)
    (searchable.apart k (0, 0) (slice_get_within (pattern_ends g) k (a, b) e))
ends_apart g k a b searchable (inr e) = λ same. subst (λ (p : ℕ × ℕ). p.0 ≢ p.1)
    (get_or_from_slice_get (pattern_ends g) k (b, a) (0, 0) e)
    (searchable.apart k (0, 0) (slice_get_within (pattern_ends g) k (b, a) e)) (sym same)

-- a bond that is read joins two places
pub bond_ends : (task : Task) (index : ℕ) (b : PatBond) → IsReadyTask task
    → index < length task.graph.now.bonds.items → b ≡ get_or task.graph.now.bonds.items index b
    → JoinsAt (pattern_ends (graph_of task.graph.now)) index b.a b.b
    × (b.a < length task.graph.now.atoms.items) × (b.b < length task.graph.now.atoms.items)
bond_ends task index b ready l is =
    let g = graph_of task.graph.now in
    let joined = joins_bond g task.graph.now.bonds.items index b.a b.b b refl l is (inl (refl, refl)) in
    let size : length g.atoms ≡ length task.graph.now.atoms.items = length-map task.graph.now.atoms.items term_of in
    let one = end_below g index b.b b.a ready.searchable (joined_back (pattern_ends g) index b.a b.b joined) in
    let two = end_below g index b.a b.b ready.searchable joined in
    (joined, omega arith, omega arith)

-- one bond more, which leads from each of its ends to the other
pub gathered_both : (g : GraphTerm) (marks : List Bool) (words : List ℕ) (k a b n : ℕ) (old mid new : List Around)
    → IsSearchable g → IsMarked marks k → JoinsAt (pattern_ends g) k a b
    → around_at mid a ≡ more_around (around_at old a) (slice_index words b)
    → ((p : ℕ) → p ≢ a → around_at mid p ≡ around_at old p)
    → around_at new b ≡ more_around (around_at mid b) (slice_index words a)
    → ((p : ℕ) → p ≢ b → around_at new p ≡ around_at mid p)
    → ((p : ℕ) → p < n → IsGathered g marks words p k (around_at old p))
    → (p : ℕ) → p < n → IsGathered g marks words p (k + 1) (around_at new p)
gathered_both g marks words k a b n old mid new searchable marked joined one rest two others h p l =
    let differ = ends_apart g k a b searchable joined in
    elim (cases_eq p a) [
      | inl here ↦ subst (λ q. IsGathered g marks words q (k + 1) (around_at new q)) (sym here)
          (subst (IsGathered g marks words a (k + 1)) (sym (others a differ ∙ one))
          (gathered_more g marks words a k b (around_at old a) searchable marked joined
          (subst (λ q. IsGathered g marks words q k (around_at old q)) here (h p l))))
      | inr apart' ↦ elim (cases_eq p b) [
        | inl here ↦ subst (λ q. IsGathered g marks words q (k + 1) (around_at new q)) (sym here)
            (subst (IsGathered g marks words b (k + 1)) (sym (two
            ∙ ap (λ x. more_around x (slice_index words a)) (rest b (λ same. differ (sym same)))))
            (gathered_more g marks words b k a (around_at old b) searchable marked
            (joined_back (pattern_ends g) k a b joined)
            (subst (λ q. IsGathered g marks words q k (around_at old q)) here (h p l))))
        | inr other ↦ subst (IsGathered g marks words p (k + 1)) (sym (others p other ∙ rest p apart'))
            (gathered_kept g marks words p k (around_at old p) (h p l))
      ]
    ]

-- one neighbour more of an atom
pub joined_here : (near : List ℕ) (atom at other bit : ℕ) → at ≡ atom → at < length near → other < 64 → bit ≡ 1
    → bit_at (slice_index (set near at (bit_or (get_or near at 0) (bit * 2 ^ other % 2 ^ 64))) atom) other ≡ 1
joined_here near atom at other bit same l few one =
    let new : ℕ = bit_or (get_or near at 0) (bit * 2 ^ other % 2 ^ 64) in
    let set' : bit_at new other ≡ 1 = subst
    (λ b. bit_at (bit_or (get_or near at 0) (b * 2 ^ other % 2 ^ 64)) other ≡ 1) (sym one)
    (bit_at_set_same w64 (get_or near at 0) other few) in
    subst (λ a. bit_at (slice_index (set near at new) a) other ≡ 1) same
    (subst (λ w. bit_at w other ≡ 1) (sym (get_or-set_same near at new 0 l)) set')

pub joined_kept : (near : List ℕ) (at word : ℕ) → at < length near → (x y : ℕ)
    → bit_at (slice_index near x) y ≡ 1
    → bit_at (slice_index (set near at (bit_or (get_or near at 0) word)) x) y ≡ 1
joined_kept near at word l x y h =
    let new : ℕ = bit_or (get_or near at 0) word in
    elim (cases_eq x at) [
      | inl here ↦ subst (λ a. bit_at (slice_index (set near at new) a) y ≡ 1) (sym here)
          (subst (λ w. bit_at w y ≡ 1) (sym (get_or-set_same near at new 0 l))
          (or_one (get_or near at 0) word y (subst (λ a. bit_at (slice_index near a) y ≡ 1) here h)))
      | inr apart' ↦ subst (λ w. bit_at w y ≡ 1) (sym (get_or-set_other near at x new 0 apart')) h
    ]

-- the ends of a bond that is read are atoms
pub ends_among : (m : Molecule) (bs : List Bond) (i : ℕ) → bs ≡ m.bonds → IsMolecule m → i < length bs
    → ((get_or bs i no_bond).a < length m.atoms) × ((get_or bs i no_bond).b < length m.atoms)
ends_among m bs i same valid l = subst
    (λ xs. ((get_or xs i no_bond).a < length m.atoms) × ((get_or xs i no_bond).b < length m.atoms)) (sym same)
    (ends_in_range m i no_bond valid (subst (λ xs. i < length xs) same l))
