-- A ring of a graph is taken to a ring of the molecule, of as many atoms.
use Rattle.std.proofs.Common.{◌≡◌, ◌≢◌, ◌⊎◌, ℕ, Bool, false, replicate, zero, suc, ◌+◌, ◌%◌, ◌<◌, ◌≤◌, List, [], ◌∷◌, length, map, max, min, slice_index, get_or, Contains, sym, ap, ◌∙◌, subst, arith, inl, inr}
use Rattle.std.proofs.Math.Nat.{mod-eq_of_lt, mod_self}
use Rattle.std.proofs.lemmas.Bool.{cases_eq, cases_lt, false≢true}
use Rattle.std.proofs.lemmas.List.{get_or-map, get_or-replicate, get_or_past, length-map, length-replicate}
use Rattle.std.proofs.lemmas.Option.{same_Some}
use Rattle.chem_core.specs.Graph.{Ends, IsSimpleCycle, IsSmallestRing, Joined, JoinsAt, next_place}
use Rattle.chem_core.specs.Molecule.{ends_of}
use Rattle.smarts_parse.specs.declared.pattern.Graph.{Graph}
use Rattle.smarts_parse.specs.declared.pattern.PatBond.{PatBond}
use Rattle.smarts_parse.specs.Pattern.{GraphTerm, graph_of, term_of}
use Rattle.smarts_parse.specs.Sound.{pattern_ends}
use Rattle.matcher.specs.declared.task.Task.{Task}
use Rattle.matcher.specs.Partial.{IsSearchable}
use Rattle.matcher.specs.Ring.{AreOnRings, AreRingMarks, IsMarked, IsMarkedWay, IsOnRing, IsWay}
use Rattle.matcher.specs.Task.{Completes, Embeds}
use Rattle.matcher.proofs.Joins.{joined_back}
use Rattle.matcher.proofs.Narrowings.{embedded, ends_at, no_term}
use Rattle.matcher.proofs.OnlyAtoms.{no_bonds}
use Rattle.matcher.proofs.Plans.{high_below}

-- the places of a way descend
below_first : (g : GraphTerm) (from to : ℕ) (places : List ℕ) → IsWay g from to places → (k : ℕ) → k < length places
    → get_or places k 0 < from
below_first g from to [] w k l = absurd (omega arith)
below_first g from to (next ∷ places) w zero l = w.0
below_first g from to (next ∷ places) w (suc k) l =
    let lower : next < from = w.0 in
    let rest = below_first g next to places w.2 k (omega arith) in
    omega arith

descends : (g : GraphTerm) (from to : ℕ) (places : List ℕ) → IsWay g from to places → (i j : ℕ) → i < j
    → j < length (from ∷ places)
    → get_or (from ∷ places) j 0 < get_or (from ∷ places) i 0
descends g from to places w i zero l m = absurd (omega arith)
descends g from to places w zero (suc j) l m = below_first g from to places w j (omega arith)
descends g from to [] w (suc i) (suc j) l m = absurd (omega arith)
descends g from to (next ∷ places) w (suc i) (suc j) l m = descends g next to places w.2 i j (omega arith)
    (omega arith)

-- and are none above the first
at_most : (g : GraphTerm) (from to : ℕ) (places : List ℕ) → IsWay g from to places → (k : ℕ)
    → k < length (from ∷ places) → get_or (from ∷ places) k 0 ≤ from
at_most g from to places w zero l = omega arith
at_most g from to places w (suc k) l = let low = below_first g from to places w k (omega arith) in omega arith

-- a bond joins each to the next
joined_next : (g : GraphTerm) (from to : ℕ) (places : List ℕ) → IsWay g from to places → (i : ℕ) → i < length places
    → Joined (pattern_ends g) (get_or (from ∷ places) i 0) (get_or (from ∷ places) (suc i) 0)
joined_next g from to [] w i l = absurd (omega arith)
joined_next g from to (next ∷ places) w zero l = w.1
joined_next g from to (next ∷ places) w (suc i) l = joined_next g next to places w.2 i (omega arith)

way_last : (g : GraphTerm) (from to : ℕ) (places : List ℕ) → IsWay g from to places
    → get_or (from ∷ places) (length places) 0 ≡ to
way_last g from to [] w = w
way_last g from to (next ∷ places) w = way_last g next to places w.2

-- where an embedding takes the places of a way
abbrev stretch : List ℕ → ℕ → List ℕ → List ℕ
stretch image from places = map (λ p. slice_index image p) (from ∷ places)

stretch_at : (image : List ℕ) (from : ℕ) (places : List ℕ) (i d : ℕ) → i < length (from ∷ places)
    → get_or (stretch image from places) i d ≡ slice_index image (get_or (from ∷ places) i 0)
stretch_at image from places i d l = get_or-map (λ p. slice_index image p) (from ∷ places) i 0 d l

-- a way whose ends are bound is taken to a ring
way_ring : (task : Task) (from to : ℕ) (places image : List ℕ)
    → IsWay (graph_of task.graph.now) from to places → Joined (pattern_ends (graph_of task.graph.now)) to from
    → 2 ≤ length places → from < length image → Embeds task image
    → IsSimpleCycle (ends_of task.mol.now) (stretch image from places)
way_ring task from to places image w closed long few e =
    let ends : Ends = ends_of task.mol.now in
    let ring : List ℕ = stretch image from places in
    let size : length ring ≡ suc (length places) = length-map (from ∷ places) (λ p. slice_index image p) in
    record {
      three = omega arith;
      distinct = λ i j d l k same.
          let lower = descends (graph_of task.graph.now) from to places w i j l (omega arith) in
          let top = at_most (graph_of task.graph.now) from to places w i (omega arith) in
          let one = stretch_at image from places i d (omega arith) in
          let two = stretch_at image from places j d (omega arith) in
          e.distinct (get_or (from ∷ places) j 0) (get_or (from ∷ places) i 0) 0 lower (omega arith) (sym two ∙ sym same
          ∙ one);
      joined = λ i l. elim (cases_lt (i + 1) (length ring)) [
        | inl before ↦
            let next : next_place ring i ≡ suc i = mod-eq_of_lt before ∙ plus_one i in
            let one = stretch_at image from places i 0 (omega arith) in
            let two = stretch_at image from places (suc i) 0 (omega arith) in
            let bond = joined_next (graph_of task.graph.now) from to places w i (omega arith) in
            subst (λ q. Joined ends (get_or ring i 0) (get_or ring q 0)) (sym next)
            (subst (λ x. Joined ends x (get_or ring (suc i) 0)) (sym one)
            (subst (λ y. Joined ends (slice_index image (get_or (from ∷ places) i 0)) y) (sym two)
            (embedded task image bond.0 _ _ e bond.1)))
        | inr after ↦
            let all : i + 1 ≡ length ring = omega arith in
            let last : i ≡ length places = omega arith in
            let next : next_place ring i ≡ 0 = ap (λ n. n % length ring) all ∙ mod_self (length ring) in
            let one : get_or ring i 0 ≡ slice_index image to =
            stretch_at image from places i 0 (omega arith)
            ∙ ap (λ p. slice_index image (get_or (from ∷ places) p 0)) last
            ∙ ap (λ p. slice_index image p) (way_last (graph_of task.graph.now) from to places w) in
            let two = stretch_at image from places 0 0 (omega arith) in
            subst (λ q. Joined ends (get_or ring i 0) (get_or ring q 0)) (sym next)
            (subst (λ x. Joined ends x (get_or ring 0 0)) (sym one)
            (subst (λ y. Joined ends (slice_index image to) y) (sym two) (embedded task image closed.0 to from e closed.1)))
      ];
    }
  where
    plus_one : (i : ℕ) → i + 1 ≡ suc i
    plus_one i = omega arith

on_ring : (task : Task) (from to : ℕ) (places image : List ℕ) → IsWay (graph_of task.graph.now) from to places
    → Contains (stretch image from places) (slice_index image to)
on_ring task from to places image w = (
  length places,
  (let size = length-map (from ∷ places) (λ p. slice_index image p) in omega arith),
  stretch_at image from places (length places) (slice_index image to) (omega arith)
      ∙ ap (λ p. slice_index image p) (way_last (graph_of task.graph.now) from to places w),
)

-- no embedding, where the last place of such a way can stand on no ring of as many atoms
pub no_ring : (task : Task) (from to links : ℕ) → from < length (graph_of task.graph.now).atoms
    → Joined (pattern_ends (graph_of task.graph.now)) to from
    → 2 ≤ links
    → (places : List ℕ) × (length places ≡ links) × IsWay (graph_of task.graph.now) from to places
    → ((image : List ℕ) → Embeds task image → (ring : List ℕ) → IsSimpleCycle (ends_of task.mol.now) ring
    → Contains ring (slice_index image to) → length ring ≡ links + 1 → ⊥)
    → Completes task [] → ⊥
no_ring task from to links few closed long way none c =
    let image : List ℕ = c.0 in
    let places : List ℕ = way.0 in
    let same : length places ≡ links = way.1 in
    let e : Embeds task image = c.1 in
    let size : length (stretch image from places) ≡ suc (length places) = length-map (from ∷ places)
    (λ p. slice_index image p) in
    none image e (stretch image from places) (way_ring task from to places image way.2 closed (omega arith)
    (omega (arith, e.one_each)) e)
    (on_ring task from to places image way.2) (omega arith)

-- the smallest ring of an atom of a ring
pub smallest_of : (ends : Ends) (a n links : ℕ) (ring : List ℕ) → IsSmallestRing ends a n → IsSimpleCycle ends ring
    → Contains ring a → length ring ≡ links + 1
    → (n ≢ 0) × (n ≤ links + 1)
smallest_of ends a n links ring h cycle on size = elim h [
  | inl none ↦ absurd (none.1 ring cycle on)
  | inr some ↦
      let three = some.1.three in
      let is : length some.0 ≡ n = some.3 in
      let least = some.4 ring cycle on in
      (λ z. omega arith, omega arith)
]

-- two numbers are their lesser and their greater
pub low_high : (a b low high : ℕ) → low ≡ min a b → high ≡ max a b → ((low ≡ a) × (high ≡ b)) ⊎ ((low ≡ b) × (high ≡ a))
low_high a b low high least most = elim (cases_lt a b)
    [ inl l ↦ inl (omega arith, omega arith) | inr l ↦ inr (omega arith, omega arith) ]

pub high_low : (a b low high : ℕ) → low ≡ min a b → high ≡ max a b → ((high ≡ a) × (low ≡ b)) ⊎ ((high ≡ b) × (low ≡ a))
high_low a b low high least most = elim (cases_lt a b)
    [ inl l ↦ inr (omega arith, omega arith) | inr l ↦ inl (omega arith, omega arith) ]

-- the greater end of a bond is a place
pub high_place : (graph : Graph) (place high : ℕ) (b : PatBond) → IsSearchable (graph_of graph)
    → place < length graph.bonds.items → b ≡ get_or graph.bonds.items place b → high ≡ max b.a b.b
    → high < length graph.atoms.items
high_place graph place high b searchable l is most =
    let few = high_below graph.bonds.items (graph_of graph) place b l is searchable.ends in
    omega (arith, few, length-map graph.atoms.items term_of)

-- a bond has two ends
pub same_ends : (ends : Ends) (j p q x y : ℕ) → JoinsAt ends j p q → JoinsAt ends j x y
    → ((x ≡ p) × (y ≡ q)) ⊎ ((x ≡ q) × (y ≡ p))
same_ends ends j p q x y (inl a) (inl b) =
    let is : (p, q) ≡ (x, y) = same_Some (p, q) (x, y) (sym a ∙ b) in
    inl (sym (ap (λ (z : ℕ × ℕ). z.0) is), sym (ap (λ (z : ℕ × ℕ). z.1) is))
same_ends ends j p q x y (inl a) (inr b) =
    let is : (p, q) ≡ (y, x) = same_Some (p, q) (y, x) (sym a ∙ b) in
    inr (sym (ap (λ (z : ℕ × ℕ). z.1) is), sym (ap (λ (z : ℕ × ℕ). z.0) is))
same_ends ends j p q x y (inr a) (inl b) =
    let is : (q, p) ≡ (x, y) = same_Some (q, p) (x, y) (sym a ∙ b) in
    inr (sym (ap (λ (z : ℕ × ℕ). z.0) is), sym (ap (λ (z : ℕ × ℕ). z.1) is))
same_ends ends j p q x y (inr a) (inr b) =
    let is : (q, p) ≡ (y, x) = same_Some (q, p) (y, x) (sym a ∙ b) in
    inl (sym (ap (λ (z : ℕ × ℕ). z.1) is), sym (ap (λ (z : ℕ × ℕ). z.0) is))

-- where an embedding takes the ends of a bond, the one way round
ends_embedded : (task : Task) (image : List ℕ) (j p q x y b : ℕ)
    → JoinsAt (pattern_ends (graph_of task.graph.now)) j p q → JoinsAt (pattern_ends (graph_of task.graph.now)) j x y
    → JoinsAt (ends_of task.mol.now) b (slice_index image x) (slice_index image y)
    → JoinsAt (ends_of task.mol.now) b (slice_index image p) (slice_index image q)
ends_embedded task image j p q x y b one two at =
    let ends : Ends = ends_of task.mol.now in
    elim (same_ends (pattern_ends (graph_of task.graph.now)) j p q x y one two) [
      | inl h ↦ subst (λ u. JoinsAt ends b (slice_index image u) (slice_index image q)) h.0
          (subst (λ v. JoinsAt ends b (slice_index image x) (slice_index image v)) h.1 at)
      | inr h ↦ joined_back ends b (slice_index image q) (slice_index image p)
          (subst (λ u. JoinsAt ends b (slice_index image u) (slice_index image p)) h.0
          (subst (λ v. JoinsAt ends b (slice_index image x) (slice_index image v)) h.1 at))
    ]

-- the bonds along a way whose ends are bound lie on a ring
on_ring_along : (task : Task) (from to : ℕ) (places : List ℕ)
    → IsWay (graph_of task.graph.now) from to places → Joined (pattern_ends (graph_of task.graph.now)) to from
    → 2 ≤ length places → from < length (graph_of task.graph.now).atoms → (i j : ℕ) → i < length places
    → JoinsAt (pattern_ends (graph_of task.graph.now)) j (slice_index (from ∷ places) i)
    (slice_index (from ∷ places) (suc i)) → IsOnRing task j
on_ring_along task from to places w closed long few i j l joined image e x y b two at =
    let ends : Ends = ends_of task.mol.now in
    let ring : List ℕ = stretch image from places in
    let size : length ring ≡ suc (length places) = length-map (from ∷ places) (λ p. slice_index image p) in
    let plus : i + 1 ≡ suc i = omega arith in
    let before : i + 1 < length ring = omega arith in
    let next : next_place ring i ≡ suc i = mod-eq_of_lt before ∙ plus in
    let p : ℕ = slice_index (from ∷ places) i in
    let q : ℕ = slice_index (from ∷ places) (suc i) in
    let one : get_or ring i 0 ≡ slice_index image p = stretch_at image from places i 0 (omega arith) in
    let other : get_or ring (suc i) 0 ≡ slice_index image q = stretch_at image from places (suc i) 0 (omega arith) in (
      ring,
      way_ring task from to places image w closed long (omega (arith, e.one_each)) e,
      (
        i,
        omega arith,
        subst (λ k. JoinsAt ends b (get_or ring i 0) (get_or ring k 0)) (sym next)
            (subst (λ u. JoinsAt ends b u (get_or ring (suc i) 0)) (sym one)
            (subst (λ v. JoinsAt ends b (slice_index image p) v) (sym other)
            (ends_embedded task image j p q x y b joined two at))),
      ),
    )

-- and so does the bond between its ends
on_ring_between : (task : Task) (from to : ℕ) (places : List ℕ)
    → IsWay (graph_of task.graph.now) from to places → Joined (pattern_ends (graph_of task.graph.now)) to from
    → 2 ≤ length places → from < length (graph_of task.graph.now).atoms → (j : ℕ)
    → JoinsAt (pattern_ends (graph_of task.graph.now)) j to from → IsOnRing task j
on_ring_between task from to places w closed long few j joined image e x y b two at =
    let ends : Ends = ends_of task.mol.now in
    let ring : List ℕ = stretch image from places in
    let size : length ring ≡ suc (length places) = length-map (from ∷ places) (λ p. slice_index image p) in
    let i : ℕ = length places in
    let all : i + 1 ≡ length ring = omega arith in
    let next : next_place ring i ≡ 0 = ap (λ n. n % length ring) all ∙ mod_self (length ring) in
    let one : get_or ring i 0 ≡ slice_index image to = stretch_at image from places i 0 (omega arith)
    ∙ ap (λ p. slice_index image p) (way_last (graph_of task.graph.now) from to places w) in
    let other : get_or ring 0 0 ≡ slice_index image from = stretch_at image from places 0 0 (omega arith) in (
      ring,
      way_ring task from to places image w closed long (omega (arith, e.one_each)) e,
      (
        i,
        omega arith,
        subst (λ k. JoinsAt ends b (get_or ring i 0) (get_or ring k 0)) (sym next)
            (subst (λ u. JoinsAt ends b u (get_or ring 0 0)) (sym one)
            (subst (λ v. JoinsAt ends b (slice_index image to) v) (sym other)
            (ends_embedded task image j to from x y b joined two at))),
      ),
    )

-- a ring is marked: the way and the bond between its ends
ring_marked_in : (task : Task) (from to place : ℕ) (old new last : List Bool) → AreOnRings task old
    → IsMarkedWay (graph_of task.graph.now) from to 0 old new → from < length (graph_of task.graph.now).atoms
    → JoinsAt (pattern_ends (graph_of task.graph.now)) place to from
    → ((j : ℕ) → IsMarked last j → (j ≡ place) ⊎ IsMarked new j) → AreOnRings task last
ring_marked_in task from to place old new last rings w few joined more j marked =
    let long : 2 ≤ length w.places = (let l = w.long in omega arith) in
    elim (more j marked) [
      | inl is ↦ subst (IsOnRing task) (sym is)
          (on_ring_between task from to w.places w.way (place, joined) long few place joined)
      | inr before ↦ elim (w.marked j before) [
        | inl earlier ↦ rings j earlier
        | inr along ↦ on_ring_along task from to w.places w.way (place, joined) long few along.0 j along.1 along.2
      ]
    ]

pub ring_marked : (g : GraphTerm) (from to place : ℕ) (old new last : List Bool) → AreRingMarks g old
    → IsMarkedWay g from to 0 old new → from < length g.atoms → JoinsAt (pattern_ends g) place to from
    → ((j : ℕ) → IsMarked last j → (j ≡ place) ⊎ IsMarked new j) → AreRingMarks g last
ring_marked g from to place old new last rings w few joined more task same = ring_marked_in task from to place old new
    last (rings task same) (subst (λ h. IsMarkedWay h from to 0 old new) (sym same) w)
    (subst (λ (h : GraphTerm). from < length h.atoms) (sym same) few)
    (subst (λ h. JoinsAt (pattern_ends h) place to from) (sym same) joined) more

-- what is marked was before, but for one
pub marked_split : (old new : List Bool) (place : ℕ)
    → ((j : ℕ) → j ≢ place → get_or new j false ≡ get_or old j false) → (j : ℕ) → IsMarked new j
    → (j ≡ place) ⊎ IsMarked old j
marked_split old new place others j marked = elim (cases_eq j place) [
  | inl here ↦ inl here
  | inr apart ↦ inr (sym (others j apart) ∙ marked)
]

-- a way of two bonds that ends
pub way_ends : (g : GraphTerm) (from to above : ℕ) (marks : List Bool) → from ≡ to → 2 ≤ above
    → IsMarkedWay g from to above marks marks
way_ends g from to above marks same long = record {
  places = [];
  way = same;
  long = omega arith;
  marked = λ j marked. inl marked;
}

-- one bond more above a way
pub way_longer : (g : GraphTerm) (from next to above bond : ℕ) (old new last : List Bool) → next < from
    → JoinsAt (pattern_ends g) bond from next
    → IsMarkedWay g next to (above + 1) old new
    → ((j : ℕ) → j ≢ bond → get_or last j false ≡ get_or new j false)
    → IsMarkedWay g from to above old last
way_longer g from next to above bond old new last lower joined w others = record {
  places = next ∷ w.places;
  way = (lower, (bond, joined), w.way);
  long = (let l = w.long in omega arith);
  marked = λ j marked. elim (marked_split new last bond others j marked) [
    | inl here ↦ inr (
      0,
      omega arith,
      subst (λ k. JoinsAt (pattern_ends g) k from next) (sym here) joined,
    )
    | inr before ↦ elim (w.marked j before) [
      | inl earlier ↦ inl earlier
      | inr along ↦ inr (suc along.0, (let l = along.1 in omega arith), along.2)
    ]
  ];
}

-- nothing is marked
not_marked : (n j : ℕ) → IsMarked (replicate n false) j → ⊥
not_marked n j marked = false≢true (sym none ∙ marked)
  where
    none : get_or (replicate n false) j false ≡ false
    none = elim (cases_lt j n) [
      | inl low ↦ get_or-replicate n j false false low
      | inr high ↦ get_or_past (replicate n false) j false (omega (arith, length-replicate n false))
    ]

pub no_marks : (g : GraphTerm) (n : ℕ) → AreRingMarks g (replicate n false)
no_marks g n task same j marked = absurd (not_marked n j marked)

-- a graph of one atom has no bond, so every mark is on a ring
pub one_marks : (g : GraphTerm) (marks : List Bool) → IsSearchable g → length g.atoms ≡ 1 → AreRingMarks g marks
one_marks g marks searchable one task same j marked image e x y b joined at =
    let there = ends_at g j x y (subst (λ h. JoinsAt (pattern_ends h) j x y) same joined) in
    absurd (no_bonds g searchable.ends searchable.apart one j no_term there.0)
