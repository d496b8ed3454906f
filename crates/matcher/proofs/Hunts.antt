-- Embeddings that have some atoms already: where the next place may stand.
use Rattle.std.proofs.Common.{◌≡◌, ◌≢◌, ◌⊎◌, ℕ, ◌<◌, ◌≤◌, List, Contains, length, map, max, take, set, slice_index, get_or, sym, ap, ◌∙◌, subst, arith, inl, inr}
use Rattle.std.specs.Int.{bit_at}
use Rattle.std.proofs.lemmas.Bool.{cases_eq, cases_order}
use Rattle.std.proofs.lemmas.List.{get_or-map, get_or_default, get_or-set_other, get_or-set_same, get_or-take, length-map, length-set, length-take-le}
use Rattle.std.proofs.lemmas.Nat.Bits.{bit_at-zero}
use Rattle.chem_core.specs.Graph.{AreNeighbours, JoinsAt}
use Rattle.chem_core.specs.Molecule.{ends_of}
use Rattle.smarts_parse.specs.declared.pattern.PatBond.{PatBond}
use Rattle.smarts_parse.specs.declared.pattern.BondPrim.TheVariants as prims
use Rattle.smarts_parse.specs.Embedding.{BondEmbeds}
use Rattle.smarts_parse.specs.Pattern.{BondTerm, Prim, bond_of, graph_of, term_of}
use Rattle.smarts_parse.specs.Truth.{BondTrue}
use Rattle.matcher.specs.Candidates.{AreCandidates, IsCandidate}
use Rattle.matcher.specs.declared.task.Task.{Task}
use Rattle.matcher.specs.Hunt.{AreTaken, Asks, Continues}
use Rattle.matcher.specs.Task.{Embeds, IsReadyTask}
use Rattle.matcher.proofs.Joins.{among_neighbours, joined_back, neighbour_joined, one_bond}
use Rattle.matcher.proofs.Plans.{high_below}

-- a bond of the graph as it is read from memory
pub read_bond : (bonds : List PatBond) (k : ℕ) (b : PatBond) → k < length bonds → b ≡ get_or bonds k b → (d : BondTerm)
    → get_or (map bond_of bonds) k d ≡ bond_of b
read_bond bonds k b l is d = get_or-map bond_of bonds k b d l ∙ ap bond_of (sym is)

-- what a bond to a place that is taken asks
pub asks_bond : (task : Task) (taken : List ℕ) (place bond other : ℕ) (b : PatBond) → IsReadyTask task
    → bond < length task.graph.now.bonds.items → b ≡ get_or task.graph.now.bonds.items bond b
    → ((b.a ≡ place) × (b.b ≡ other)) ⊎ ((b.a ≡ other) × (b.b ≡ place))
    → slice_index taken other < length task.mol.now.atoms → Asks task taken place (slice_index taken other) bond
asks_bond task taken place bond other b ready l is ends at d whole h =
    let bonds = task.graph.now.bonds.items in
    let g = graph_of task.graph.now in
    let m = task.mol.now in
    let within : bond < length g.bonds = subst (λ n. bond < n) (sym (length-map bonds bond_of)) l in
    let both : max b.a b.b < length g.atoms = high_below bonds g bond b l is ready.searchable.ends in
    let size : length whole ≡ length g.atoms = h.embeds.one_each in
    let j : BondEmbeds m whole (bond_of b) = subst (BondEmbeds m whole) (read_bond bonds bond b l is d)
    (h.embeds.bonds bond d within) in
    let true' = subst (λ (t : BondTerm). BondTrue t.expr m j.0) (sym (read_bond bonds bond b l is d)) j.2 in
    elim ends [
      | inl e ↦
          let there : slice_index whole b.b ≡ slice_index taken other = ap (λ q. slice_index whole q) e.1
          ∙ h.agrees other (let f : b.b ≡ other = e.1 in omega arith) at in
          let here = subst (λ x. JoinsAt (ends_of m) j.0 (slice_index whole x) (slice_index whole b.b)) e.0 j.1 in (
            j.0,
            subst (λ x. JoinsAt (ends_of m) j.0 x (slice_index whole place)) there
                (joined_back (ends_of m) j.0 (slice_index whole place) (slice_index whole b.b) here),
            true',
          )
      | inr e ↦
          let there : slice_index whole b.a ≡ slice_index taken other = ap (λ q. slice_index whole q) e.0
          ∙ h.agrees other (let f : b.a ≡ other = e.0 in omega arith) at in
          let here = subst (λ x. JoinsAt (ends_of m) j.0 (slice_index whole b.a) (slice_index whole x)) e.1 j.1 in
          (j.0, subst (λ x. JoinsAt (ends_of m) j.0 x (slice_index whole place)) there here, true')
    ]

-- the bond that is asked for, where the place stands at an atom
pub asked_at : (task : Task) (taken whole : List ℕ) (place from bond atom : ℕ) (b : PatBond)
    → Asks task taken place from bond → bond < length task.graph.now.bonds.items
    → b ≡ get_or task.graph.now.bonds.items bond b
    → Continues task taken whole → slice_index whole place ≡ atom
    → (x : ℕ) × JoinsAt (ends_of task.mol.now) x from atom × BondTrue (term_of b.expr) task.mol.now x
asked_at task taken whole place from bond atom b asks l is h e =
    let w = asks (bond_of b) whole h in (
      w.0,
      subst (λ x. JoinsAt (ends_of task.mol.now) w.0 from x) e w.1,
      subst (λ (t : BondTerm). BondTrue t.expr task.mol.now w.0)
          (read_bond task.graph.now.bonds.items bond b l is (bond_of b)) w.2,
    )

-- not at a neighbour by a bond that is not as asked
pub not_near : (task : Task) (taken whole : List ℕ) (place from bond : ℕ) (b : PatBond) (pairs : List (ℕ × ℕ)) (k : ℕ)
    → Asks task taken place from bond → bond < length task.graph.now.bonds.items
    → b ≡ get_or task.graph.now.bonds.items bond b
    → AreNeighbours (ends_of task.mol.now) from pairs → k < length pairs
    → (BondTrue (term_of b.expr) task.mol.now (get_or pairs k (0, 0)).1 → ⊥)
    → Continues task taken whole → slice_index whole place ≡ (get_or pairs k (0, 0)).0 → ⊥
not_near task taken whole place from bond b pairs k asks l is near kl lacks h e =
    let w = asked_at task taken whole place from bond (get_or pairs k (0, 0)).0 b asks l is h e in
    let one : w.0 ≡ (get_or pairs k (0, 0)).1 = one_bond (ends_of task.mol.now) from
    (get_or pairs k (0, 0)).0 pairs near w.0 (get_or pairs k (0, 0)).1 w.1
    (neighbour_joined (ends_of task.mol.now) from pairs k (0, 0) near kl) in
    lacks (subst (BondTrue (term_of b.expr) task.mol.now) one w.2)

abbrev any_bond : BondTerm
any_bond = record { a = 0; b = 0; expr = Prim prims.Any }

-- nowhere, where at none of the neighbours
pub nowhere_near : (task : Task) (taken : List ℕ) (place from bond : ℕ) (pairs : List (ℕ × ℕ))
    → Asks task taken place from bond → AreNeighbours (ends_of task.mol.now) from pairs
    → ((k : ℕ) → k < length pairs → (whole : List ℕ) → Continues task taken whole
    → slice_index whole place ≡ (get_or pairs k (0, 0)).0 → ⊥)
    → (whole : List ℕ) → Continues task taken whole → ⊥
nowhere_near task taken place from bond pairs asks near none whole h =
    let w = asks any_bond whole h in
    let at = among_neighbours (ends_of task.mol.now) from (slice_index whole place) w.0 pairs near w.1 in
    none at.0 at.1 whole h (sym (ap (λ (e : ℕ × ℕ). e.0) at.2))

-- one place more is taken
pub taken_more : (task : Task) (taken whole : List ℕ) (place atom : ℕ) → place < length taken
    → Continues task taken whole → slice_index whole place ≡ atom → Continues task (set taken place atom) whole
taken_more task taken whole place atom l h e = record {
  embeds = h.embeds;
  agrees = λ q lq at. elim (cases_eq q place) [
    | inl same ↦ ap (λ i. slice_index whole i) same ∙ e
        ∙ sym (ap (λ i. slice_index (set taken place atom) i) same ∙ get_or-set_same taken place atom 0 l)
    | inr apart ↦
        let kept : slice_index (set taken place atom) q ≡ slice_index taken q = get_or-set_other taken place q atom 0
        apart in
        h.agrees q lq (subst (λ x. x < length task.mol.now.atoms) kept at) ∙ sym kept
  ];
}

-- a place that is not taken does not stand where one that is taken stands
pub taken_twice : (task : Task) (taken whole : List ℕ) (place atom n : ℕ) → n ≡ length whole → n ≤ length taken
    → place < n → atom < length task.mol.now.atoms → length task.mol.now.atoms ≤ slice_index taken place
    → Contains (take n taken) atom
    → Continues task taken whole → slice_index whole place ≡ atom → ⊥
taken_twice task taken whole place atom n size room few in_range free w h e =
    let q : ℕ = w.0 in
    let short : length (take n taken) ≡ n = length-take-le n taken room in
    let before : q < n = subst (λ k. q < k) short w.1 in
    let read : slice_index taken q ≡ atom = sym (get_or-take n taken q 0 before)
    ∙ get_or_default (take n taken) q 0 atom w.1 ∙ w.2 in
    let there : slice_index whole q ≡ atom = h.agrees q (omega arith) (omega arith) ∙ read in
    elim (cases_order q place) [
      | inl same ↦ let moved : slice_index taken q ≡ slice_index taken place = ap (λ i. slice_index taken i) same
          in omega arith
      | inr apart ↦ elim apart [
        | inl lower ↦ h.embeds.distinct q place 0 lower (omega arith) (there ∙ sym e)
        | inr higher ↦ h.embeds.distinct place q 0 higher (omega arith) (e ∙ sym there)
      ]
    ]

-- a place that is not taken stands at a candidate that is none of the atoms that a word has as taken
pub stands_free : (task : Task) (words taken whole : List ℕ) (used place atom : ℕ) → AreCandidates task words
    → AreTaken task used taken → length task.graph.now.atoms.items ≤ length taken
    → place < length task.graph.now.atoms.items → length task.mol.now.atoms ≤ slice_index taken place
    → Continues task taken whole → slice_index whole place ≡ atom
    → (atom < length task.mol.now.atoms) × IsCandidate words place atom × (bit_at used atom ≢ 1)
stands_free task words taken whole used place atom candidates marked room few free h e =
    let size : length task.graph.now.atoms.items ≡ length whole = omega
    (arith, h.embeds.one_each, length-map task.graph.now.atoms.items term_of) in (
      subst (λ a. a < length task.mol.now.atoms) e (h.embeds.in_range place 0 (omega arith)),
      subst (IsCandidate words place) e (candidates.whole whole h.embeds place (omega arith)),
      λ t.
          let w = marked atom t in
          taken_twice task taken whole place atom (length task.graph.now.atoms.items) size room few w.0 free w.1 h e,
    )

-- no place is taken yet
pub none_taken : (task : Task) (taken whole : List ℕ) (n : ℕ) → n ≡ length (graph_of task.graph.now).atoms
    → ((k : ℕ) → k < n → slice_index taken k ≡ length task.mol.now.atoms) → Embeds task whole
    → Continues task taken whole
none_taken task taken whole n all none h = record {
  embeds = h;
  agrees = λ q l at. let free = none q (omega (arith, h.one_each)) in absurd (omega arith);
}

-- no atom is taken yet
pub none_used : (task : Task) (taken : List ℕ) → AreTaken task 0 taken
none_used task taken a t = absurd (omega (arith, bit_at-zero a, t))

-- a free place takes an atom
pub used_more : (task : Task) (taken : List ℕ) (used new place atom : ℕ) → place < length task.graph.now.atoms.items
    → length task.graph.now.atoms.items ≤ length taken → length task.mol.now.atoms ≤ slice_index taken place
    → atom < length task.mol.now.atoms → AreTaken task used taken
    → ((a : ℕ) → bit_at new a ≡ 1 → (a ≡ atom) ⊎ (bit_at used a ≡ 1)) → AreTaken task new (set taken place atom)
used_more task taken used new place atom l room free in_range old more a t =
    let n = length task.graph.now.atoms.items in
    let size : length (take n (set taken place atom)) ≡ n = length-take-le n (set taken place atom)
    (omega (arith, room, length-set taken place atom)) in
    elim (more a t) [
      | inl same ↦ (
        subst (λ k. k < length task.mol.now.atoms) (sym same) in_range,
        (
          place,
          omega (arith, size, l),
          get_or-take n (set taken place atom) place a l ∙ get_or-set_same taken place atom a (omega arith)
              ∙ sym same,
        ),
      )
      | inr before ↦
          let w = old a before in
          let q : ℕ = w.1.0 in
          let within : q < n = omega (arith, w.1.1, length-take-le n taken room) in
          let read : slice_index taken q ≡ a = sym (get_or-take n taken q 0 within)
          ∙ get_or_default (take n taken) q 0 a w.1.1 ∙ w.1.2 in
          let apart : q ≡ place → ⊥ = λ e.
          let moved : slice_index taken q ≡ slice_index taken place = ap (λ i. slice_index taken i) e in
          let inside = w.0 in
          omega arith in (
            w.0,
            (
              q,
              omega (arith, size, within),
              get_or-take n (set taken place atom) q a within ∙ get_or-set_other taken place q atom a apart
                  ∙ sym (get_or-take n taken q a within) ∙ w.1.2,
            ),
          )
    ]
