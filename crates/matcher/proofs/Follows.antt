-- A search along a route: which atoms are left to be tried.
use Rattle.std.proofs.Common.{◌≡◌, ◌≢◌, ◌⊎◌, ◌∙◌, ◌+◌, ◌*◌, ◌%◌, ◌^◌, ◌<◌, ◌≤◌, ℕ, List, [], ap, arith, bit_and, bit_or, get_or, inl, inr, length, set, slice_get, slice_index, Some, subst, sym, take, w64}
use Rattle.std.specs.Int.{bit_at}
use Rattle.std.proofs.lemmas.Bool.{cases_eq, cases_lt}
use Rattle.std.proofs.lemmas.List.{get_or-map, get_or-set_other, get_or-set_same, get_or-take, get_or_default, length-map, length-take-le}
use Rattle.std.proofs.lemmas.Nat.Bits.{bit_at-lt, bit_at-zero, bit_at_above, bit_at_and, bit_at_or, bit_at_set_other}
use Rattle.std.proofs.lemmas.Option.{same_Some, slice_get-get_or, slice_get_within}
use Rattle.chem_core.specs.declared.mol.Bond.{Bond}
use Rattle.chem_core.specs.Graph.{JoinsAt}
use Rattle.chem_core.specs.Molecule.{IsMolecule, Molecule, ends_of}
use Rattle.chem_core.specs.Sorts.{kind_number}
use Rattle.smarts_parse.specs.Embedding.{BondEmbeds}
use Rattle.smarts_parse.specs.Pattern.{BondTerm, GraphTerm, graph_of, term_of}
use Rattle.smarts_parse.specs.Sound.{pattern_ends}
use Rattle.smarts_parse.specs.Truth.{AtomTrue, BondTrue}
use Rattle.smarts_mean.specs.Table.{HoldsIn}
use Rattle.smarts_parse.specs.declared.pattern.PatBond.{PatBond}
use Rattle.matcher.specs.Candidates.{AreCandidates}
use Rattle.matcher.specs.declared.route.Join.{Join}
use Rattle.matcher.specs.declared.route.Stop.{Stop}
use Rattle.matcher.specs.declared.task.Task.{Task}
use Rattle.matcher.specs.Follow.{Agrees, AllRemain, AreJoined, AreJoinedBy, ArePlaced, HasNext, IsFree, IsOfKinds}
use Rattle.matcher.specs.Route.{AsksKinds, HasNoGroups, IsJoin, IsRoute, IsSorted, stop_at}
use Rattle.matcher.specs.Task.{Completes, Embeds, IsReadyTask}
use Rattle.matcher.specs.Counted.{kinds_of}
use Rattle.matcher.proofs.Classes.{and_both}
use Rattle.matcher.proofs.Counted.{kinds_true}
use Rattle.matcher.proofs.Hunts.{read_bond}
use Rattle.matcher.proofs.Joins.{joined_back, joins_in_range}
use Rattle.matcher.proofs.KindsOnly.{kinds_back}
use Rattle.matcher.proofs.Pairs.{joined_read}
use Rattle.matcher.proofs.Seconds.{joins_within}
use Rattle.matcher.proofs.Narrowings.{apart, ends_at, low_bit, low_candidate, no_term}
use Rattle.matcher.proofs.Refusals.{ends_read, no_bond}

-- ---- the atoms of stops

-- the atom of a stop in an embedding
abbrev pub atom_of : List Stop → List ℕ → ℕ → ℕ
atom_of stops whole k = slice_index whole (stop_at stops k).place

-- the routes of a task's graph
abbrev pub IsRouteFor : Task → List Stop → Type 0
IsRouteFor task stops = ((k : ℕ) → k < length stops → (stop_at stops k).place < length (graph_of task.graph.now).atoms)
    × ((i k : ℕ) → i < k → k < length stops → (stop_at stops i).place ≢ (stop_at stops k).place)

pub route_for : (task : Task) (stops : List Stop) (joins : List Join) (kinds : List ℕ)
    → IsRoute (graph_of task.graph.now) stops joins kinds → IsRouteFor task stops
route_for task stops joins kinds h = (λ k l. (h.each k l).place, h.apart)

pub within : (task : Task) (stops : List Stop) (whole : List ℕ) (k : ℕ) → IsRouteFor task stops → k < length stops
    → Embeds task whole → atom_of stops whole k < length task.mol.now.atoms
within task stops whole k route l e =
    let size = e.one_each in
    let here = route.0 k l in
    e.in_range (stop_at stops k).place 0 (omega arith)

-- at different places different atoms
pub apart_before : (task : Task) (stops : List Stop) (whole : List ℕ) (i k : ℕ) → IsRouteFor task stops → i < k
    → k < length stops → Embeds task whole → atom_of stops whole i ≢ atom_of stops whole k
apart_before task stops whole i k route before l e =
    let size = e.one_each in
    let one = route.0 i (omega arith) in
    let two = route.0 k l in
    apart task whole (stop_at stops i).place (stop_at stops k).place e (omega arith) (omega arith)
    (route.1 i k before l)

agrees_kept : (task : Task) (stops : List Stop) (k at atom : ℕ) (atoms whole : List ℕ) → k ≤ at
    → Agrees task stops k atoms whole → Agrees task stops k (set atoms at atom) whole
agrees_kept task stops k at atom atoms whole few h = record {
  embeds = h.embeds;
  agrees = λ i l. h.agrees i l ∙ sym (get_or-set_other atoms at i atom 0 (λ e. omega arith));
}

agrees_more : (task : Task) (stops : List Stop) (at atom : ℕ) (atoms whole : List ℕ) → at < length atoms
    → Agrees task stops at atoms whole → atom_of stops whole at ≡ atom
    → Agrees task stops (at + 1) (set atoms at atom) whole
agrees_more task stops at atom atoms whole room h is = record {
  embeds = h.embeds;
  agrees = λ i l. elim (cases_eq i at) [
    | inl same ↦ ap (atom_of stops whole) same ∙ is ∙ sym (ap (λ q. slice_index (set atoms at atom) q) same
        ∙ get_or-set_same atoms at atom 0 room)
    | inr other ↦ h.agrees i (omega arith) ∙ sym (get_or-set_other atoms at i atom 0 other)
  ];
}

-- ---- a turn of the search

-- An embedding that remained does so with the atom taken from those that are left, or has it at the last stop.
turned : (task : Task) (stops : List Stop) (at atom kept : ℕ) (atoms left whole : List ℕ) → IsRouteFor task stops
    → length task.mol.now.atoms ≤ 64 → at < length stops → at < length atoms → at < length left
    → ((a : ℕ) → a < 64 → (a ≡ atom → ⊥) → bit_at (slice_index left at) a ≡ 1 → bit_at kept a ≡ 1)
    → AllRemain task stops at atoms left → Embeds task whole
    → ((k : ℕ) × (k ≤ at) × Agrees task stops k (set atoms at atom) whole
    × (bit_at (slice_index (set left at kept) k) (atom_of stops whole k) ≡ 1))
    ⊎ Agrees task stops (at + 1) (set atoms at atom) whole
turned task stops at atom kept atoms left whole route small within' room_atoms room_left clear h e =
    let w = h whole e in
    let k : ℕ = w.0 in
    let before = w.1 in
    let x : ℕ = atom_of stops whole k in
    let low : x < length task.mol.now.atoms = within task stops whole k route (omega arith) e in
    elim (cases_eq k at) [
      | inl last ↦ elim (cases_eq x atom) [
        | inl here ↦ inr (agrees_more task stops at atom atoms whole room_atoms
            (subst (λ n. Agrees task stops n atoms whole) last w.2)
            (ap (atom_of stops whole) (sym last) ∙ here))
        | inr other ↦ inl (
          k,
          before,
          agrees_kept task stops k at atom atoms whole before w.2,
          subst (λ q. bit_at (slice_index (set left at kept) q) x ≡ 1) (sym last)
              (subst (λ v. bit_at v x ≡ 1) (sym (get_or-set_same left at kept 0 room_left))
              (clear x (omega arith) other (subst (λ q. bit_at (slice_index left q) x ≡ 1) last w.3))),
        )
      ]
      | inr earlier ↦ inl (
        k,
        before,
        agrees_kept task stops k at atom atoms whole before w.2,
        subst (λ v. bit_at v x ≡ 1) (sym (get_or-set_other left at k kept 0 earlier)) w.3,
      )
    ]

-- the next stop has no atom
pub remain_here : (task : Task) (stops : List Stop) (at atom kept next : ℕ) (atoms left : List ℕ)
    → IsRouteFor task stops → length task.mol.now.atoms ≤ 64 → at < length stops → at < length atoms
    → at < length left
    → ((a : ℕ) → a < 64 → (a ≡ atom → ⊥) → bit_at (slice_index left at) a ≡ 1 → bit_at kept a ≡ 1)
    → HasNext task stops (at + 1) (set atoms at atom) next → next ≡ 0 → AllRemain task stops at atoms left
    → AllRemain task stops at (set atoms at atom) (set left at kept)
remain_here task stops at atom kept next atoms left route small within' room_atoms room_left clear has none h whole e =
    elim (turned task stops at atom kept atoms left whole route small within' room_atoms room_left clear h e) [
      | inl w ↦ w
      | inr agrees ↦
          let one = has whole agrees in
          let zero' : bit_at next (atom_of stops whole (at + 1)) ≡ 0 =
          ap (λ n. bit_at n (atom_of stops whole (at + 1))) none ∙ bit_at-zero (atom_of stops whole (at + 1)) in
          absurd (omega arith)
    ]

-- the next stop has some
pub remain_on : (task : Task) (stops : List Stop) (at atom kept next : ℕ) (atoms left : List ℕ)
    → IsRouteFor task stops → length task.mol.now.atoms ≤ 64 → at < length stops → at < length atoms
    → at + 1 < length (set left at kept) → at < length left
    → ((a : ℕ) → a < 64 → (a ≡ atom → ⊥) → bit_at (slice_index left at) a ≡ 1 → bit_at kept a ≡ 1)
    → HasNext task stops (at + 1) (set atoms at atom) next → AllRemain task stops at atoms left
    → AllRemain task stops (at + 1) (set atoms at atom) (set (set left at kept) (at + 1) next)
remain_on task stops at atom kept next atoms left route small within' room_atoms room_next room_left clear has h whole e =
    elim (turned task stops at atom kept atoms left whole route small within' room_atoms room_left clear h e) [
      | inl w ↦
          let before = w.1 in (
            w.0,
            omega arith,
            w.2,
            subst (λ v. bit_at v (atom_of stops whole w.0) ≡ 1)
                (sym (get_or-set_other (set left at kept) (at + 1) w.0 next 0 (λ e. omega arith))) w.3,
          )
      | inr agrees ↦ (
        at + 1,
        omega arith,
        agrees,
        subst (λ v. bit_at v (atom_of stops whole (at + 1)) ≡ 1)
            (sym (get_or-set_same (set left at kept) (at + 1) next 0 room_next)) (has whole agrees),
      )
    ]

-- nothing is left at the last stop
pub remain_back : (task : Task) (stops : List Stop) (at back : ℕ) (atoms left : List ℕ) → slice_index left at ≡ 0
    → at ≡ back + 1 → AllRemain task stops at atoms left → AllRemain task stops back atoms left
remain_back task stops at back atoms left none is h whole e =
    let w = h whole e in
    let before = w.1 in
    elim (cases_eq w.0 at) [
      | inl last ↦
          let one = w.3 in
          let zero' : bit_at (slice_index left w.0) (atom_of stops whole w.0) ≡ 0 =
          ap (λ n. bit_at n (atom_of stops whole w.0)) (ap (λ q. slice_index left q) last ∙ none)
          ∙ bit_at-zero (atom_of stops whole w.0) in
          absurd (omega arith)
      | inr earlier ↦ (w.0, omega arith, w.2, w.3)
    ]

-- nor at the first
pub remain_none : (task : Task) (stops : List Stop) (at : ℕ) (atoms left : List ℕ) → at ≡ 0
    → slice_index left at ≡ 0 → AllRemain task stops at atoms left → Completes task [] → ⊥
remain_none task stops at atoms left first none h c =
    let w = h c.0 c.1 in
    let before = w.1 in
    let last : w.0 ≡ at = omega arith in
    let one = w.3 in
    let zero' : bit_at (slice_index left w.0) (atom_of stops c.0 w.0) ≡ 0 =
    ap (λ n. bit_at n (atom_of stops c.0 w.0)) (ap (λ q. slice_index left q) last ∙ none)
    ∙ bit_at-zero (atom_of stops c.0 w.0) in
    omega arith

-- the search begins
pub remain_all : (task : Task) (stops : List Stop) (words atoms left : List ℕ) (free : ℕ) → IsRouteFor task stops
    → length task.mol.now.atoms ≤ 64 → 0 < length stops → 0 < length left → AreCandidates task words
    → ((a : ℕ) → a < length task.mol.now.atoms → bit_at free a ≡ 1)
    → AllRemain task stops 0 atoms (set left 0 (bit_and (slice_index words (stop_at stops 0).place) free))
remain_all task stops words atoms left free route small some room candidates all whole e =
    let place : ℕ = (stop_at stops 0).place in
    let x : ℕ = slice_index whole place in
    let size = e.one_each in
    let here = route.0 0 some in
    let low : x < length task.mol.now.atoms = within task stops whole 0 route some e in
    let one : bit_at (slice_index words place) x ≡ 1 = low_bit words place x (omega arith)
    (candidates.whole whole e place (omega arith)) in (
      0,
      omega arith,
      record { embeds = e; agrees = λ i l. absurd (omega arith) },
      subst (λ v. bit_at v x ≡ 1)
          (sym (get_or-set_same left 0 (bit_and (slice_index words place) free) 0 room))
          (and_both (slice_index words place) free x one (all x low)),
    )

-- ---- the atoms that are free

pub free_on : (m : Molecule) (at atom free others : ℕ) (atoms : List ℕ) → length m.atoms ≤ 64 → at < length atoms
    → ((a : ℕ) → a < 64 → (a ≡ atom → ⊥) → bit_at free a ≡ 1 → bit_at others a ≡ 1)
    → IsFree m at atoms free → IsFree m (at + 1) (set atoms at atom) others
free_on m at atom free others atoms small room clear h a l none =
    let here : a ≡ atom → ⊥ = λ e. none at (omega arith) (get_or-set_same atoms at atom 0 room ∙ sym e) in
    clear a (omega arith) here (h a l (λ i li e.
    none i (omega arith) (get_or-set_other atoms at i atom 0 (λ f. omega arith) ∙ e)))

pub free_kept : (m : Molecule) (at atom free : ℕ) (atoms : List ℕ) → IsFree m at atoms free
    → IsFree m at (set atoms at atom) free
free_kept m at atom free atoms h a l none = h a l (λ i li e.
    none i li (get_or-set_other atoms at i atom 0 (λ f. omega arith) ∙ e))

pub free_back : (m : Molecule) (at back atom free new : ℕ) (atoms : List ℕ) → length m.atoms ≤ 64 → at ≡ back + 1
    → slice_index atoms back ≡ atom → (atom < 64 → bit_at new atom ≡ 1)
    → ((a : ℕ) → bit_at free a ≡ 1 → bit_at new a ≡ 1) → IsFree m at atoms free → IsFree m back atoms new
free_back m at back atom free new atoms small is read here kept h a l none = elim (cases_eq a atom) [
  | inl same ↦ subst (λ n. bit_at new n ≡ 1) (sym same) (here (omega arith))
  | inr other ↦ kept a (h a l (λ i li e. elim (cases_eq i back) [
    | inl last ↦ other (sym e ∙ ap (λ q. slice_index atoms q) last ∙ read)
    | inr before ↦ none i (omega arith) e
  ]))
]

-- ---- where a stop may stand

pub next_free : (task : Task) (stops : List Stop) (words atoms : List ℕ) (free k : ℕ) → IsRouteFor task stops
    → length task.mol.now.atoms ≤ 64 → k < length stops → AreCandidates task words
    → IsFree task.mol.now k atoms free
    → HasNext task stops k atoms (bit_and (slice_index words (stop_at stops k).place) free)
next_free task stops words atoms free k route small l candidates open' whole h =
    let place : ℕ = (stop_at stops k).place in
    let x : ℕ = slice_index whole place in
    let size = h.embeds.one_each in
    let here = route.0 k l in
    let low : x < length task.mol.now.atoms = within task stops whole k route l h.embeds in
    and_both (slice_index words place) free x
    (low_bit words place x (omega arith) (candidates.whole whole h.embeds place (omega arith)))
    (open' x low (λ i li e. apart_before task stops whole i k route li l h.embeds (h.agrees i li ∙ e)))

pub next_both : (task : Task) (stops : List Stop) (k one two : ℕ) (atoms : List ℕ) → HasNext task stops k atoms one
    → HasNext task stops k atoms two → HasNext task stops k atoms (bit_and one two)
next_both task stops k one two atoms h g whole a = and_both one two (atom_of stops whole k) (h whole a) (g whole a)

-- an embedding takes the ends of a bond to the ends of one at which the expression is true
embedded_true : (task : Task) (whole : List ℕ) (j x y : ℕ) → Embeds task whole
    → JoinsAt (pattern_ends (graph_of task.graph.now)) j x y
    → (b : ℕ) × JoinsAt (ends_of task.mol.now) b (slice_index whole x) (slice_index whole y)
    × BondTrue (get_or (graph_of task.graph.now).bonds j no_term).expr task.mol.now b
embedded_true task whole j x y e joined =
    let g : GraphTerm = graph_of task.graph.now in
    let ends = ends_of task.mol.now in
    let h = ends_at g j x y joined in
    let low : ℕ = (get_or g.bonds j no_term).a in
    let high : ℕ = (get_or g.bonds j no_term).b in
    let there : BondEmbeds task.mol.now whole (get_or g.bonds j no_term) = e.bonds j no_term h.0 in (
      there.0,
      elim h.1 [
        | inl p ↦ subst (λ a. JoinsAt ends there.0 (slice_index whole a) (slice_index whole y)) (sym p.0)
            (subst (λ b. JoinsAt ends there.0 (slice_index whole low) (slice_index whole b)) (sym p.1) there.1)
        | inr p ↦ subst (λ a. JoinsAt ends there.0 (slice_index whole a) (slice_index whole y)) (sym p.0)
            (subst (λ b. JoinsAt ends there.0 (slice_index whole high) (slice_index whole b)) (sym p.1)
            (joined_back ends there.0 (slice_index whole low) (slice_index whole high) there.1))
      ],
      there.2,
    )

-- the atoms to which a join leads
pub next_joined : (task : Task) (stops : List Stop) (kinds joined atoms : List ℕ) (k : ℕ) (j : Join)
    → IsRouteFor task stops → length task.mol.now.atoms ≤ 64 → k < length stops → AreJoined task.mol.now kinds joined
    → IsJoin (graph_of task.graph.now) stops kinds k j
    → HasNext task stops k atoms (slice_index joined (64 * j.set + slice_index atoms j.other % 64))
next_joined task stops kinds joined atoms k j route small l words is whole h =
    let g : GraphTerm = graph_of task.graph.now in
    let before = is.earlier in
    let there = embedded_true task whole j.bond (stop_at stops j.other).place (stop_at stops k).place h.embeds is.bonded in
    let from : ℕ = atom_of stops whole j.other in
    let to : ℕ = atom_of stops whole k in
    let low : from < length task.mol.now.atoms = within task stops whole j.other route (omega arith) h.embeds in
    let of_kinds : IsOfKinds task.mol.now (slice_index kinds j.set) there.0 = λ x get.
    subst (λ n. bit_at n (kind_number x.kind) ≡ 1) (is.asks no_term)
    (kinds_true (get_or g.bonds j.bond no_term).expr task.mol.now there.0 x get there.2) in
    let read : from ≡ slice_index atoms j.other = h.agrees j.other before in
    let same : from ≡ slice_index atoms j.other % 64 = omega arith in
    subst (λ n. bit_at (slice_index joined (64 * j.set + n)) to ≡ 1) same
    ((words j.set is.set).all there.0 from to (omega arith) there.1 of_kinds)

-- ---- the words of the joined atoms

-- the ends of each bond, as they are read
pub joined_all : (m : Molecule) (kinds from : ℕ) (joined : List ℕ) → IsMolecule m
    → ((k : ℕ) → k < length m.bonds → bit_at kinds (kind_number (get_or m.bonds k no_bond).kind) ≡ 1
    → (bit_at (slice_index joined (from + (get_or m.bonds k no_bond).a)) (get_or m.bonds k no_bond).b ≡ 1)
    × (bit_at (slice_index joined (from + (get_or m.bonds k no_bond).b)) (get_or m.bonds k no_bond).a ≡ 1))
    → (b x y : ℕ) → x < 64 → JoinsAt (ends_of m) b x y → IsOfKinds m kinds b
    → bit_at (slice_index joined (from + x)) y ≡ 1
joined_all m kinds from joined valid h b x y few joins of_kinds =
    let l = (joins_in_range m b x y valid joins).0 in
    let both = h b l (of_kinds (get_or m.bonds b no_bond) (slice_get-get_or m.bonds b no_bond l)) in
    elim (ends_read m b x y no_bond l joins) [
      | inl p ↦ subst (λ u. bit_at (slice_index joined (from + u)) y ≡ 1) (sym p.0)
          (subst (λ v. bit_at (slice_index joined (from + (get_or m.bonds b no_bond).a)) v ≡ 1) (sym p.1) both.0)
      | inr p ↦ subst (λ u. bit_at (slice_index joined (from + u)) y ≡ 1) (sym p.0)
          (subst (λ v. bit_at (slice_index joined (from + (get_or m.bonds b no_bond).b)) v ≡ 1) (sym p.1) both.1)
    ]

-- words that are kept
pub joined_same : (m : Molecule) (kinds from : ℕ) (old new : List ℕ) → length m.atoms ≤ 64
    → ((k : ℕ) → k < from + 64 → slice_index new k ≡ slice_index old k) → AreJoinedBy m kinds old from
    → AreJoinedBy m kinds new from
joined_same m kinds from old new small same h = record {
  all = λ b x y few joins of_kinds. subst (λ w. bit_at w y ≡ 1) (sym (same (from + x) (omega arith)))
      (h.all b x y few joins of_kinds);
  only = λ x y l t. h.only x y l (subst (λ w. bit_at w y ≡ 1) (same (from + x) (omega arith)) t);
}

-- a bond of the first n, of the kinds, joins the two atoms
abbrev pub IsJoinedBy : ℕ → List Bond → ℕ → ℕ → ℕ → Type 0
IsJoinedBy kinds bonds n x y = (k : ℕ) × (k < n) × (bit_at kinds (kind_number (get_or bonds k no_bond).kind) ≡ 1)
    × (((x ≡ (get_or bonds k no_bond).a) × (y ≡ (get_or bonds k no_bond).b))
    ⊎ ((x ≡ (get_or bonds k no_bond).b) × (y ≡ (get_or bonds k no_bond).a)))

pub joined_by_more : (kinds : ℕ) (bonds : List Bond) (n x y : ℕ) → IsJoinedBy kinds bonds n x y
    → IsJoinedBy kinds bonds (n + 1) x y
joined_by_more kinds bonds n x y h = (h.0, let l = h.1 in omega arith, h.2, h.3)

pub joined_by_bond : (m : Molecule) (kinds n x y : ℕ) → n ≤ length m.bonds → IsJoinedBy kinds m.bonds n x y
    → (b : ℕ) × JoinsAt (ends_of m) b x y × IsOfKinds m kinds b
joined_by_bond m kinds n x y room h =
    let k : ℕ = h.0 in
    let before = h.1 in
    let l : k < length m.bonds = omega arith in
    let here = joined_read m k l in
    let low : ℕ = (get_or m.bonds k no_bond).a in
    let high : ℕ = (get_or m.bonds k no_bond).b in (
      k,
      elim h.3 [
        | inl p ↦ subst (λ u. JoinsAt (ends_of m) k u y) (sym p.0)
            (subst (λ v. JoinsAt (ends_of m) k low v) (sym p.1) here)
        | inr p ↦ subst (λ u. JoinsAt (ends_of m) k u y) (sym p.0)
            (subst (λ v. JoinsAt (ends_of m) k high v) (sym p.1) (joined_back (ends_of m) k low high here))
      ],
      λ z get. subst (λ (w : Bond). bit_at kinds (kind_number w.kind) ≡ 1)
          (same_Some (get_or m.bonds k no_bond) z (sym (slice_get-get_or m.bonds k no_bond l) ∙ get)) h.2,
    )

-- a bit that is set in one word
pub joined_only : (near : List ℕ) (at other bit : ℕ) → at < length near → other < 64 → bit ≤ 1 → (x y : ℕ)
    → bit_at (slice_index (set near at (bit_or (get_or near at 0) (bit * 2 ^ other % 2 ^ 64))) x) y ≡ 1
    → (bit_at (slice_index near x) y ≡ 1) ⊎ ((bit ≡ 1) × (x ≡ at) × (y ≡ other))
joined_only near at other bit l few small x y t =
    let old : ℕ = get_or near at 0 in
    let new : ℕ = bit_or old (bit * 2 ^ other % 2 ^ 64) in
    elim (cases_eq x at) [
      | inr apart' ↦ inl (subst (λ w. bit_at w y ≡ 1) (get_or-set_other near at x new 0 apart') t)
      | inl here ↦
          let there : bit_at new y ≡ 1 = subst (λ w. bit_at w y ≡ 1) (get_or-set_same near at new 0 l)
          (subst (λ q. bit_at (slice_index (set near at new) q) y ≡ 1) here t) in
          let before : bit_at old y ≡ 1 → bit_at (slice_index near x) y ≡ 1 = λ o.
          subst (λ q. bit_at (slice_index near q) y ≡ 1) (sym here) o in
          elim (cases_eq bit 1) [
            | inl one ↦ elim (cases_eq y other) [
              | inl same ↦ inr (one, here, same)
              | inr apart' ↦
                  let plain : bit_at (bit_or old (1 * 2 ^ other % 2 ^ 64)) y ≡ 1 =
                  subst (λ b. bit_at (bit_or old (b * 2 ^ other % 2 ^ 64)) y ≡ 1) one there in
                  inl (before (sym (bit_at_set_other w64 old other few y apart') ∙ plain))
            ]
            | inr none ↦
                let zero' : bit ≡ 0 = omega arith in
                let plain : bit_at (bit_or old (0 * 2 ^ other % 2 ^ 64)) y ≡ 1 =
                subst (λ b. bit_at (bit_or old (b * 2 ^ other % 2 ^ 64)) y ≡ 1) zero' there in
                let empty : 0 * 2 ^ other % 2 ^ 64 ≡ 0 = omega arith in
                let clear : bit_at (bit_or old 0) y ≡ 1 = subst (λ n. bit_at (bit_or old n) y ≡ 1) empty plain in
                let both = bit_at_or old 0 y in
                let nothing = bit_at-zero y in
                let low = bit_at-lt old y in
                inl (before (omega arith))
          ]
    ]

-- ---- an image that is found

pub placed_none : (task : Task) (words image : List ℕ) → ArePlaced task words image 0
placed_none task words image = record {
  within = λ q l. absurd (omega arith);
  held = λ q l. absurd (omega arith);
  distinct = λ p q lt l. absurd (omega arith);
}

-- the atoms of the word are atoms of the molecule at which none of the first n places stands
abbrev pub AreFresh : Molecule → List ℕ → ℕ → ℕ → Type 0
AreFresh m image n free = (a : ℕ) → bit_at free a ≡ 1
    → (a < length m.atoms) × ((q : ℕ) → q < n → slice_index image q ≢ a)

pub fresh_all : (m : Molecule) (image : List ℕ) (free : ℕ) → free < 2 ^ 64
    → ((a : ℕ) → a < 64 → bit_at free a ≡ 1 → a < length m.atoms) → AreFresh m image 0 free
fresh_all m image free low h a t = (
  elim (cases_lt a 64) [
    | inl few ↦ h a few t
    | inr many ↦ absurd (let none = bit_at_above free 64 a low many in omega arith)
  ],
  λ q l. absurd (omega arith),
)

pub fresh_less : (m : Molecule) (image : List ℕ) (n free atom new : ℕ) → slice_index image n ≡ atom
    → ((a : ℕ) → bit_at new a ≡ 1 → bit_at free a ≡ 1) → bit_at new atom ≢ 1 → AreFresh m image n free
    → AreFresh m image (n + 1) new
fresh_less m image n free atom new is only gone h a t =
    let w = h a (only a t) in (
      w.0,
      λ q l. elim (cases_eq q n) [
        | inl same ↦ λ e. gone (subst (λ b. bit_at new b ≡ 1)
            (sym e ∙ ap (λ i. slice_index image i) same ∙ is) t)
        | inr other ↦ w.1 q (omega arith)
      ],
    )

pub placed_more : (task : Task) (words image : List ℕ) (n free atom : ℕ) → slice_index image n ≡ atom
    → bit_at (bit_and free (slice_index words n)) atom ≡ 1 → AreFresh task.mol.now image n free
    → ArePlaced task words image n → ArePlaced task words image (n + 1)
placed_more task words image n free atom is t fresh h =
    let both = bit_at_and free (slice_index words n) atom in
    let one = bit_at-lt free atom in
    let two = bit_at-lt (slice_index words n) atom in
    let in_words : bit_at (slice_index words n) atom ≡ 1 = omega arith in
    let w = fresh atom (omega arith) in
    let read : (q : ℕ) → q ≡ n → slice_index image q ≡ atom = λ q same. ap (λ i. slice_index image i) same ∙ is in
    record {
      within = λ q l. elim (cases_eq q n) [
        | inl same ↦ subst (λ a. a < length task.mol.now.atoms) (sym (read q same)) w.0
        | inr other ↦ h.within q (omega arith)
      ];
      held = λ q l. elim (cases_eq q n) [
        | inl same ↦ subst (λ i. bit_at (slice_index words i) (slice_index image q) ≡ 1) (sym same)
            (subst (λ a. bit_at (slice_index words n) a ≡ 1) (sym (read q same)) in_words)
        | inr other ↦ h.held q (omega arith)
      ];
      distinct = λ p q lt l. elim (cases_eq q n) [
        | inl same ↦ λ e. w.1 p (omega arith) (e ∙ read q same)
        | inr other ↦ h.distinct p q lt (omega arith)
      ];
    }

-- a bond that is found is as asked
pub bond_held : (task : Task) (kinds sets image : List ℕ) (k : ℕ) (b : PatBond)
    → k < length task.graph.now.bonds.items → b ≡ get_or task.graph.now.bonds.items k b
    → IsSorted (graph_of task.graph.now) kinds sets k
    → ((x : ℕ) × JoinsAt (ends_of task.mol.now) x (slice_index image b.a) (slice_index image b.b)
    × IsOfKinds task.mol.now (slice_index kinds (slice_index sets k)) x)
    → (d : BondTerm) → BondEmbeds task.mol.now image (get_or (graph_of task.graph.now).bonds k d)
bond_held task kinds sets image k b l is sorted w d =
    let m = task.mol.now in
    let read = read_bond task.graph.now.bonds.items k b l is d in
    let z : Bond = get_or m.bonds w.0 no_bond in
    let get : slice_get m.bonds w.0 ≡ Some z = slice_get-get_or m.bonds w.0 no_bond
    (joins_within m w.0 (slice_index image b.a) (slice_index image b.b) w.1) in
    let kinds_same : slice_index kinds (slice_index sets k) ≡ kinds_of (term_of b.expr) = sym (sorted.same d)
    ∙ ap (λ (t : BondTerm). kinds_of t.expr) read in
    let asks : AsksKinds (term_of b.expr) = subst (λ (t : BondTerm). AsksKinds t.expr) read (sorted.alone d) in
    let true' : BondTrue (term_of b.expr) m w.0 = kinds_back (term_of b.expr) m w.0 z asks get
    (subst (λ n. bit_at n (kind_number z.kind) ≡ 1) kinds_same (w.2 z get)) in
    subst (BondEmbeds m image) (sym read) (w.0, w.1, true')

-- such an image is an embedding
pub image_embeds : (task : Task) (words image : List ℕ) → IsReadyTask task → length task.mol.now.atoms ≤ 64
    → AreCandidates task words → length task.graph.now.atoms.items ≤ length image
    → HasNoGroups (graph_of task.graph.now) → ArePlaced task words image (length task.graph.now.atoms.items)
    → ((k : ℕ) → k < length (graph_of task.graph.now).bonds → (d : BondTerm)
    → BondEmbeds task.mol.now image (get_or (graph_of task.graph.now).bonds k d))
    → Completes task []
image_embeds task words image ready small candidates room alone placed bonds =
    let g : GraphTerm = graph_of task.graph.now in
    let m = task.mol.now in
    let n : ℕ = length task.graph.now.atoms.items in
    let front : List ℕ = take n image in
    let size : length g.atoms ≡ n = length-map task.graph.now.atoms.items term_of in
    let short : length front ≡ n = length-take-le n image room in
    let read : (q d : ℕ) → q < n → get_or front q d ≡ slice_index image q = λ q d l.
    get_or_default front q d 0 (omega arith) ∙ get_or-take n image q 0 l in (
      front,
      record {
        one_each = short ∙ sym size;
        in_range = λ q d l. subst (λ a. a < length m.atoms) (sym (read q d (omega arith))) (placed.within q (omega arith));
        distinct = λ p q d lt l e. placed.distinct p q lt (omega arith)
            (sym (read p d (omega arith)) ∙ e ∙ read q d (omega arith));
        atoms = λ q e get.
            let l = slice_get_within g.atoms q e get in
            let inside : q < n = omega arith in
            let low = placed.within q inside in
            subst (λ a. AtomTrue (HoldsIn task.table.now) e m a) (sym (read q 0 inside))
            (candidates.held q (slice_index image q) inside low
            (low_candidate words q (slice_index image q) (omega arith) (placed.held q inside)) e get);
        bonds = λ k d l.
            let j = bonds k l d in
            let low : ℕ = (get_or g.bonds k d).a in
            let high : ℕ = (get_or g.bonds k d).b in
            let both : (low < length g.atoms) × (high < length g.atoms) =
            subst (λ (p : ℕ × ℕ). (p.0 < length g.atoms) × (p.1 < length g.atoms))
            (get_or-map (λ (b : BondTerm). (b.a, b.b)) g.bonds k d (0, 0) l)
            (ready.searchable.ends k (0, 0)
            (subst (λ i. k < i) (sym (length-map g.bonds (λ (b : BondTerm). (b.a, b.b)))) l)) in
            let one = both.0 in
            let two = both.1 in (
              j.0,
              subst (λ x. JoinsAt (ends_of m) j.0 x (slice_index front high)) (sym (read low 0 (omega arith)))
                  (subst (λ y. JoinsAt (ends_of m) j.0 (slice_index image low) y) (sym (read high 0 (omega arith))) j.1),
              j.2,
            );
        groups = λ p q lp lq np nq. absurd (np (alone p));
      },
    )
