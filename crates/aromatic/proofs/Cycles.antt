-- A bond lies on a Hückel cycle exactly where its one end is joined to its other end by a path that closes to one.
use Rattle.std.proofs.Common.{zero, suc, ℕ, ◌+◌, ◌-◌, ◌%◌, ◌<◌, ◌≤◌, ◌≡◌, ◌≢◌, ◌⊎◌, ◌↔◌, inl, inr, Bool, true, false, List, [], ◌∷◌, ◌++◌, length, map, take, drop, reverse, get_or, All, AllPairs, Contains, IsPermutation, Option, None, Some, IsSome, sum_by, slice_get, refl, sym, ap, subst, ◌∙◌, arith}
use Rattle.std.proofs.Math.Nat.{mod-eq_of_lt, mod_self}
use Rattle.std.proofs.lemmas.List.{get_or_append_left, get_or-append_right, get_or-drop, get_or-take, get_or-reverse, get_or_default, get_or_past, get_or-map, length-append, length-drop, length-take-le, length-reverse, length-map, take-append-drop}
use Rattle.std.proofs.lemmas.List.Sorted.{IsPermutation-append_comm, IsPermutation-reverse, All-permutation, sum_by-IsPermutation}
use Rattle.std.proofs.lemmas.Option.{slice_get_within, same_Some}
use Rattle.std.proofs.lemmas.Bool.{cases_lt, false≢true}
use Rattle.chem_core.specs.Graph.{Ends, JoinsAt, next_place}
use Rattle.chem_core.proofs.Neighbours.{joins_back}
use Rattle.aromatic.specs.Huckel.{IsHuckelBy}
use Rattle.aromatic.specs.declared.links.Link.{Link}
use Rattle.aromatic.specs.Links.{AreClosed, AreMutual, IsCandidateAt, IsLinkBelow, links_at}
use Rattle.aromatic.specs.Route.{AreMarksBelow, CanReach, Completes, IsAromaticBy, IsNet, IsRoute, IsTrail, atoms_of, given_at, last_of}
use Rattle.aromatic.proofs.Routes.{atom_at, length-atoms_of}

-- the place after p on a cycle of n
next_is : (n p q : ℕ) → p < n → q < n → (p + 1 ≡ q) ⊎ (p + 1 ≡ q + n) → (p + 1) % n ≡ q
next_is n p q hp hq (inl e) = rw e (mod-eq_of_lt hq)
next_is n p q hp hq (inr e) =
    let zero_q : q ≡ 0 = omega arith in
    let full : p + 1 ≡ n = omega arith in
    rw full (mod_self n ∙ sym zero_q)

apart_at : (xs : List ℕ) (i j : ℕ) → AllPairs ◌≢◌ xs → i ≢ j → i < length xs → j < length xs
    → get_or xs i 0 ≢ get_or xs j 0
apart_at xs i j distinct other hi hj = elim (cases_lt i j) [
  | inl l ↦ distinct i j 0 l hj
  | inr l ↦ λ q. distinct j i 0 (omega arith) hi (sym q)
]

-- ---- a list that begins at place m of a cycle, and goes around

abbrev rotated : ℕ → List ℕ → List ℕ
rotated m atoms = drop m atoms ++ take m atoms

length-rotated : (m : ℕ) (atoms : List ℕ) → m ≤ length atoms → length (rotated m atoms) ≡ length atoms
length-rotated m atoms h = length-append (drop m atoms) (take m atoms) ∙ omega (
  arith,
  length-drop m atoms,
  length-take-le m atoms h,
)

rotated-at : (m : ℕ) (atoms : List ℕ) (k : ℕ) → m ≤ length atoms → k < length atoms → (p : ℕ) × (p < length atoms)
    × (get_or (rotated m atoms) k 0 ≡ get_or atoms p 0) × ((m + k ≡ p) ⊎ (m + k ≡ p + length atoms))
rotated-at m atoms k hm hk =
    let d : length (drop m atoms) ≡ length atoms - m = length-drop m atoms in
    elim (cases_lt k (length atoms - m)) [
      | inl l ↦
          let l' : k < length (drop m atoms) = omega arith in (
            m + k,
            omega arith,
            get_or_append_left (drop m atoms) (take m atoms) 0 k l' ∙ get_or-drop m atoms k 0,
            inl refl,
          )
      | inr l ↦
          let p : ℕ = k - (length atoms - m) in
          let lt : p < m = omega arith in (
            p,
            omega arith,
            get_or-append_right (drop m atoms) (take m atoms) (length atoms - m) k 0 d l
                ∙ get_or-take m atoms p 0 lt,
            inr (omega arith),
          )
    ]

-- an open path of candidates along ring bonds, from one end of a bond of a Hückel cycle to its other end
record IsOpen (ends : Ends) (rings : List Bool) (gives : List (Option ℕ)) (path : List ℕ) : Type 0 where
  three : 3 ≤ length path
  most : length path ≤ 18
  distinct : AllPairs ◌≢◌ path
  candidates : All (IsCandidateAt gives) path
  count : sum_by (λ a. given_at gives a) path % 4 ≡ 2
  joined : (k : ℕ) → k + 1 < length path → (b : ℕ) × JoinsAt ends b (get_or path k 0) (get_or path (k + 1) 0)
      × (get_or rings b false ≡ true)

pub joins_within : (ends : Ends) (b x y : ℕ) → JoinsAt ends b x y → b < length ends
joins_within ends b x y h = elim h [ inl q ↦ slice_get_within ends b _ q | inr q ↦ slice_get_within ends b _ q ]

step_of : (n m k p q : ℕ) → p < n → q < n → k + 1 < n → (m + k ≡ p) ⊎ (m + k ≡ p + n) → (m + (k + 1) ≡ q)
    ⊎ (m + (k + 1) ≡ q + n) → (p + 1 ≡ q) ⊎ (p + 1 ≡ q + n)
step_of n m k p q hp hq hk (inl a) (inl b) = inl (omega arith)
step_of n m k p q hp hq hk (inl a) (inr b) = inr (omega arith)
step_of n m k p q hp hq hk (inr a) (inl b) = absurd (omega arith)
step_of n m k p q hp hq hk (inr a) (inr b) = inl (omega arith)

other_place : (n m j k p q : ℕ) → p < n → q < n → j < k → k < n → (m + j ≡ p) ⊎ (m + j ≡ p + n) → (m + k ≡ q)
    ⊎ (m + k ≡ q + n) → p ≢ q
other_place n m j k p q hp hq hj hk (inl a) (inl b) = λ e. omega arith
other_place n m j k p q hp hq hj hk (inl a) (inr b) = λ e. omega arith
other_place n m j k p q hp hq hj hk (inr a) (inl b) = λ e. omega arith
other_place n m j k p q hp hq hj hk (inr a) (inr b) = λ e. omega arith

-- a Hückel cycle, opened behind place i
opened : (ends : Ends) (rings : List Bool) (gives : List (Option ℕ)) (links : List (List Link)) (atoms : List ℕ) (i : ℕ)
    → IsNet ends rings gives links → IsHuckelBy ends (λ a. get_or gives a None) atoms → i < length atoms
    → IsOpen ends rings gives (rotated (i + 1) atoms)
opened ends rings gives links atoms i net h within =
    let m : ℕ = i + 1 in
    let n : ℕ = length atoms in
    let hm : m ≤ n = omega arith in
    let path : List ℕ = rotated m atoms in
    let len : length path ≡ n = length-rotated m atoms hm in
    let three : 3 ≤ n = h.cycle.three in
    let moved : IsPermutation atoms path = subst (λ xs. IsPermutation xs path) (take-append-drop m atoms)
    (IsPermutation-append_comm (take m atoms) (drop m atoms)) in
    record {
      three = omega arith;
      most = rw len h.most;
      distinct = λ j k d lt within'.
          let hk : k < n = omega arith in
          let hj : j < n = omega arith in
          let a = rotated-at m atoms j hm hj in
          let b = rotated-at m atoms k hm hk in
          let pj : a.0 < n = a.1 in
          let pk : b.0 < n = b.1 in
          let other : a.0 ≢ b.0 = other_place n m j k a.0 b.0 pj pk lt hk a.3 b.3 in
          rw (get_or_default path j d 0 (omega arith), get_or_default path k d 0 within', a.2, b.2)
          (apart_at atoms a.0 b.0 h.cycle.distinct other pj pk);
      candidates = All-permutation (IsCandidateAt gives) atoms path moved h.candidates;
      count = rw (sum_by-IsPermutation (λ a. given_at gives a) atoms path moved) h.count;
      joined = λ k lt.
          let hk : k + 1 < n = omega arith in
          let a = rotated-at m atoms k hm (omega arith) in
          let b = rotated-at m atoms (k + 1) hm hk in
          let next : next_place atoms a.0 ≡ b.0 =
          next_is n a.0 b.0 a.1 b.1 (step_of n m k a.0 b.0 a.1 b.1 hk a.3 b.3) in
          let j = h.cycle.joined a.0 a.1 in
          let ring = net.whole j.0 (atoms, h, (a.0, a.1, j.1)) in
          (j.0, rw (a.2, b.2, ← next) j.1, ring);
    }

opened-first : (atoms : List ℕ) (i : ℕ) → i < length atoms → get_or (rotated (i + 1) atoms) 0 0
    ≡ get_or atoms (next_place atoms i) 0
opened-first atoms i within =
    let a = rotated-at (i + 1) atoms 0 (omega arith) (omega arith) in
    let lt : a.0 < length atoms = a.1 in
    let to : (i + 1 ≡ a.0) ⊎ (i + 1 ≡ a.0 + length atoms) = elim (a.3) [
      | inl e ↦ inl (omega arith)
      | inr e ↦
          inr (omega arith)
    ] in
    let next : next_place atoms i ≡ a.0 = next_is (length atoms) i a.0 within lt to in
    a.2 ∙ ap (λ p. get_or atoms p 0) (sym next)

opened-last : (atoms : List ℕ) (i : ℕ) → i < length atoms → last_of (rotated (i + 1) atoms) ≡ get_or atoms i 0
opened-last atoms i within =
    let hm : i + 1 ≤ length atoms = omega arith in
    let len = length-rotated (i + 1) atoms hm in
    let a = rotated-at (i + 1) atoms (length atoms - 1) hm (omega arith) in
    let lt : a.0 < length atoms = a.1 in
    let is : a.0 ≡ i = elim (a.3) [ inl e ↦ absurd (omega arith) | inr e ↦ omega arith ] in
    rw len (a.2 ∙ ap (λ p. get_or atoms p 0) is)

-- the same path, walked back
walked_back : (ends : Ends) (rings : List Bool) (gives : List (Option ℕ)) (path : List ℕ) → IsOpen ends rings gives path
    → IsOpen ends rings gives (reverse path)
walked_back ends rings gives path h =
    let n : ℕ = length path in
    let len : length (reverse path) ≡ n = length-reverse path in
    let moved : IsPermutation path (reverse path) = IsPermutation-reverse path in
    record {
      three = rw len h.three;
      most = rw len h.most;
      distinct = λ j k d lt within.
          let hk : k < n = omega arith in
          rw (get_or-reverse path j d (omega arith), get_or-reverse path k d hk)
          (λ q. h.distinct (n - 1 - k) (n - 1 - j) d (omega arith) (omega arith) (sym q));
      candidates = All-permutation (IsCandidateAt gives) path (reverse path) moved h.candidates;
      count = rw (sum_by-IsPermutation (λ a. given_at gives a) path (reverse path) moved) h.count;
      joined = λ k lt.
          let hk : k + 1 < n = omega arith in
          let j = h.joined (n - 1 - (k + 1)) (omega arith) in
          let e : n - 1 - (k + 1) + 1 ≡ n - 1 - k = omega arith in (
            j.0,
            rw (get_or-reverse path k 0 (omega arith), get_or-reverse path (k + 1) 0 hk, ← e)
                (joins_back ends j.0 _ _ j.1),
            j.2,
          );
    }

back-first : (path : List ℕ) → 1 ≤ length path → get_or (reverse path) 0 0 ≡ last_of path
back-first path some = get_or-reverse path 0 0 some ∙ ap (λ k. get_or path k 0) (omega arith)

back-last : (path : List ℕ) → 1 ≤ length path → last_of (reverse path) ≡ get_or path 0 0
back-last path some =
    let len = length-reverse path in
    let last : length path - 1 < length path = omega arith in
    rw len (get_or-reverse path (length path - 1) 0 last ∙ ap (λ k. get_or path k 0) (omega arith))

-- ---- between open paths and routes

candidate_within : (gives : List (Option ℕ)) (a : ℕ) → IsCandidateAt gives a → a < length gives
candidate_within gives a h = elim (cases_lt a (length gives)) [
  | inl l ↦ l
  | inr l ↦ absurd (false≢true (subst (λ o. IsSome o) (get_or_past gives a None l) h))
]

-- an open path is a route to its last atom
route_from : (ends : Ends) (rings : List Bool) (gives : List (Option ℕ)) (links : List (List Link)) (path : List ℕ)
    (target : ℕ) → IsNet ends rings gives links → IsOpen ends rings gives path → last_of path ≡ target
    → IsRoute links gives target path
route_from ends rings gives links path target net h to =
    let three : 3 ≤ length path = h.three in
    let candidate : (k : ℕ) → k < length path → IsCandidateAt gives (get_or path k 0) = λ k lt. h.candidates k 0 lt in
    record {
      trail = record {
        some = omega arith;
        most = h.most;
        in_range = λ k lt. rw net.linked.count (candidate_within gives (get_or path k 0) (candidate k lt));
        distinct = h.distinct;
        linked = λ k lt.
            let j = h.joined k lt in (
              j.0,
              (net.linked.each (get_or path k 0) (get_or path (k + 1) 0) j.0).1 (
                joins_within ends j.0 _ _ j.1,
                j.1,
                j.2,
                candidate k (omega arith),
                candidate (k + 1) lt,
              ),
            );
      };
      three = three;
      ends = to;
      count = h.count;
    }

-- a path that begins with x is x and a rest
begins : (path : List ℕ) (x : ℕ) → 1 ≤ length path → get_or path 0 0 ≡ x → (rest : List ℕ) × (path ≡ x ∷ rest)
begins [] x some first = absurd (omega arith)
begins (y ∷ rest) x some first = (rest, ap (λ z. z ∷ rest) first)

reach_from : (ends : Ends) (rings : List Bool) (gives : List (Option ℕ)) (links : List (List Link)) (path : List ℕ)
    (x y : ℕ) → IsNet ends rings gives links → IsOpen ends rings gives path → get_or path 0 0 ≡ x → last_of path ≡ y
    → CanReach links gives y (x ∷ [])
reach_from ends rings gives links path x y net h first last =
    let three : 3 ≤ length path = h.three in
    let whole = begins path x (omega arith) first in
    (whole.0, subst (λ p. IsRoute links gives y p) whole.1 (route_from ends rings gives links path y net h last))

-- a bond on a Hückel cycle is a ring bond, and a route leads from its one end to its other end
pub reach-from_cycle : (ends : Ends) (rings : List Bool) (gives : List (Option ℕ)) (links : List (List Link))
    (b x y : ℕ) → IsNet ends rings gives links → slice_get ends b ≡ Some (x, y) → IsAromaticBy ends gives b
    → (get_or rings b false ≡ true) × CanReach links gives y (x ∷ [])
reach-from_cycle ends rings gives links b x y net here (atoms, cycle, (i, within, joins)) =
    let ring = net.whole b (atoms, cycle, (i, within, joins)) in
    let path : List ℕ = rotated (i + 1) atoms in
    let path_open : IsOpen ends rings gives path = opened ends rings gives links atoms i net cycle within in
    let three : 3 ≤ length path = path_open.three in
    let first = opened-first atoms i within in
    let last = opened-last atoms i within in (
      ring,
      elim joins [
        | inl q ↦
            let p : ◌≡◌ {A = ℕ × ℕ} (get_or atoms i 0, get_or atoms (next_place atoms i) 0) (x, y) =
            same_Some _ _ (sym q ∙ here) in
            let back : IsOpen ends rings gives (reverse path) = walked_back ends rings gives path path_open in
            reach_from ends rings gives links (reverse path) x y net back (back-first path (omega arith) ∙ last
            ∙ ap (λ u. u.0) p) (back-last path (omega arith) ∙ first ∙ ap (λ u. u.1) p)
        | inr q ↦
            let p : ◌≡◌ {A = ℕ × ℕ} (get_or atoms (next_place atoms i) 0, get_or atoms i 0) (x, y) =
            same_Some _ _ (sym q ∙ here) in
            reach_from ends rings gives links path x y net path_open (first ∙ ap (λ u. u.0) p) (last ∙ ap (λ u. u.1) p)
      ],
    )

-- ---- a route closes to a Hückel cycle

-- the bond that leads on from a place of a route
route_step : (ends : Ends) (rings : List Bool) (gives : List (Option ℕ)) (links : List (List Link)) (path : List ℕ)
    (k : ℕ) → IsNet ends rings gives links → IsTrail links path → k + 1 < length path → (b : ℕ)
    × IsLinkBelow ends rings gives (length ends) (get_or path k 0) (get_or path (k + 1) 0) b
route_step ends rings gives links path k net trail lt =
    let link = trail.linked k lt in
    (link.0, (net.linked.each (get_or path k 0) (get_or path (k + 1) 0) link.0).0 link.1)

-- both ends of a route are candidates
pub ends-candidates : (ends : Ends) (rings : List Bool) (gives : List (Option ℕ)) (links : List (List Link)) (x y : ℕ)
    → IsNet ends rings gives links → CanReach links gives y (x ∷ []) → IsCandidateAt gives x × IsCandidateAt gives y
ends-candidates ends rings gives links x y net (rest, route) =
    let path : List ℕ = (x ∷ []) ++ rest in
    let three : 3 ≤ length path = route.three in
    let first = route_step ends rings gives links path 0 net route.trail (omega arith) in
    let last = route_step ends rings gives links path (length path - 2) net route.trail (omega arith) in
    let e : length path - 2 + 1 ≡ length path - 1 = omega arith in
    (first.1.3, subst (λ a. IsCandidateAt gives a) (ap (λ k. get_or path k 0) e ∙ route.ends) last.1.4)

-- the bond between x and y leads from the last atom of a route to its first
closing : (ends : Ends) (links : List (List Link)) (gives : List (Option ℕ)) (path : List ℕ) (b x y : ℕ)
    → slice_get ends b ≡ Some (x, y) → IsRoute links gives y path → get_or path 0 0 ≡ x → (k : ℕ) → k + 1 ≡ length path
    → JoinsAt ends b (get_or path k 0) (get_or path (next_place path k) 0)
closing ends links gives path b x y here route first k e =
    let at : k ≡ length path - 1 = omega arith in
    let last : get_or path k 0 ≡ y = ap (λ m. get_or path m 0) at ∙ route.ends in
    let around : next_place path k ≡ 0 = rw e (mod_self (length path)) in
    rw (last, around, first) (inr here)

-- a route from a bond's one end to its other end is a Hückel cycle
cycle-from_route : (ends : Ends) (rings : List Bool) (gives : List (Option ℕ)) (links : List (List Link))
    (path : List ℕ) (b x y : ℕ) → IsNet ends rings gives links → slice_get ends b ≡ Some (x, y)
    → IsRoute links gives y path → get_or path 0 0 ≡ x → IsHuckelBy ends (λ a. get_or gives a None) path
cycle-from_route ends rings gives links path b x y net here route first =
    let n : ℕ = length path in
    let three : 3 ≤ n = route.three in
    let link : (k : ℕ) → k + 1 < n → (c : ℕ) × IsLinkBelow ends rings gives (length ends) (get_or path k 0)
    (get_or path (k + 1) 0) c = λ k lt. route_step ends rings gives links path k net route.trail lt in
    let inner : (k : ℕ) → k + 1 < n → next_place path k ≡ k + 1 = λ k lt. mod-eq_of_lt lt in
    let candidate : (k : ℕ) → k < n → IsCandidateAt gives (get_or path k 0) = λ k lt. elim (cases_lt (k + 1) n) [
      | inl l ↦ (link k l).1.3
      | inr l ↦
          let e : k - 1 + 1 ≡ k = omega arith in
          subst (λ m. IsCandidateAt gives (get_or path m 0)) e (link (k - 1) (omega arith)).1.4
    ] in
    record {
      cycle = record {
        three = three;
        distinct = route.trail.distinct;
        joined = λ k lt. elim (cases_lt (k + 1) n) [
          | inl l ↦ let j = link k l in (j.0, rw (inner k l) j.1.1)
          | inr l ↦ (b, closing ends links gives path b x y here route first k (omega arith))
        ];
      };
      most = route.trail.most;
      candidates = λ k d lt. rw (get_or_default path k d 0 lt) (candidate k lt);
      count = route.count;
    }

-- the first link of a path that goes on from one link
first_link : (path rest : List Link) (first d : Link) → path ≡ (first ∷ []) ++ rest → get_or path 0 d ≡ first
first_link path rest first d is = ap (λ p. get_or p 0 d) is

-- the bond of each link of a path that closes lies on the cycle
pub lies-on_path : (ends : Ends) (rings : List Bool) (gives : List (Option ℕ)) (links : List (List Link))
    (path : List Link) (b x y : ℕ) → IsNet ends rings gives links → slice_get ends b ≡ Some (x, y)
    → Completes links gives y (record { to = x; bond = b } ∷ []) path → (k : ℕ) (d : Link) → k < length path
    → IsAromaticBy ends gives (get_or path k d).bond
lies-on_path ends rings gives links path b x y net here whole zero d lt =
    let first = first_link path whole.begins.0 (record { to = x; bond = b }) d whole.begins.1 in
    let route = whole.route in
    let len : length (atoms_of path) ≡ length path = length-atoms_of path in
    let start : get_or (atoms_of path) 0 0 ≡ x = atom_at path 0 d lt ∙ ap (λ l. l.to) first in
    let last : length path - 1 + 1 ≡ length (atoms_of path) = omega arith in
    rw first (
      atoms_of path,
      cycle-from_route ends rings gives links (atoms_of path) b x y net here route start,
      (
        length path - 1,
        omega arith,
        closing ends links gives (atoms_of path) b x y here route start (length path - 1)
            last,
      ),
    )
lies-on_path ends rings gives links path b x y net here whole (suc k) d lt =
    let first = first_link path whole.begins.0 (record { to = x; bond = b }) d whole.begins.1 in
    let route = whole.route in
    let len : length (atoms_of path) ≡ length path = length-atoms_of path in
    let some : 0 < length path = omega arith in
    let start : get_or (atoms_of path) 0 0 ≡ x = atom_at path 0 d some ∙ ap (λ l. l.to) first in
    let up : k + 1 ≡ suc k = omega arith in
    let before : k < length path = omega arith in
    let on : k + 1 < length path = omega arith in
    let on' : k + 1 < length (atoms_of path) = omega arith in
    let next : next_place (atoms_of path) k ≡ k + 1 = mod-eq_of_lt on' in
    let link : Contains (links_at links (get_or path k d).to) (get_or path (k + 1) d) = whole.steps k d on in
    let joins : JoinsAt ends (get_or path (k + 1) d).bond (get_or path k d).to (get_or path (k + 1) d).to =
    ((net.linked.each (get_or path k d).to (get_or path (k + 1) d).to (get_or path (k + 1) d).bond).0 link).1 in
    rw (← up) (
      atoms_of path,
      cycle-from_route ends rings gives links (atoms_of path) b x y net here route start,
      (k, omega arith, rw (next, atom_at path k d before, atom_at path (k + 1) d on) joins),
    )

-- the bond of each link of such a path is one of the bonds
pub bonds-within : (ends : Ends) (rings : List Bool) (gives : List (Option ℕ)) (links : List (List Link))
    (path : List Link) (b x y : ℕ) → IsNet ends rings gives links → slice_get ends b ≡ Some (x, y)
    → Completes links gives y (record { to = x; bond = b } ∷ []) path → (k : ℕ) (d : Link) → k < length path
    → (get_or path k d).bond < length ends
bonds-within ends rings gives links path b x y net here whole k d lt =
    let on = lies-on_path ends rings gives links path b x y net here whole k d lt in
    joins_within ends (get_or path k d).bond _ _ on.2.2

-- ---- the links are in range, and lead back

pub links-closed : (ends : Ends) (rings : List Bool) (gives : List (Option ℕ)) (links : List (List Link))
    → IsNet ends rings gives links → AreClosed links
links-closed ends rings gives links net = λ a n q.
    rw net.linked.count (candidate_within gives n ((net.linked.each a n q.0).0 q.1).4)

pub links-mutual : (ends : Ends) (rings : List Bool) (gives : List (Option ℕ)) (links : List (List Link))
    → IsNet ends rings gives links → AreMutual links
links-mutual ends rings gives links net = λ a n q.
    let l = (net.linked.each a n q.0).0 q.1 in
    (q.0, (net.linked.each n a q.0).1 (l.0, joins_back ends q.0 a n l.1, l.2, l.4, l.3))

-- ---- marks of bonds

-- one bond more that is marked if it has to be
pub marks-same : (ends : Ends) (gives : List (Option ℕ)) (k : ℕ) (marks : List Bool) → AreMarksBelow ends gives k marks
    → (IsAromaticBy ends gives k → get_or marks k false ≡ true) → AreMarksBelow ends gives (k + 1) marks
marks-same ends gives k marks h last = record {
  count = h.count;
  sound = h.sound;
  each = λ b lt on. elim (cases_lt b k) [
    | inl l ↦ h.each b l on
    | inr l ↦
        let e : b ≡ k = omega arith in
        rw e (last (subst (λ m. IsAromaticBy ends gives m) e on))
  ];
}

-- the bonds of a path that closes are marked
pub marks-path : (ends : Ends) (rings : List Bool) (gives : List (Option ℕ)) (links : List (List Link)) (k x y : ℕ)
    (marks after : List Bool) (path : List Link) → IsNet ends rings gives links → slice_get ends k ≡ Some (x, y)
    → Completes links gives y (record { to = x; bond = k } ∷ []) path → AreMarksBelow ends gives k marks
    → length after ≡ length marks → ((b : ℕ) → (get_or after b false ≡ true)
    ↔ ((get_or marks b false ≡ true) ⊎ Contains (map (λ l. l.bond) path) b)) → AreMarksBelow ends gives (k + 1) after
marks-path ends rings gives links k x y marks after path net here whole h len step =
    let first : Link = record { to = x; bond = k } in
    let some : 1 ≤ length (atoms_of path) = whole.route.trail.some in
    let some' : 0 < length path = omega (arith, length-atoms_of path) in
    let long : length (map (λ l. l.bond) path) ≡ length path = length-map path (λ l. l.bond) in
    let has : Contains (map (λ l. l.bond) path) k = (
      0,
      omega arith,
      get_or-map (λ l. l.bond) path 0 first k some'
          ∙ ap (λ l. l.bond) (first_link path whole.begins.0 first first whole.begins.1),
    ) in
    record {
      count = len ∙ h.count;
      sound = λ b marked. elim ((step b).0 marked) [
        | inl old ↦ h.sound b old
        | inr q ↦
            let within : q.0 < length path = omega (arith, q.1) in
            let is : (get_or path q.0 first).bond ≡ b = sym (get_or-map (λ l. l.bond) path q.0 first b within) ∙ q.2 in
            subst (λ m. IsAromaticBy ends gives m) is (lies-on_path ends rings gives links path k x y net here whole q.0
            first within)
      ];
      each = λ b lt on. elim (cases_lt b k) [
        | inl l ↦ (step b).1 (inl (h.each b l on))
        | inr l ↦
            let e : b ≡ k = omega arith in
            (step b).1 (inr (rw e has))
      ];
    }
