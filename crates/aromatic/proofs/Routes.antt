-- Trails and routes: one more atom, and when a trail can be completed.
use Rattle.std.proofs.Common.{zero, suc, ℕ, ◌+◌, ◌-◌, ◌<◌, ◌≤◌, ◌≡◌, ◌≢◌, inl, inr, Bool, true, false, List, [], ◌∷◌, ◌++◌, length, get_or, set, Contains, AllPairs, Option, sum_by, refl, sym, ap, subst, ◌∙◌, arith, append_assoc}
use Rattle.std.proofs.lemmas.List.{append-nil, length-append, get_or_append_left, get_or_at, get_or_default, length_push, get_or_push, get_or-map, get_or-set_same, get_or-set_other, length-map, map-append, set-get_or, set-set}
use Rattle.std.proofs.lemmas.List.Elements.{Contains-append_left, Contains-push, Contains-push_cases}
use Rattle.std.proofs.lemmas.List.Sums.{sum_by-cons}
use Rattle.std.proofs.lemmas.Bool.{cases_eq, cases_lt}
use Rattle.aromatic.specs.declared.links.Link.{Link}
use Rattle.aromatic.specs.Links.{AreClosed, IsLinked, links_at, links_in}
use Rattle.aromatic.specs.Distances.{AreDistances}
use Rattle.aromatic.specs.Route.{AreFlags, AreSteps, CanReach, Completes, IsRoute, IsTrail, atoms_of, last_of}
use Rattle.smallvec.specs.SmallVec.{SmallVec}

-- a later atom of a path with distinct atoms is none of the earlier ones
apart : (path : List ℕ) (n : ℕ) (rest : List ℕ) → AllPairs ◌≢◌ (path ++ n ∷ rest) → Contains path n → ⊥
apart path n rest distinct q =
    let k : ℕ = q.0 in
    let len : length (path ++ n ∷ rest) ≡ length path + suc (length rest) = length-append path (n ∷ rest) in
    let here : get_or (path ++ n ∷ rest) (length path) n ≡ n = get_or_at path n rest n (length path) refl in
    let there : get_or (path ++ n ∷ rest) k n ≡ n = get_or_append_left path (n ∷ rest) n k q.1 ∙ q.2 in
    distinct k (length path) n q.1 (omega arith) (there ∙ sym here)

-- a trail that is at the target is completed only by itself
pub reached : (links : List (List Link)) (gives : List (Option ℕ)) (target : ℕ) (path : List ℕ) → IsTrail links path
    → last_of path ≡ target → CanReach links gives target path → IsRoute links gives target path
reached links gives target path trail at ([], route) = subst (λ p. IsRoute links gives target p) (append-nil path) route
reached links gives target path trail at (n ∷ rest, route) =
    let whole : List ℕ = path ++ n ∷ rest in
    let len : length whole ≡ length path + suc (length rest) = length-append path (n ∷ rest) in
    let some : 1 ≤ length path = trail.some in
    let early : get_or whole (length path - 1) 0 ≡ target = get_or_append_left path (n ∷ rest) 0 (length path - 1)
    (omega arith) ∙ at in
    absurd (route.trail.distinct (length path - 1) (length whole - 1) 0 (omega arith) (omega arith) (early
    ∙ sym route.ends))

-- one more atom
pub trail-push : (links : List (List Link)) (path : List ℕ) (n : ℕ) → IsTrail links path → length path < 18
    → n < length links → IsLinked links (last_of path) n → (Contains path n → ⊥) → IsTrail links (path ++ n ∷ [])
trail-push links path n trail few within link new =
    let whole : List ℕ = path ++ n ∷ [] in
    let len : length whole ≡ length path + 1 = length_push path n in
    let at : (d : ℕ) → get_or whole (length path) d ≡ n = λ d. get_or_push path n d (length path) refl in
    let below : (k d : ℕ) → k < length path → get_or whole k d ≡ get_or path k d = λ k d h.
    get_or_append_left path (n ∷ []) d k h in
    record {
      some = omega arith;
      most = omega arith;
      in_range = λ k h. elim (cases_lt k (length path)) [
        | inl l ↦ rw (below k 0 l) (trail.in_range k l)
        | inr l ↦
            let e : k ≡ length path = omega arith in
            rw (e, at 0) within
      ];
      distinct = λ i j d h within'. elim (cases_lt j (length path)) [
        | inl l ↦
            let l' : i < length path = omega arith in
            rw (below i d l', below j d l) (trail.distinct i j d h l)
        | inr l ↦
            let e : j ≡ length path = omega arith in
            let l' : i < length path = omega arith in
            rw (e, at d, below i d l') (λ q. new (i, l', get_or_default path i n d l' ∙ q))
      ];
      linked = λ i h. elim (cases_lt (i + 1) (length path)) [
        | inl l ↦
            let l' : i < length path = omega arith in
            rw (below i 0 l', below (i + 1) 0 l) (trail.linked i l)
        | inr l ↦
            let e : i + 1 ≡ length path = omega arith in
            let e' : i ≡ length path - 1 = omega arith in
            let l' : i < length path = omega arith in
            rw (e, at 0, below i 0 l', e') link
      ];
    }

-- no way goes on through an atom of the path
pub reach-new : (links : List (List Link)) (gives : List (Option ℕ)) (target : ℕ) (path : List ℕ) (n : ℕ)
    → Contains path n → CanReach links gives target (path ++ n ∷ []) → ⊥
reach-new links gives target path n old (rest, route) =
    apart path n rest (subst (λ p. AllPairs ◌≢◌ p) (append_assoc path (n ∷ []) rest) route.trail.distinct) old

-- a trail of 18 atoms that is not at the target goes nowhere
pub full : (links : List (List Link)) (gives : List (Option ℕ)) (target : ℕ) (path : List ℕ) → length path ≡ 18
    → last_of path ≢ target → CanReach links gives target path → ⊥
full links gives target path many away ([], route) = away (subst (λ p. last_of p ≡ target) (append-nil path) route.ends)
full links gives target path many away (n ∷ rest, route) =
    let len : length (path ++ n ∷ rest) ≡ length path + suc (length rest) = length-append path (n ∷ rest) in
    let most : length (path ++ n ∷ rest) ≤ 18 = route.trail.most in
    omega arith

-- a way goes on through an atom that the last one is linked to
goes_on : (links : List (List Link)) (gives : List (Option ℕ)) (target : ℕ) (path : List ℕ) → 1 ≤ length path
    → last_of path ≢ target → CanReach links gives target path → (n : ℕ) × IsLinked links (last_of path) n
    × CanReach links gives target (path ++ n ∷ [])
goes_on links gives target path some away ([], route) =
    absurd (away (subst (λ p. last_of p ≡ target) (append-nil path) route.ends))
goes_on links gives target path some away (n ∷ rest, route) =
    let whole : List ℕ = path ++ n ∷ rest in
    let len : length whole ≡ length path + suc (length rest) = length-append path (n ∷ rest) in
    let link = route.trail.linked (length path - 1) (omega arith) in
    let e : length path - 1 + 1 ≡ length path = omega arith in
    let here : get_or whole (length path) 0 ≡ n = get_or_at path n rest 0 (length path) refl in
    let early : get_or whole (length path - 1) 0 ≡ last_of path = get_or_append_left path (n ∷ rest) 0 (length path - 1)
    (omega arith) in (
      n,
      rw (e, here, early) at link,
      (rest, subst (λ p. IsRoute links gives target p) (sym (append_assoc path (n ∷ []) rest)) route),
    )

-- nowhere, where no link of the last one leads there
pub reach-none : (links : List (List Link)) (gives : List (Option ℕ)) (target : ℕ) (path : List ℕ) (nexts : List Link)
    → 1 ≤ length path → last_of path ≢ target → nexts ≡ links_at links (last_of path)
    → ((k : ℕ) (d : Link) → k < length nexts → CanReach links gives target (path ++ (get_or nexts k d).to ∷ []) → ⊥)
    → CanReach links gives target path → ⊥
reach-none links gives target path nexts some away are none reach =
    let on = goes_on links gives target path some away reach in
    let l : Link = record { to = on.0; bond = on.1.0 } in
    let q : Contains nexts l = subst (λ xs. Contains xs l) (sym are) on.1.1 in
    none q.0 l q.1 (subst (λ m. CanReach links gives target (path ++ m.to ∷ [])) (sym q.2) on.2)

-- ---- distances

-- the atom j places before the end is at most j links from the target
falling : (links : List (List Link)) (target : ℕ) (distances path : List ℕ) → AreDistances links target distances
    → IsTrail links path → last_of path ≡ target → (j : ℕ) → j < length path
    → get_or distances (get_or path (length path - 1 - j) 0) 0 ≤ j
falling links target distances path h trail ends zero lt =
    let e : length path - 1 - 0 ≡ length path - 1 = omega arith in
    let here : get_or distances (last_of path) 0 ≡ 0 = rw ends h.here in
    rw e (omega arith)
falling links target distances path h trail ends (suc j) lt =
    let later = falling links target distances path h trail ends j (omega arith) in
    let link = trail.linked (length path - 1 - suc j) (omega arith) in
    let e : length path - 1 - suc j + 1 ≡ length path - 1 - j = omega arith in
    let fall = rw e at (h.falls _ _ link) in
    omega arith

-- where a path can be completed over an atom, the atom is near enough
pub near_enough : (links : List (List Link)) (gives : List (Option ℕ)) (target : ℕ) (distances path : List ℕ) (n : ℕ)
    → AreDistances links target distances → CanReach links gives target (path ++ n ∷ [])
    → length path + 1 + get_or distances n 0 ≤ 18
near_enough links gives target distances path n h (rest, route) =
    let whole : List ℕ = (path ++ n ∷ []) ++ rest in
    let same : whole ≡ path ++ n ∷ rest = append_assoc path (n ∷ []) rest in
    let len : length whole ≡ length path + suc (length rest) = ap length same ∙ length-append path (n ∷ rest) in
    let at : get_or whole (length path) 0 ≡ n = rw same (get_or_at path n rest 0 (length path) refl) in
    let most : length whole ≤ 18 = route.trail.most in
    let fall = falling links target distances whole h route.trail route.ends (length whole - 1 - length path)
    (omega arith) in
    let e : length whole - 1 - (length whole - 1 - length path) ≡ length path = omega arith in
    let fall' = rw (e, at) at fall in
    omega arith

-- ---- paths of links

pub atoms_of-push : (path : List Link) (l : Link) → atoms_of (path ++ l ∷ []) ≡ atoms_of path ++ l.to ∷ []
atoms_of-push path l = map-append (λ m. m.to) path (l ∷ [])

pub length-atoms_of : (path : List Link) → length (atoms_of path) ≡ length path
length-atoms_of path = length-map path (λ l. l.to)

pub atom_at : (path : List Link) (i : ℕ) (d : Link) → i < length path → get_or (atoms_of path) i 0
    ≡ (get_or path i d).to
atom_at path i d within = get_or-map (λ l. l.to) path i d 0 within

-- a link more, and its atom is flagged
pub flags-push : (flags : List Bool) (path : List Link) (l : Link)
    → l.to < length flags → AreFlags flags path → AreFlags (set flags l.to true) (path ++ l ∷ [])
flags-push flags path l within h a = elim (cases_eq a l.to) [
  | inl e ↦ (
    λ _. rw (atoms_of-push, e) (Contains-push (atoms_of path) l.to),
    λ _. rw e (get_or-set_same flags l.to true false within),
  )
  | inr other ↦
      let same : get_or (set flags l.to true) a false ≡ get_or flags a false = get_or-set_other flags l.to a true false
      other in (
        λ q. rw atoms_of-push (Contains-append_left (atoms_of path) (l.to ∷ []) a ((h a).0 (sym same ∙ q))),
        λ q. elim (Contains-push_cases (atoms_of path) l.to a (rw atoms_of-push at q)) [
          | inl old ↦ same
              ∙ (h a).1 old
          | inr is ↦ absurd (other (sym is))
        ],
      )
]

-- the flag of an atom that had none is taken back
pub flags-back : (flags : List Bool) (a : ℕ) → get_or flags a false ≡ false → set (set flags a true) a false ≡ flags
flags-back flags a off = set-set flags a true false ∙ ap (λ b. set flags a b) (sym off) ∙ set-get_or flags a false

pub sum_by-atoms_of : (f : ℕ → ℕ) (path : List Link) → sum_by f (atoms_of path) ≡ sum_by (λ l. f l.to) path
sum_by-atoms_of f [] = refl
sum_by-atoms_of f (l ∷ path) =
    let rest = sum_by-atoms_of f path in
    sum_by-cons f l.to (atoms_of path) ∙ ap (λ n. f l.to + n) rest ∙ sym (sum_by-cons (λ m. f m.to) l path)

-- a path is completed by itself, where it is a route
pub completes-here : (links : List (List Link)) (gives : List (Option ℕ)) (target : ℕ) (path : List Link)
    → AreSteps links path → IsRoute links gives target (atoms_of path) → Completes links gives target path path
completes-here links gives target path steps route = record {
  begins = ([], sym (append-nil path));
  steps = steps;
  route = route;
}

pub completes-less : (links : List (List Link)) (gives : List (Option ℕ)) (target : ℕ) (path : List Link) (l : Link)
    (whole : List Link) → Completes links gives target (path ++ l ∷ []) whole → Completes links gives target path whole
completes-less links gives target path l whole h =
    record {
      begins = (l ∷ h.begins.0, h.begins.1 ∙ append_assoc path (l ∷ []) h.begins.0);
      steps = h.steps;
      route =
          h.route;
    }

pub steps-push : (links : List (List Link)) (path : List Link) (l : Link) → 1 ≤ length path → AreSteps links path
    → Contains (links_at links (last_of (atoms_of path))) l → AreSteps links (path ++ l ∷ [])
steps-push links path l some steps link i d within =
    let len : length (path ++ l ∷ []) ≡ length path + 1 = length_push path l in
    let i_within : i < length path = omega arith in
    let old = get_or_append_left path (l ∷ []) d i i_within in
    elim (cases_lt (i + 1) (length path)) [
      | inl lt ↦ rw (old, get_or_append_left path (l ∷ []) d (i + 1) lt) (steps i d lt)
      | inr ge ↦
          let e : i + 1 ≡ length path = omega arith in
          let e' : length path - 1 ≡ i = omega arith in
          let last : last_of (atoms_of path) ≡ (get_or path i d).to =
          rw (length-atoms_of path, e') (atom_at path i d i_within) in
          rw (old, e, get_or_push path l d (length path) refl) (rw last at link)
    ]

-- ---- the same of what the search reads

pub length-links_in : (links : List (SmallVec Link)) → length (links_in links) ≡ length links
length-links_in links = length-map links (λ v. v.items)

-- a link at a place of an atom's links
pub linked_at : (links : List (List Link)) (a : ℕ) (nexts : List Link) (k : ℕ) (d : Link) → nexts ≡ links_at links a
    → k < length nexts → Contains (links_at links a) (get_or nexts k d)
linked_at links a nexts k d are within = subst (λ xs. Contains xs (get_or nexts k d)) are (
  k,
  within,
  get_or_default nexts k (get_or nexts k d) d within,
)

-- a trail goes on by a link of its last atom, to an atom that it does not have
pub trail-next : (links : List (List Link)) (path : List ℕ) (l : Link) → AreClosed links → IsTrail links path
    → length path < 18 → Contains (links_at links (last_of path)) l → (Contains path l.to → ⊥)
    → IsTrail links (path ++ l.to ∷ [])
trail-next links path l closed trail few link new =
    let linked : IsLinked links (last_of path) l.to = (l.bond, link) in
    trail-push links path l.to trail few (closed (last_of path) l.to linked) linked new

-- one more link that leads nowhere
pub nowhere_more : (P : Link → Type 0) (nexts : List Link) (k : ℕ) (d : Link) → k < length nexts
    → ((j : ℕ) (e : Link) → j < k → P (get_or nexts j e) → ⊥) → (P (get_or nexts k d) → ⊥) → (j : ℕ) (e : Link)
    → j < k + 1 → P (get_or nexts j e) → ⊥
nowhere_more P nexts k d within before here j e lt p = elim (cases_lt j k) [
  | inl l ↦ before j e l p
  | inr l ↦
      let at : j ≡ k = omega arith in
      here (subst (λ l. P l) (ap (λ i. get_or nexts i e) at ∙ get_or_default nexts k e d within) p)
]
