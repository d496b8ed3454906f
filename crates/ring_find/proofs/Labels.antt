-- No ring goes through a bond between two labels, where from each label at most one bond leads to a lower one.
use Rattle.std.proofs.Common.{ℕ, zero, suc, ◌+◌, ◌<◌, ◌≤◌, ◌≡◌, ◌≢◌, ◌⊎◌, inl, inr, Bool, true, false, Some, slice_get, List, length, get_or, set, replicate, refl, sym, ap, subst, ◌∙◌, arith}
use Rattle.std.proofs.lemmas.Bool.{cases_lt, cases_eq, false≢true}
use Rattle.std.proofs.lemmas.Option.{slice_get_within}
use Rattle.std.proofs.lemmas.List.{length-set, get_or-set_same, get_or-set_other}
use Rattle.chem_core.specs.Graph.{Ends, JoinsAt, IsRingBond}
use Rattle.ring_find.specs.Walk.{StepBut, Walk}
use Rattle.ring_find.specs.BondRings.{KeepsRings}
use Rattle.ring_find.specs.Bridges.{AreForest, AreTaken, LeadsDown}
use Rattle.ring_find.proofs.Walks.{walk_back}
use Rattle.chem_core.proofs.Neighbours.{joins_back}
use Rattle.ring_find.proofs.Cycles.{joins_one, step_back, walk_from_cycle}
use Rattle.ring_find.proofs.Strips.{keeps_all}

-- ---- from label to label

-- k bonds lead down, from one label to the next, from m to l
abbrev IsUnder : Ends → List ℕ → ℕ → ℕ → ℕ → Type 0
IsUnder ends labels l zero m = m ≡ l
IsUnder ends labels l (suc k) m = (b u v : ℕ) × JoinsAt ends b u v × (get_or labels u 0 < get_or labels v 0)
    × (get_or labels v 0 ≡ m) × IsUnder ends labels l k (get_or labels u 0)

under-le : (ends : Ends) (labels : List ℕ) (l k m : ℕ) → IsUnder ends labels l k m → l ≤ m
under-le ends labels l zero m h = omega (arith, h)
under-le ends labels l (suc k) m (b, u, v, j, lt, is, h) =
    omega (arith, lt, is, under-le ends labels l k (get_or labels u 0) h)

-- a bond back down, other than the one from l
under-back : (ends : Ends) (labels : List ℕ) (b l c u v : ℕ) → AreForest ends labels → LeadsDown ends labels b l → c ≢ b
    → JoinsAt ends c u v → get_or labels v 0 < get_or labels u 0 → (k : ℕ) → IsUnder ends labels l k (get_or labels u 0)
    → (n : ℕ) × IsUnder ends labels l n (get_or labels v 0)
under-back ends labels b l c u v forest down other j lt zero h =
    absurd (other (forest c b l (v, u, joins_back ends c u v j, lt, h) down))
under-back ends labels b l c u v forest down other j lt (suc k) (d, x, y, j', lt', is, h) =
    let same : c ≡ d = forest c d (get_or labels u 0) (v, u, joins_back ends c u v j, lt, refl) (x, y, j', lt', is) in
    elim (joins_one ends c v u x y (joins_back ends c u v j) (subst (λ e. JoinsAt ends e x y) (sym same) j')) [
      | inl q ↦ (k, subst (λ a. IsUnder ends labels l k (get_or labels a 0)) (sym q.0) h)
      | inr q ↦
          let eu : get_or labels u 0 ≡ get_or labels x 0 = ap (λ a. get_or labels a 0) q.1 in
          let ev : get_or labels v 0 ≡ get_or labels y 0 = ap (λ a. get_or labels a 0) q.0 in
          absurd (omega (arith, lt, lt', eu, ev))
    ]

under-step : (ends : Ends) (labels : List ℕ) (b l c u v : ℕ) → AreForest ends labels → LeadsDown ends labels b l → c ≢ b
    → JoinsAt ends c u v → (k : ℕ) → IsUnder ends labels l k (get_or labels u 0) → (n : ℕ)
    × IsUnder ends labels l n (get_or labels v 0)
under-step ends labels b l c u v forest down other j k h = elim (cases_lt (get_or labels u 0) (get_or labels v 0)) [
  | inl up ↦ (suc k, (c, u, v, j, up, refl, h))
  | inr le ↦ elim (cases_lt (get_or labels v 0) (get_or labels u 0)) [
    | inl lt ↦ under-back ends labels b l c u v forest down other j lt k h
    | inr ge ↦
        let same : get_or labels u 0 ≡ get_or labels v 0 = omega (arith, le, ge) in
        (k, subst (λ m. IsUnder ends labels l k m) same h)
  ]
]

-- a walk that leaves out the one bond down from l stays at l and what is above it
under-walk : (ends : Ends) (labels : List ℕ) (kept : List Bool) (b l x : ℕ) → AreForest ends labels
    → LeadsDown ends labels b l → get_or labels x 0 ≡ l → (n y : ℕ) → Walk (StepBut ends kept b) x y n
    → (k : ℕ) × IsUnder ends labels l k (get_or labels y 0)
under-walk ends labels kept b l x forest down start zero y w = (zero, ap (λ a. get_or labels a 0) (sym w) ∙ start)
under-walk ends labels kept b l x forest down start (suc n) y (z, w, s) =
    let r = under-walk ends labels kept b l x forest down start n z w in
    under-step ends labels b l s.0 z y forest down s.1 s.3 r.0 r.1

no_ring_between : (ends : Ends) (labels : List ℕ) (b x y : ℕ) → AreForest ends labels → slice_get ends b ≡ Some (x, y)
    → IsRingBond ends b → get_or labels x 0 ≢ get_or labels y 0 → ⊥
no_ring_between ends labels b x y forest at (xs, cycle, lies) differ =
    let kept : List Bool = replicate (length ends) true in
    let w = walk_from_cycle ends kept b x y xs (keeps_all ends) at cycle lies in
    elim (cases_lt (get_or labels x 0) (get_or labels y 0)) [
      | inl lt ↦
          let back = walk_back (StepBut ends kept b) (step_back ends kept b) x y _ w in
          let under = under-walk ends labels kept b (get_or labels y 0) y forest (x, y, inl at, lt, refl) refl _ x
          back in
          omega (arith, lt, under-le ends labels (get_or labels y 0) under.0 (get_or labels x 0) under.1)
      | inr le ↦ elim (cases_lt (get_or labels y 0) (get_or labels x 0)) [
        | inl lt ↦
            let under = under-walk ends labels kept b (get_or labels x 0) x forest (y, x, inr at, lt, refl) refl _ y
            w in
            omega (arith, lt, under-le ends labels (get_or labels x 0) under.0 (get_or labels y 0) under.1)
        | inr ge ↦ differ (omega (arith, le, ge))
      ]
    ]

-- a bond between two labels is dropped
pub keeps_dropped : (ends : Ends) (labels : List ℕ) (kept : List Bool) (k x y : ℕ) → AreForest ends labels
    → slice_get ends k ≡ Some (x, y) → get_or labels x 0 ≢ get_or labels y 0 → KeepsRings ends kept
    → KeepsRings ends (set kept k false)
keeps_dropped ends labels kept k x y forest at differ keeps = record {
  one_each = length-set kept k false ∙ keeps.one_each;
  each = λ b ring. elim (cases_eq b k) [
    | inr ne ↦ get_or-set_other kept k b false false ne ∙ keeps.each b ring
    | inl e ↦ absurd (no_ring_between ends labels k x y forest at (subst (λ i. IsRingBond ends i) e ring) differ)
  ];
}

-- ---- labels taken, one bond after another

-- which label a bond leads down from, if from any
down-is : (ends : Ends) (labels : List ℕ) (b x y m : ℕ) → slice_get ends b ≡ Some (x, y) → LeadsDown ends labels b m
    → ((get_or labels x 0 < get_or labels y 0) × (get_or labels y 0 ≡ m)) ⊎ ((get_or labels y 0 < get_or labels x 0)
    × (get_or labels x 0 ≡ m))
down-is ends labels b x y m at (u, v, j, lt, is) = elim (joins_one ends b x y u v (inl at) j) [
  | inl q ↦
      let ex : get_or labels x 0 ≡ get_or labels u 0 = ap (λ a. get_or labels a 0) q.0 in
      let ey : get_or labels y 0 ≡ get_or labels v 0 = ap (λ a. get_or labels a 0) q.1 in
      inl (omega (arith, lt, ex, ey), ey ∙ is)
  | inr q ↦
      let ex : get_or labels x 0 ≡ get_or labels v 0 = ap (λ a. get_or labels a 0) q.0 in
      let ey : get_or labels y 0 ≡ get_or labels u 0 = ap (λ a. get_or labels a 0) q.1 in
      inr (omega (arith, lt, ex, ey), ex ∙ is)
]

pub taken-all : (ends : Ends) (labels : List ℕ) (taken : List Bool) (k : ℕ) → length ends ≤ k
    → AreTaken ends labels taken k → AreForest ends labels
taken-all ends labels taken k past are b c m down down' =
    let within : (b : ℕ) → LeadsDown ends labels b m → b < k = λ b d. elim (d.2) [
      | inl q ↦ omega (arith, past, slice_get_within ends b _ q)
      | inr q ↦ omega (arith, past, slice_get_within ends b _ q)
    ] in
    are.once b c m (within b down) (within c down') down down'

-- a bond between atoms of one label takes none
pub taken-same : (ends : Ends) (labels : List ℕ) (taken : List Bool) (k x y : ℕ) → slice_get ends k ≡ Some (x, y)
    → get_or labels x 0 ≡ get_or labels y 0 → AreTaken ends labels taken k → AreTaken ends labels taken (k + 1)
taken-same ends labels taken k x y at same are =
    let level : (m : ℕ) → LeadsDown ends labels k m → ⊥ = λ m down. elim (down-is ends labels k x y m at down) [
      | inl q ↦ omega (arith, q.0, same)
      | inr q ↦ omega (arith, q.0, same)
    ] in
    let below : (b m : ℕ) → b < k + 1 → LeadsDown ends labels b m → b < k = λ b m lt down. elim (cases_lt b k) [
      | inl l ↦ l
      | inr l ↦
          let e : b ≡ k = omega (arith, lt, l) in
          absurd (level m (subst (λ i. LeadsDown ends labels i m) e down))
    ] in
    record {
      each = λ b m lt down. are.each b m (below b m lt down) down;
      once = λ b c m lt lt' down down'. are.once b c m (below b m lt down) (below c m lt' down') down down';
    }

-- a bond between two labels takes the higher
pub taken-more : (ends : Ends) (labels : List ℕ) (taken : List Bool) (k x y h : ℕ) → slice_get ends k ≡ Some (x, y)
    → ((get_or labels x 0 < get_or labels y 0) × (h ≡ get_or labels y 0)) ⊎ ((get_or labels y 0 < get_or labels x 0)
    × (h ≡ get_or labels x 0)) → h < length taken → get_or taken h false ≡ false → AreTaken ends labels taken k
    → AreTaken ends labels (set taken h true) (k + 1)
taken-more ends labels taken k x y h at high within free are =
    let here : (m : ℕ) → LeadsDown ends labels k m → m ≡ h = λ m down. elim (down-is ends labels k x y m at down) [
      | inl q ↦ elim high [ inl r ↦ sym q.1 ∙ sym r.1 | inr r ↦ absurd (omega (arith, q.0, r.0)) ]
      | inr q ↦ elim high [ inl r ↦ absurd (omega (arith, q.0, r.0)) | inr r ↦ sym q.1 ∙ sym r.1 ]
    ] in
    let last : (b : ℕ) → b < k + 1 → (b < k) ⊎ (b ≡ k) = λ b lt. elim (cases_lt b k) [
      | inl l ↦ inl l
      | inr l ↦
          inr (omega (arith, lt, l))
    ] in
    let at_k : (b m : ℕ) → b ≡ k → LeadsDown ends labels b m → m ≡ h = λ b m e down.
    here m (subst (λ i. LeadsDown ends labels i m) e down) in
    let free_below : (b m : ℕ) → b < k → LeadsDown ends labels b m → m ≢ h = λ b m l down e.
    false≢true (sym free ∙ ap (λ i. get_or taken i false) (sym e) ∙ are.each b m l down) in
    record {
      each = λ b m lt down. elim (last b lt) [
        | inl l ↦ get_or-set_other taken h m true false (free_below b m l down) ∙ are.each b m l down
        | inr e ↦ ap (λ i. get_or (set taken h true) i false) (at_k b m e down)
            ∙ get_or-set_same taken h true false within
      ];
      once = λ b c m lt lt' down down'. elim (last b lt) [
        | inl l ↦ elim (last c lt') [
          | inl l' ↦ are.once b c m l l' down down'
          | inr e' ↦ absurd (free_below b m l down (at_k c m e' down'))
        ]
        | inr e ↦ elim (last c lt') [
          | inl l' ↦ absurd (free_below c m l' down' (at_k b m e down))
          | inr e' ↦ e ∙ sym e'
        ]
      ];
    }
