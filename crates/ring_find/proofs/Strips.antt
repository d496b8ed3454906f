-- Bonds stripped one after another.
use Rattle.std.proofs.Common.{ℕ, ◌+◌, ◌<◌, ◌≤◌, ◌≡◌, ◌≢◌, ◌⊎◌, inl, inr, Bool, true, false, Option, Some, None, List, [], ◌∷◌, ◌++◌, length, get_or, set, take, replicate, Contains, AllPairs, sym, ap, subst, ◌∙◌, arith}
use Rattle.std.specs.Option.{MatchOption, is_some}
use Rattle.std.proofs.lemmas.Bool.{cases_lt, cases_eq, false≢true}
use Rattle.std.proofs.lemmas.Option.{slice_get_within}
use Rattle.std.proofs.lemmas.List.{length-set, length-replicate, length-take, get_or-take, get_or_default, take_more, take_all, get_or-set_same, get_or-set_other, get_or-replicate}
use Rattle.std.proofs.lemmas.List.Elements.{Contains-get_or, Contains-push, Contains-push_cases, Contains-append_left}
use Rattle.chem_core.specs.Graph.{Ends, JoinsAt, IsRingBond}
use Rattle.chem_core.specs.declared.adjacency.Step.{Step}
use Rattle.chem_core.specs.Steps.{AreStepsFrom}
use Rattle.ring_find.specs.BondRings.{KeepsRings}
use Rattle.ring_find.specs.Strip.{IsOnly, IsOnlyKept, IsDeadEnd}
use Rattle.ring_find.proofs.Cycles.{two_ring_bonds, joins_one}

-- a ring bond is a bond
joined_below : (ends : Ends) (b x y : ℕ) → JoinsAt ends b x y → b < length ends
joined_below ends b x y j = elim j [ inl q ↦ slice_get_within ends b _ q | inr q ↦ slice_get_within ends b _ q ]

ring_bond_within : (ends : Ends) (b : ℕ) → IsRingBond ends b → b < length ends
ring_bond_within ends b ring =
    elim (ring.2.2) [ inl q ↦ slice_get_within ends b _ q | inr q ↦ slice_get_within ends b _ q ]

pub keeps_all : (ends : Ends) → KeepsRings ends (replicate (length ends) true)
keeps_all ends = record {
  one_each = length-replicate (length ends) true;
  each = λ b ring. get_or-replicate (length ends) b true false (ring_bond_within ends b ring);
}

-- the one kept bond of an atom is on no ring
pub keeps_more : (ends : Ends) (kept : List Bool) (a : ℕ) (steps : List Step) (s : Step) → KeepsRings ends kept
    → AreStepsFrom ends a steps → IsOnlyKept steps kept s → KeepsRings ends (set kept s.bond false)
keeps_more ends kept a steps s keeps from only = record {
  one_each = length-set kept s.bond false ∙ keeps.one_each;
  each = λ b ring. elim (cases_eq b s.bond) [
    | inr ne ↦ get_or-set_other kept s.bond b false false ne ∙ keeps.each b ring
    | inl e ↦
        let here = from.joins s only.0 in
        let other = two_ring_bonds ends s.bond a s.to (subst (λ c. IsRingBond ends c) e ring) here in
        let step : Step = record { to = other.1; bond = other.0 } in
        let same = only.2 step (from.each other.0 other.1 other.3) (keeps.each other.0 other.4) in
        absurd (other.2 same)
  ];
}

-- ---- dead ends

-- one more bond stripped, from a to the atom that may now be a dead end
pub ends_more : (ends : Ends) (kept : List Bool) (a limit : ℕ) (steps : List Step) (s : Step) → KeepsRings ends kept
    → AreStepsFrom ends a steps → IsOnlyKept steps kept s → ((v : ℕ) → v < limit → v ≢ a → IsDeadEnd ends kept v → ⊥)
    → (v : ℕ) → v < limit → v ≢ s.to → IsDeadEnd ends (set kept s.bond false) v → ⊥
ends_more ends kept a limit steps s keeps from only before v low ne dead =
    let c : ℕ = dead.0 in
    let u : ℕ = dead.1 in
    let joins : JoinsAt ends s.bond a s.to = from.joins s only.0 in
    let within : s.bond < length kept = omega (arith, joined_below ends s.bond a s.to joins, keeps.one_each) in
    let other : c ≢ s.bond = λ e.
    let stripped : get_or (set kept s.bond false) c false ≡ false = ap (λ k. get_or (set kept s.bond false) k false) e
    ∙ get_or-set_same kept s.bond false false within in
    false≢true (sym stripped ∙ dead.3) in
    let kept_c : get_or kept c false ≡ true = sym (get_or-set_other kept s.bond c false false other) ∙ dead.3 in
    elim (cases_eq v a) [
      | inl e ↦
          let step : Step = record { to = u; bond = c } in
          other (only.2 step (from.each c u (subst (λ w. JoinsAt ends c w u) e dead.2)) kept_c)
      | inr ne' ↦
          before v low ne' (
            c,
            u,
            dead.2,
            kept_c,
            λ d w j k.
                let apart : d ≢ s.bond = λ e. elim (joins_one ends s.bond v w a s.to
                (subst (λ b. JoinsAt ends b v w) e j) joins) [ inl q ↦ ne' q.0 | inr q ↦ ne q.0 ] in
                dead.4 d w j (get_or-set_other kept s.bond d false false apart ∙ k),
          )
    ]

-- an atom at which no bond alone is kept is no dead end
pub ends_done : (ends : Ends) (kept : List Bool) (a : ℕ) (steps : List Step) → AreStepsFrom ends a steps
    → ((s : Step) → IsOnlyKept steps kept s → ⊥) → IsDeadEnd ends kept a → ⊥
ends_done ends kept a steps from none dead =
    let s : Step = record { to = dead.1; bond = dead.0 } in
    none s (from.each dead.0 dead.1 dead.2, dead.3, λ t has k. dead.4 t.bond t.to (from.joins t has) k)

-- of the steps before the place i none is by a bond that counts, or the one that was found alone is
abbrev pub KeptSoFar : List Step → (ℕ → Bool) → ℕ → Option Step → Type 0
KeptSoFar steps counts i only =
    MatchOption only ((k : ℕ) (d : Step) → k < i → counts (get_or steps k d).bond ≡ false)
    (IsOnly (take i steps) counts)

pub none_kept : (steps : List Step) (counts : ℕ → Bool) (i : ℕ)
    → ((k : ℕ) (d : Step) → k < i → counts (get_or steps k d).bond ≡ false) → (t : Step)
    → IsOnly (take i steps) counts t → ⊥
none_kept steps counts i none t only =
    let k : ℕ = only.0.0 in
    let low : k < i = omega (arith, only.0.1, length-take i steps) in
    let is : get_or steps k t ≡ t = sym (get_or-take i steps k t low) ∙ only.0.2 in
    let stripped : counts t.bond ≡ false = rw is at (none k t low) in
    false≢true (sym stripped ∙ only.1)

-- of two kept steps neither is alone
pub two_kept : (steps : List Step) (counts : ℕ → Bool) (i : ℕ) (d : Step) (only : Option Step) → is_some only ≡ true
    → KeptSoFar steps counts i only → AllPairs (λ s t. s.bond ≢ t.bond) steps → i < length steps
    → counts (get_or steps i d).bond ≡ true → (t : Step) → IsOnly steps counts t → ⊥
two_kept steps counts i d None some first once l here t alone = absurd (false≢true some)
two_kept steps counts i d (Some s) some first once l here t alone =
    let k : ℕ = first.0.0 in
    let low : k < i = omega (arith, first.0.1, length-take i steps) in
    let is : get_or steps k s ≡ s = sym (get_or-take i steps k s low) ∙ first.0.2 in
    let one : s.bond ≡ t.bond = alone.2 s (k, omega arith, is) first.1 in
    let two : (get_or steps i d).bond ≡ t.bond = alone.2 (get_or steps i d) (Contains-get_or steps i d l) here in
    let same : get_or steps k d ≡ s = get_or_default steps k d s (omega arith) ∙ is in
    once k i d low l (ap (λ r. r.bond) same ∙ one ∙ sym two)

-- a step of the first steps, with one more
step_cases : (steps : List Step) (i : ℕ) (d t : Step) → i < length steps → Contains (take (i + 1) steps) t
    → Contains (take i steps) t ⊎ (get_or steps i d ≡ t)
step_cases steps i d t l has =
    let more : Contains (take i steps ++ get_or steps i d ∷ []) t = rw (take_more steps i d l) at has in
    Contains-push_cases (take i steps) (get_or steps i d) t more

-- the first kept step
pub kept_first : (steps : List Step) (counts : ℕ → Bool) (i : ℕ) (d : Step) (only : Option Step) → is_some only ≡ false
    → KeptSoFar steps counts i only → i < length steps → counts (get_or steps i d).bond ≡ true
    → KeptSoFar steps counts (i + 1) (Some (get_or steps i d))
kept_first steps counts i d (Some s) none so_far l here = absurd (false≢true (sym none))
kept_first steps counts i d None none so_far l here =
    let s : Step = get_or steps i d in (
      subst (λ xs. Contains xs s) (sym (take_more steps i d l)) (Contains-push (take i steps) s),
      here,
      λ t has k. elim (step_cases steps i d t l has) [
        | inl before ↦ absurd (none_before steps counts i so_far t before k)
        | inr e ↦ ap (λ r. r.bond) (sym e)
      ],
    )
  where
    none_before : (steps : List Step) (counts : ℕ → Bool) (i : ℕ)
        → ((k : ℕ) (d : Step) → k < i → counts (get_or steps k d).bond ≡ false) → (t : Step)
        → Contains (take i steps) t → counts t.bond ≡ true → ⊥
    none_before steps counts i none t has k =
        let low : has.0 < i = omega (arith, has.1, length-take i steps) in
        let is : get_or steps has.0 t ≡ t = sym (get_or-take i steps has.0 t low) ∙ has.2 in
        let stripped : counts t.bond ≡ false = rw is at (none has.0 t low) in
        false≢true (sym stripped ∙ k)

-- a step that is not kept
pub kept_same : (steps : List Step) (counts : ℕ → Bool) (i : ℕ) (d : Step) (only : Option Step)
    → KeptSoFar steps counts i only → i < length steps → counts (get_or steps i d).bond ≡ false
    → KeptSoFar steps counts (i + 1) only
kept_same steps counts i d None so_far l stripped = λ k e low. elim (cases_lt k i) [
  | inl before ↦ so_far k e before
  | inr after ↦
      let is : k ≡ i = omega arith in
      rw (is, get_or_default steps i e d l) stripped
]
kept_same steps counts i d (Some s) so_far l stripped = (
  subst (λ xs. Contains xs s) (sym (take_more steps i d l)) (Contains-append_left (take i steps) (get_or steps i d ∷ [])
      s so_far.0),
  so_far.1,
  λ t has k. elim (step_cases steps i d t l has) [
    | inl before ↦ so_far.2 t before k
    | inr e ↦ absurd (let kept_i : counts (get_or steps i d).bond ≡ true = rw e k in
        false≢true (sym stripped ∙ kept_i))
  ],
)

-- all steps looked at
pub kept_all : (steps : List Step) (counts : ℕ → Bool) (i : ℕ) (only : Option Step) → KeptSoFar steps counts i only
    → length steps ≤ i → MatchOption only ((t : Step) → IsOnly steps counts t → ⊥) (IsOnly steps counts)
kept_all steps counts i None so_far all = rw (take_all i steps all) at (none_kept steps counts i so_far)
kept_all steps counts i (Some s) so_far all = rw (take_all i steps all) at so_far
