-- The steps from an atom: as many as bonds end there, what they are, where they lead, and one more bond.
use Rattle.std.proofs.Common.{◌≡◌, ◌≢◌, ◌<◌, ◌⊎◌, ◌==◌, ◌||◌, ℕ, zero, suc, ◌+◌, All, AllPairs, Bool, true, false, cond, if◌then◌else◌, inl, inr, Option, Some, None, List, [], ◌∷◌, ◌++◌, length, get_or, Contains, refl, sym, ap, subst, ◌∙◌, arith}
use Rattle.std.specs.List.{cons_option, enumerate_from, filter_map}
use Rattle.std.proofs.lemmas.Bool.{cases_eq, eq-eqb, ne_eqb}
use Rattle.std.proofs.lemmas.List.{append-nil, get_or_default}
use Rattle.std.proofs.lemmas.List.Elements.{Contains-get_or, filter_map-append}
use Rattle.std.proofs.lemmas.List.Kept.{AllPairs-cons}
use Rattle.std.proofs.lemmas.List.Sums.{sum_by-cons}
use Rattle.std.proofs.lemmas.Option.{none-some, same_Some}
use Rattle.chem_core.specs.Enumerated.{enumerate_from-append}
use Rattle.chem_core.specs.Graph.{Ends, JoinsAt, IsSimpleGraph, degree}
use Rattle.chem_core.specs.Steps.{AreStepsFrom, step_at, steps_among}
use Rattle.chem_core.specs.declared.adjacency.Step.{Step}
use Rattle.chem_core.proofs.Ascending.{Contains-cons_cases, Contains-cons_first, Contains-cons_rest}
use Rattle.chem_core.proofs.Neighbours.{joined_within}

abbrev pub step_by : ℕ → ℕ → Step
step_by y b = record { to = y; bond = b }

step_at-first : (a : ℕ) (p : ℕ × (ℕ × ℕ)) → p.1.0 ≡ a → step_at a p ≡ Some (step_by p.1.1 p.0)
step_at-first a p is =
    ap (λ (b : Bool). if b then Some (step_by p.1.1 p.0) else if p.1.1 == a then Some (step_by p.1.0 p.0) else None)
    (eq-eqb p.1.0 a is)

step_at-not_first : (a : ℕ) (p : ℕ × (ℕ × ℕ)) → p.1.0 ≢ a
    → step_at a p ≡ (if p.1.1 == a then Some (step_by p.1.0 p.0) else None)
step_at-not_first a p off =
    ap (λ (b : Bool). if b then Some (step_by p.1.1 p.0) else if p.1.1 == a then Some (step_by p.1.0 p.0) else None)
    (ne_eqb p.1.0 a off)

step_at-second : (a : ℕ) (p : ℕ × (ℕ × ℕ)) → p.1.0 ≢ a → p.1.1 ≡ a → step_at a p ≡ Some (step_by p.1.0 p.0)
step_at-second a p off is = step_at-not_first a p off
    ∙ ap (λ (b : Bool). if b then Some (step_by p.1.0 p.0) else None) (eq-eqb p.1.1 a is)

step_at-other : (a : ℕ) (p : ℕ × (ℕ × ℕ)) → p.1.0 ≢ a → p.1.1 ≢ a → step_at a p ≡ None
step_at-other a p off nor = step_at-not_first a p off
    ∙ ap (λ (b : Bool). if b then Some (step_by p.1.0 p.0) else None) (ne_eqb p.1.1 a nor)

-- a bond makes a step to the other end, or it does not end at the atom
step_at-cases : (a : ℕ) (p : ℕ × (ℕ × ℕ))
    → ((y : ℕ) × (step_at a p ≡ Some (step_by y p.0)) × ((p.1 ≡ (a, y)) ⊎ (p.1 ≡ (y, a))))
    ⊎ ((step_at a p ≡ None) × (p.1.0 ≢ a) × (p.1.1 ≢ a))
step_at-cases a p = elim (cases_eq p.1.0 a) [
  | inl is ↦ inl (p.1.1, step_at-first a p is, inl (ap (λ x. (x, p.1.1)) is))
  | inr off ↦ elim (cases_eq p.1.1 a) [
    | inl is ↦ inl (p.1.0, step_at-second a p off is, inr (ap (λ x. (p.1.0, x)) is))
    | inr nor ↦ inr (step_at-other a p off nor, off, nor)
  ]
]

-- ---- one more bond

steps_among-push : (ends : Ends) (e : ℕ × ℕ) (a : ℕ) (o : Option Step) → step_at a (length ends, e) ≡ o
    → steps_among (ends ++ e ∷ []) a ≡ steps_among ends a ++ cons_option o []
steps_among-push ends e a o is =
    let from : 0 + length ends ≡ length ends = omega arith in
    ap (filter_map (step_at a)) (enumerate_from-append 0 ends (e ∷ []))
    ∙ filter_map-append (step_at a) (enumerate_from 0 ends) (enumerate_from (0 + length ends) (e ∷ []))
    ∙ ap (λ n. steps_among ends a ++ cons_option (step_at a (n, e)) []) from
    ∙ ap (λ p. steps_among ends a ++ cons_option p []) is

-- a bond from the atom, one to it, and any other
pub steps_among-first : (ends : Ends) (e : ℕ × ℕ) (a : ℕ) → e.0 ≡ a
    → steps_among (ends ++ e ∷ []) a ≡ steps_among ends a ++ (record { to = e.1; bond = length ends }) ∷ []
steps_among-first ends e a is = steps_among-push ends e a _ (step_at-first a (length ends, e) is)

pub steps_among-second : (ends : Ends) (e : ℕ × ℕ) (a : ℕ) → e.0 ≢ a → e.1 ≡ a
    → steps_among (ends ++ e ∷ []) a ≡ steps_among ends a ++ (record { to = e.0; bond = length ends }) ∷ []
steps_among-second ends e a off is = steps_among-push ends e a _ (step_at-second a (length ends, e) off is)

pub steps_among-other : (ends : Ends) (e : ℕ × ℕ) (a : ℕ) → e.0 ≢ a → e.1 ≢ a
    → steps_among (ends ++ e ∷ []) a ≡ steps_among ends a
steps_among-other ends e a off nor = steps_among-push ends e a None (step_at-other a (length ends, e) off nor)
    ∙ append-nil (steps_among ends a)

-- ---- the steps by the bonds from a place on

abbrev steps_on : ℕ → Ends → ℕ → List Step
steps_on n ends a = filter_map (step_at a) (enumerate_from n ends)

abbrev Apart : Step → Step → Type 0
Apart s t = s.bond ≢ t.bond

steps_on-is : (n : ℕ) (e : ℕ × ℕ) (ends : Ends) (a : ℕ) (o : Option Step) → step_at a (n, e) ≡ o
    → steps_on n (e ∷ ends) a ≡ cons_option o (steps_on (n + 1) ends a)
steps_on-is n e ends a o is = ap (λ p. cons_option p (steps_on (n + 1) ends a)) is

counts_one : (b c : Bool) (s t : Step) (rest : List Step)
    → length (cons_option (if b then Some s else if c then Some t else None) rest) ≡ cond (b || c) 1 0 + length rest
counts_one true c s t rest = omega arith
counts_one false true s t rest = omega arith
counts_one false false s t rest = omega arith

length-steps_on : (n : ℕ) (ends : Ends) (a : ℕ) → length (steps_on n ends a) ≡ degree ends a
length-steps_on n [] a = refl
length-steps_on n (e ∷ ends) a =
    counts_one (e.0 == a) (e.1 == a) (step_by e.1 n) (step_by e.0 n) (steps_on (n + 1) ends a)
    ∙ ap (λ k. cond ((e.0 == a) || (e.1 == a)) 1 0 + k) (length-steps_on (n + 1) ends a)
    ∙ sym (sum_by-cons (λ d. cond ((d.0 == a) || (d.1 == a)) 1 0) e ends)

-- as many steps as bonds that end at the atom
pub length-steps_among : (ends : Ends) (a : ℕ) → length (steps_among ends a) ≡ degree ends a
length-steps_among = length-steps_on 0

-- the other end is one
same_other : (e : ℕ × ℕ) (a y z : ℕ) → (e ≡ (a, y)) ⊎ (e ≡ (y, a)) → (e ≡ (a, z)) ⊎ (e ≡ (z, a)) → y ≡ z
same_other e a y z (inl h) (inl k) = ap (λ p. p.1) (sym h ∙ k)
same_other e a y z (inl h) (inr k) = ap (λ p. p.1) (sym h ∙ k) ∙ ap (λ p. p.0) (sym h ∙ k)
same_other e a y z (inr h) (inl k) = ap (λ p. p.0) (sym h ∙ k) ∙ ap (λ p. p.1) (sym h ∙ k)
same_other e a y z (inr h) (inr k) = ap (λ p. p.0) (sym h ∙ k)

joins_on : (n : ℕ) (ends : Ends) (a : ℕ) (s : Step) → Contains (steps_on n ends a) s
    → (b : ℕ) × (s.bond ≡ n + b) × JoinsAt ends b a s.to
joins_on n [] a s q = absurd (omega (arith, q.1))
joins_on n (e ∷ ends) a s q = elim (step_at-cases a (n, e)) [
  | inl v ↦ elim (Contains-cons_cases (step_by v.0 n) (steps_on (n + 1) ends a) s
      (subst (λ l. Contains l s) (steps_on-is n e ends a _ v.1) q)) [
        | inl is ↦ (
          zero,
          (let at : n ≡ s.bond = ap (λ t. t.bond) is in omega arith),
          subst (λ y. JoinsAt (e ∷ ends) zero a y) (ap (λ t. t.to) is)
              (elim v.2 [ inl h ↦ inl (ap Some h) | inr h ↦ inr (ap Some h) ]),
        )
        | inr r ↦ behind (joins_on (n + 1) ends a s r)
      ]
  | inr v ↦ behind (joins_on (n + 1) ends a s (subst (λ l. Contains l s) (steps_on-is n e ends a None v.0) q))
]
  where
    behind : ((b : ℕ) × (s.bond ≡ n + 1 + b) × JoinsAt ends b a s.to)
        → (b : ℕ) × (s.bond ≡ n + b) × JoinsAt (e ∷ ends) b a s.to
    behind j = (suc j.0, (let at : s.bond ≡ n + 1 + j.0 = j.1 in omega arith), j.2)

each_on : (n : ℕ) (ends : Ends) (a b y : ℕ) → JoinsAt ends b a y
    → Contains (steps_on n ends a) (step_by y (n + b))
each_on n [] a b y h = absurd (elim h [ inl q ↦ none-some _ q | inr q ↦ none-some _ q ])
each_on n (e ∷ ends) a zero y h =
    let is : (e ≡ (a, y)) ⊎ (e ≡ (y, a)) = elim h [ inl q ↦ inl (same_Some _ _ q) | inr q ↦ inr (same_Some _ _ q) ] in
    elim (step_at-cases a (n, e)) [
      | inl v ↦
          let at : n ≡ n + 0 = omega arith in
          let one : step_by v.0 n ≡ step_by y (n + 0) = ap (λ k. step_by k n) (same_other e a v.0 y v.2 is)
          ∙ ap (step_by y) at in
          subst (λ l. Contains l (step_by y (n + 0))) (sym (steps_on-is n e ends a _ v.1))
          (subst (λ s. Contains (step_by v.0 n ∷ steps_on (n + 1) ends a) s) one
          (Contains-cons_first (step_by v.0 n) (steps_on (n + 1) ends a)))
      | inr v ↦ absurd (elim is [ inl k ↦ v.1 (ap (λ p. p.0) k) | inr k ↦ v.2 (ap (λ p. p.1) k) ])
    ]
each_on n (e ∷ ends) a (suc b) y h =
    let at : n + 1 + b ≡ n + suc b = omega arith in
    let rest : Contains (steps_on (n + 1) ends a) (step_by y (n + suc b)) =
    subst (λ k. Contains (steps_on (n + 1) ends a) (step_by y k)) at (each_on (n + 1) ends a b y h) in
    elim (step_at-cases a (n, e)) [
      | inl v ↦ subst (λ l. Contains l (step_by y (n + suc b))) (sym (steps_on-is n e ends a _ v.1))
          (Contains-cons_rest (step_by v.0 n) (steps_on (n + 1) ends a) _ rest)
      | inr v ↦ subst (λ l. Contains l (step_by y (n + suc b))) (sym (steps_on-is n e ends a None v.0)) rest
    ]

once_on : (n : ℕ) (ends : Ends) (a : ℕ) → AllPairs Apart (steps_on n ends a)
once_on n [] a = λ i j d before within. absurd (omega arith)
once_on n (e ∷ ends) a = elim (step_at-cases a (n, e)) [
  | inl v ↦ subst (AllPairs Apart) (sym (steps_on-is n e ends a _ v.1))
      (AllPairs-cons Apart (step_by v.0 n) (steps_on (n + 1) ends a) (higher v.0) (once_on (n + 1) ends a))
  | inr v ↦ subst (AllPairs Apart) (sym (steps_on-is n e ends a None v.0)) (once_on (n + 1) ends a)
]
  where
    higher : (y : ℕ) → All (Apart (step_by y n)) (steps_on (n + 1) ends a)
    higher y k d within is =
        let j = joins_on (n + 1) ends a (get_or (steps_on (n + 1) ends a) k d)
        (Contains-get_or (steps_on (n + 1) ends a) k d within) in
        absurd (omega (arith, j.1, is))

-- they are the bonds that end at the atom, each once
pub are_steps_from : (ends : Ends) (a : ℕ) → AreStepsFrom ends a (steps_among ends a)
are_steps_from ends a = record {
  joins = λ s q.
      let j = joins_on 0 ends a s q in
      let at : j.0 ≡ s.bond = omega (arith, j.1) in
      subst (λ b. JoinsAt ends b a s.to) at j.2;
  once = once_on 0 ends a;
  each = λ b y h.
      let at : 0 + b ≡ b = omega arith in
      subst (λ k. Contains (steps_among ends a) (step_by y k)) at (each_on 0 ends a b y h);
}

-- ---- the k-th step

pub step_joins : (ends : Ends) (a : ℕ) (steps : List Step) (k : ℕ) (d : Step) → AreStepsFrom ends a steps
    → k < length steps → JoinsAt ends (get_or steps k d).bond a (get_or steps k d).to
step_joins ends a steps k d h l =
    h.joins (get_or steps k d) (k, l, get_or_default steps k (get_or steps k d) d l)

pub step_within : (n : ℕ) (ends : Ends) (a : ℕ) (steps : List Step) (k : ℕ) (d : Step) → IsSimpleGraph n ends
    → AreStepsFrom ends a steps → k < length steps → ((get_or steps k d).bond < length ends)
    × ((get_or steps k d).to < n)
step_within n ends a steps k d graph h l = joined_within n ends _ a _ graph (step_joins ends a steps k d h l)
