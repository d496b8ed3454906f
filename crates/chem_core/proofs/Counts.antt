-- Counting how many bonds end at each atom.
use Rattle.std.proofs.Common.{◌≡◌, ◌≢◌, ℕ, zero, suc, ◌+◌, ◌<◌, ◌≤◌, inl, inr, Bool, true, false, cond, ◌==◌, ◌||◌, List, [], ◌∷◌, ◌++◌, length, take, get_or, set, refl, sym, ◌∙◌, ap, subst, arith}
use Rattle.std.proofs.lemmas.Bool.{cases_eq, cases_lt}
use Rattle.std.proofs.lemmas.Bool.Decides.{nat_tests}
use Rattle.std.proofs.lemmas.List.{take_more, take_all, get_or-set_same, get_or-set_other, length-set, get_or_read}
use Rattle.std.proofs.lemmas.List.Sums.{sum_by-append}
use Rattle.std.specs.List.{AllByRecursion}
use Rattle.chem_core.specs.declared.sketch.SketchBond.{SketchBond}
use Rattle.chem_core.specs.Graph.{degree}
use Rattle.chem_core.specs.Sound.{ends_among}

-- the bond joins two of so many atoms
abbrev JoinsTwo : ℕ → SketchBond → Type 0
JoinsTwo atoms b = (b.a < atoms) × (b.b < atoms) × (b.a ≢ b.b)

differ : (m k : ℕ) → m ≢ k → (m == k) ≡ false
differ m k h = grind (arith, nat_tests)

agree : (m : ℕ) → (m == m) ≡ true
agree m = grind (arith, nat_tests)

abbrev deg : List SketchBond → ℕ → ℕ
deg xs a = degree (ends_among xs) a

abbrev hit : ℕ → ℕ → ℕ → ℕ
hit p q a = cond ((p == a) || (q == a)) 1 0

deg_cons : (x : SketchBond) (xs : List SketchBond) (a : ℕ) → deg (x ∷ xs) a ≡ hit x.a x.b a + deg xs a
deg_cons x xs a =
    sum_by-append (λ e. cond ((e.0 == a) || (e.1 == a)) 1 0) ((x.a, x.b) ∷ []) (ends_among xs)
    ∙ ap (λ n. n + deg xs a) (let e : 0 + hit x.a x.b a ≡ hit x.a x.b a = omega arith in e)

deg_nil : (a : ℕ) → deg [] a ≡ 0
deg_nil a = refl

deg_push : (xs : List SketchBond) (z : SketchBond) (a : ℕ) → deg (xs ++ z ∷ []) a ≡ deg xs a + hit z.a z.b a
deg_push [] z a = deg_cons z [] a ∙ ap (λ n. hit z.a z.b a + n) (deg_nil a)
    ∙ (let e : hit z.a z.b a + 0 ≡ 0 + hit z.a z.b a = omega arith in e) ∙ ap (λ n. n + hit z.a z.b a) (sym (deg_nil a))
deg_push (x ∷ xs) z a =
    let e = deg_push xs z a in
    let l = deg_cons x (xs ++ z ∷ []) a in
    let r = deg_cons x xs a in
    omega (arith, e, l, r)

deg_more : (bonds : List SketchBond) (i a : ℕ) (d : SketchBond) → i < length bonds → deg (take (i + 1) bonds) a
    ≡ deg (take i bonds) a + hit (get_or bonds i d).a (get_or bonds i d).b a
deg_more bonds i a d lt = ap (λ w. deg w a) (take_more bonds i d lt) ∙ deg_push (take i bonds) (get_or bonds i d) a

pub deg_take : (k : ℕ) (xs : List SketchBond) (a : ℕ) → deg (take k xs) a ≤ deg xs a
deg_take zero xs a = let e = deg_nil a in omega (arith, e)
deg_take (suc k) [] a = let e = deg_nil a in omega (arith, e)
deg_take (suc k) (x ∷ xs) a =
    let e = deg_take k xs a in
    let l = deg_cons x (take k xs) a in
    let r = deg_cons x xs a in
    omega (arith, e, l, r)

or_true : (b : Bool) → ◌≡◌ {A = ℕ} (cond (b || true) 1 0) 1
or_true true = refl
or_true false = refl

hit_second : (p q : ℕ) → hit p q q ≡ 1
hit_second p q = ap (λ w. cond ((p == q) || w) 1 0) (agree q) ∙ or_true (p == q)

hit_first : (p q : ℕ) → hit p q p ≡ 1
hit_first p q = ap (λ w. cond (w || (q == p)) 1 0) (agree p)

hit_none : (p q a : ℕ) → p ≢ a → q ≢ a → hit p q a ≡ 0
hit_none p q a np nq = ap (λ w. cond (w || (q == a)) 1 0) (differ p a np) ∙ ap (λ w. cond w 1 0) (differ q a nq)

-- the counts after one bond
count_step : (cs : List ℕ) (p q u v a : ℕ) → p < length cs → q < length cs → p ≢ q → u ≡ get_or cs p 0 + 1
    → v ≡ get_or (set cs p u) q 0 + 1
    → get_or (set (set cs p u) q v) a 0 ≡ get_or cs a 0 + hit p q a
count_step cs p q u v a lp lq ne eu ev =
    let lq' : q < length (set cs p u) = omega (arith, length-set cs p u) in
    let nq : q ≢ p = λ e. ne (sym e) in
    elim (cases_eq a q) [
      | inl e ↦
          let k : get_or (set (set cs p u) q v) a 0 ≡ v = ap (λ w. get_or (set (set cs p u) q v) w 0) e
          ∙ get_or-set_same (set cs p u) q v 0 lq' in
          let j : get_or (set cs p u) q 0 ≡ get_or cs q 0 = get_or-set_other cs p q u 0 nq in
          let m : hit p q a ≡ 1 = ap (λ w. hit p q w) e ∙ hit_second p q in
          let n : get_or cs a 0 ≡ get_or cs q 0 = ap (λ w. get_or cs w 0) e in
          omega arith
      | inr na ↦ elim (cases_eq a p) [
        | inl e ↦
            let k : get_or (set (set cs p u) q v) a 0 ≡ get_or (set cs p u) a 0 =
            get_or-set_other (set cs p u) q a v 0 na in
            let j : get_or (set cs p u) a 0 ≡ u = ap (λ w. get_or (set cs p u) w 0) e ∙ get_or-set_same cs p u 0 lp in
            let m : hit p q a ≡ 1 = ap (λ w. hit p q w) e ∙ hit_first p q in
            let n : get_or cs a 0 ≡ get_or cs p 0 = ap (λ w. get_or cs w 0) e in
            omega arith
        | inr nb ↦
            let k : get_or (set (set cs p u) q v) a 0 ≡ get_or (set cs p u) a 0 =
            get_or-set_other (set cs p u) q a v 0 na in
            let j : get_or (set cs p u) a 0 ≡ get_or cs a 0 = get_or-set_other cs p a u 0 nb in
            let m : hit p q a ≡ 0 = hit_none p q a (λ e. nb (sym e)) (λ e. na (sym e)) in
            omega arith
      ]
    ]

few_step : (cs : List ℕ) (p q u v a : ℕ) → get_or (set (set cs p u) q v) p 0 ≤ 12 → get_or (set (set cs p u) q v) q 0
    ≤ 12 → get_or cs a 0 ≤ 12 → get_or (set (set cs p u) q v) a 0 ≤ 12
few_step cs p q u v a fp fq fa =
    elim (cases_eq a q) [
      | inl e ↦ subst (λ (w : ℕ). get_or (set (set cs p u) q v) w 0 ≤ 12) (sym e) fq
      | inr na ↦ elim (cases_eq a p) [
        | inl e ↦ subst (λ (w : ℕ). get_or (set (set cs p u) q v) w 0 ≤ 12) (sym e) fp
        | inr nb ↦
            let k : get_or (set (set cs p u) q v) a 0 ≡ get_or (set cs p u) a 0 =
            get_or-set_other (set cs p u) q a v 0 na in
            let j : get_or (set cs p u) a 0 ≡ get_or cs a 0 = get_or-set_other cs p a u 0 nb in
            omega arith
      ]
    ]

ends_at : (n : ℕ) (xs : List SketchBond) (i : ℕ) (d : SketchBond) → AllByRecursion (JoinsTwo n) xs → i < length xs
    → JoinsTwo n (get_or xs i d)
ends_at n [] i d h lt = absurd (omega arith)
ends_at n (x ∷ xs) zero d h lt = h.0
ends_at n (x ∷ xs) (suc i) d h lt = ends_at n xs i d h.1 (omega arith)

-- the counts of the bonds so far, and one bond more
pub counted_more : (n : ℕ) (bonds : List SketchBond) (cs : List ℕ) (i : ℕ) (d : SketchBond) (p q x y : ℕ)
    → AllByRecursion (JoinsTwo n) bonds → i < length bonds
    → length cs ≡ n → ((a : ℕ) → a < n → get_or cs a 0 ≡ deg (take i bonds) a) → p ≡ (get_or bonds i d).a
    → q ≡ (get_or bonds i d).b
    → x ≡ get_or cs p x → y ≡ get_or (set cs p (x + 1)) q y
    → (a : ℕ) → a < n → get_or (set (set cs p (x + 1)) q (y + 1)) a 0 ≡ deg (take (i + 1) bonds) a
counted_more n bonds cs i d p q x y ends lt l h ep eq ex ey a la =
    let e = ends_at n bonds i d ends lt in
    let e0 = e.0 in
    let e1 = e.1 in
    let lp : p < length cs = omega arith in
    let lq : q < length (set cs p (x + 1)) = omega (arith, length-set cs p (x + 1)) in
    count_step cs p q (x + 1) (y + 1) a lp (omega arith) (λ k. e.2 (sym ep ∙ k ∙ eq))
    (ap (λ n. n + 1) (get_or_read cs p x lp ex 0)) (ap (λ n. n + 1) (get_or_read (set cs p (x + 1)) q y lq ey 0))
    ∙ ap (λ w. w + hit p q a) (h a la) ∙ ap (λ w. deg (take i bonds) a + hit w q a) ep
    ∙ ap (λ w. deg (take i bonds) a + hit (get_or bonds i d).a w a) eq
    ∙ sym (deg_more bonds i a d lt)

-- counts that are raised by one stay small
pub one_fits : (cs : List ℕ) (n p x : ℕ) → length cs ≡ n → p < n → x ≡ get_or cs p x
    → ((a : ℕ) → a < n → get_or cs a 0 ≤ 12) → x ≤ 12
one_fits cs n p x l lp ex few =
    let g = get_or_read cs p x (omega arith) ex 0 in
    let f = few p lp in
    omega arith

pub both_fit : (cs : List ℕ) (n p q x y : ℕ) → length cs ≡ n → p < n → q < n → x ≡ get_or cs p x
    → y ≡ get_or (set cs p (x + 1)) q y → ((a : ℕ) → a < n → get_or cs a 0 ≤ 12) → y ≤ 13
both_fit cs n p q x y l lp lq ex ey few =
    let k = one_fits cs n p x l lp ex few in
    let g = get_or_read (set cs p (x + 1)) q y (omega (arith, length-set cs p (x + 1))) ey 0 in
    let lp' : p < length cs = omega arith in
    elim (cases_eq q p) [
      | inl e ↦
          let j : get_or (set cs p (x + 1)) q 0 ≡ x + 1 = ap (λ w. get_or (set cs p (x + 1)) w 0) e
          ∙ get_or-set_same cs p (x + 1) 0 lp' in
          omega arith
      | inr ne ↦
          let j : get_or (set cs p (x + 1)) q 0 ≡ get_or cs q 0 = get_or-set_other cs p q (x + 1) 0 ne in
          let f = few q lq in
          omega arith
    ]

pub few_more : (cs : List ℕ) (n p q u v w z : ℕ) → length cs ≡ n → p < n → q < n → w ≡ get_or (set (set cs p u) q v) p w
    → w ≤ 12 → z ≡ get_or (set (set cs p u) q v) q z → z ≤ 12
    → ((a : ℕ) → a < n → get_or cs a 0 ≤ 12) → (a : ℕ) → a < n → get_or (set (set cs p u) q v) a 0 ≤ 12
few_more cs n p q u v w z l lp lq ew fw ez fz h a la =
    let l1 = length-set cs p u in
    let l2 = length-set (set cs p u) q v in
    let gp = get_or_read (set (set cs p u) q v) p w (omega (arith, l1, l2)) ew 0 in
    let gq = get_or_read (set (set cs p u) q v) q z (omega (arith, l1, l2)) ez 0 in
    few_step cs p q u v a (omega arith) (omega arith) (h a la)

-- an atom that is counted too often
pub too_many : (n : ℕ) (bonds : List SketchBond) (cs : List ℕ) (k r w : ℕ) → length cs ≡ n
    → ((a : ℕ) → a < n → get_or cs a 0 ≡ deg (take k bonds) a) → r < n → w ≡ get_or cs r w → 12 < w
    → ((a : ℕ) → deg bonds a ≤ 12) → ⊥
too_many n bonds cs k r w l h lr ew gt all =
    let g = get_or_read cs r w (omega arith) ew 0 in
    let e = h r lr in
    let t = deg_take k bonds r in
    let f = all r in
    omega (arith, g, e, t, f)

pub ends_within : (n : ℕ) (bonds : List SketchBond) (i : ℕ) (d : SketchBond) (p q : ℕ)
    → AllByRecursion (JoinsTwo n) bonds → i < length bonds → p ≡ (get_or bonds i d).a → q ≡ (get_or bonds i d).b
    → (p < n) × (q < n)
ends_within n bonds i d p q ends lt ep eq =
    let e = ends_at n bonds i d ends lt in
    let e0 = e.0 in
    let e1 = e.1 in
    (omega arith, omega arith)

pub no_degree : (n a : ℕ) (xs : List SketchBond) → AllByRecursion (JoinsTwo n) xs → n ≤ a → deg xs a ≡ 0
no_degree n a [] h le = deg_nil a
no_degree n a (x ∷ xs) h le =
    let e0 = h.0.0 in
    let e1 = h.0.1 in
    let r = no_degree n a xs h.1 le in
    let m = hit_none x.a x.b a (λ k. omega arith) (λ k. omega arith) in
    let l = deg_cons x xs a in
    omega (arith, l, m, r)

-- all bonds are counted
pub few_all : (n : ℕ) (bonds : List SketchBond) (cs : List ℕ) (i : ℕ) → AllByRecursion (JoinsTwo n) bonds
    → length bonds ≤ i
    → ((a : ℕ) → a < n → get_or cs a 0 ≡ deg (take i bonds) a) → ((a : ℕ) → a < n → get_or cs a 0 ≤ 12) → (a : ℕ)
    → deg bonds a ≤ 12
few_all n bonds cs i ends le h few a =
    elim (cases_lt a n) [
      | inl lt ↦
          let f = few a lt in
          let k = h a lt in
          let t : deg (take i bonds) a ≡ deg bonds a = ap (λ w. deg w a) (take_all i bonds le) in
          omega arith
      | inr ge ↦ let z = no_degree n a bonds ends ge in omega arith
    ]
