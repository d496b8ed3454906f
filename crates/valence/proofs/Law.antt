-- What stays keeps its order, and stays when asked again.
use Rattle.std.proofs.Common.{ℕ, zero, suc, ◌+◌, ◌<◌, ◌≤◌, ◌≡◌, ◌≢◌, Bool, true, false, not, cond, eqb, ◌||◌, ◌&&◌, List, [], ◌∷◌, ◌++◌, length, map, filter, take, drop, get_or, count_by, sum_by, All, refl, ap, sym, subst, ◌∙◌, inl, inr, arith, unwrap_or, option_map}
use Rattle.std.specs.Prelude.{pos}
use Rattle.std.specs.List.{AllPairs, enumerate_from, list_any}
use Rattle.std.specs.List.Sorted.{IsStrictlyIncreasing}
use Rattle.std.proofs.Math.Path.{fun_ext}
use Rattle.std.proofs.lemmas.Bool.{cases_Bool, cases_lt, cases_eq, and_parts, and_from, and_left, or_cases, or_left, or_right, not-true, eqb-true, eq-eqb, ne_eqb, false≢true, false_from_ne_true}
use Rattle.std.proofs.lemmas.Option.{slice_get_past}
use Rattle.std.proofs.lemmas.List.{length-map, get_or-map, length-take-le, map-append, take-append-drop, get_or_append_left, get_or_push, length_push}
use Rattle.std.proofs.lemmas.List.FromFn.{length-enumerate_from, get_or-enumerate_from}
use Rattle.std.proofs.lemmas.List.Elements.{All-head, All-tail, filter-append}
use Rattle.std.proofs.lemmas.List.Kept.{AllPairs-filter, AllPairs-from_increasing}
use Rattle.std.proofs.lemmas.List.Folds.{list_any_at}
use Rattle.std.proofs.lemmas.List.Sums.{sum_by-cons}
use Rattle.chem_core.specs.declared.sketch.SketchAtom.{SketchAtom}
use Rattle.chem_core.specs.declared.sketch.SketchBond.{SketchBond}
use Rattle.chem_core.specs.declared.sketch.Fill.TheVariants.{Given}
use Rattle.chem_core.specs.Sketch.{SketchTerm, ends_at}
use Rattle.chem_core.specs.Graph.{degree}
use Rattle.chem_core.specs.Sound.{IsSound, sketch_ends}
use Rattle.valence.specs.Suppressed.{is_single_kind, is_plain_hydrogen, atom_is, is_heavy, leads_to_heavy, is_suppressed, new_place, brings, stays, staying_atoms, staying_bonds, renumbered, gained, suppressed}
use Rattle.chem_core.specs.Enumerated.{enumerate_from-append}
use Rattle.valence.proofs.Sums.{degree_is, bond-in_graph}
use Rattle.valence.proofs.Flags.{atom_is-at}
use Rattle.valence.proofs.Kept.{staying-more}
use Rattle.valence.proofs.Renumbering.{new_place-more, new_place-lt, new_place-one}
use Rattle.valence.proofs.Staying.{length-staying, same_sketch}

some_atom : SketchAtom
some_atom = record { number = 0; isotope = 0; charge = pos 0; lower = false; fill = Given; hydrogens = 0; written = 0 }

-- ---- the order

pub order-stays : (s : SketchTerm) → IsStrictlyIncreasing (map (λ a. a.written) s.atoms)
    → IsStrictlyIncreasing (map (λ a. a.written) (suppressed s).atoms)
order-stays s up k h =
    let xs : List SketchAtom = s.atoms in
    let w : SketchAtom → ℕ = λ a. a.written in
    let p : ℕ × SketchAtom → Bool = λ q. not (is_suppressed s q.0) in
    let f : ℕ × SketchAtom → SketchAtom = λ q. record q.1 { hydrogens = q.1.hydrogens + gained s q.0 } in
    let R : ℕ × SketchAtom → ℕ × SketchAtom → Type 0 = λ q r. q.1.written < r.1.written in
    let below : AllPairs R (enumerate_from 0 xs) = λ i j d lt within.
    let inj : j < length xs = omega (arith, length-enumerate_from 0 xs) in
    let ini : i < length xs = omega arith in
    let inj' : j < length (map w xs) = omega (arith, length-map xs w) in
    let up' : get_or (map w xs) i 0 < get_or (map w xs) j 0 = AllPairs-from_increasing (map w xs) up i j 0 lt inj' in
    let ei : get_or (map w xs) i 0 ≡ (get_or xs i d.1).written = get_or-map w xs i d.1 0 ini in
    let ej : get_or (map w xs) j 0 ≡ (get_or xs j d.1).written = get_or-map w xs j d.1 0 inj in
    let gi : (get_or (enumerate_from 0 xs) i d).1.written ≡ (get_or xs i d.1).written =
    ap (λ q. q.1.written) (get_or-enumerate_from 0 xs i d ini) in
    let gj : (get_or (enumerate_from 0 xs) j d).1.written ≡ (get_or xs j d.1).written =
    ap (λ q. q.1.written) (get_or-enumerate_from 0 xs j d inj) in
    omega (arith, up', ei, ej, gi, gj) in
    let ys : List (ℕ × SketchAtom) = filter p (enumerate_from 0 xs) in
    let d : ℕ × SketchAtom = (0, some_atom) in
    let within : k + 1 < length ys = omega (arith, length-map (map f ys) w, length-map ys f) in
    let before : k < length ys = omega arith in
    let at : (i : ℕ) → i < length ys → get_or (map w (map f ys)) i 0 ≡ (get_or ys i d).1.written = λ i l.
    let l' : i < length (map f ys) = omega (arith, length-map ys f) in
    get_or-map w (map f ys) i some_atom 0 l' ∙ ap w (get_or-map f ys i d some_atom l) in
    let lt : (get_or ys k d).1.written < (get_or ys (k + 1) d).1.written = AllPairs-filter R p (enumerate_from 0 xs)
    below k (k + 1) d (omega arith) within in
    omega (arith, lt, at k before, at (k + 1) within)

-- ---- where the atoms that stay are

-- what stays of the first atoms comes first
staying-front : (goes : ℕ → Bool) (gain : ℕ → ℕ) (xs : List SketchAtom) (k : ℕ) → (rest : List SketchAtom)
    × (staying_atoms goes gain xs ≡ staying_atoms goes gain (take k xs) ++ rest)
staying-front goes gain xs k =
    let p : ℕ × SketchAtom → Bool = λ q. not (goes q.0) in
    let f : ℕ × SketchAtom → SketchAtom = λ q. record q.1 { hydrogens = q.1.hydrogens + gain q.0 } in
    let later : List (ℕ × SketchAtom) = enumerate_from (0 + length (take k xs)) (drop k xs) in (
      map f (filter p later),
      ap (λ zs. map f (filter p (enumerate_from 0 zs))) (sym (take-append-drop k xs))
          ∙ ap (λ zs. map f (filter p zs)) (enumerate_from-append 0 (take k xs) (drop k xs))
          ∙ ap (map f) (filter-append p (enumerate_from 0 (take k xs)) later)
          ∙ map-append f (filter p (enumerate_from 0 (take k xs))) (filter p later),
    )

staying-at : (goes : ℕ → Bool) (gain : ℕ → ℕ) (xs : List SketchAtom) (x : ℕ) (d : SketchAtom) → x < length xs
    → goes x ≡ false → get_or (staying_atoms goes gain xs) (new_place goes x) d ≡ record (get_or xs x d) {
      hydrogens =
          (get_or xs x d).hydrogens + gain x;
    }
staying-at goes gain xs x d h stay =
    let atom : SketchAtom = get_or xs x d in
    let new : SketchAtom = record atom { hydrogens = atom.hydrogens + gain x } in
    let front : List SketchAtom = staying_atoms goes gain (take x xs) in
    let more : staying_atoms goes gain (take (x + 1) xs) ≡ front ++ new ∷ [] = staying-more goes gain xs x d h
    ∙ ap (λ t. front ++ cond (not t) (new ∷ []) []) stay in
    let len : length front ≡ new_place goes x = length-staying goes gain (take x xs)
    ∙ ap (new_place goes) (length-take-le x xs (omega arith)) in
    let all = staying-front goes gain xs (x + 1) in
    let e : staying_atoms goes gain xs ≡ (front ++ new ∷ []) ++ all.0 = all.1 ∙ ap (λ zs. zs ++ all.0) more in
    let within : new_place goes x < length (front ++ new ∷ []) = omega (arith, length_push front new, len) in
    ap (λ zs. get_or zs (new_place goes x) d) e ∙ get_or_append_left (front ++ new ∷ []) all.0 d (new_place goes x)
    within ∙ get_or_push front new d (new_place goes x) len

-- each place has an atom that stays
place-of : (goes : ℕ → Bool) (a n : ℕ) → a < new_place goes n → (x : ℕ) × (x < n) × (goes x ≡ false)
    × (new_place goes x ≡ a)
place-of goes a zero h = absurd (omega arith)
place-of goes a (suc n) h =
    let z : suc n ≡ n + 1 = omega arith in
    let h' : a < new_place goes (n + 1) = subst (λ (k : ℕ). a < new_place goes k) z h in
    let more = new_place-more goes n in
    elim (cases_lt a (new_place goes n)) [
      | inl l ↦ let o = place-of goes a n l in (o.0, omega (arith, o.1), o.2, o.3)
      | inr l ↦ elim (cases_Bool (goes n)) [
        | inl g ↦
            let none : cond {A = ℕ} (not (goes n)) 1 0 ≡ 0 = ap (λ t. cond (not t) 1 0) g in
            absurd (omega (arith, none, more, h', l))
        | inr g ↦
            let one : cond {A = ℕ} (not (goes n)) 1 0 ≡ 1 = ap (λ t. cond (not t) 1 0) g in
            (n, omega arith, g, omega (arith, one, more, h', l))
      ]
    ]

-- ---- a hydrogen that stays keeps its bonds

-- where q passes only what p passes, and p passes one element, which q passes
any-count : {X : Type 0} (p q : X → Bool) → ((x : X) → q x ≡ true → p x ≡ true) → (xs : List X) → list_any q xs ≡ true
    → 1 ≤ count_by p xs
any-count p q le [] h = absurd (false≢true h)
any-count {X} p q le (x ∷ xs) h =
    let f : X → ℕ = λ x. cond (p x) 1 0 in
    let e = sum_by-cons f x xs in
    elim (or_cases (q x) (list_any q xs) h) [
      | inl t ↦ let one : f x ≡ 1 = ap (λ t. cond t 1 0) (le x t) in omega (arith, e, one)
      | inr t ↦ omega (arith, e, any-count p q le xs t)
    ]

at-count : {X : Type 0} (p : X → Bool) (xs : List X) (j : ℕ) (d : X) → j < length xs → p (get_or xs j d) ≡ true
    → 1 ≤ count_by p xs
at-count p [] j d h t = absurd (omega arith)
at-count {X} p (x ∷ xs) zero d h t =
    let f : X → ℕ = λ x. cond (p x) 1 0 in
    let one : f x ≡ 1 = ap (λ t. cond t 1 0) t in
    omega (arith, sum_by-cons f x xs, one)
at-count {X} p (x ∷ xs) (suc j) d h t =
    let f : X → ℕ = λ x. cond (p x) 1 0 in
    omega (arith, sum_by-cons f x xs, at-count p xs j d (omega arith) t)

one-alone : {X : Type 0} (p q : X → Bool) → ((x : X) → q x ≡ true → p x ≡ true) → (xs : List X) (j : ℕ) (d : X)
    → count_by p xs ≡ 1 → list_any q xs ≡ true → j < length xs → p (get_or xs j d) ≡ true → q (get_or xs j d) ≡ true
one-alone p q le [] j d one any h t = absurd (omega arith)
one-alone {X} p q le (x ∷ xs) zero d one any h t =
    let f : X → ℕ = λ x. cond (p x) 1 0 in
    let here : f x ≡ 1 = ap (λ t. cond t 1 0) t in
    elim (or_cases (q x) (list_any q xs) any) [
      | inl r ↦ r
      | inr r ↦ absurd (omega (arith, sum_by-cons f x xs, here, one, any-count p q le xs r))
    ]
one-alone {X} p q le (x ∷ xs) (suc j) d one any h t =
    let f : X → ℕ = λ x. cond (p x) 1 0 in
    let rest = at-count p xs j d (omega arith) t in
    elim (or_cases (q x) (list_any q xs) any) [
      | inl r ↦
          let here : f x ≡ 1 = ap (λ t. cond t 1 0) (le x r) in
          absurd (omega (arith, sum_by-cons f x xs, here, one, rest))
      | inr r ↦ one-alone p q le xs j d (omega (arith, sum_by-cons f x xs, one, rest)) r (omega arith) t
    ]

leads-ends : (xs : List SketchAtom) (y : ℕ) (b : SketchBond) → leads_to_heavy xs y b ≡ true → ends_at y b ≡ true
leads-ends xs y b h =
    let p = and_parts (is_single_kind b.kind) ((eqb b.a y && is_heavy xs b.b) || (eqb b.b y && is_heavy xs b.a)) h in
    elim (or_cases (eqb b.a y && is_heavy xs b.b) (eqb b.b y && is_heavy xs b.a) p.1) [
      | inl t ↦ or_left (eqb b.a y) (eqb b.b y) (and_parts (eqb b.a y) (is_heavy xs b.b) t).0
      | inr t ↦ or_right (eqb b.a y) (eqb b.b y) (and_parts (eqb b.b y) (is_heavy xs b.a) t).0
    ]

-- an atom does not go if a bond of its leads to a hydrogen
stays-by_bond : (s : SketchTerm) (y j : ℕ) (d : SketchBond) → j < length s.bonds → ends_at y (get_or s.bonds j d) ≡ true
    → (leads_to_heavy s.atoms y (get_or s.bonds j d) ≡ true → ⊥) → is_suppressed s y ≡ false
stays-by_bond s y j d h ends light = false_from_ne_true (is_suppressed s y) (λ going.
    let p = and_parts (atom_is is_plain_hydrogen s.atoms y) (eqb (degree (sketch_ends s) y) 1
    && list_any (leads_to_heavy s.atoms y) s.bonds) going in
    let q = and_parts (eqb (degree (sketch_ends s) y) 1) (list_any (leads_to_heavy s.atoms y) s.bonds) p.1 in
    let one : count_by (ends_at y) s.bonds ≡ 1 = sym (degree_is s.bonds y)
    ∙ eqb-true (degree (sketch_ends s) y) 1 q.0 in
    light (one-alone (ends_at y) (leads_to_heavy s.atoms y) (leads-ends s.atoms y) s.bonds j d one q.1 h ends))

light-first : (xs : List SketchAtom) (b : SketchBond) → b.a ≢ b.b → is_heavy xs b.a ≡ false → leads_to_heavy xs b.b b
    ≡ true → ⊥
light-first xs b apart light h =
    let p = and_parts (is_single_kind b.kind) ((eqb b.a b.b && is_heavy xs b.b) || (eqb b.b b.b && is_heavy xs b.a)) h
    in
    elim (or_cases (eqb b.a b.b && is_heavy xs b.b) (eqb b.b b.b && is_heavy xs b.a) p.1) [
      | inl t ↦ apart (eqb-true b.a b.b (and_parts (eqb b.a b.b) (is_heavy xs b.b) t).0)
      | inr t ↦ false≢true (sym light ∙ (and_parts (eqb b.b b.b) (is_heavy xs b.a) t).1)
    ]

light-second : (xs : List SketchAtom) (b : SketchBond) → b.a ≢ b.b → is_heavy xs b.b ≡ false → leads_to_heavy xs b.a b
    ≡ true → ⊥
light-second xs b apart light h =
    let p = and_parts (is_single_kind b.kind) ((eqb b.a b.a && is_heavy xs b.b) || (eqb b.b b.a && is_heavy xs b.a)) h
    in
    elim (or_cases (eqb b.a b.a && is_heavy xs b.b) (eqb b.b b.a && is_heavy xs b.a) p.1) [
      | inl t ↦ false≢true (sym light ∙ (and_parts (eqb b.a b.a) (is_heavy xs b.b) t).1)
      | inr t ↦ apart (sym (eqb-true b.b b.a (and_parts (eqb b.b b.a) (is_heavy xs b.a) t).0))
    ]

both-stay : (goes : ℕ → Bool) (b : SketchBond) → goes b.a ≡ false → goes b.b ≡ false → stays goes b ≡ true
both-stay goes b p q = and_from (not (goes b.a)) (not (goes b.b)) (ap not p) (ap not q)

abbrev KeepsBonds : (ℕ → Bool) → ℕ → List SketchBond → Type 0
KeepsBonds goes x bonds = All (λ b. ends_at x b ≡ true → stays goes b ≡ true) bonds

hydrogen-keeps : (s : SketchTerm) (x : ℕ) → IsSound s → is_suppressed s x ≡ false → is_heavy s.atoms x ≡ false
    → KeepsBonds (is_suppressed s) x s.bonds
hydrogen-keeps s x sound stay light j d h ends =
    let b : SketchBond = get_or s.bonds j d in
    let range = bond-in_graph s.bonds (length s.atoms) j d sound.graph h in
    elim (or_cases (eqb b.a x) (eqb b.b x) ends) [
      | inl t ↦
          let e : b.a ≡ x = eqb-true b.a x t in
          let light' : is_heavy s.atoms b.a ≡ false = ap (is_heavy s.atoms) e ∙ light in
          both-stay (is_suppressed s) b (ap (is_suppressed s) e ∙ stay)
          (stays-by_bond s b.b j d h (or_right (eqb b.a b.b) (eqb b.b b.b) (eq-eqb b.b b.b refl))
          (light-first s.atoms b range.2 light'))
      | inr t ↦
          let e : b.b ≡ x = eqb-true b.b x t in
          let light' : is_heavy s.atoms b.b ≡ false = ap (is_heavy s.atoms) e ∙ light in
          both-stay (is_suppressed s) b
          (stays-by_bond s b.a j d h (or_left (eqb b.a b.a) (eqb b.b b.a) (eq-eqb b.a b.a refl))
          (light-second s.atoms b range.2 light'))
          (ap (is_suppressed s) e ∙ stay)
    ]

-- ---- so its bonds are the same at its new place

place-test : (goes : ℕ → Bool) (u v : ℕ) → goes u ≡ false → goes v ≡ false → eqb (new_place goes u) (new_place goes v)
    ≡ eqb u v
place-test goes u v p q = elim (cases_eq u v) [
  | inl e ↦ eq-eqb (new_place goes u) (new_place goes v) (ap (new_place goes) e) ∙ sym (eq-eqb u v e)
  | inr ne ↦ ne_eqb (new_place goes u) (new_place goes v) (λ e. ne (new_place-one goes u v p q e)) ∙ sym (ne_eqb u v ne)
]

stays-ends : (goes : ℕ → Bool) (b : SketchBond) → stays goes b ≡ true → (goes b.a ≡ false) × (goes b.b ≡ false)
stays-ends goes b h = let p = and_parts (not (goes b.a)) (not (goes b.b)) h in
    (not-true (goes b.a) p.0, not-true (goes b.b) p.1)

gone-apart : (goes : ℕ → Bool) (x : ℕ) (b : SketchBond) → stays goes b ≡ false
    → (ends_at x b ≡ true → stays goes b ≡ true) → ends_at x b ≡ false
gone-apart goes x b s keeps = false_from_ne_true (ends_at x b) (λ e. false≢true (sym s ∙ keeps e))

ends-test : (goes : ℕ → Bool) (x : ℕ) (b : SketchBond) → goes x ≡ false → stays goes b ≡ true
    → ends_at (new_place goes x) (renumbered (new_place goes) b) ≡ ends_at x b
ends-test goes x b p s =
    let q = stays-ends goes b s in
    ap (λ t. t || eqb (new_place goes b.b) (new_place goes x)) (place-test goes b.a x q.0 p)
    ∙ ap (λ t. eqb b.a x || t) (place-test goes b.b x q.1 p)

count-same : (goes : ℕ → Bool) (x : ℕ) (bs : List SketchBond) → goes x ≡ false → KeepsBonds goes x bs
    → count_by (ends_at (new_place goes x)) (staying_bonds goes (new_place goes) bs) ≡ count_by (ends_at x) bs
count-same goes x [] p keeps = refl
count-same goes x (b ∷ bs) p keeps =
    let K : SketchBond → Type 0 = λ b. ends_at x b ≡ true → stays goes b ≡ true in
    let f : SketchBond → ℕ = λ c. cond (ends_at (new_place goes x) c) 1 0 in
    let g : SketchBond → ℕ = λ c. cond (ends_at x c) 1 0 in
    let ren : SketchBond → SketchBond = renumbered (new_place goes) in
    let ih = count-same goes x bs p (All-tail K b bs keeps) in
    let opened : (t : Bool) → stays goes b ≡ t → sum_by f (staying_bonds goes (new_place goes) (b ∷ bs))
    ≡ sum_by f (map ren (cond t (b ∷ filter (stays goes) bs) (filter (stays goes) bs))) = λ t e.
    ap (λ t. sum_by f (map ren (cond t (b ∷ filter (stays goes) bs) (filter (stays goes) bs)))) e in
    elim (cases_Bool (stays goes b)) [
      | inl s ↦ opened true s ∙ sum_by-cons f (ren b) (staying_bonds goes (new_place goes) bs)
          ∙ ap (λ t. cond t 1 0 + count_by (ends_at (new_place goes x)) (staying_bonds goes (new_place goes) bs))
          (ends-test goes x b p s) ∙ ap (λ k. g b + k) ih ∙ sym (sum_by-cons g b bs)
      | inr s ↦
          let none : g b ≡ 0 = ap (λ t. cond t 1 0) (gone-apart goes x b s (All-head K b bs keeps)) in
          let e = opened false s in
          omega (arith, e, ih, none, sum_by-cons g b bs)
    ]

-- the atoms at both ends of a bond that stays are hydrogens there where they were here
abbrev SameHeavy : (ℕ → Bool) → List SketchAtom → List SketchAtom → SketchBond → Type 0
SameHeavy goes xs new b = stays goes b ≡ true → (is_heavy new (new_place goes b.a) ≡ is_heavy xs b.a)
    × (is_heavy new (new_place goes b.b) ≡ is_heavy xs b.b)

leads-test : (goes : ℕ → Bool) (xs new : List SketchAtom) (x : ℕ) (b : SketchBond) → goes x ≡ false
    → stays goes b ≡ true → SameHeavy goes xs new b
    → leads_to_heavy new (new_place goes x) (renumbered (new_place goes) b) ≡ leads_to_heavy xs x b
leads-test goes xs new x b p s heavy =
    let q = stays-ends goes b s in
    let r = heavy s in
    let k : Bool = is_single_kind b.kind in
    let place : ℕ → ℕ = new_place goes in
    ap (λ t. k && ((t && is_heavy new (place b.b)) || (eqb (place b.b) (place x) && is_heavy new (place b.a))))
    (place-test goes b.a x q.0 p)
    ∙ ap (λ t. k && ((eqb b.a x && is_heavy new (place b.b)) || (t && is_heavy new (place b.a))))
    (place-test goes b.b x q.1 p)
    ∙ ap (λ t. k && ((eqb b.a x && t) || (eqb b.b x && is_heavy new (place b.a)))) r.1
    ∙ ap (λ t. k && ((eqb b.a x && is_heavy xs b.b) || (eqb b.b x && t))) r.0

any-same : (goes : ℕ → Bool) (xs new : List SketchAtom) (x : ℕ) (bs : List SketchBond) → goes x ≡ false
    → KeepsBonds goes x bs → All (SameHeavy goes xs new) bs → list_any (leads_to_heavy new (new_place goes x))
    (staying_bonds goes (new_place goes) bs) ≡ list_any (leads_to_heavy xs x) bs
any-same goes xs new x [] p keeps heavy = refl
any-same goes xs new x (b ∷ bs) p keeps heavy =
    let K : SketchBond → Type 0 = λ b. ends_at x b ≡ true → stays goes b ≡ true in
    let f : SketchBond → Bool = leads_to_heavy new (new_place goes x) in
    let ren : SketchBond → SketchBond = renumbered (new_place goes) in
    let ih = any-same goes xs new x bs p (All-tail K b bs keeps) (All-tail (SameHeavy goes xs new) b bs heavy) in
    let opened : (t : Bool) → stays goes b ≡ t → list_any f (staying_bonds goes (new_place goes) (b ∷ bs))
    ≡ list_any f (map ren (cond t (b ∷ filter (stays goes) bs) (filter (stays goes) bs))) = λ t e.
    ap (λ t. list_any f (map ren (cond t (b ∷ filter (stays goes) bs) (filter (stays goes) bs)))) e in
    elim (cases_Bool (stays goes b)) [
      | inl s ↦ opened true s ∙ ap (λ t. t || list_any f (staying_bonds goes (new_place goes) bs))
          (leads-test goes xs new x b p s (All-head (SameHeavy goes xs new) b bs heavy))
          ∙ ap (λ t. leads_to_heavy xs x b || t) ih
      | inr s ↦
          let apart = gone-apart goes x b s (All-head K b bs keeps) in
          let none : leads_to_heavy xs x b ≡ false = false_from_ne_true (leads_to_heavy xs x b)
          (λ e. false≢true (sym apart ∙ leads-ends xs x b e)) in
          opened false s ∙ ih ∙ ap (λ t. t || list_any (leads_to_heavy xs x) bs) (sym none)
    ]

-- ---- so none goes when asked again

heavy-same : (goes : ℕ → Bool) (gain : ℕ → ℕ) (xs : List SketchAtom) (y : ℕ) → y < length xs → goes y ≡ false
    → is_heavy (staying_atoms goes gain xs) (new_place goes y) ≡ is_heavy xs y
heavy-same goes gain xs y h p =
    let test : SketchAtom → Bool = λ a. not (eqb a.number 1) in
    let new : List SketchAtom = staying_atoms goes gain xs in
    let within : new_place goes y < length new = omega (
      arith,
      length-staying goes gain xs,
      new_place-lt goes y (length xs) p h,
    ) in
    atom_is-at test new (new_place goes y) some_atom within ∙ ap test (staying-at goes gain xs y some_atom h p)
    ∙ sym (atom_is-at test xs y some_atom h)

none-at : (s : SketchTerm) (x : ℕ) → IsSound s → x < length s.atoms → is_suppressed s x ≡ false
    → is_suppressed (suppressed s) (new_place (is_suppressed s) x) ≡ false
none-at s x sound h p =
    let g : ℕ → Bool = is_suppressed s in
    let t : SketchTerm = suppressed s in
    let place : ℕ → ℕ = new_place g in
    let atom : SketchAtom = get_or s.atoms x some_atom in
    let within : place x < length t.atoms = omega (
      arith,
      length-staying g (gained s) s.atoms,
      new_place-lt g x (length s.atoms) p h,
    ) in
    let bare : atom_is is_plain_hydrogen t.atoms (place x) ≡ is_plain_hydrogen atom =
    atom_is-at is_plain_hydrogen t.atoms (place x) some_atom within
    ∙ ap is_plain_hydrogen (staying-at g (gained s) s.atoms x some_atom h p) in
    let old : atom_is is_plain_hydrogen s.atoms x ≡ is_plain_hydrogen atom =
    atom_is-at is_plain_hydrogen s.atoms x some_atom h in
    elim (cases_Bool (is_plain_hydrogen atom)) [
      | inr no_hydrogen ↦ and_left (atom_is is_plain_hydrogen t.atoms (place x))
          (eqb (degree (sketch_ends t) (place x)) 1 && list_any (leads_to_heavy t.atoms (place x)) t.bonds) (bare
          ∙ no_hydrogen)
      | inl hydrogen ↦
          let one = (and_parts (eqb atom.number 1) _ hydrogen).0 in
          let light : is_heavy s.atoms x ≡ false = atom_is-at (λ a. not (eqb a.number 1)) s.atoms x some_atom h
          ∙ ap not one in
          let keeps : KeepsBonds g x s.bonds = hydrogen-keeps s x sound p light in
          let heavy : All (SameHeavy g s.atoms t.atoms) s.bonds = λ k d l st.
          let range = bond-in_graph s.bonds (length s.atoms) k d sound.graph l in
          let ends = stays-ends g (get_or s.bonds k d) st in (
            heavy-same g (gained s) s.atoms (get_or s.bonds k d).a range.0 ends.0,
            heavy-same g (gained s) s.atoms (get_or s.bonds k d).b range.1 ends.1,
          ) in
          let deg : degree (sketch_ends t) (place x) ≡ degree (sketch_ends s) x = degree_is t.bonds (place x)
          ∙ count-same g x s.bonds p keeps ∙ sym (degree_is s.bonds x) in
          let any : list_any (leads_to_heavy t.atoms (place x)) t.bonds ≡ list_any (leads_to_heavy s.atoms x) s.bonds =
          any-same g s.atoms t.atoms x s.bonds p keeps heavy in
          ap (λ b. b && (eqb (degree (sketch_ends t) (place x)) 1 && list_any (leads_to_heavy t.atoms (place x))
          t.bonds)) (bare ∙ sym old)
          ∙ ap (λ k. atom_is is_plain_hydrogen s.atoms x
          && (eqb k 1 && list_any (leads_to_heavy t.atoms (place x)) t.bonds)) deg
          ∙ ap (λ b. atom_is is_plain_hydrogen s.atoms x && (eqb (degree (sketch_ends s) x) 1 && b)) any
          ∙ p
    ]

none-left : (s : SketchTerm) → IsSound s → (a : ℕ) → is_suppressed (suppressed s) a ≡ false
none-left s sound a =
    let t : SketchTerm = suppressed s in
    elim (cases_lt a (length t.atoms)) [
      | inl h ↦
          let o = place-of (is_suppressed s) a (length s.atoms)
          (omega (arith, length-staying (is_suppressed s) (gained s) s.atoms)) in
          subst (λ (k : ℕ). is_suppressed t k ≡ false) o.3 (none-at s o.0 sound o.1 o.2)
      | inr h ↦ ap (λ o. unwrap_or (option_map is_plain_hydrogen o) false
          && (eqb (degree (sketch_ends t) a) 1 && list_any (leads_to_heavy t.atoms a) t.bonds)) (slice_get_past t.atoms
          a h)
    ]

-- ---- where none goes all stays as it is

abbrev none : ℕ → Bool
none a = false

place-none : (a : ℕ) → new_place none a ≡ a
place-none zero = refl
place-none (suc a) =
    let z : suc a ≡ a + 1 = omega arith in
    let e : new_place none (a + 1) ≡ a + 1 = omega (arith, new_place-more none a, place-none a) in
    ap (new_place none) z ∙ e ∙ sym z

brings-none : (s t : Bool) → ((s && false) || (t && false)) ≡ false
brings-none true true = refl
brings-none true false = refl
brings-none false true = refl
brings-none false false = refl

gain-none : (a : ℕ) (bs : List SketchBond) → count_by (brings none a) bs ≡ 0
gain-none a [] = refl
gain-none a (b ∷ bs) =
    let f : SketchBond → ℕ = λ c. cond (brings none a c) 1 0 in
    let nothing : f b ≡ 0 = ap (λ t. cond t 1 0) (brings-none (eqb b.a a) (eqb b.b a)) in
    omega (arith, sum_by-cons f b bs, nothing, gain-none a bs)

atoms-none : (n : ℕ) (xs : List SketchAtom) → map (λ p. record p.1 { hydrogens = p.1.hydrogens + 0 })
    (filter (λ p. not (none p.0)) (enumerate_from n xs)) ≡ xs
atoms-none n [] = refl
atoms-none n (x ∷ xs) =
    let z : x.hydrogens + 0 ≡ x.hydrogens = omega arith in
    ap (λ k. record x { hydrogens = k } ∷ map (λ p. record p.1 { hydrogens = p.1.hydrogens + 0 })
    (filter (λ p. not (none p.0)) (enumerate_from (n + 1) xs))) z ∙ ap (λ ys. x ∷ ys) (atoms-none (n + 1) xs)

bonds-none : (bs : List SketchBond) → staying_bonds none (λ a. a) bs ≡ bs
bonds-none [] = refl
bonds-none (b ∷ bs) = ap (λ cs. b ∷ cs) (bonds-none bs)

suppressed-none : (t : SketchTerm) → ((a : ℕ) → is_suppressed t a ≡ false) → suppressed t ≡ t
suppressed-none t h =
    let g : is_suppressed t ≡ none = fun_ext h in
    let n : gained t ≡ (λ (a : ℕ). 0) = fun_ext (λ (a : ℕ). ap (λ (f : ℕ → Bool). count_by (brings f a) t.bonds) g
    ∙ gain-none a t.bonds) in
    let p : new_place none ≡ (λ (a : ℕ). a) = fun_ext place-none in
    same_sketch (suppressed t).atoms t.atoms (suppressed t).bonds t.bonds
    (ap (λ (f : ℕ → Bool). staying_atoms f (gained t) t.atoms) g ∙ ap (λ (f : ℕ → ℕ). staying_atoms none f t.atoms) n
    ∙ atoms-none 0 t.atoms)
    (ap (λ (f : ℕ → Bool). staying_bonds f (new_place f) t.bonds) g ∙ ap (λ (f : ℕ → ℕ). staying_bonds none f t.bonds) p
    ∙ bonds-none t.bonds)

-- where no atom is hydrogen without isotope and charge, none goes
pub suppressed-no_hydrogen : (s : SketchTerm) → list_any is_plain_hydrogen s.atoms ≡ false → suppressed s ≡ s
suppressed-no_hydrogen s without = suppressed-none s (λ a.
    let bare : atom_is is_plain_hydrogen s.atoms a ≡ false = elim (cases_lt a (length s.atoms)) [
      | inl h ↦ atom_is-at is_plain_hydrogen s.atoms a some_atom h
          ∙ false_from_ne_true (is_plain_hydrogen (get_or s.atoms a some_atom)) (λ yes.
          false≢true (sym without ∙ list_any_at is_plain_hydrogen s.atoms a some_atom h yes))
      | inr h ↦ ap (λ o. unwrap_or (option_map is_plain_hydrogen o) false) (slice_get_past s.atoms a h)
    ] in
    ap (λ t. t && (eqb (degree (sketch_ends s) a) 1 && list_any (leads_to_heavy s.atoms a) s.bonds)) bare)

pub twice-is-once : (s : SketchTerm) → IsSound s → suppressed (suppressed s) ≡ suppressed s
twice-is-once s sound = suppressed-none (suppressed s) (none-left s sound)
