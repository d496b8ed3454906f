-- Flags that are raised at the ends of bonds.
use Rattle.std.proofs.Common.{ℕ, ◌+◌, ◌<◌, ◌≡◌, ◌≢◌, Bool, true, false, not, eqb, ◌||◌, ◌&&◌, List, length, take, get_or, set, replicate, refl, ap, sym, ◌∙◌, inl, inr, arith, unwrap_or, option_map, count_by, ◌≤◌, below_more}
use Rattle.std.specs.List.{list_any}
use Rattle.std.proofs.lemmas.Bool.{cases_eq, cases_lt, eq-eqb, ne_eqb}
use Rattle.std.proofs.lemmas.List.{get_or-set_same, get_or-set_other, length-set, get_or-replicate, get_or_past, length-replicate}
use Rattle.std.proofs.lemmas.List.Folds.{list_any_more}
use Rattle.std.proofs.lemmas.Option.{slice_get-get_or, slice_get_past}
use Rattle.chem_core.specs.declared.sketch.SketchAtom.{SketchAtom}
use Rattle.chem_core.specs.declared.sketch.SketchBond.{SketchBond}
use Rattle.valence.specs.Suppressed.{is_single_kind, is_plain_hydrogen, is_heavy, is_suppressed, atom_is, leads_to_heavy}
use Rattle.valence.proofs.Sums.{degree_is}
use Rattle.chem_core.specs.Sketch.{SketchTerm, ends_at}
use Rattle.chem_core.specs.Graph.{degree}
use Rattle.chem_core.specs.Sound.{sketch_ends}

pub unset : (n a : ℕ) → get_or (replicate n false) a false ≡ false
unset n a = elim (cases_lt a n) [
  | inl h ↦ get_or-replicate n a false false h
  | inr h ↦ get_or_past (replicate n false) a false (omega (arith, length-replicate n false))
]

-- p raised at x, and q at y
abbrev pub raised : List Bool → ℕ → ℕ → Bool → Bool → List Bool
raised xs x y p q = set (set xs x (get_or xs x false || p)) y (get_or (set xs x (get_or xs x false || p)) y false || q)

or_false : (b : Bool) → (b || false) ≡ b
or_false true = refl
or_false false = refl

pub raised-at : (xs : List Bool) (x y : ℕ) (p q : Bool) (a : ℕ) → x < length xs → y < length xs → x ≢ y
    → get_or (raised xs x y p q) a false ≡ (get_or xs a false || ((eqb x a && p) || (eqb y a && q)))
raised-at xs x y p q a inx iny apart =
    let first : List Bool = set xs x (get_or xs x false || p) in
    let iny' : y < length first = omega (arith, length-set xs x (get_or xs x false || p)) in
    elim (cases_eq y a) [
      | inl e ↦
          let test : eqb y a ≡ true = eq-eqb y a e in
          let other : eqb x a ≡ false = ne_eqb x a (λ h. apart (h ∙ sym e)) in
          let new : get_or (set first y (get_or first y false || q)) a false ≡ (get_or first y false || q) =
          ap (λ k. get_or (set first y (get_or first y false || q)) k false) (sym e)
          ∙ get_or-set_same first y (get_or first y false || q) false iny' in
          let kept : get_or first y false ≡ get_or xs y false = get_or-set_other xs x y (get_or xs x false || p) false
          (λ h. apart (sym h)) in
          let here : get_or xs y false ≡ get_or xs a false = ap (λ k. get_or xs k false) e in
          rw (other, test) (new ∙ ap (λ k. k || q) (kept ∙ here))
      | inr ne ↦
          let test : eqb y a ≡ false = ne_eqb y a ne in
          let kept : get_or (set first y (get_or first y false || q)) a false ≡ get_or first a false =
          get_or-set_other first y a (get_or first y false || q) false (λ h. ne (sym h)) in
          elim (cases_eq x a) [
            | inl e ↦
                let there : eqb x a ≡ true = eq-eqb x a e in
                let new : get_or first a false ≡ (get_or xs a false || p) = ap (λ k. get_or first k false) (sym e)
                ∙ get_or-set_same xs x (get_or xs x false || p) false inx ∙ ap (λ k. get_or xs k false || p) e in
                rw (there, test) (kept ∙ new ∙ ap (λ k. get_or xs a false || k) (sym (or_false p)))
            | inr nx ↦
                let there : eqb x a ≡ false = ne_eqb x a nx in
                let old : get_or first a false ≡ get_or xs a false = get_or-set_other xs x a (get_or xs x false || p)
                false (λ h. nx (sym h)) in
                rw (there, test) (kept ∙ old ∙ sym (or_false (get_or xs a false)))
          ]
    ]

spread : (k s t g h : Bool) → ((s && (k && g)) || (t && (k && h))) ≡ (k && ((s && g) || (t && h)))
spread true s t g h = refl
spread false true true g h = refl
spread false true false g h = refl
spread false false true g h = refl
spread false false false g h = refl

pub atom_is-at : (p : SketchAtom → Bool) (atoms : List SketchAtom) (a : ℕ) (d : SketchAtom) → a < length atoms
    → atom_is p atoms a ≡ p (get_or atoms a d)
atom_is-at p atoms a d h = ap (λ o. unwrap_or (option_map p o) false) (slice_get-get_or atoms a d h)

-- the flags of one more bond
pub leads-more : (atoms : List SketchAtom) (xs : List Bool) (bonds : List SketchBond) (i : ℕ) (p q : Bool)
    (d : SketchBond) (e : SketchAtom) → i < length bonds → (get_or bonds i d).a < length xs
    → (get_or bonds i d).b < length xs → (get_or bonds i d).a < length atoms → (get_or bonds i d).b < length atoms
    → (get_or bonds i d).a ≢ (get_or bonds i d).b
    → p ≡ (is_single_kind (get_or bonds i d).kind && not (eqb (get_or atoms (get_or bonds i d).b e).number 1))
    → q ≡ (is_single_kind (get_or bonds i d).kind && not (eqb (get_or atoms (get_or bonds i d).a e).number 1))
    → ((a : ℕ) → get_or xs a false ≡ list_any (leads_to_heavy atoms a) (take i bonds)) → (a : ℕ)
    → get_or (raised xs (get_or bonds i d).a (get_or bonds i d).b p q) a false ≡ list_any (leads_to_heavy atoms a)
    (take (i + 1) bonds)
leads-more atoms xs bonds i p q d e h inx iny ina inb apart isp isq before a =
    let b : SketchBond = get_or bonds i d in
    let k : Bool = is_single_kind b.kind in
    let isp' : p ≡ (k && is_heavy atoms b.b) = isp
    ∙ ap (λ t. k && t) (sym (atom_is-at (λ x. not (eqb x.number 1)) atoms b.b e inb)) in
    let isq' : q ≡ (k && is_heavy atoms b.a) = isq
    ∙ ap (λ t. k && t) (sym (atom_is-at (λ x. not (eqb x.number 1)) atoms b.a e ina)) in
    let new : ((eqb b.a a && p) || (eqb b.b a && q)) ≡ leads_to_heavy atoms a b =
    ap (λ t. (eqb b.a a && t) || (eqb b.b a && q)) isp' ∙ ap (λ t. (eqb b.a a && (k && is_heavy atoms b.b))
    || (eqb b.b a && t)) isq' ∙ spread k (eqb b.a a) (eqb b.b a) (is_heavy atoms b.b) (is_heavy atoms b.a) in
    raised-at xs b.a b.b p q a inx iny apart ∙ ap (λ t. t || ((eqb b.a a && p) || (eqb b.b a && q))) (before a)
    ∙ ap (λ t. list_any (leads_to_heavy atoms a) (take i bonds) || t) new
    ∙ sym (list_any_more (leads_to_heavy atoms a) bonds i d h)

-- whether the atom at a place goes, by how many neighbours it has and whether one is reached by a plain bond and no
-- hydrogen
pub suppressed-within : (s : SketchTerm) (a : ℕ) (d : SketchAtom) {n : ℕ} {leads : Bool} → a < length s.atoms
    → n ≡ count_by (ends_at a) s.bonds → leads ≡ list_any (leads_to_heavy s.atoms a) s.bonds → is_suppressed s a
    ≡ (is_plain_hydrogen (get_or s.atoms a d) && (eqb n 1 && leads))
suppressed-within s a d {n} {leads} h isn isl =
    ap (λ t. t && (eqb (degree (sketch_ends s) a) 1 && list_any (leads_to_heavy s.atoms a) s.bonds))
    (atom_is-at is_plain_hydrogen s.atoms a d h)
    ∙ ap (λ k. is_plain_hydrogen (get_or s.atoms a d) && (eqb k 1 && list_any (leads_to_heavy s.atoms a) s.bonds))
    (degree_is s.bonds a ∙ sym isn)
    ∙ ap (λ t. is_plain_hydrogen (get_or s.atoms a d) && (eqb n 1 && t)) (sym isl)

pub known-more : (s : SketchTerm) (xs : List Bool) (i : ℕ) (v : Bool) → i < length xs → v ≡ is_suppressed s i
    → ((a : ℕ) → a < i → get_or xs a false ≡ is_suppressed s a) → (a : ℕ) → a < i + 1 → get_or (set xs i v) a false
    ≡ is_suppressed s a
known-more s xs i v within is before = below_more (λ a. get_or (set xs i v) a false ≡ is_suppressed s a) i
    (λ a h. let ne : a ≢ i = λ e. absurd (omega arith) in get_or-set_other xs i a v false ne ∙ before a h)
    (get_or-set_same xs i v false within ∙ is)

pub later-more : (xs : List Bool) (i : ℕ) (v : Bool) → ((a : ℕ) → i ≤ a → get_or xs a false ≡ false) → (a : ℕ)
    → i + 1 ≤ a → get_or (set xs i v) a false ≡ false
later-more xs i v before a h =
    let ne : a ≢ i = λ e. absurd (omega arith) in
    get_or-set_other xs i a v false ne ∙ before a (omega arith)

-- no atom past the last goes
pub suppressed-past : (s : SketchTerm) (xs : List Bool) (n : ℕ) → length s.atoms ≤ n
    → ((a : ℕ) → a < n → get_or xs a false ≡ is_suppressed s a) → ((a : ℕ) → n ≤ a → get_or xs a false ≡ false)
    → (a : ℕ) → get_or xs a false ≡ is_suppressed s a
suppressed-past s xs n end known later a = elim (cases_lt a n) [
  | inl h ↦ known a h
  | inr h ↦
      let none = slice_get_past s.atoms a (omega arith) in
      later a h ∙ sym (ap (λ o. unwrap_or (option_map is_plain_hydrogen o) false
      && (eqb (degree (sketch_ends s) a) 1 && list_any (leads_to_heavy s.atoms a) s.bonds)) none)
]
