-- One pair more: why it can be, and why it cannot.
use Rattle.std.proofs.Common.{◌≡◌, ℕ, ◌<◌, inl, inr, List, [], ◌∷◌, ◌++◌, length, get_or, slice_get, Option, Some, None, is_some, IfSome, IfNone, true, false, sym, ap, ◌∙◌, subst, arith, length-append}
use Rattle.std.proofs.lemmas.Bool.{cases_lt, false≢true}
use Rattle.std.proofs.lemmas.List.{map-append, get_or_append_left}
use Rattle.std.proofs.lemmas.Option.{slice_get-get_or, slice_get_within, get_or_from_slice_get}
use Rattle.chem_core.specs.declared.mol.Atom.{Atom}
use Rattle.chem_core.specs.declared.mol.BondKind.{BondKind}
use Rattle.chem_core.specs.Molecule.{Molecule, IsMolecule, ends_of}
use Rattle.exact_find.specs.Same.{HasBond, IsAlike}
use Rattle.exact_find.specs.Pairs.{IsMap, Extends, Has, IsPaired, flip, Carries, IsCarried, IsPartial}
use Rattle.exact_find.proofs.Flips.{flipped, has-old, has-last, has-either, last-at}
use Rattle.exact_find.proofs.Maps.{lies, joins, turned, some_one, map-back, alike-back}

pub refuse-paired : (m n : Molecule) (ps : List (ℕ × ℕ)) (a b : ℕ) → (IsPaired ps a → ⊥) → IsPaired (flip ps) b
    → Extends m n (ps ++ (a, b) ∷ []) → ⊥
refuse-paired m n ps a b free paired ext =
    let c : ℕ = paired.0 in
    let has : Has ps c b = (flipped ps).back c b paired.1 in
    let one : ext.f c ≡ b = ext.goes c b (has-old ps a b c b has) in
    let two : ext.f a ≡ b = ext.goes a b (has-last ps a b) in
    let same : c ≡ a = sym ((ext.is).back c) ∙ ap ext.g (one ∙ sym two) ∙ (ext.is).back a in
    free (b, subst (λ z. Has ps z b) same has)

pub refuse-alike : (m n : Molecule) (ps : List (ℕ × ℕ)) (a b : ℕ) (x y : Atom) → slice_get m.atoms a ≡ Some x
    → slice_get n.atoms b ≡ Some y → (IsAlike x y → ⊥) → Extends m n (ps ++ (a, b) ∷ []) → ⊥
refuse-alike m n ps a b x y one two none ext =
    let to = (ext.is).alike a x one in
    let at : slice_get n.atoms b ≡ Some to.0 = ap (slice_get n.atoms) (sym (ext.goes a b (has-last ps a b))) ∙ to.1 in
    none (subst (IsAlike x) (some_one to.0 y (sym at ∙ two)) to.2)

pub refuse-carried : (m n : Molecule) (ps : List (ℕ × ℕ)) (a b : ℕ) → (IsCarried m n ps a b → ⊥)
    → Extends m n (ps ++ (a, b) ∷ []) → ⊥
refuse-carried m n ps a b none ext = none (λ c d kind has bond.
    subst (λ z. HasBond n z d kind) (ext.goes a b (has-last ps a b))
    (subst (λ z. HasBond n (ext.f a) z kind) (ext.goes c d (has-old ps a b c d has)) ((ext.is).kept a c kind bond)))

pub refuse-back : (m n : Molecule) (ps : List (ℕ × ℕ)) (a b : ℕ) → IsMolecule m → (IsCarried n m (flip ps) b a → ⊥)
    → Extends m n (ps ++ (a, b) ∷ []) → ⊥
refuse-back m n ps a b is none ext = none (λ c d kind has bond.
    let back : IsMap n m ext.g ext.f = map-back m n ext.f ext.g is ext.is in
    let old : ext.f d ≡ c = ext.goes d c (has-old ps a b d c ((flipped ps).back d c has)) in
    let one : ext.g b ≡ a = ap ext.g (sym (ext.goes a b (has-last ps a b))) ∙ (ext.is).back a in
    let two : ext.g c ≡ d = ap ext.g (sym old) ∙ (ext.is).back d in
    subst (λ z. HasBond m z d kind) one (subst (λ z. HasBond m (ext.g b) z kind) two (back.kept b c kind bond)))

no_loop : (m : Molecule) (a : ℕ) (kind : BondKind) → IsMolecule m → HasBond m a a kind → ⊥
no_loop m a kind is has =
    let at = lies m a a kind has in
    let none : ℕ × ℕ = (0, 0) in
    let stop : slice_get (ends_of m) at.0 ≡ Some (a, a) → ⊥ = λ read.
    let same : get_or (ends_of m) at.0 none ≡ (a, a) = get_or_from_slice_get (ends_of m) at.0 (a, a) none read in
    is.graph.distinct at.0 none (slice_get_within (ends_of m) at.0 (a, a) read)
    (ap (λ (e : ℕ × ℕ). e.0) same ∙ sym (ap (λ (e : ℕ × ℕ). e.1) same)) in
    elim (joins m at.0 a a kind at.1) [ inl one ↦ stop one | inr other ↦ stop other ]

pub grow-carries : (m n : Molecule) (ps : List (ℕ × ℕ)) (a b : ℕ) (x y : Atom) → IsMolecule m
    → slice_get m.atoms a ≡ Some x → slice_get n.atoms b ≡ Some y → IsAlike x y → (IsPaired ps a → ⊥)
    → IsCarried m n ps a b → Carries m n ps → Carries m n (ps ++ (a, b) ∷ [])
grow-carries m n ps a b x y is one two like free carried old = record {
  one = λ c d e h l.
      elim (has-either ps a b c d h) [
        | inl s ↦ elim (has-either ps a b c e l) [
          | inl t ↦ old.one c d e s t
          | inr t ↦ absurd (free (d, subst (λ z. Has ps z d) (sym t.0) s))
        ]
        | inr s ↦ elim (has-either ps a b c e l) [
          | inl t ↦ absurd (free (e, subst (λ z. Has ps z e) (sym s.0) t))
          | inr t ↦ sym s.1 ∙ t.1
        ]
      ];
  alike = λ c d h.
      elim (has-either ps a b c d h) [
        | inl s ↦ old.alike c d s
        | inr s ↦ (x, ap (slice_get m.atoms) (sym s.0) ∙ one, y, ap (slice_get n.atoms) (sym s.1) ∙ two, like)
      ];
  kept = λ c d e f kind h l bond.
      elim (has-either ps a b c d h) [
        | inl s ↦ elim (has-either ps a b e f l) [
          | inl t ↦ old.kept c d e f kind s t bond
          | inr t ↦ subst (λ z. HasBond n d z kind) t.1 (turned n b d kind
              (carried c d kind s (turned m c a kind (subst (λ z. HasBond m c z kind) (sym t.0) bond))))
        ]
        | inr s ↦ elim (has-either ps a b e f l) [
          | inl t ↦ subst (λ z. HasBond n z f kind) s.1
              (carried e f kind t (subst (λ z. HasBond m z e kind) (sym s.0) bond))
          | inr t ↦ absurd (no_loop m a kind is (subst (λ z. HasBond m z a kind) (sym s.0)
              (subst (λ z. HasBond m c z kind) (sym t.0) bond)))
        ]
      ];
}

flip-more : (ps : List (ℕ × ℕ)) (a b : ℕ) → flip (ps ++ (a, b) ∷ []) ≡ flip ps ++ (b, a) ∷ []
flip-more ps a b = map-append (λ (p : ℕ × ℕ). let q : ℕ × ℕ = (p.1, p.0) in q) ps ((a, b) ∷ [])

pub grow : (m n : Molecule) (ps : List (ℕ × ℕ)) (a b : ℕ) (x y : Atom) → IsMolecule m → IsMolecule n
    → slice_get m.atoms a ≡ Some x → slice_get n.atoms b ≡ Some y → IsAlike x y → (IsPaired ps a → ⊥)
    → (IsPaired (flip ps) b → ⊥) → IsCarried m n ps a b → IsCarried n m (flip ps) b a → IsPartial m n ps
    → IsPartial m n (ps ++ (a, b) ∷ [])
grow m n ps a b x y is too one two like free free_back carried carried_back old = record {
  apart = λ i j less within same.
      let long = length-append ps ((a, b) ∷ []) in
      let left : get_or (ps ++ (a, b) ∷ []) i (0, 0) ≡ get_or ps i (0, 0) =
      get_or_append_left ps ((a, b) ∷ []) (0, 0) i (omega arith) in
      elim (cases_lt j (length ps)) [
        | inl inside ↦ old.apart i j less inside (ap (λ (p : ℕ × ℕ). p.0) (sym left) ∙ same
            ∙ ap (λ (p : ℕ × ℕ). p.0) (get_or_append_left ps ((a, b) ∷ []) (0, 0) j inside))
        | inr past ↦
            let at : j ≡ length ps = omega arith in
            let last : get_or (ps ++ (a, b) ∷ []) j (0, 0) ≡ (a, b) =
            ap (λ k. get_or (ps ++ (a, b) ∷ []) k (0, 0)) at ∙ last-at ps a b in
            let equal : (get_or ps i (0, 0)).0 ≡ a = ap (λ (p : ℕ × ℕ). p.0) (sym left) ∙ same
            ∙ ap (λ (p : ℕ × ℕ). p.0) last in
            let pair : ℕ × ℕ = get_or ps i (0, 0) in
            free (pair.1, (i, omega arith, ap (λ (z : ℕ). let p : ℕ × ℕ = (z, pair.1) in p) equal))
      ];
  there = grow-carries m n ps a b x y is one two like free carried old.there;
  back = subst (Carries n m) (sym (flip-more ps a b))
      (grow-carries n m (flip ps) b a y x too two one (alike-back x y like) free_back carried_back old.back);
}

-- an atom that is read
pub read_at : (xs ys : List Atom) (i j : ℕ) (none : Atom) → ys ≡ xs → j ≡ i → i < length xs
    → slice_get xs i ≡ Some (get_or ys j none)
read_at xs ys i j none same at within =
    slice_get-get_or xs i none within ∙ ap (λ (k : ℕ). Some (get_or xs k none)) (sym at)
    ∙ ap (λ (zs : List Atom). Some (get_or zs j none)) (sym same)

pub some_value : (r : Option ℕ) (P : ℕ → Type 0) → is_some r ≡ true → IfSome r P → (x : ℕ) × P x
some_value None P is fact = absurd (false≢true is)
some_value (Some x) P is fact = (x, fact)

pub none_value : (r : Option ℕ) (P : Type 0) → is_some r ≡ false → IfNone r P → P
none_value None P is fact = fact
none_value (Some x) P is fact = absurd (false≢true (sym is))
