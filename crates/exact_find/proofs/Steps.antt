-- Pairs of whole components can stay: a map that goes on from the pairs before can be changed to one that goes on from
-- them.
use Rattle.std.proofs.Common.{◌≡◌, ℕ, ◌⊎◌, inl, inr, Bool, true, false, cond, pos, List, length, get_or, slice_get, Some, refl, sym, ap, ◌∙◌, subst}
use Rattle.std.proofs.lemmas.Bool.{cases_Bool, false≢true}
use Rattle.std.proofs.lemmas.Option.{slice_get-get_or, slice_get_within}
use Rattle.chem_core.specs.declared.mol.Atom.{Atom}
use Rattle.chem_core.specs.declared.mol.BondKind.{BondKind}
use Rattle.chem_core.specs.Molecule.{Molecule, IsMolecule}
use Rattle.exact_find.specs.Same.{HasBond, IsAlike}
use Rattle.exact_find.specs.Pairs.{IsMap, Extends, Has, IsPaired, Carries, IsLevel, IsPart}
use Rattle.exact_find.proofs.Onto.{find_below}
use Rattle.exact_find.proofs.Exchange.{Parts, changed, changed-in, changed-met, changed-out, changed-back, changed-kept}
use Rattle.exact_find.proofs.Maps.{turned, some_one, alike-along, map-back}

-- whether an atom is in a pair
abbrev pub Decided : Type 0 → Type 0
Decided A = A ⊎ (A → ⊥)

pub find : (ps : List (ℕ × ℕ)) (a : ℕ) → Decided (IsPaired ps a)
find ps a =
    elim (find_below (λ i. (get_or ps i (0, 0)).0) a (length ps)) [
      | inl at ↦ inl (
        (get_or ps at.0 (0, 0)).1,
        (at.0, at.1, ap (λ (x : ℕ). let p : ℕ × ℕ = (x, (get_or ps at.0 (0, 0)).1) in p) at.2),
      )
      | inr none ↦ inr (λ has. none has.1.0 has.1.1 (ap (λ (p : ℕ × ℕ). p.0) has.1.2))
    ]

-- in a pair of the second list alone
is_new : {A B : Type 0} → Decided A → Decided B → Bool
is_new (inl a) (inl b) = false
is_new (inl a) (inr b) = true
is_new (inr a) b = false

new-yes : {A B : Type 0} (x : Decided A) (y : Decided B) → is_new x y ≡ true → A × (B → ⊥)
unfolding is_new
new-yes (inl a) (inl b) is = absurd (false≢true is)
new-yes (inl a) (inr b) is = (a, b)
new-yes (inr a) y is = absurd (false≢true is)

new-is : {A B : Type 0} (x : Decided A) (y : Decided B) → A → (B → ⊥) → is_new x y ≡ true
unfolding is_new
new-is (inl a) (inl b) one none = absurd (none b)
new-is (inl a) (inr b) one none = refl
new-is (inr a) y one none = absurd (a one)

new-no : {A B : Type 0} (x : Decided A) (y : Decided B) → is_new x y ≡ false → A → B
unfolding is_new
new-no (inl a) (inl b) is one = b
new-no (inl a) (inr b) is one = absurd (false≢true (sym is))
new-no (inr a) y is one = absurd (a one)

new-old : {A B : Type 0} (x : Decided A) (y : Decided B) → B → is_new x y ≡ false
unfolding is_new
new-old (inl a) (inl b) old = refl
new-old (inl a) (inr b) old = absurd (b old)
new-old (inr a) y old = refl

new-none : {A B : Type 0} (x : Decided A) (y : Decided B) → (A → ⊥) → is_new x y ≡ false
unfolding is_new
new-none (inl a) (inl b) none = refl
new-none (inl a) (inr b) none = absurd (none a)
new-none (inr a) y none = refl

-- the atom's partner, or itself
partner_of : (ps : List (ℕ × ℕ)) (a : ℕ) → Decided (IsPaired ps a) → ℕ
partner_of ps a (inl at) = at.0
partner_of ps a (inr none) = a

pub partner : List (ℕ × ℕ) → ℕ → ℕ
partner ps a = partner_of ps a (find ps a)

pub has_partner : (ps : List (ℕ × ℕ)) (a : ℕ) → IsPaired ps a → Has ps a (partner ps a)
unfolding partner partner_of
has_partner ps a paired =
    elim (find ps a) as (λ x. Has ps a (partner_of ps a x)) [
      | inl at ↦ at.1
      | inr none ↦ absurd (none paired)
    ]

pub test : List (ℕ × ℕ) → List (ℕ × ℕ) → ℕ → Bool
test ps qs a = is_new (find qs a) (find ps a)

-- one list has the pairs of the other the other way round
pub record Turned (ps sp : List (ℕ × ℕ)) : Type 0 where
  pub there : (a b : ℕ) → Has ps a b → Has sp b a
  pub back : (a b : ℕ) → Has sp b a → Has ps a b

-- what the lists before and after say of both molecules
pub record Sides (m n : Molecule) (ps qs sp sq : List (ℕ × ℕ)) (f g : ℕ → ℕ) : Type 0 where
  pub before : Turned ps sp
  pub after : Turned qs sq
  pub carries : Carries m n qs
  pub back : Carries n m sq
  pub is : IsMap m n f g
  pub goes : (a b : ℕ) → Has ps a b → f a ≡ b

sides-back : (m n : Molecule) (ps qs sp sq : List (ℕ × ℕ)) (f g : ℕ → ℕ) → IsMap n m g f
    → Sides m n ps qs sp sq f g → Sides n m sp sq ps qs g f
sides-back m n ps qs sp sq f g is s = record {
  before = record { there = λ a b h. s.before.back b a h; back = λ a b h. s.before.there b a h };
  after = record { there = λ a b h. s.after.back b a h; back = λ a b h. s.after.there b a h };
  carries = s.back;
  back = s.carries;
  is = is;
  goes = λ b a h. ap g (sym (s.goes a b (s.before.back a b h))) ∙ (s.is).back a;
}

-- whether the map takes an atom to a new one says the same of atoms that a bond joins
level-back : (m n : Molecule) (ps qs sp sq : List (ℕ × ℕ)) (f g : ℕ → ℕ) (start : ℕ)
    → IsMap n m g f → Sides m n ps qs sp sq f g → IsPart m ps qs start → IsLevel n sp (λ y. test ps qs (g y))
unfolding test
level-back m n ps qs sp sq f g start all s left = λ x y kind bond one two.
    let free : (z : ℕ) → (IsPaired sp z → ⊥) → IsPaired ps (g z) → ⊥ = λ z none paired.
    none (
      g z,
      s.before.there (g z) z
          (subst (Has ps (g z)) (sym (s.goes (g z) paired.0 paired.1) ∙ (s.is).forth z) paired.1),
    ) in
    let there : HasBond m (g x) (g y) kind = all.kept x y kind bond in
    let along : (u v : ℕ) → HasBond m u v kind → (IsPaired ps u → ⊥) → (IsPaired ps v → ⊥) → test ps qs u ≡ true
    → test ps qs v ≡ true = λ u v b p q yes'.
    new-is (find qs v) (find ps v) (left.closed u v kind (new-yes (find qs u) (find ps u) yes').0 p b) q in
    elim (cases_Bool (test ps qs (g x))) [
      | inl yes' ↦ yes' ∙ sym (along (g x) (g y) there (free x one) (free y two) yes')
      | inr no' ↦ elim (cases_Bool (test ps qs (g y))) [
        | inl yes' ↦ absurd (false≢true (sym no'
            ∙ along (g y) (g x) (turned m (g x) (g y) kind there) (free y two) (free x one) yes'))
        | inr none ↦ no' ∙ sym none
      ]
    ]

parts : (m n : Molecule) (ps qs sp sq : List (ℕ × ℕ)) (f g : ℕ → ℕ) (start begin : ℕ)
    → IsMap n m g f → Sides m n ps qs sp sq f g → IsPart m ps qs start → IsPart n sp sq begin
    → Parts BondKind (HasBond m) (HasBond n) f g (partner qs) (partner sq) (test ps qs) (test sp sq)
unfolding test
parts m n ps qs sp sq f g start begin all s left right =
    let fresh : (x : ℕ) → test ps qs x ≡ true → IsPaired qs x × (IsPaired ps x → ⊥) =
    λ x yes'. new-yes (find qs x) (find ps x) yes' in
    let has : (x : ℕ) → IsPaired qs x → Has qs x (partner qs x) = has_partner qs in
    -- pairs before are pairs after, and the map goes along them
    let old : (x : ℕ) → IsPaired ps x → Has qs x (f x) = λ x paired.
    subst (Has qs x) (sym (s.goes x paired.0 paired.1)) (left.more x paired.0 paired.1) in
    let met : (x : ℕ) → IsPaired ps x → IsPaired sp (f x) = λ x paired.
    (x, s.before.there x (f x) (subst (Has ps x) (sym (s.goes x paired.0 paired.1)) paired.1)) in
    let level : IsLevel n sp (λ y. test ps qs (g y)) =
    level-back m n ps qs sp sq f g start all s left in
    record {
      back = (s.is).back;
      here = λ x yes'.
          let at = fresh x yes' in
          let there : Has qs x (partner qs x) = has x at.0 in
          new-is (find sq (partner qs x)) (find sp (partner qs x)) (x, s.after.there x (partner qs x) there)
          (λ old'. at.1 (
            partner qs x,
            subst (λ z. Has ps z (partner qs x))
                (s.back.one (partner qs x) old'.0 x
                (s.after.there old'.0 (partner qs x) (left.more old'.0 (partner qs x) (s.before.back old'.0 (partner qs x) old'.1)))
                (s.after.there x (partner qs x) there))
                (s.before.back old'.0 (partner qs x) old'.1),
          ));
      home = λ x yes'.
          let there : Has sq (partner qs x) x = s.after.there x (partner qs x) (has x (fresh x yes').0) in
          s.back.one (partner qs x) (partner sq (partner qs x)) x (has_partner sq (partner qs x) (x, there)) there;
      whole = λ x no' yes'.
          elim (cases_Bool (test sp sq (f (partner sq (f x))))) [
            | inr out ↦ out
            | inl too ↦
                let z : ℕ = partner sq (f x) in
                let one = new-yes (find sq (f x)) (find sp (f x)) yes' in
                let two = new-yes (find sq (f z)) (find sp (f z)) too in
                let there : Has qs z (f x) = s.after.back z (f x) (has_partner sq (f x) one.0) in
                let inside : test ps qs z ≡ true = new-is (find qs z) (find ps z) (f x, there)
                (λ paired. one.1 (subst (IsPaired sp) (s.carries.one z (f z) (f x) (old z paired) there)
                (met z paired))) in
                let equal : test ps qs (g (f x)) ≡ test ps qs (g (f z)) =
                right.joined (λ y. test ps qs (g y)) level (f x) one.0 one.1
                ∙ sym (right.joined (λ y. test ps qs (g y)) level (f z) two.0 two.1) in
                absurd (false≢true (sym no' ∙ ap (test ps qs) (sym ((s.is).back x)) ∙ equal
                ∙ ap (test ps qs) ((s.is).back z) ∙ inside))
          ];
      kept = (s.is).kept;
      inside = λ x y kind one two bond.
          s.carries.kept x (partner qs x) y (partner qs y) kind (has x (fresh x one).0) (has y (fresh y two).0) bond;
      edge = λ x y kind one no' bond.
          let at = fresh x one in
          let paired : IsPaired ps y = new-no (find qs y) (find ps y) no' (left.closed x y kind at.0 at.1 bond) in
          s.carries.kept x (partner qs x) y (f y) kind (has x at.0) (old y paired) bond;
      closed = λ x y kind one no' bond.
          let at = fresh x one in
          let paired : IsPaired ps y = new-no (find qs y) (find ps y) no' (left.closed x y kind at.0 at.1 bond) in
          new-old (find sq (f y)) (find sp (f y)) (met y paired);
      turned = turned m;
    }

-- bonds among atoms that are carried have partners' bonds, so what hangs together here hangs together there
pub joined-back : (m n : Molecule) (ps qs sp sq : List (ℕ × ℕ)) (start begin : ℕ) → Turned ps sp → Turned qs sq
    → Carries m n qs → Carries n m sq → IsPart m ps qs start → Has qs start begin → (IsPaired ps start → ⊥)
    → (s : ℕ → Bool) → IsLevel n sp s → (b : ℕ) → IsPaired sq b → (IsPaired sp b → ⊥) → s b ≡ s begin
unfolding test
joined-back m n ps qs sp sq start begin before after carries back left first new s level b paired none =
    let t : ℕ → Bool = λ x. cond (test ps qs x) (s (partner qs x)) false in
    let at : (x : ℕ) → IsPaired qs x → (IsPaired ps x → ⊥) → (y : ℕ) → Has qs x y → t x ≡ s y =
    λ x one two y has.
    ap (λ c. cond c (s (partner qs x)) false) (new-is (find qs x) (find ps x) one two)
    ∙ ap s (carries.one x (partner qs x) y (has_partner qs x one) has) in
    let free : (x y : ℕ) → Has qs x y → (IsPaired ps x → ⊥) → IsPaired sp y → ⊥ = λ x y has out in'.
    out (
      y,
      subst (λ z. Has ps z y) (back.one y in'.0 x (after.there in'.0 y (left.more in'.0 y
          (before.back in'.0 y in'.1))) (after.there x y has)) (before.back in'.0 y in'.1),
    ) in
    let along : (x y : ℕ) (kind : BondKind) → HasBond m x y kind → (IsPaired ps x → ⊥) → (IsPaired ps y → ⊥)
    → IsPaired qs x → t x ≡ t y = λ x y kind bond p q one.
    let two : IsPaired qs y = left.closed x y kind one p bond in
    let u = has_partner qs x one in
    let v = has_partner qs y two in
    at x one p (partner qs x) u
    ∙ level (partner qs x) (partner qs y) kind (carries.kept x (partner qs x) y (partner qs y) kind u v bond)
    (free x (partner qs x) u p) (free y (partner qs y) v q)
    ∙ sym (at y two q (partner qs y) v) in
    let even : IsLevel m ps t = λ x y kind bond p q.
    elim (find qs x) [
      | inl one ↦ along x y kind bond p q one
      | inr off ↦ elim (find qs y) [
        | inl two ↦ sym (along y x kind (turned m x y kind bond) q p two)
        | inr out ↦ ap (λ c. cond c (s (partner qs x)) false) (new-none (find qs x) (find ps x) off)
            ∙ sym (ap (λ c. cond c (s (partner qs y)) false) (new-none (find qs y) (find ps y) out))
      ]
    ] in
    let has : Has qs paired.0 b = after.back paired.0 b paired.1 in
    let out : IsPaired ps paired.0 → ⊥ = λ in'.
    none (
      paired.0,
      before.there paired.0 b (subst (Has ps paired.0)
          (carries.one paired.0 in'.0 b (left.more paired.0 in'.0 in'.1) has) in'.1),
    ) in
    sym (at paired.0 (b, has) out b has) ∙ left.joined t even paired.0 (b, has) out
    ∙ at start (begin, first) new begin first

-- where the map that is changed takes an atom, which is alike
changed-alike : (m n : Molecule) (ps qs sp sq : List (ℕ × ℕ)) (f g : ℕ → ℕ)
    → Sides m n ps qs sp sq f g → Sides n m sp sq ps qs g f → (a : ℕ) (x : Atom) → slice_get m.atoms a ≡ Some x
    → (y : Atom) × (slice_get n.atoms (changed f (partner qs) (partner sq) (test ps qs) (test sp sq) a) ≡ Some y)
    × IsAlike x y
unfolding test
changed-alike m n ps qs sp sq f g s t a x at =
    let h : ℕ → ℕ = partner qs in
    let k : ℕ → ℕ = partner sq in
    let d : ℕ → Bool = test ps qs in
    let e : ℕ → Bool = test sp sq in
    let To : ℕ → Type 0 = λ b. (y : Atom) × (slice_get n.atoms b ≡ Some y) × IsAlike x y in
    elim (cases_Bool (d a)) [
      | inl yes' ↦
          let to = s.carries.alike a (h a) (has_partner qs a (new-yes (find qs a) (find ps a) yes').0) in
          let same : to.0 ≡ x = some_one to.0 x (sym to.1 ∙ at) in
          subst To (sym (changed-in f h k d e a yes')) (to.2, to.3, subst (λ z. IsAlike z to.2) same to.4)
      | inr no' ↦ elim (cases_Bool (e (f a))) [
        | inl met ↦
            let one = (s.is).alike a x at in
            let two = t.carries.alike (f a) (k (f a)) (has_partner sq (f a) (new-yes (find sq (f a)) (find sp (f a)) met).0)
            in
            let same : two.0 ≡ one.0 = some_one two.0 one.0 (sym two.1 ∙ one.1) in
            let three = (s.is).alike (k (f a)) two.2 two.3 in
            subst To (sym (changed-met f h k d e a no' met)) (
              three.0,
              three.1,
              alike-along x one.0 three.0 one.2
                  (alike-along one.0 two.2 three.0 (subst (λ z. IsAlike z two.2) same two.4) three.2),
            )
        | inr free ↦ subst To (sym (changed-out f h k d e a no' free)) ((s.is).alike a x at)
      ]
    ]

-- a map that goes on from the pairs before can be changed to one that goes on from those after
pub exchange : (m n : Molecule) (ps qs sp sq : List (ℕ × ℕ)) (start begin : ℕ) → IsMolecule m
    → Turned ps sp → Turned qs sq → Carries m n qs → Carries n m sq → IsPart m ps qs start → IsPart n sp sq begin
    → Extends m n ps → Extends m n qs
unfolding test
exchange m n ps qs sp sq start begin ok before after carries back left right ext =
    let f : ℕ → ℕ = ext.f in
    let g : ℕ → ℕ = ext.g in
    let inverse : IsMap n m g f = map-back m n f g ok ext.is in
    let s : Sides m n ps qs sp sq f g = record {
      before = before;
      after = after;
      carries = carries;
      back = back;
      is = ext.is;
      goes = ext.goes;
    } in
    let t : Sides n m sp sq ps qs g f = sides-back m n ps qs sp sq f g inverse s in
    let p = parts m n ps qs sp sq f g start begin inverse s left right in
    let q = parts n m sp sq ps qs g f begin start ext.is t right left in
    let d : ℕ → Bool = test ps qs in
    let e : ℕ → Bool = test sp sq in
    let h : ℕ → ℕ = partner qs in
    let k : ℕ → ℕ = partner sq in
    let there : ℕ → ℕ = changed f h k d e in
    let home : ℕ → ℕ = changed g k h e d in
    record {
      f = there;
      g = home;
      is = record {
        atoms = (ext.is).atoms;
        bonds = (ext.is).bonds;
        within = λ a in'.
            let none : Atom = record { number = 0; isotope = 0; charge = pos 0; hydrogens = 0; aromatic = false; valence = 0 }
            in
            let to = changed-alike m n ps qs sp sq f g s t a (get_or m.atoms a none)
            (slice_get-get_or m.atoms a none in') in
            slice_get_within n.atoms (there a) to.0 to.1;
        within_back = λ b in'.
            let none : Atom = record { number = 0; isotope = 0; charge = pos 0; hydrogens = 0; aromatic = false; valence = 0 }
            in
            let to = changed-alike n m sp sq ps qs g f t s b (get_or n.atoms b none)
            (slice_get-get_or n.atoms b none in') in
            slice_get_within m.atoms (home b) to.0 to.1;
        back = changed-back BondKind (HasBond m) (HasBond n) f g h k d e p q;
        forth = changed-back BondKind (HasBond n) (HasBond m) g f k h e d q p;
        alike = λ a x at. changed-alike m n ps qs sp sq f g s t a x at;
        kept = changed-kept BondKind (HasBond m) (HasBond n) f g h k d e p q;
      };
      goes = λ a b has.
          elim (cases_Bool (d a)) [
            | inl yes' ↦ changed-in f h k d e a yes' ∙ carries.one a (h a) b (has_partner qs a (b, has)) has
            | inr no' ↦
                let paired : IsPaired ps a = new-no (find qs a) (find ps a) no' (b, has) in
                let goes : f a ≡ paired.0 = ext.goes a paired.0 paired.1 in
                let out : e (f a) ≡ false = new-old (find sq (f a)) (find sp (f a))
                (a, before.there a (f a) (subst (Has ps a) (sym goes) paired.1)) in
                changed-out f h k d e a no' out ∙ goes
                ∙ carries.one a paired.0 b (left.more a paired.0 paired.1) has
          ];
    }
