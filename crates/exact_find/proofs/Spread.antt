-- Levels are spread along bonds: the first atom, one atom more, and the next atom of the list.
use Rattle.std.proofs.Common.{◌≡◌, ◌≢◌, ℕ, ◌+◌, ◌<◌, ◌≤◌, ◌⊎◌, inl, inr, List, length, take, set, get_or, refl, sym, ap, ◌∙◌, subst, arith}
use Rattle.std.proofs.lemmas.Bool.{cases_lt, cases_eq}
use Rattle.std.proofs.lemmas.List.{get_or-set_same, get_or-set_other, get_or-take, length-take-le}
use Rattle.chem_core.specs.declared.mol.BondKind.{BondKind}
use Rattle.chem_core.specs.Graph.{AreNeighbours}
use Rattle.chem_core.specs.Molecule.{Molecule, IsMolecule, ends_of}
use Rattle.exact_find.specs.declared.levels.TheConstants.{FAR, IN_PAIR}
use Rattle.exact_find.specs.Same.{HasBond}
use Rattle.exact_find.specs.Levels.{AreFree, IsReached, IsSpread}
use Rattle.exact_find.proofs.Images.{bond_within}
use Rattle.exact_find.proofs.Near.{near_each}
use Rattle.exact_find.proofs.Onto.{IsOneToOne, onto, one_to_one-le}

pub spread-few : (m : Molecule) (start : ℕ) (initial L q : List ℕ) (at last : ℕ) → IsSpread m start initial L q at last
    → last ≤ length m.atoms
spread-few m start initial L q at last s =
    one_to_one-le last (length m.atoms) (λ i. get_or q i 0) (record { within = s.within; apart = s.apart })

-- where an atom is not reached, there is room for it in the list
pub spread-room : (m : Molecule) (start : ℕ) (initial L q : List ℕ) (at last y : ℕ) → y < length m.atoms
    → get_or L y 0 ≡ FAR → IsSpread m start initial L q at last → last < length m.atoms
spread-room m start initial L q at last y inside far s =
    let few = s.sound.graph.few_atoms in
    let f : ℕ → ℕ = λ i. get_or q i 0 in
    let below = spread-few m start initial L q at last s in
    elim (cases_lt last (length m.atoms)) [
      | inl h ↦ h
      | inr past ↦
          let same : last ≡ length m.atoms = omega arith in
          let one : IsOneToOne last (length m.atoms) f = record { within = s.within; apart = s.apart } in
          let met = onto f (length m.atoms) y (subst (λ k. IsOneToOne k (length m.atoms) f) same one) inside in
          let low = s.low met.0 (subst (λ k. met.0 < k) (sym same) met.1) in
          let equal : get_or L (f met.0) 0 ≡ get_or L y 0 = ap (λ x. get_or L x 0) met.2 in
          absurd (omega (arith, low, equal, far, met.1))
    ]

-- what is reached is in the list, so its level is at most one above that of the atom at hand
pub spread-seen : (m : Molecule) (start : ℕ) (initial L q : List ℕ) (at last y : ℕ) → at < last → y < length m.atoms
    → get_or L y 0 ≢ FAR → IsSpread m start initial L q at last
    → (get_or L y 0 ≡ IN_PAIR) ⊎ (get_or L y 0 ≤ get_or L (get_or q at 0) 0 + 1)
spread-seen m start initial L q at last y further inside near s =
    elim (cases_lt (get_or L y 0) IN_PAIR) [
      | inl low ↦
          let in' = s.each y inside low in
          inr (subst (λ z. get_or L z 0 ≤ get_or L (get_or q at 0) 0 + 1) in'.2 (s.top in'.0 in'.1 further))
      | inr high ↦
          let same = s.same y inside high in
          elim (s.initially y inside) [ inl far ↦ absurd (near (same ∙ far)) | inr paired ↦ inl (same ∙ paired) ]
    ]

-- one atom more
pub spread-more : (m : Molecule) (start : ℕ) (initial L q : List ℕ) (at last y : ℕ) (kind : BondKind)
    → length m.atoms ≤ length L → length m.atoms ≤ length q → at < last
    → y < length m.atoms → get_or L y 0 ≡ FAR → HasBond m (get_or q at 0) y kind → IsSpread m start initial L q at last
    → IsSpread m start initial (set L y (get_or L (get_or q at 0) 0 + 1)) (set q last y) at (last + 1)
spread-more m start initial L q at last y kind room list_room further inside far bond s =
    let few = s.sound.graph.few_atoms in
    let v : ℕ = get_or L (get_or q at 0) 0 + 1 in
    let M : List ℕ = set L y v in
    let r : List ℕ = set q last y in
    let space = spread-room m start initial L q at last y inside far s in
    let high = s.low at further in
    let fresh : (i : ℕ) → i < last → get_or q i 0 ≢ y = λ i h same.
    let low = s.low i h in
    let equal : get_or L (get_or q i 0) 0 ≡ get_or L y 0 = ap (λ x. get_or L x 0) same in
    omega (arith, low, equal, far, few) in
    let other : (x : ℕ) → x ≢ y → get_or M x 0 ≡ get_or L x 0 = λ x ne. get_or-set_other L y x v 0 ne in
    let here : get_or M y 0 ≡ v = get_or-set_same L y v 0 (omega arith) in
    let old : (i : ℕ) → i < last → get_or r i 0 ≡ get_or q i 0 = λ i h.
    get_or-set_other q last i y 0 (λ same. omega (arith, h, same)) in
    let new : get_or r last 0 ≡ y = get_or-set_same q last y 0 (omega arith) in
    let level_old : (i : ℕ) → i < last → get_or M (get_or r i 0) 0 ≡ get_or L (get_or q i 0) 0 = λ i h.
    ap (λ x. get_or M x 0) (old i h) ∙ other (get_or q i 0) (fresh i h) in
    let level_new : (i : ℕ) → i ≡ last → get_or M (get_or r i 0) 0 ≡ v = λ i e.
    ap (λ k. get_or M (get_or r k 0) 0) e ∙ ap (λ x. get_or M x 0) new ∙ here in
    let item_new : (i : ℕ) → i ≡ last → get_or r i 0 ≡ y = λ i e. ap (λ k. get_or r k 0) e ∙ new in
    let at_old = level_old at further in
    record {
      sound = s.sound;
      some = omega arith;
      passed = omega arith;
      within = λ i h. elim (cases_lt i last) [
        | inl less ↦ subst (λ z. z < length m.atoms) (sym (old i less)) (s.within i less)
        | inr past ↦ subst (λ z. z < length m.atoms) (sym (item_new i (omega arith))) inside
      ];
      low = λ i h. elim (cases_lt i last) [
        | inl less ↦ omega (arith, level_old i less, s.low i less)
        | inr past ↦ let e : i ≡ last = omega arith in omega (arith, level_new i e, high)
      ];
      apart = λ i j h l same. elim (cases_lt i last) [
        | inl less ↦ elim (cases_lt j last) [
          | inl lower ↦ s.apart i j less lower (sym (old i less) ∙ same ∙ old j lower)
          | inr past ↦ absurd (fresh i less (sym (old i less) ∙ same ∙ item_new j (omega arith)))
        ]
        | inr past ↦ elim (cases_lt j last) [
          | inl lower ↦ absurd (fresh j lower (sym (old j lower) ∙ sym same ∙ item_new i (omega arith)))
          | inr over ↦ omega arith
        ]
      ];
      rising = λ i j le h. elim (cases_lt j last) [
        | inl lower ↦
            let less : i < last = omega arith in
            omega (arith, level_old i less, level_old j lower, s.rising i j le lower)
        | inr over ↦
            let e : j ≡ last = omega arith in
            elim (cases_lt i last) [
              | inl less ↦ omega (arith, level_old i less, level_new j e, s.top i less further)
              | inr past ↦ let d : i ≡ last = omega arith in omega (arith, level_new i d, level_new j e)
            ]
      ];
      top = λ j h more. elim (cases_lt j last) [
        | inl lower ↦ omega (arith, level_old j lower, at_old, s.top j lower further)
        | inr over ↦ let e : j ≡ last = omega arith in omega (arith, level_new j e, at_old)
      ];
      each = λ x h low. elim (cases_eq x y) [
        | inl e ↦ (last, omega arith, new ∙ sym e)
        | inr ne ↦
            let in' = s.each x h (subst (λ k. k < IN_PAIR) (other x ne) low) in
            (in'.0, omega (arith, in'.1), old in'.0 in'.1 ∙ in'.2)
      ];
      first = other start (λ e. omega (arith, ap (λ x. get_or L x 0) e, s.first, far)) ∙ s.first;
      initially = s.initially;
      same = λ x h ge. elim (cases_eq x y) [
        | inl e ↦ absurd (omega (arith, ap (λ z. get_or M z 0) e, here, high, few, ge, space))
        | inr ne ↦ other x ne ∙ s.same x h (subst (λ k. IN_PAIR ≤ k) (other x ne) ge)
      ];
      free = λ x h low differ. elim (cases_eq x y) [
        | inl e ↦ ap (λ z. get_or initial z 0) e ∙ sym (s.same y inside (omega (arith, far))) ∙ far
        | inr ne ↦ s.free x h (subst (λ k. k < IN_PAIR) (other x ne) low) differ
      ];
      closed = λ i h z k joined.
          let less : i < last = omega arith in
          let before = s.closed i h z k (subst (λ t. HasBond m t z k) (old i less) joined) in
          let low = s.low i less in
          let ne : z ≢ y = λ e.
          let equal = ap (λ x. get_or L x 0) e in
          elim before [
            | inl paired ↦ omega (arith, equal, paired, far)
            | inr le ↦ omega (arith, equal, le, far, low, few, space)
          ] in
          elim before [
            | inl paired ↦ inl (other z ne ∙ paired)
            | inr le ↦ inr (omega (arith, other z ne, level_old i less, le))
          ];
      led = λ x h low differ. elim (cases_eq x y) [
        | inl e ↦ (
          get_or q at 0,
          kind,
          subst (λ t. HasBond m (get_or q at 0) t kind) (sym e) bond,
          subst (λ k. k < IN_PAIR) (sym (other (get_or q at 0) (fresh at further))) (omega (arith, high, few, space)),
          ap (λ t. get_or M t 0) e ∙ here ∙ ap (λ k. k + 1) (sym (other (get_or q at 0) (fresh at further))),
        )
        | inr ne ↦
            let to = s.led x h (subst (λ k. k < IN_PAIR) (other x ne) low) differ in
            let off : to.0 ≢ y = λ e. omega (arith, ap (λ t. get_or L t 0) e, to.3, far) in (
              to.0,
              to.1,
              to.2,
              subst (λ k. k < IN_PAIR) (sym (other to.0 off)) to.3,
              other x ne ∙ to.4 ∙ ap (λ k. k + 1) (sym (other to.0 off)),
            )
      ];
    }

-- the next atom of the list
pub spread-next : (m : Molecule) (start : ℕ) (initial L q : List ℕ) (at last : ℕ) → at < last
    → ((y : ℕ) (kind : BondKind) → HasBond m (get_or q at 0) y kind
    → (get_or L y 0 ≡ IN_PAIR) ⊎ (get_or L y 0 ≤ get_or L (get_or q at 0) 0 + 1))
    → IsSpread m start initial L q at last → IsSpread m start initial L q (at + 1) last
spread-next m start initial L q at last further seen s = record {
  sound = s.sound;
  some = s.some;
  passed = omega arith;
  within = s.within;
  low = s.low;
  apart = s.apart;
  rising = s.rising;
  top = λ j h less. omega (arith, s.top j h further, s.rising at (at + 1) (omega arith) less);
  each = s.each;
  first = s.first;
  initially = s.initially;
  same = s.same;
  free = s.free;
  closed = λ i h y kind bond. elim (cases_eq i at) [
    | inl e ↦
        subst (λ k. (get_or L y 0 ≡ IN_PAIR) ⊎ (get_or L y 0 ≤ get_or L (get_or q k 0) 0 + 1)) (sym e)
        (seen y kind (subst (λ k. HasBond m (get_or q k 0) y kind) e bond))
    | inr ne ↦ s.closed i (omega arith) y kind bond
  ];
  led = s.led;
}

-- the first atom alone
pub spread-first : (m : Molecule) (start : ℕ) (initial q : List ℕ) → IsMolecule m → length m.atoms ≤ length initial
    → length m.atoms ≤ length q → start < length m.atoms → AreFree (length m.atoms) initial
    → IsSpread m start initial (set initial start 0) (set q 0 start) 0 1
spread-first m start initial q is room list_room inside free =
    let L : List ℕ = set initial start 0 in
    let r : List ℕ = set q 0 start in
    let here : get_or L start 0 ≡ 0 = get_or-set_same initial start 0 0 (omega arith) in
    let item : (i : ℕ) → i < 1 → get_or r i 0 ≡ start = λ i h.
    let zero' : i ≡ 0 = omega arith in
    ap (λ k. get_or r k 0) zero' ∙ get_or-set_same q 0 start 0 (omega arith) in
    let level : (i : ℕ) → i < 1 → get_or L (get_or r i 0) 0 ≡ 0 = λ i h. ap (λ x. get_or L x 0) (item i h) ∙ here in
    let other : (x : ℕ) → x ≢ start → get_or L x 0 ≡ get_or initial x 0 = λ x ne.
    get_or-set_other initial start x 0 0 ne in
    let high : (x : ℕ) → x < length m.atoms → x ≢ start → IN_PAIR ≤ get_or L x 0 = λ x h ne.
    elim (free x h) [
      | inl far ↦ omega (arith, other x ne, far)
      | inr paired ↦ omega (arith, other x ne, paired)
    ] in
    record {
      sound = is;
      some = omega arith;
      passed = omega arith;
      within = λ i h. subst (λ z. z < length m.atoms) (sym (item i h)) inside;
      low = λ i h. omega (arith, level i h);
      apart = λ i j h l same. omega arith;
      rising = λ i j le h. let less : i < 1 = omega arith in omega (arith, level i less, level j h);
      top = λ j h more. omega (arith, level j h);
      each = λ x h low. elim (cases_eq x start) [
        | inl e ↦ (0, omega arith, item 0 (omega arith) ∙ sym e)
        | inr ne ↦ absurd (omega (arith, low, high x h ne))
      ];
      first = here;
      initially = free;
      same = λ x h ge. elim (cases_eq x start) [
        | inl e ↦ absurd (omega (arith, ap (λ z. get_or L z 0) e, here, ge))
        | inr ne ↦ other x ne
      ];
      free = λ x h low ne. absurd (omega (arith, low, high x h ne));
      closed = λ i h. absurd (omega arith);
      led = λ x h low ne. absurd (omega (arith, low, high x h ne));
    }

-- all are reached
pub spread-whole : (m : Molecule) (start : ℕ) (initial L q : List ℕ) (at last : ℕ)
    → last ≤ at → length m.atoms ≤ length q → IsSpread m start initial L q at last
    → IsReached m start initial L (take last q)
spread-whole m start initial L q at last end room s =
    let is = s.sound in
    let few = is.graph.few_atoms in
    let below = spread-few m start initial L q at last s in
    let long : length (take last q) ≡ last = length-take-le last q (omega arith) in
    let read : (i : ℕ) → i < last → get_or (take last q) i 0 ≡ get_or q i 0 = λ i h. get_or-take last q i 0 h in
    let passed = s.passed in
    record {
      listed = record {
        within = λ i h.
            let less : i < last = omega arith in
            subst (λ z. z < length m.atoms) (sym (read i less)) (s.within i less);
        apart = λ i j h l same.
            let less : i < last = omega arith in
            let lower : j < last = omega arith in
            s.apart i j less lower (sym (read i less) ∙ same ∙ read j lower);
      };
      low = λ i h.
          let less : i < last = omega arith in
          subst (λ z. get_or L z 0 < IN_PAIR) (sym (read i less)) (omega (arith, s.low i less));
      each = λ x h low.
          let in' = s.each x h low in
          (in'.0, omega (arith, in'.1), read in'.0 in'.1 ∙ in'.2);
      first = s.first;
      free = s.free;
      paired = λ x h is. sym (s.same x h (omega (arith, is))) ∙ is;
      closed = λ x y kind low bond.
          let in' = s.each x (bond_within m x y kind is bond) low in
          subst (λ t. (get_or L y 0 ≡ IN_PAIR) ⊎ (get_or L y 0 ≤ get_or L t 0 + 1)) in'.2
          (s.closed in'.0 (omega (arith, in'.1)) y kind (subst (λ t. HasBond m t y kind) (sym in'.2) bond));
      led = s.led;
    }

-- The neighbours below a place are reached.
pub record IsWidened (m : Molecule) (L0 q0 : List ℕ) (at before level : ℕ) (ns : List (ℕ × ℕ)) (i : ℕ)
    (L q : List ℕ) (last : ℕ) : Type 0 where
  pub further : at < last
  pub same : get_or q at 0 ≡ get_or q0 at 0
  pub level_is : level ≡ get_or L (get_or q at 0) 0 + 1
  pub spread : (start : ℕ) (initial : List ℕ) → IsSpread m start initial L0 q0 at before
      → IsSpread m start initial L q at last
  pub seen : (k : ℕ) → k < i → (get_or L (get_or ns k (0, 0)).0 0 ≡ IN_PAIR)
      ⊎ (get_or L (get_or ns k (0, 0)).0 0 ≤ level)

pub widened-more : (m : Molecule) (start : ℕ) (initial L0 q0 : List ℕ) (at before level : ℕ) (ns : List (ℕ × ℕ))
    (i : ℕ) (L q : List ℕ) (last y : ℕ) (kind : BondKind) → length m.atoms ≤ length L → length m.atoms ≤ length q
    → y ≡ (get_or ns i (0, 0)).0 → y < length m.atoms → get_or L y 0 ≡ FAR → HasBond m (get_or q0 at 0) y kind
    → IsSpread m start initial L0 q0 at before → IsWidened m L0 q0 at before level ns i L q last
    → IsWidened m L0 q0 at before level ns (i + 1) (set L y level) (set q last y) (last + 1)
widened-more m start initial L0 q0 at before level ns i L q last y kind room list_room is inside far bond first w =
    let s = w.spread start initial first in
    let further = w.further in
    let low = s.low at further in
    let few = s.sound.graph.few_atoms in
    let space = spread-room m start initial L q at last y inside far s in
    let differ : get_or q at 0 ≢ y = λ e. omega (arith, low, ap (λ x. get_or L x 0) e, far) in
    let item : get_or (set q last y) at 0 ≡ get_or q at 0 =
    get_or-set_other q last at y 0 (λ e. omega (arith, further, e)) in
    let there : get_or (set L y level) y 0 ≡ level = get_or-set_same L y level 0 (omega arith) in
    let joined : HasBond m (get_or q at 0) y kind = subst (λ z. HasBond m z y kind) (sym w.same) bond in
    record {
      further = omega arith;
      same = item ∙ w.same;
      level_is = w.level_is ∙ ap (λ k. k + 1)
          (sym (get_or-set_other L y (get_or q at 0) level 0 differ) ∙ ap (λ z. get_or (set L y level) z 0) (sym item));
      spread = λ b j t.
          subst (λ v. IsSpread m b j (set L y v) (set q last y) at (last + 1)) (sym w.level_is)
          (spread-more m b j L q at last y kind room list_room further inside far joined (w.spread b j t));
      seen = λ k h. elim (cases_eq (get_or ns k (0, 0)).0 y) [
        | inl e ↦ inr (omega (arith, ap (λ z. get_or (set L y level) z 0) e, there))
        | inr ne ↦
            let kept = get_or-set_other L y (get_or ns k (0, 0)).0 level 0 ne in
            let old : k < i = elim (cases_eq k i) [
              | inl e ↦ absurd (ne (ap (λ j. (get_or ns j (0, 0)).0) e ∙ sym is))
              | inr off ↦ omega arith
            ] in
            elim (w.seen k old) [ inl paired ↦ inl (kept ∙ paired) | inr le ↦ inr (omega arith) ]
      ];
    }

pub widened-same : (m : Molecule) (start : ℕ) (initial L0 q0 : List ℕ) (at before level : ℕ) (ns : List (ℕ × ℕ))
    (i : ℕ) (L q : List ℕ) (last y : ℕ) → y ≡ (get_or ns i (0, 0)).0 → y < length m.atoms → get_or L y 0 ≢ FAR
    → IsSpread m start initial L0 q0 at before → IsWidened m L0 q0 at before level ns i L q last
    → IsWidened m L0 q0 at before level ns (i + 1) L q last
widened-same m start initial L0 q0 at before level ns i L q last y is inside near first w =
    let s = w.spread start initial first in
    record {
      further = w.further;
      same = w.same;
      level_is = w.level_is;
      spread = w.spread;
      seen = λ k h. elim (cases_eq k i) [
        | inl e ↦
            let z : (get_or ns k (0, 0)).0 ≡ y = ap (λ j. (get_or ns j (0, 0)).0) e ∙ sym is in
            subst (λ x. (get_or L x 0 ≡ IN_PAIR) ⊎ (get_or L x 0 ≤ level)) (sym z)
            (subst (λ v. (get_or L y 0 ≡ IN_PAIR) ⊎ (get_or L y 0 ≤ v)) (sym w.level_is)
            (spread-seen m start initial L q at last y w.further inside near s))
        | inr ne ↦ w.seen k (omega arith)
      ];
    }

pub widened-first : (m : Molecule) (L q : List ℕ) (at before : ℕ) (ns : List (ℕ × ℕ)) → at < before
    → IsWidened m L q at before (get_or L (get_or q at 0) 0 + 1) ns 0 L q before
widened-first m L q at before ns further = record {
  further = further;
  same = refl;
  level_is = refl;
  spread = λ start initial s. s;
  seen = λ k h. absurd (omega arith);
}

pub widened-whole : (m : Molecule) (L0 q0 : List ℕ) (at before level : ℕ) (ns : List (ℕ × ℕ)) (i : ℕ) (L q : List ℕ)
    (last start : ℕ) (initial : List ℕ) → AreNeighbours (ends_of m) (get_or q0 at 0) ns → length ns ≤ i
    → IsWidened m L0 q0 at before level ns i L q last → IsSpread m start initial L0 q0 at before
    → IsSpread m start initial L q (at + 1) last
widened-whole m L0 q0 at before level ns i L q last start initial are end w s =
    spread-next m start initial L q at last w.further
    (λ y kind bond.
    let in' = near_each m (get_or q0 at 0) y kind ns are (subst (λ z. HasBond m z y kind) w.same bond) in
    subst (λ v. (get_or L y 0 ≡ IN_PAIR) ⊎ (get_or L y 0 ≤ v)) w.level_is
    (subst (λ z. (get_or L z 0 ≡ IN_PAIR) ⊎ (get_or L z 0 ≤ level)) in'.2 (w.seen in'.0 (omega (arith, in'.1)))))
    (w.spread start initial s)

-- the same, as the code has it
pub widened-put : (m : Molecule) (start : ℕ) (initial L0 q0 : List ℕ) (at before level : ℕ) (ns : List (ℕ × ℕ))
    (i : ℕ) (L q : List ℕ) (last y z : ℕ) (kind : BondKind) → length m.atoms ≤ length L → length m.atoms ≤ length q
    → y ≡ (get_or ns i (0, 0)).0 → z ≡ y → y < length m.atoms → get_or L y 0 ≡ FAR → HasBond m (get_or q0 at 0) y kind
    → IsSpread m start initial L0 q0 at before → IsWidened m L0 q0 at before level ns i L q last
    → IsWidened m L0 q0 at before level ns (i + 1) (set L y level) (set q last z) (last + 1)
widened-put m start initial L0 q0 at before level ns i L q last y z kind room list_room is same inside far bond first w =
    subst (λ t. IsWidened m L0 q0 at before level ns (i + 1) (set L y level) (set q last t) (last + 1)) (sym same)
    (widened-more m start initial L0 q0 at before level ns i L q last y kind room list_room is inside far bond first w)

pub spread-level : (m : Molecule) (start : ℕ) (initial L q : List ℕ) (at last a : ℕ) → at < last → a ≡ get_or q at 0
    → IsSpread m start initial L q at last → get_or L a 0 < 999
spread-level m start initial L q at last a further is s =
    let few = spread-few m start initial L q at last s in
    omega (arith, s.low at further, s.sound.graph.few_atoms, ap (λ x. get_or L x 0) is)
