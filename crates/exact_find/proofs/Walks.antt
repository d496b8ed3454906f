-- How pairs are added to pairs.
use Rattle.std.proofs.Common.{◌≡◌, ◌≢◌, ℕ, ◌+◌, ◌<◌, ◌≤◌, inl, inr, Bool, List, [], ◌∷◌, ◌++◌, length, map, take, get_or, slice_get, refl, sym, ap, ◌∙◌, subst, arith}
use Rattle.std.specs.List.{range_with_len}
use Rattle.std.proofs.lemmas.Bool.{cases_lt, cases_eq}
use Rattle.std.proofs.lemmas.List.{get_or_append_left, take-take}
use Rattle.std.proofs.lemmas.List.FromFn.{length-map-range_with_len, get_or-map-range_with_len}
use Rattle.std.proofs.lemmas.Option.{slice_get_within}
use Rattle.chem_core.specs.declared.mol.BondKind.{BondKind}
use Rattle.chem_core.specs.Graph.{AreNeighbours}
use Rattle.chem_core.specs.Molecule.{Molecule, IsMolecule, ends_of}
use Rattle.exact_find.specs.Same.{HasBond, IsAlike, IsSame}
use Rattle.exact_find.specs.Pairs.{IsMap, Extends, Has, IsPaired, flip, IsPartial, IsLevel, IsPart, IsStep}
use Rattle.exact_find.proofs.Flips.{flipped, has-old, has-last, has-either, last-at}
use Rattle.exact_find.proofs.Images.{as_map, bond_within}
use Rattle.exact_find.proofs.Maps.{turned, some_one, map-back}
use Rattle.exact_find.proofs.Near.{near_each}
use Rattle.exact_find.proofs.Onto.{IsOneToOne, one_to_one-le}
use Rattle.exact_find.proofs.Steps.{find, partner, has_partner, exchange, joined-back}

-- an atom in no pair leaves room for one
pub room : (m n : Molecule) (ps : List (ℕ × ℕ)) (a : ℕ) → IsPartial m n ps → a < length m.atoms
    → (IsPaired ps a → ⊥) → length ps < length m.atoms
room m n ps a partial within free =
    let qs : List (ℕ × ℕ) = ps ++ (a, 0) ∷ [] in
    let f : ℕ → ℕ = λ i. (get_or qs i (0, 0)).0 in
    let old : (i : ℕ) → i < length ps → f i ≡ (get_or ps i (0, 0)).0 = λ i h.
    ap (λ (p : ℕ × ℕ). p.0) (get_or_append_left ps ((a, 0) ∷ []) (0, 0) i h) in
    let last : f (length ps) ≡ a = ap (λ (p : ℕ × ℕ). p.0) (last-at ps a 0) in
    let apart : (i j : ℕ) → i < j → j < length ps + 1 → f i ≡ f j → ⊥ = λ i j less h same.
    elim (cases_lt j (length ps)) [
      | inl inside ↦ partial.apart i j less inside (sym (old i (omega arith)) ∙ same ∙ old j inside)
      | inr past ↦
          let at : j ≡ length ps = omega arith in
          let equal : (get_or ps i (0, 0)).0 ≡ a = sym (old i (omega arith)) ∙ same ∙ ap f at ∙ last in
          let pair : ℕ × ℕ = get_or ps i (0, 0) in
          free (pair.1, (i, omega arith, ap (λ (z : ℕ). let p : ℕ × ℕ = (z, pair.1) in p) equal))
    ] in
    let one : IsOneToOne (length ps + 1) (length m.atoms) f = record {
      within = λ i h. elim (cases_lt i (length ps)) [
        | inl inside ↦
            let pair : ℕ × ℕ = get_or ps i (0, 0) in
            let to = (partial.there).alike pair.0 pair.1 (i, inside, refl) in
            subst (λ k. k < length m.atoms) (sym (old i inside)) (slice_get_within m.atoms pair.0 to.0 to.1)
        | inr past ↦
            let at : i ≡ length ps = omega arith in
            subst (λ k. k < length m.atoms) (sym (ap f at ∙ last)) within
      ];
      apart = λ i j h l same. elim (cases_eq i j) [
        | inl e ↦ e
        | inr ne ↦ elim (cases_lt i j) [
          | inl lt ↦ absurd (apart i j lt l same)
          | inr ge ↦ absurd (apart j i (omega arith) h (sym same))
        ]
      ];
    } in
    omega (arith, one_to_one-le (length ps + 1) (length m.atoms) f one)

-- a map that goes on from pairs goes on from one of its own more
pub extend_more : (m n : Molecule) (ps : List (ℕ × ℕ)) (a b : ℕ) → (ext : Extends m n ps) → ext.f a ≡ b
    → Extends m n (ps ++ (a, b) ∷ [])
extend_more m n ps a b ext to = record {
  f = ext.f;
  g = ext.g;
  is = ext.is;
  goes = λ c d has. elim (has-either ps a b c d has) [
    | inl old ↦ ext.goes c d old
    | inr new ↦ ap ext.f (sym new.0) ∙ to ∙ new.1
  ];
}

-- a step keeps what can be paired
pub step-extends : (m n : Molecule) (ps qs : List (ℕ × ℕ)) (a b : ℕ) → IsMolecule m → IsStep m n ps qs a b
    → Extends m n ps → Extends m n qs
step-extends m n ps qs a b is step ext =
    exchange m n ps qs (flip ps) (flip qs) a b is (flipped ps) (flipped qs) (step.partial).there (step.partial).back
    step.part step.part_back ext

-- the neighbours of the partner of a neighbour: none of them can be the next
pub beside-none : (m n : Molecule) (ps ns : List (ℕ × ℕ)) (a c near : ℕ) (kind : BondKind) → Has ps c near
    → HasBond m c a kind → AreNeighbours (ends_of n) near ns
    → ((k : ℕ) → k < length ns → Extends m n (ps ++ (a, (get_or ns k (0, 0)).0) ∷ []) → ⊥) → Extends m n ps → ⊥
beside-none m n ps ns a c near kind has bond are none ext =
    let there : HasBond n near (ext.f a) kind =
    subst (λ z. HasBond n z (ext.f a) kind) (ext.goes c near has) ((ext.is).kept c a kind bond) in
    let at = near_each n near (ext.f a) kind ns are there in
    none at.0 at.1 (extend_more m n ps a (get_or ns at.0 (0, 0)).0 ext (sym at.2))

-- pairs on the way: what is new hangs together, and nothing else hangs on it but on the first pair
pub record IsOpen (m n : Molecule) (ps qs : List (ℕ × ℕ)) (a b : ℕ) : Type 0 where
  pub partial : IsPartial m n qs
  pub more : (x y : ℕ) → Has ps x y → Has qs x y
  pub closed : (x y : ℕ) (kind : BondKind) → IsPaired qs x → (IsPaired ps x → ⊥) → x ≢ a → HasBond m x y kind
      → IsPaired qs y
  pub closed_back : (x y : ℕ) (kind : BondKind) → IsPaired (flip qs) x → (IsPaired (flip ps) x → ⊥) → x ≢ b
      → HasBond n x y kind → IsPaired (flip qs) y
  pub joined : (s : ℕ → Bool) → IsLevel m ps s → (x : ℕ) → IsPaired qs x → (IsPaired ps x → ⊥) → s x ≡ s a
  pub first : Has qs a b

flip-more : (ps qs : List (ℕ × ℕ)) → ((x y : ℕ) → Has ps x y → Has qs x y) → (x y : ℕ) → Has (flip ps) x y
    → Has (flip qs) x y
flip-more ps qs more x y has = (flipped qs).there y x (more y x ((flipped ps).back y x has))

paired-more : (ps qs : List (ℕ × ℕ)) → ((x y : ℕ) → Has ps x y → Has qs x y) → (x : ℕ) → IsPaired ps x → IsPaired qs x
paired-more ps qs more x paired = (paired.0, more x paired.0 paired.1)

-- the first pair alone
pub open-first : (m n : Molecule) (ps : List (ℕ × ℕ)) (a b : ℕ) → IsPartial m n (ps ++ (a, b) ∷ [])
    → IsOpen m n ps (ps ++ (a, b) ∷ []) a b
open-first m n ps a b partial = record {
  partial = partial;
  more = has-old ps a b;
  closed = λ x y kind paired free other bond. elim (has-either ps a b x paired.0 paired.1) [
    | inl old ↦ absurd (free (paired.0, old))
    | inr new ↦ absurd (other (sym new.0))
  ];
  closed_back = λ x y kind paired free other bond.
      elim (has-either ps a b paired.0 x ((flipped (ps ++ (a, b) ∷ [])).back paired.0 x paired.1)) [
        | inl old ↦ absurd (free (paired.0, (flipped ps).there paired.0 x old))
        | inr new ↦ absurd (other (sym new.1))
      ];
  joined = λ s level x paired free. elim (has-either ps a b x paired.0 paired.1) [
    | inl old ↦ absurd (free (paired.0, old))
    | inr new ↦ ap s (sym new.0)
  ];
  first = has-last ps a b;
}

-- one neighbour more with all that hangs on it
pub open-more : (m n : Molecule) (ps qs rs : List (ℕ × ℕ)) (a b x y : ℕ) (kind : BondKind) → (IsPaired ps a → ⊥)
    → HasBond m a x kind → (IsPaired qs x → ⊥) → IsOpen m n ps qs a b → IsStep m n qs rs x y → IsOpen m n ps rs a b
open-more m n ps qs rs a b x y kind fresh bond free way step =
    let up : (c d : ℕ) → Has qs c d → Has rs c d = (step.part).more in
    record {
      partial = step.partial;
      more = λ c d has. up c d (way.more c d has);
      closed = λ c d k paired new other at. elim (find qs c) [
        | inl old ↦ paired-more qs rs up d (way.closed c d k old new other at)
        | inr none ↦ (step.part).closed c d k paired none at
      ];
      closed_back = λ c d k paired new other at. elim (find (flip qs) c) [
        | inl old ↦ paired-more (flip qs) (flip rs) (flip-more qs rs up) d (way.closed_back c d k old new other at)
        | inr none ↦ (step.part_back).closed c d k paired none at
      ];
      joined = λ s level c paired new. elim (find qs c) [
        | inl old ↦ way.joined s level c old new
        | inr none ↦
            let weak : IsLevel m qs s = λ p q k at one two.
            level p q k at (λ h. one (paired-more ps qs way.more p h)) (λ h. two (paired-more ps qs way.more q h)) in
            (step.part).joined s weak c paired none
            ∙ sym (level a x kind bond fresh (λ h. free (paired-more ps qs way.more x h)))
      ];
      first = up a b way.first;
    }

-- all neighbours of the first pair are in pairs: the component is whole
pub open-whole : (m n : Molecule) (ps qs : List (ℕ × ℕ)) (a b : ℕ) → (IsPaired ps a → ⊥) → IsOpen m n ps qs a b
    → ((c : ℕ) (kind : BondKind) → HasBond m a c kind → IsPaired qs c)
    → ((c : ℕ) (kind : BondKind) → HasBond n b c kind → IsPaired (flip qs) c) → IsStep m n ps qs a b
open-whole m n ps qs a b fresh way here there =
    let part : IsPart m ps qs a = record {
      more = way.more;
      closed = λ x y kind paired new bond. elim (cases_eq x a) [
        | inl same ↦ here y kind (subst (λ z. HasBond m z y kind) same bond)
        | inr other ↦ way.closed x y kind paired new other bond
      ];
      joined = way.joined;
    } in
    record {
      partial = way.partial;
      part = part;
      part_back = record {
        more = flip-more ps qs way.more;
        closed = λ x y kind paired new bond. elim (cases_eq x b) [
          | inl same ↦ there y kind (subst (λ z. HasBond n z y kind) same bond)
          | inr other ↦ way.closed_back x y kind paired new other bond
        ];
        joined = joined-back m n ps qs (flip ps) (flip qs) a b (flipped ps) (flipped qs) (way.partial).there
            (way.partial).back part way.first fresh;
      };
      first = way.first;
    }

-- where a map goes on from the pairs, the neighbours of the partner are in pairs if those of the atom are
pub extends-paired : (m n : Molecule) (qs ns : List (ℕ × ℕ)) (a b : ℕ) → IsMolecule m → Has qs a b
    → AreNeighbours (ends_of m) a ns → ((k : ℕ) → k < length ns → IsPaired qs (get_or ns k (0, 0)).0) → Extends m n qs
    → (c : ℕ) (kind : BondKind) → HasBond n b c kind → IsPaired (flip qs) c
extends-paired m n qs ns a b is first are done ext c kind bond =
    let back : IsMap n m ext.g ext.f = map-back m n ext.f ext.g is ext.is in
    let home : ext.g b ≡ a = ap ext.g (sym (ext.goes a b first)) ∙ (ext.is).back a in
    let there : HasBond m a (ext.g c) kind = subst (λ z. HasBond m z (ext.g c) kind) home (back.kept b c kind bond) in
    let at = near_each m a (ext.g c) kind ns are there in
    let paired : IsPaired qs (ext.g c) = subst (IsPaired qs) at.2 (done at.0 at.1) in
    let same : paired.0 ≡ c = sym (ext.goes (ext.g c) paired.0 paired.1) ∙ (ext.is).forth c in
    (ext.g c, (flipped qs).there (ext.g c) c (subst (Has qs (ext.g c)) same paired.1))

-- no pairs
pub partial-none : (m n : Molecule) → IsPartial m n []
partial-none m n = record {
  apart = λ i j less within same. omega arith;
  there = record {
    one = λ a b c has other. absurd (omega (arith, has.1));
    alike = λ a b has. absurd (omega (arith, has.1));
    kept = λ a b c d kind has other bond. absurd (omega (arith, has.1));
  };
  back = record {
    one = λ a b c has other. absurd (omega (arith, has.1));
    alike = λ a b has. absurd (omega (arith, has.1));
    kept = λ a b c d kind has other bond. absurd (omega (arith, has.1));
  };
}

pub extends-none : (m n : Molecule) → IsMolecule m → IsSame m n → Extends m n []
extends-none m n is same =
    let to = as_map m n is same in
    record { f = to.0; g = to.1; is = to.2; goes = λ a b has. absurd (omega (arith, has.1)) }

-- all atoms are in pairs
pub all-paired : (m n : Molecule) (ps : List (ℕ × ℕ)) → IsMolecule m → length m.atoms ≡ length n.atoms
    → length m.bonds ≡ length n.bonds → IsPartial m n ps → ((a : ℕ) → a < length m.atoms → IsPaired ps a) → IsSame m n
all-paired m n ps is atoms bonds partial all =
    let f : ℕ → ℕ = partner ps in
    let image : List ℕ = map f (range_with_len 0 (length m.atoms)) in
    let long : length image ≡ length m.atoms = length-map-range_with_len f 0 (length m.atoms) in
    let read : (a d : ℕ) → a < length m.atoms → get_or image a d ≡ f a = λ a d h.
    get_or-map-range_with_len f 0 (length m.atoms) a a d h (omega arith) in
    let has : (a : ℕ) → a < length m.atoms → Has ps a (f a) = λ a h. has_partner ps a (all a h) in
    record {
      atoms = atoms;
      bonds = bonds;
      image = image;
      is = record {
        one_each = long;
        distinct = λ i j d less within same.
            let one : i < length m.atoms = omega (arith, long) in
            let two : j < length m.atoms = omega (arith, long) in
            let equal : f i ≡ f j = sym (read i d one) ∙ same ∙ read j d two in
            let e : i ≡ j = (partial.back).one (f j) i j
            ((flipped ps).there i (f j) (subst (Has ps i) equal (has i one))) ((flipped ps).there j (f j) (has j two)) in
            omega arith;
        alike = λ a x at.
            let inside : a < length m.atoms = slice_get_within m.atoms a x at in
            let to = (partial.there).alike a (f a) (has a inside) in (
              to.2,
              ap (slice_get n.atoms) (read a 0 inside) ∙ to.3,
              subst (λ z. IsAlike z to.2) (some_one to.0 x (sym to.1 ∙ at)) to.4,
            );
        bonds = λ x y kind bond.
            let one : x < length m.atoms = bond_within m x y kind is bond in
            let two : y < length m.atoms = bond_within m y x kind is (turned m x y kind bond) in
            let to = (partial.there).kept x (f x) y (f y) kind (has x one) (has y two) bond in
            subst (λ s. HasBond n s (get_or image y 0) kind) (sym (read x 0 one))
            (subst (λ s. HasBond n (f x) s kind) (sym (read y 0 two)) to);
      };
    }

-- fewer of the first elements that are kept are kept
pub take_kept : (xs ys : List (ℕ × ℕ)) (i j : ℕ) → i ≤ j → take j xs ≡ take j ys → take i xs ≡ take i ys
take_kept xs ys i j le same = sym (take-take i j xs le) ∙ ap (take i) same ∙ take-take i j ys le

-- the neighbours below a place are in pairs, with all that hangs on them
pub record IsWalked (m n : Molecule) (a b : ℕ) (ns : List (ℕ × ℕ)) (count : ℕ) (initial : List (ℕ × ℕ)) (i more : ℕ)
    (pairs : List (ℕ × ℕ)) : Type 0 where
  pub low : count < more
  pub high : more ≤ length pairs
  pub kept : take count pairs ≡ take count initial
  pub way : IsOpen m n (take count initial) (take more pairs) a b
  pub done : (k : ℕ) → k < i → IsPaired (take more pairs) (get_or ns k (0, 0)).0
  pub goes : Extends m n (take (count + 1) initial) → Extends m n (take more pairs)

pub walked-first : (m n : Molecule) (a b : ℕ) (ns : List (ℕ × ℕ)) (count : ℕ) (initial : List (ℕ × ℕ))
    → count < length initial → take (count + 1) initial ≡ take count initial ++ (a, b) ∷ []
    → IsPartial m n (take (count + 1) initial) → IsWalked m n a b ns count initial 0 (count + 1) initial
walked-first m n a b ns count initial few last partial = record {
  low = omega arith;
  high = omega arith;
  kept = refl;
  way = subst (λ zs. IsOpen m n (take count initial) zs a b) (sym last)
      (open-first m n (take count initial) a b (subst (IsPartial m n) last partial));
  done = λ k h. absurd (omega arith);
  goes = λ ext. ext;
}

pub walked-same : (m n : Molecule) (a b : ℕ) (ns : List (ℕ × ℕ)) (count : ℕ) (initial : List (ℕ × ℕ)) (i more : ℕ)
    (pairs : List (ℕ × ℕ)) → IsPaired (take more pairs) (get_or ns i (0, 0)).0
    → IsWalked m n a b ns count initial i more pairs → IsWalked m n a b ns count initial (i + 1) more pairs
walked-same m n a b ns count initial i more pairs here walked = record {
  low = walked.low;
  high = walked.high;
  kept = walked.kept;
  way = walked.way;
  done = λ k h. elim (cases_eq k i) [
    | inl same ↦ subst (λ j. IsPaired (take more pairs) (get_or ns j (0, 0)).0) (sym same) here
    | inr other ↦ walked.done k (omega arith)
  ];
  goes = walked.goes;
}

pub walked-more : (m n : Molecule) (a b : ℕ) (ns : List (ℕ × ℕ)) (count : ℕ) (initial : List (ℕ × ℕ)) (i more : ℕ)
    (pairs : List (ℕ × ℕ)) (next : ℕ) (new : List (ℕ × ℕ)) (y : ℕ) (kind : BondKind) → IsMolecule m
    → (IsPaired (take count initial) a → ⊥) → HasBond m a (get_or ns i (0, 0)).0 kind
    → (IsPaired (take more pairs) (get_or ns i (0, 0)).0 → ⊥) → take more new ≡ take more pairs → more ≤ next
    → next ≤ length new → IsStep m n (take more pairs) (take next new) (get_or ns i (0, 0)).0 y
    → IsWalked m n a b ns count initial i more pairs → IsWalked m n a b ns count initial (i + 1) next new
walked-more m n a b ns count initial i more pairs next new y kind is fresh bond free same le few step walked =
    let x : ℕ = (get_or ns i (0, 0)).0 in
    let low = walked.low in
    record {
      low = omega arith;
      high = few;
      kept = take_kept new pairs count more (omega arith) same ∙ walked.kept;
      way = open-more m n (take count initial) (take more pairs) (take next new) a b x y kind fresh bond free walked.way
          step;
      done = λ k h. elim (cases_eq k i) [
        | inl at ↦ subst (λ j. IsPaired (take next new) (get_or ns j (0, 0)).0) (sym at) (y, step.first)
        | inr other ↦ paired-more (take more pairs) (take next new) (step.part).more (get_or ns k (0, 0)).0
            (walked.done k (omega arith))
      ];
      goes = λ ext. step-extends m n (take more pairs) (take next new) x y is step (walked.goes ext);
    }

-- at the end the component is whole
pub walked-whole : (m n : Molecule) (a b : ℕ) (ns : List (ℕ × ℕ)) (count : ℕ) (initial : List (ℕ × ℕ)) (i more : ℕ)
    (pairs : List (ℕ × ℕ)) → (IsPaired (take count initial) a → ⊥) → AreNeighbours (ends_of m) a ns → length ns ≤ i
    → ((c : ℕ) (kind : BondKind) → HasBond n b c kind → IsPaired (flip (take more pairs)) c)
    → IsWalked m n a b ns count initial i more pairs → IsStep m n (take count initial) (take more pairs) a b
walked-whole m n a b ns count initial i more pairs fresh are end there walked =
    open-whole m n (take count initial) (take more pairs) a b fresh walked.way
    (λ c kind bond.
    let at = near_each m a c kind ns are bond in
    subst (IsPaired (take more pairs)) at.2 (walked.done at.0 (omega (arith, at.1)))) there

-- the atoms below a place are in pairs, with all that hangs on them
pub record IsDone (m n : Molecule) (i count : ℕ) (pairs : List (ℕ × ℕ)) : Type 0 where
  pub few : count ≤ length pairs
  pub partial : IsPartial m n (take count pairs)
  pub goes : IsSame m n → Extends m n (take count pairs)
  pub done : (k : ℕ) → k < i → IsPaired (take count pairs) k

pub done-same : (m n : Molecule) (i count : ℕ) (pairs : List (ℕ × ℕ)) → IsPaired (take count pairs) i
    → IsDone m n i count pairs → IsDone m n (i + 1) count pairs
done-same m n i count pairs here before = record {
  few = before.few;
  partial = before.partial;
  goes = before.goes;
  done = λ k h. elim (cases_eq k i) [
    | inl same ↦ subst (IsPaired (take count pairs)) (sym same) here
    | inr other ↦ before.done k (omega arith)
  ];
}

pub done-more : (m n : Molecule) (i count : ℕ) (pairs : List (ℕ × ℕ)) (next : ℕ) (new : List (ℕ × ℕ)) (b : ℕ)
    → IsMolecule m → next ≤ length new → IsStep m n (take count pairs) (take next new) i b → IsDone m n i count pairs
    → IsDone m n (i + 1) next new
done-more m n i count pairs next new b is few step before = record {
  few = few;
  partial = step.partial;
  goes = λ same. step-extends m n (take count pairs) (take next new) i b is step (before.goes same);
  done = λ k h. elim (cases_eq k i) [
    | inl same ↦ subst (IsPaired (take next new)) (sym same) (b, step.first)
    | inr other ↦ paired-more (take count pairs) (take next new) (step.part).more k (before.done k (omega arith))
  ];
}
