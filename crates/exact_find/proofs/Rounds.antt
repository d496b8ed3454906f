-- A round of colours is kept by each map that keeps the colours before, and the sums of both sides are the same.
use Rattle.std.proofs.Common.{◌≡◌, ℕ, zero, suc, ◌+◌, ◌-◌, ◌%◌, ◌^◌, ◌<◌, ◌≤◌, inl, inr, List, [], ◌∷◌, ◌++◌, length, get_or, map, sum, sym, ap, ◌∙◌, subst, arith, length-append}
use Rattle.std.specs.List.Sorted.{IsStrictlyIncreasing}
use Rattle.std.proofs.Math.Seq.{get_or-append_seam}
use Rattle.std.proofs.lemmas.Bool.{cases_lt}
use Rattle.std.proofs.lemmas.List.{length-map, get_or-map, get_or_append_left}
use Rattle.chem_core.specs.declared.mol.BondKind.{BondKind}
use Rattle.chem_core.specs.Graph.{AreNeighbours}
use Rattle.chem_core.specs.Molecule.{Molecule, IsMolecule, ends_of}
use Rattle.exact_find.specs.Same.{HasBond}
use Rattle.exact_find.specs.Pairs.{IsMap}
use Rattle.exact_find.specs.Colours.{AreInRange, AreKept, AreMatched, IsBegun, IsNew, IsRound, IsSeen, blended, levelled, seen_through, taken}
use Rattle.exact_find.proofs.Images.{bond_within}
use Rattle.exact_find.proofs.Keys.{sums-le}
use Rattle.exact_find.proofs.Maps.{turned}
use Rattle.exact_find.proofs.Near.{near_bond, near_each, one_kind}
use Rattle.exact_find.proofs.Onto.{IsOneToOne, find_below}
use Rattle.exact_find.proofs.Steps.{Decided}

-- the place that was found, or 0
place_of : (f : ℕ → ℕ) (y n : ℕ) → Decided ((x : ℕ) × (x < n) × (f x ≡ y)) → ℕ
place_of f y n (inl found) = found.0
place_of f y n (inr none) = 0

as_decided : (f : ℕ → ℕ) (y n : ℕ) → Decided ((x : ℕ) × (x < n) × (f x ≡ y))
as_decided f y n =
    elim (find_below f y n) [
      | inl found ↦ inl found
      | inr none ↦ inr (λ at. none at.0 at.1 at.2)
    ]

place : (f : ℕ → ℕ) (y n : ℕ) → ℕ
place f y n = place_of f y n (as_decided f y n)

is_place : (f : ℕ → ℕ) (y n : ℕ) → (x : ℕ) × (x < n) × (f x ≡ y) → (place f y n < n) × (f (place f y n) ≡ y)
unfolding place place_of
is_place f y n some =
    elim (as_decided f y n) as (λ d. (place_of f y n d < n) × (f (place_of f y n d) ≡ y)) [
      | inl found ↦ (found.1, found.2)
      | inr none ↦ absurd (none some)
    ]

-- Two lists of numbers, each with a different key, the keys of one taken to those of the other: a sum is no greater
-- where the numbers are the same.
keyed-le : (f g a b : ℕ → ℕ) (xs ys : List ℕ) → ((x : ℕ) → g (f x) ≡ x)
    → ((i j : ℕ) → i < length xs → j < length xs → a i ≡ a j → i ≡ j)
    → ((i : ℕ) → i < length xs → (j : ℕ) × (j < length ys) × (b j ≡ f (a i)))
    → ((i j : ℕ) → i < length xs → j < length ys → b j ≡ f (a i) → get_or xs i 0 ≡ get_or ys j 0)
    → sum xs ≤ sum ys
keyed-le f g a b xs ys back apart there same =
    let h : ℕ → ℕ = λ i. place b (f (a i)) (length ys) in
    let at : (i : ℕ) → i < length xs → (h i < length ys) × (b (h i) ≡ f (a i)) = λ i l.
    is_place b (f (a i)) (length ys) (there i l) in
    let one : IsOneToOne (length xs) (length ys) h = record {
      within = λ i l. (at i l).0;
      apart = λ i j l k equal. apart i j l k (sym (back (a i)) ∙ ap g (sym (at i l).1 ∙ ap b equal ∙ (at j k).1) ∙ back (a j));
    } in
    let below : (i : ℕ) → i < length xs → get_or xs i 0 ≤ get_or ys (h i) 0 = λ i l.
    let e = same i (h i) l (at i l).0 (at i l).1 in omega arith in
    sums-le h xs ys one below

keyed-same : (f g a b : ℕ → ℕ) (xs ys : List ℕ) → ((x : ℕ) → g (f x) ≡ x) → ((x : ℕ) → f (g x) ≡ x)
    → ((i j : ℕ) → i < length xs → j < length xs → a i ≡ a j → i ≡ j)
    → ((i j : ℕ) → i < length ys → j < length ys → b i ≡ b j → i ≡ j)
    → ((i : ℕ) → i < length xs → (j : ℕ) × (j < length ys) × (b j ≡ f (a i)))
    → ((j : ℕ) → j < length ys → (i : ℕ) × (i < length xs) × (a i ≡ g (b j)))
    → ((i j : ℕ) → i < length xs → j < length ys → b j ≡ f (a i) → get_or xs i 0 ≡ get_or ys j 0)
    → sum xs ≡ sum ys
keyed-same f g a b xs ys back forth apart apart_back there there_back same =
    let one : sum xs ≤ sum ys = keyed-le f g a b xs ys back apart there same in
    let other : sum ys ≤ sum xs = keyed-le g f b a ys xs forth apart_back there_back
    (λ j i l k at. sym (same i j k l (sym (forth (b j)) ∙ ap f (sym at)))) in
    omega arith

-- the sums of the colours of two lists that are taken to one another
pub total-kept : (m : Molecule) (f g : ℕ → ℕ) (p q c d : List ℕ) (n : ℕ) → ((x : ℕ) → g (f x) ≡ x)
    → ((x : ℕ) → f (g x) ≡ x) → AreInRange (length m.atoms) p → AreInRange n q → AreMatched f g p q → AreKept m f c d
    → sum (map (taken c) p) ≡ sum (map (taken d) q)
total-kept m f g p q c d n back forth left right matched kept =
    let xs : List ℕ = map (taken c) p in
    let ys : List ℕ = map (taken d) q in
    let long : length xs ≡ length p = length-map p (taken c) in
    let room : length ys ≡ length q = length-map q (taken d) in
    keyed-same f g (λ i. get_or p i 0) (λ j. get_or q j 0) xs ys back forth
    (λ i j l k e. left.apart i j (omega arith) (omega arith) e)
    (λ i j l k e. right.apart i j (omega arith) (omega arith) e)
    (λ i l. let to = matched.there i (omega arith) in (to.0, omega (arith, to.1), to.2))
    (λ j l. let to = matched.back j (omega arith) in (to.0, omega (arith, to.1), to.2))
    (λ i j l k e.
    let one : i < length p = omega arith in
    let two : j < length q = omega arith in
    get_or-map (taken c) p i 0 0 one ∙ kept (get_or p i 0) (left.within i one) ∙ ap (taken d) (sym e)
    ∙ sym (get_or-map (taken d) q j 0 0 two))

-- numbers that rise are different
rising : (xs : List ℕ) (i k : ℕ) → IsStrictlyIncreasing xs → i + k + 1 < length xs
    → get_or xs i 0 < get_or xs (i + k + 1) 0
rising xs i zero up within =
    let e : i + 0 + 1 ≡ i + 1 = omega arith in
    subst (λ j. get_or xs i 0 < get_or xs j 0) (sym e) (up i (omega arith))
rising xs i (suc k) up within =
    let e : i + k + 1 + 1 ≡ i + suc k + 1 = omega arith in
    let one = rising xs i k up (omega arith) in
    let two = up (i + k + 1) (omega arith) in
    subst (λ j. get_or xs i 0 < get_or xs j 0) e (omega arith)

rising-apart : (xs : List ℕ) (i j : ℕ) → IsStrictlyIncreasing xs → i < length xs → j < length xs
    → get_or xs i 0 ≡ get_or xs j 0 → i ≡ j
rising-apart xs i j up l k same =
    elim (cases_lt i j) [
      | inl less ↦
          let e : i + (j - i - 1) + 1 ≡ j = omega arith in
          let lt = rising xs i (j - i - 1) up (omega arith) in
          absurd (omega (arith, ap (λ n. get_or xs n 0) e))
      | inr ge ↦ elim (cases_lt j i) [
        | inl less ↦
            let e : j + (i - j - 1) + 1 ≡ i = omega arith in
            let lt = rising xs j (i - j - 1) up (omega arith) in
            absurd (omega (arith, ap (λ n. get_or xs n 0) e))
        | inr le ↦ omega arith
      ]
    ]

near_apart : (m : Molecule) (x : ℕ) (ns : List (ℕ × ℕ)) (i j : ℕ) → AreNeighbours (ends_of m) x ns → i < length ns
    → j < length ns → (get_or ns i (0, 0)).0 ≡ (get_or ns j (0, 0)).0 → i ≡ j
near_apart m x ns i j are l k same =
    let first : ℕ × ℕ → ℕ = λ p. p.0 in
    let long : length (map first ns) ≡ length ns = length-map ns first in
    rising-apart (map first ns) i j are.ascending (omega arith) (omega arith)
    (get_or-map first ns i (0, 0) 0 l ∙ same ∙ sym (get_or-map first ns j (0, 0) 0 k))

-- the colour of an atom, and of the one that it is taken to
new-kept : (m n : Molecule) (f g : ℕ → ℕ) (c d : List ℕ) (x v w : ℕ) → IsMolecule m → IsMap m n f g → IsMap n m g f
    → AreKept m f c d → x < length m.atoms → IsNew m c x v → IsNew n d (f x) w → v ≡ w
new-kept m n f g c d x v w is all inverse kept inside left right =
    let a : ℕ → ℕ = λ i. (get_or left.ns i (0, 0)).0 in
    let b : ℕ → ℕ = λ j. (get_or right.ns j (0, 0)).0 in
    let long = left.long in
    let room = right.long in
    let bond : (i : ℕ) → i < length left.ns → (kind : BondKind) × HasBond m x (a i) kind = λ i l.
    near_bond m x left.ns i left.are l in
    let sums : sum left.seen ≡ sum right.seen =
    keyed-same f g a b left.seen right.seen all.back all.forth
    (λ i j l k e. near_apart m x left.ns i j left.are (omega arith) (omega arith) e)
    (λ i j l k e. near_apart n (f x) right.ns i j right.are (omega arith) (omega arith) e)
    (λ i l.
    let one = bond i (omega arith) in
    let to = near_each n (f x) (f (a i)) one.0 right.ns right.are (all.kept x (a i) one.0 one.1) in
    (to.0, omega (arith, to.1), to.2))
    (λ j l.
    let one = near_bond n (f x) right.ns j right.are (omega arith) in
    let there : HasBond m x (g (b j)) one.0 = subst (λ z. HasBond m z (g (b j)) one.0) (all.back x)
    (inverse.kept (f x) (b j) one.0 one.1) in
    let to = near_each m x (g (b j)) one.0 left.ns left.are there in
    (to.0, omega (arith, to.1), to.2))
    (λ i j l k e.
    let one = bond i (omega arith) in
    let kind : BondKind = one.0 in
    let there : HasBond n (f x) (b j) kind = subst (λ z. HasBond n (f x) z kind) (sym e) (all.kept x (a i) kind one.1) in
    let within : a i < length m.atoms = bond_within m (a i) x kind is (turned m x (a i) kind one.1) in
    left.each.value i l kind one.1
    ∙ ap (λ k'. seen_through k' kind) (kept (a i) within ∙ ap (λ z. get_or d z 0) (sym e))
    ∙ sym (right.each.value j k kind there)) in
    left.is ∙ ap (λ s. blended (get_or c x 0) (s % 2 ^ 64)) sums
    ∙ ap (λ k. blended k (sum right.seen % 2 ^ 64)) (kept x inside) ∙ sym right.is

-- what is in no list is taken to what is in none
out_there : (f g : ℕ → ℕ) (p q : List ℕ) (x : ℕ) → ((x : ℕ) → g (f x) ≡ x) → AreMatched f g p q
    → ((i : ℕ) → i < length p → get_or p i 0 ≡ x → ⊥) → (j : ℕ) → j < length q → get_or q j 0 ≡ f x → ⊥
out_there f g p q x back matched out j l same =
    let to = matched.back j l in
    out to.0 to.1 (to.2 ∙ ap g same ∙ back x)

-- a round
pub round-kept : (m n : Molecule) (f g : ℕ → ℕ) (p q c d v w : List ℕ) → IsMolecule m → IsMap m n f g → IsMap n m g f
    → AreMatched f g p q → IsRound m p c v → IsRound n q d w → AreKept m f c d → AreKept m f v w
round-kept m n f g p q c d v w is all inverse matched left right kept = λ x inside.
    elim (find_below (λ i. get_or p i 0) x (length p)) [
      | inl found ↦
          let to = matched.there found.0 found.1 in
          new-kept m n f g c d x (get_or v x 0) (get_or w (f x) 0) is all inverse kept inside
          (subst (λ z. IsNew m c z (get_or v z 0)) found.2 (left.each found.0 found.1))
          (subst (λ z. IsNew n d z (get_or w z 0)) (to.2 ∙ ap f found.2) (right.each to.0 to.1))
      | inr none ↦ left.others x none ∙ kept x inside
          ∙ sym (right.others (f x) (out_there f g p q x all.back matched none))
    ]

-- the first colours
pub begun-kept : (m : Molecule) (f g : ℕ → ℕ) (p q s t c d v w : List ℕ) → ((x : ℕ) → g (f x) ≡ x)
    → AreMatched f g p q → ((i : ℕ) → i < length p → get_or s (get_or p i 0) 0 ≡ get_or t (f (get_or p i 0)) 0)
    → IsBegun p s c v → IsBegun q t d w → AreKept m f c d → AreKept m f v w
begun-kept m f g p q s t c d v w back matched levels left right kept = λ x inside.
    elim (find_below (λ i. get_or p i 0) x (length p)) [
      | inl found ↦
          let to = matched.there found.0 found.1 in
          let level : get_or s x 0 ≡ get_or t (f x) 0 =
          subst (λ z. get_or s z 0 ≡ get_or t (f z) 0) found.2 (levels found.0 found.1) in
          subst (λ z. get_or v z 0 ≡ levelled (get_or c z 0) (get_or s z 0)) found.2 (left.each found.0 found.1)
          ∙ ap (λ k. levelled k (get_or s x 0)) (kept x inside) ∙ ap (levelled (get_or d (f x) 0)) level
          ∙ sym (subst (λ z. get_or w z 0 ≡ levelled (get_or d z 0) (get_or t z 0)) (to.2 ∙ ap f found.2)
          (right.each to.0 to.1))
      | inr none ↦ left.others x none ∙ kept x inside
          ∙ sym (right.others (f x) (out_there f g p q x back matched none))
    ]

-- what is seen of one neighbour more
pub seen-more : (m : Molecule) (c : List ℕ) (x : ℕ) (ns : List (ℕ × ℕ)) (seen : List ℕ) (i v y : ℕ) (kind : BondKind)
    → length seen ≡ i → IsMolecule m → HasBond m x (get_or ns i (0, 0)).0 kind → y ≡ (get_or ns i (0, 0)).0
    → v ≡ seen_through (get_or c y 0) kind → IsSeen m c x ns seen → IsSeen m c x ns (seen ++ v ∷ [])
seen-more m c x ns seen i v y kind long is bond at value before = record {
  value = λ k l other joined.
      elim (cases_lt k (length seen)) [
        | inl less ↦ get_or_append_left seen (v ∷ []) 0 k less ∙ before.value k less other joined
        | inr past ↦
            let more = length-append seen (v ∷ []) in
            let e : k ≡ i = omega arith in
            let here : HasBond m x (get_or ns i (0, 0)).0 other =
            subst (λ j. HasBond m x (get_or ns j (0, 0)).0 other) e joined in
            let equal : kind ≡ other = one_kind m x (get_or ns i (0, 0)).0 kind other is bond here in
            ap (λ j. get_or (seen ++ v ∷ []) j 0) (e ∙ sym long) ∙ get_or-append_seam seen v [] 0 ∙ value
            ∙ ap (λ z. seen_through (get_or c z 0) kind) at
            ∙ ap (seen_through (get_or c (get_or ns i (0, 0)).0 0)) equal
            ∙ ap (λ j. seen_through (get_or c (get_or ns j (0, 0)).0 0) other) (sym e)
      ];
}
