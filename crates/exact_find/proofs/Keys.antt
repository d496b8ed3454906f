-- Molecules that are the same have equal keys.
use Rattle.std.proofs.Common.{◌≡◌, ℕ, ◌+◌, ◌*◌, ◌<◌, ◌≤◌, ◌⊎◌, ◌||◌, eqb, Bool, true, false, cond, pos, inl, inr, List, length, map, get_or, slice_get, Some, sum, sym, ap, ◌∙◌, subst, arith}
use Rattle.std.specs.List.{enumerate_from}
use Rattle.std.proofs.Math.Nat.{mul-le-mul_left}
use Rattle.std.proofs.Math.Seq.{take-length}
use Rattle.std.proofs.lemmas.Bool.{cases_Bool, or_cases, or_left, or_right, eq-eqb, eqb-true}
use Rattle.std.proofs.lemmas.List.{length-map, get_or-map}
use Rattle.std.proofs.lemmas.List.FromFn.{length-enumerate_from, get_or-enumerate_from}
use Rattle.std.proofs.lemmas.List.Sums.{sum-map}
use Rattle.std.proofs.lemmas.Option.{slice_get-get_or, slice_get_within, get_or_from_slice_get}
use Rattle.chem_core.specs.declared.mol.Atom.{Atom}
use Rattle.chem_core.specs.declared.mol.Bond.{Bond}
use Rattle.chem_core.specs.Graph.{Ends, degree}
use Rattle.chem_core.specs.Molecule.{Molecule, IsMolecule, ends_of}
use Rattle.exact_find.specs.declared.key.Key.{Key}
use Rattle.exact_find.specs.Key.{IsKey, atom_code, code, codes}
use Rattle.exact_find.specs.Same.{IsAlike, IsSame}
use Rattle.exact_find.specs.Pairs.{IsMap}
use Rattle.exact_find.proofs.Onto.{IsOneToOne, sum_below}
use Rattle.exact_find.proofs.Maps.{taken, bonds-one, bond_at, map-back, joins}
use Rattle.exact_find.proofs.Images.{as_map}

-- a sum is no less than one whose elements are no more than different ones of its own
pub sums-le : (h : ℕ → ℕ) (xs ys : List ℕ) → IsOneToOne (length xs) (length ys) h
    → ((i : ℕ) → i < length xs → get_or xs i 0 ≤ get_or ys (h i) 0) → sum xs ≤ sum ys
sums-le h xs ys one below =
    subst (λ zs. sum zs ≤ sum ys) (take-length xs) (sum_below h xs ys (length xs) (omega arith) one below)

-- whether a bond ends at an atom
abbrev ends_at : ℕ → ℕ × ℕ → Bool
ends_at a e = eqb e.0 a || eqb e.1 a

ends_at-met : (f : ℕ → ℕ) (a x y : ℕ) → ends_at a (x, y) ≡ true
    → (ends_at (f a) (f x, f y) ≡ true) × (ends_at (f a) (f y, f x) ≡ true)
ends_at-met f a x y at =
    elim (or_cases (eqb x a) (eqb y a) at) [
      | inl one ↦
          let met : eqb (f x) (f a) ≡ true = eq-eqb (f x) (f a) (ap f (eqb-true x a one)) in
          (or_left _ _ met, or_right _ _ met)
      | inr two ↦
          let met : eqb (f y) (f a) ≡ true = eq-eqb (f y) (f a) (ap f (eqb-true y a two)) in
          (or_right _ _ met, or_left _ _ met)
    ]

-- 1 at a bond that ends at the atom
abbrev ticks : Ends → ℕ → List ℕ
ticks ends a = map (λ e. cond (ends_at a e) 1 0) ends

tick : (ends : Ends) (a b x y : ℕ) → slice_get ends b ≡ Some (x, y)
    → get_or (ticks ends a) b 0 ≡ cond (ends_at a (x, y)) 1 0
tick ends a b x y read =
    get_or-map (λ (e : ℕ × ℕ). cond (ends_at a e) 1 0) ends b (0, 0) 0 (slice_get_within ends b (x, y) read)
    ∙ ap (λ (e : ℕ × ℕ). cond (ends_at a e) 1 0) (get_or_from_slice_get ends b (x, y) (0, 0) read)

tick-le : (ends others : Ends) (f : ℕ → ℕ) (a b c x y : ℕ) → slice_get ends b ≡ Some (x, y)
    → (slice_get others c ≡ Some (f x, f y)) ⊎ (slice_get others c ≡ Some (f y, f x))
    → get_or (ticks ends a) b 0 ≤ get_or (ticks others (f a)) c 0
tick-le ends others f a b c x y read to =
    elim (cases_Bool (ends_at a (x, y))) [
      | inl yes' ↦
          let here : get_or (ticks ends a) b 0 ≡ 1 = tick ends a b x y read ∙ ap (λ t. cond t 1 0) yes' in
          let met = ends_at-met f a x y yes' in
          let there : get_or (ticks others (f a)) c 0 ≡ 1 = elim to [
            | inl one ↦ tick others (f a) c (f x) (f y) one ∙ ap (λ t. cond t 1 0) met.0
            | inr two ↦ tick others (f a) c (f y) (f x) two ∙ ap (λ t. cond t 1 0) met.1
          ] in
          omega arith
      | inr no' ↦
          let here : get_or (ticks ends a) b 0 ≡ 0 = tick ends a b x y read ∙ ap (λ t. cond t 1 0) no' in
          omega arith
    ]

-- an image has no fewer neighbours
pub degree-le : (m n : Molecule) (f g : ℕ → ℕ) → IsMolecule m → IsMap m n f g → (a : ℕ)
    → degree (ends_of m) a ≤ degree (ends_of n) (f a)
degree-le m n f g is all a =
    let h : ℕ → ℕ = λ b. (taken m n f all.kept b).to in
    let ends : Bond → ℕ × ℕ = λ e. (e.a, e.b) in
    let long : (k : Molecule) (c : ℕ) → length (ticks (ends_of k) c) ≡ length k.bonds = λ k c.
    length-map (ends_of k) (λ (e : ℕ × ℕ). cond (ends_at c e) 1 0) ∙ length-map k.bonds ends in
    let one : IsOneToOne (length (ticks (ends_of m) a)) (length (ticks (ends_of n) (f a))) h =
    subst (λ k. IsOneToOne k (length (ticks (ends_of n) (f a))) h) (sym (long m a))
    (subst (λ k. IsOneToOne (length m.bonds) k h) (sym (long n (f a))) (bonds-one m n f g is all.back all.kept)) in
    let below : (b : ℕ) → b < length (ticks (ends_of m) a)
    → get_or (ticks (ends_of m) a) b 0 ≤ get_or (ticks (ends_of n) (f a)) (h b) 0 = λ b within.
    let x = bond_at m b (subst (λ k. b < k) (long m a) within) in
    let to = joins n (h b) (f x.0.a) (f x.0.b) x.0.kind ((taken m n f all.kept b).is x.0 x.1) in
    elim (joins m b x.0.a x.0.b x.0.kind (inl x.1)) [
      | inl read ↦ tick-le (ends_of m) (ends_of n) f a b (h b) x.0.a x.0.b read to
      | inr read ↦ tick-le (ends_of m) (ends_of n) f a b (h b) x.0.b x.0.a read
          (elim to [ inl s ↦ inr s | inr s ↦ inl s ])
    ] in
    let le : sum (ticks (ends_of m) a) ≤ sum (ticks (ends_of n) (f a)) =
    sums-le h (ticks (ends_of m) a) (ticks (ends_of n) (f a)) one below in
    let left : sum (ticks (ends_of m) a) ≡ degree (ends_of m) a = sum-map (λ (e : ℕ × ℕ). cond (ends_at a e) 1 0)
    (ends_of m) in
    let right : sum (ticks (ends_of n) (f a)) ≡ degree (ends_of n) (f a) =
    sum-map (λ (e : ℕ × ℕ). cond (ends_at (f a) e) 1 0) (ends_of n) in
    omega arith

codes-long : (m : Molecule) → length (codes m) ≡ length m.atoms
codes-long m = length-map (enumerate_from 0 m.atoms) (code m) ∙ length-enumerate_from 0 m.atoms

codes-at : (m : Molecule) (i : ℕ) (x : Atom) → slice_get m.atoms i ≡ Some x → get_or (codes m) i 0 ≡ code m (i, x)
codes-at m i x at =
    let within : i < length m.atoms = slice_get_within m.atoms i x at in
    let none : ℕ × Atom = (0, x) in
    let same : get_or m.atoms i x ≡ x = get_or_from_slice_get m.atoms i x x at in
    get_or-map (code m) (enumerate_from 0 m.atoms) i none 0 (omega (arith, length-enumerate_from 0 m.atoms))
    ∙ ap (code m) (get_or-enumerate_from 0 m.atoms i none within)
    ∙ ap (λ (k : ℕ). code m (k, get_or m.atoms i x)) (omega arith) ∙ ap (λ (y : Atom). code m (i, y)) same

pub same_code : (x y : Atom) → IsAlike x y → atom_code x ≡ atom_code y
same_code x y like =
    let one = like.number in
    let two = like.isotope in
    let three = like.charge in
    let four = like.hydrogens in
    let five = like.aromatic in
    cc

code-le : (p q d e : ℕ) → p ≡ q → d ≤ e → p * 13 + d ≤ q * 13 + e
code-le p q d e same le = omega arith

square-le : (a b : ℕ) → a ≤ b → a * a ≤ b * b
square-le a b le = omega (arith, mul-le-mul_left a le, mul-le-mul_left b le)

codes-le : (m n : Molecule) (f g : ℕ → ℕ) → IsMolecule m → IsMap m n f g → (i : ℕ) → i < length (codes m)
    → get_or (codes m) i 0 ≤ get_or (codes n) (f i) 0
codes-le m n f g is all i within =
    let inside : i < length m.atoms = subst (λ k. i < k) (codes-long m) within in
    let at : (x : Atom) → slice_get m.atoms i ≡ Some x → get_or (codes m) i 0 ≤ get_or (codes n) (f i) 0 = λ x read.
    let to = all.alike i x read in
    let one = codes-at m i x read in
    let two = codes-at n (f i) to.0 to.1 in
    let le = code-le (atom_code x) (atom_code to.0) (degree (ends_of m) i) (degree (ends_of n) (f i))
    (same_code x to.0 to.2) (degree-le m n f g is all i) in
    subst (λ k. k ≤ get_or (codes n) (f i) 0) (sym one) (subst (λ k. code m (i, x) ≤ k) (sym two) le) in
    let none : Atom = record { number = 0; isotope = 0; charge = pos 0; hydrogens = 0; aromatic = false; valence = 0 } in
    at (get_or m.atoms i none) (slice_get-get_or m.atoms i none inside)

codes-one : (m n : Molecule) (f g : ℕ → ℕ) → IsMap m n f g → IsOneToOne (length (codes m)) (length (codes n)) f
codes-one m n f g all = record {
  within = λ i h. subst (λ k. f i < k) (sym (codes-long n)) (all.within i (subst (λ k. i < k) (codes-long m) h));
  apart = λ i j h l same. sym (all.back i) ∙ ap g same ∙ all.back j;
}

sum-le : (m n : Molecule) (f g : ℕ → ℕ) → IsMolecule m → IsMap m n f g → sum (codes m) ≤ sum (codes n)
sum-le m n f g is all = sums-le f (codes m) (codes n) (codes-one m n f g all) (codes-le m n f g is all)

squares-le : (m n : Molecule) (f g : ℕ → ℕ) → IsMolecule m → IsMap m n f g
    → sum (map (λ c. c * c) (codes m)) ≤ sum (map (λ c. c * c) (codes n))
squares-le m n f g is all =
    let square : ℕ → ℕ = λ c. c * c in
    let one = codes-one m n f g all in
    let long : (k : Molecule) → length (map square (codes k)) ≡ length (codes k) = λ k. length-map (codes k) square in
    sums-le f (map square (codes m)) (map square (codes n)) (record {
      within = λ i h. subst (λ k. f i < k) (sym (long n)) (one.within i (subst (λ k. i < k) (long m) h));
      apart = λ i j h l same. sym (all.back i) ∙ ap g same ∙ all.back j;
    }) (λ i h.
    let inside : i < length (codes m) = subst (λ k. i < k) (long m) h in
    let left : get_or (map square (codes m)) i 0 ≡ square (get_or (codes m) i 0) =
    get_or-map square (codes m) i 0 0 inside in
    let right : get_or (map square (codes n)) (f i) 0 ≡ square (get_or (codes n) (f i) 0) =
    get_or-map square (codes n) (f i) 0 0 (one.within i inside) in
    subst (λ k. k ≤ get_or (map square (codes n)) (f i) 0) (sym left)
    (subst (λ k. square (get_or (codes m) i 0) ≤ k) (sym right)
    (square-le (get_or (codes m) i 0) (get_or (codes n) (f i) 0) (codes-le m n f g is all i inside))))

equal : (a b : ℕ) → a ≤ b → b ≤ a → a ≡ b
equal a b one two = omega arith

equal_keys : (k l : Key) → k.atoms ≡ l.atoms → k.bonds ≡ l.bonds → k.sum ≡ l.sum → k.squares ≡ l.squares → k ≡ l
equal_keys k l one two three four =
    ap (λ (n : ℕ). let key : Key = record { atoms = n; bonds = k.bonds; sum = k.sum; squares = k.squares } in key) one
    ∙ ap (λ (n : ℕ). let key : Key = record { atoms = l.atoms; bonds = n; sum = k.sum; squares = k.squares } in key) two
    ∙ ap (λ (n : ℕ). let key : Key = record { atoms = l.atoms; bonds = l.bonds; sum = n; squares = k.squares } in key)
    three
    ∙ ap (λ (n : ℕ). let key : Key = record { atoms = l.atoms; bonds = l.bonds; sum = l.sum; squares = n } in key) four

-- molecules that are the same have equal keys
pub same-keys : (m n : Molecule) (k l : Key) → IsMolecule m → IsMolecule n → IsSame m n → IsKey m k → IsKey n l → k ≡ l
same-keys m n k l is too same one two =
    let to = as_map m n is same in
    let f : ℕ → ℕ = to.0 in
    let g : ℕ → ℕ = to.1 in
    let all : IsMap m n f g = to.2 in
    let back : IsMap n m g f = map-back m n f g is all in
    equal_keys k l (one.atoms ∙ same.atoms ∙ sym two.atoms) (one.bonds ∙ same.bonds ∙ sym two.bonds)
    (one.sum_of ∙ equal (sum (codes m)) (sum (codes n)) (sum-le m n f g is all) (sum-le n m g f too back)
    ∙ sym two.sum_of)
    (one.squares ∙ equal (sum (map (λ c. c * c) (codes m))) (sum (map (λ c. c * c) (codes n)))
    (squares-le m n f g is all) (squares-le n m g f too back) ∙ sym two.squares)
