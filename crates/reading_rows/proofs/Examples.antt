-- A sketch that passes the test of the examples is sound.
use Rattle.std.proofs.Common.{ℕ, ◌<◌, ◌≤◌, ◌≡◌, ◌≢◌, true, false, not, eqb, nat_le, nat_lt, ◌||◌, List, [], ◌∷◌, length, get_or, All, sym, ◌∙◌, inl, inr, arith}
use Rattle.std.specs.Prelude.{ℤ, pos, negsuc, neg_ℤ, ◌≤ℤ◌}
use Rattle.std.specs.List.{AllPairs, list_all}
use Rattle.std.proofs.lemmas.Bool.{and_parts, not-true, leb-true, ltb-true, eqb-false, eq-eqb, and_from, or_left, or_right, false≢true}
use Rattle.std.proofs.lemmas.Int.{ints}
use Rattle.std.proofs.lemmas.List.{length-map}
use Rattle.std.proofs.lemmas.List.Elements.{All-map, All-cons, All-nil}
use Rattle.std.proofs.lemmas.List.Kept.{AllPairs-cons}
use Rattle.std.proofs.lemmas.List.Sums.{AllPass-from_list_all, count_by-le-length}
use Rattle.chem_core.specs.declared.sketch.SketchAtom.{SketchAtom}
use Rattle.chem_core.specs.declared.sketch.SketchBond.{SketchBond}
use Rattle.chem_core.specs.declared.sketch.Fill.{Fill}
use Rattle.chem_core.specs.declared.sketch.Fill.TheVariants.{Given, Organic, Table, Fixed}
use Rattle.chem_core.specs.Sketch.{SketchTerm}
use Rattle.chem_core.specs.Sound.{IsSound, IsSketchAtom, IsFill, ends_among}
use Rattle.reading_rows.specs.Small.{is_small, is_small_atom, is_small_charge, is_small_fill, are_small_bonds, joins_same}
use Rattle.valence.proofs.Staying.{Apart, once-from_apart}

charge-low : (z : ℤ) → is_small_charge z ≡ true → neg_ℤ (pos 15) ≤ℤ z
charge-low (pos n) h = let le = leb-true n 15 h in omega (arith, ints)
charge-low (negsuc n) h = let lt = ltb-true n 15 h in omega (arith, ints)

charge-high : (z : ℤ) → is_small_charge z ≡ true → z ≤ℤ pos 15
charge-high (pos n) h = let le = leb-true n 15 h in omega (arith, ints)
charge-high (negsuc n) h = omega (arith, ints)

fill-valid : (f : Fill) → is_small_fill f ≡ true → IsFill f
fill-valid Given h = tt
fill-valid Organic h = tt
fill-valid (Table radicals) h = leb-true radicals 2 h
fill-valid (Fixed valence) h = leb-true valence 15 h

atom-valid : (x : SketchAtom) → is_small_atom x ≡ true → IsSketchAtom x × (x.hydrogens ≤ 9)
atom-valid x h =
    let p = and_parts (nat_le x.number 103) _ h in
    let q = and_parts (nat_le x.isotope 999) _ p.1 in
    let r = and_parts (is_small_charge x.charge) _ q.1 in
    let s = and_parts (is_small_fill x.fill) (nat_le x.hydrogens 9) r.1 in
    let few : x.hydrogens ≤ 9 = leb-true x.hydrogens 9 s.1 in (
      record {
        number = leb-true x.number 103 p.0;
        isotope = leb-true x.isotope 999 q.0;
        lowest_charge = charge-low x.charge r.0;
        highest_charge = charge-high x.charge r.0;
        fill = fill-valid x.fill s.0;
        hydrogens = omega arith;
      },
      few,
    )

apart-by_test : (b c : SketchBond) → not (joins_same b c) ≡ true → Apart b c
apart-by_test b c h same =
    let differ : joins_same b c ≡ false = not-true (joins_same b c) h in
    let agree : joins_same b c ≡ true = elim same [
      | inl q ↦ or_left _ _ (and_from (eqb b.a c.a) (eqb b.b c.b) (eq-eqb b.a c.a q.0) (eq-eqb b.b c.b q.1))
      | inr q ↦ or_right _ _ (and_from (eqb b.a c.b) (eqb b.b c.a) (eq-eqb b.a c.b q.0) (eq-eqb b.b c.a q.1))
    ] in
    false≢true (sym differ ∙ agree)

abbrev IsBond : ℕ → SketchBond → Type 0
IsBond n b = (b.a < n) × (b.b < n) × (b.a ≢ b.b)

bonds-valid : (n : ℕ) (bs : List SketchBond) → are_small_bonds n bs ≡ true → All (IsBond n) bs × AllPairs Apart bs
bonds-valid n [] h = (All-nil (IsBond n), λ i j d lt within. absurd (omega arith))
bonds-valid n (b ∷ bs) h =
    let p = and_parts (nat_lt b.a n) _ h in
    let q = and_parts (nat_lt b.b n) _ p.1 in
    let r = and_parts (not (eqb b.a b.b)) _ q.1 in
    let s = and_parts (list_all (λ c. not (joins_same b c)) bs) (are_small_bonds n bs) r.1 in
    let rest = bonds-valid n bs s.1 in
    let later = AllPass-from_list_all (λ c. not (joins_same b c)) bs s.0 in (
      All-cons (IsBond n) b bs (ltb-true b.a n p.0, ltb-true b.b n q.0, eqb-false b.a b.b (not-true (eqb b.a b.b) r.0))
          rest.0,
      AllPairs-cons Apart b bs (λ k d l. apart-by_test b (get_or bs k d) (later k d l)) rest.1,
    )

pub small-sound : (s : SketchTerm) → is_small s.atoms s.bonds ≡ true → IsSound s × All (λ a. a.hydrogens ≤ 9) s.atoms
small-sound s h =
    let p = and_parts (nat_le (length s.atoms) 999) _ h in
    let q = and_parts (nat_le (length s.bonds) 12) _ p.1 in
    let r = and_parts (list_all is_small_atom s.atoms) (are_small_bonds (length s.atoms) s.bonds) q.1 in
    let atoms = AllPass-from_list_all is_small_atom s.atoms r.0 in
    let bonds = bonds-valid (length s.atoms) s.bonds r.1 in
    let long = length-map {B = ℕ × ℕ} s.bonds (λ b. (b.a, b.b)) in
    let few = leb-true (length s.bonds) 12 q.0 in (
      record {
        graph = record {
          few_atoms = leb-true (length s.atoms) 999 p.0;
          few_bonds = omega (arith, long, few);
          few_neighbours = λ a. omega (
            arith,
            long,
            few,
            count_by-le-length (λ (e : ℕ × ℕ). eqb e.0 a || eqb e.1 a)
                (ends_among s.bonds),
          );
          in_range = All-map (λ (e : ℕ × ℕ). (e.0 < length s.atoms) × (e.1 < length s.atoms))
              (λ (b : SketchBond). (b.a, b.b)) s.bonds (λ k d l. let b = bonds.0 k d l in (b.0, b.1));
          distinct = All-map (λ (e : ℕ × ℕ). e.0 ≢ e.1) (λ (b : SketchBond). (b.a, b.b)) s.bonds (λ k d l.
              (bonds.0 k d l).2);
          once = once-from_apart s.bonds bonds.1;
        };
        each = λ k d l. (atom-valid (get_or s.atoms k d) (atoms k d l)).0;
      },
      λ k d l. (atom-valid (get_or s.atoms k d) (atoms k d l)).1,
    )
