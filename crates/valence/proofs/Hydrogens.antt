-- How many hydrogens the tables give, and that a sketch stays sound.
use Rattle.std.proofs.Common.{ℕ, ◌+◌, ◌-◌, ◌<◌, ◌≤◌, ◌≡◌, Bool, true, false, cond, nat_le, List, [], ◌∷◌, length, map, get_or, All, Option, Some, option_map, unwrap_or, ap, sym, subst, ◌∙◌, arith, set, take, drop, ◌++◌}
use Rattle.std.specs.Prelude.{ℤ, pos, negsuc, zero, suc, find}
use Rattle.std.specs.List.{enumerate_from}
use Rattle.std.proofs.lemmas.List.{length-map, get_or-map}
use Rattle.std.proofs.lemmas.List.FromFn.{length-enumerate_from, get_or-enumerate_from}
use Rattle.chem_core.specs.declared.sketch.SketchAtom.{SketchAtom}
use Rattle.chem_core.specs.declared.sketch.Fill.{Fill}
use Rattle.chem_core.specs.declared.sketch.Fill.TheVariants.{Given, Organic, Table, Fixed}
use Rattle.chem_core.specs.Sketch.{SketchTerm}
use Rattle.chem_core.specs.Graph.{IsSimpleGraph}
use Rattle.chem_core.specs.Sound.{IsSound, IsSketchAtom, IsFill, sketch_ends}
use Rattle.valence.specs.Valence.{organic_valences, table_valences, anion_valences, cation_valences, bond_sum}
use Rattle.valence.specs.Filled.{missing, missing_aromatic, hydrogens_of, filled_atom, filled}
use Rattle.chem_core.specs.Enumerated.{written-at, written-more}

-- a list of small numbers
abbrev Small : List ℕ → Type 0
Small [] = Unit {0}
Small (v ∷ vs) = (v ≤ 6) × Small vs

record AreSmall (vs : List ℕ) : Type 0 where
  each : Small vs

small_cond : (b : Bool) (x y : List ℕ) → AreSmall x → AreSmall y → AreSmall (cond b x y)
small_cond true x y p q = p
small_cond false x y p q = q

small_none : AreSmall []
small_none = record { each = tt }

small_more : (v : ℕ) (vs : List ℕ) → v ≤ 6 → AreSmall vs → AreSmall (v ∷ vs)
small_more v vs h k = record { each = (h, k.each) }

organic-small : (n : ℕ) → AreSmall (organic_valences n)
organic-small n = search (small_cond, small_more, small_none, arith) depth 14

anion-small : (n : ℕ) → AreSmall (anion_valences n)
anion-small n = search (small_cond, small_more, small_none, arith) depth 14

cation-small : (n : ℕ) → AreSmall (cation_valences n)
cation-small n = search (small_cond, small_more, small_none, arith) depth 14

table-small : (n : ℕ) (charge : ℤ) → AreSmall (table_valences n charge)
table-small n (pos zero) = organic-small n
table-small n (pos (suc zero)) = cation-small n
table-small n (pos (suc (suc k))) = small_none
table-small n (negsuc zero) = anion-small n
table-small n (negsuc (suc k)) = small_none

left-le : (b : Bool) (v t : ℕ) (o : Option ℕ) → v ≤ 6 → unwrap_or (option_map (λ v. v - t) o) 0 ≤ 6
    → unwrap_or (option_map (λ v. v - t) (cond b (Some v) o)) 0 ≤ 6
left-le true v t o h k = omega arith
left-le false v t o h k = k

missing-le : (vs : List ℕ) (t : ℕ) → AreSmall vs → missing vs t ≤ 6
missing-le [] t h = omega arith
missing-le (v ∷ vs) t h = left-le (nat_le t v) v t (find (λ v. nat_le t v) vs) h.each.0
    (missing-le vs t (record { each = h.each.1 }))

missing_aromatic-le : (vs : List ℕ) (t : ℕ) → AreSmall vs → missing_aromatic vs t ≤ 6
missing_aromatic-le [] t h = omega arith
missing_aromatic-le (v ∷ vs) t h = let le : v ≤ 6 = h.each.0 in omega arith

by_case : (b : Bool) (m n : ℕ) → m ≤ 6 → n ≤ 6 → elim b [ true ↦ m | false ↦ n ] ≤ 15
by_case true m n p q = omega arith
by_case false m n p q = omega arith

hydrogens_of-le : (most : ℕ) (fill : Fill) (atom : SketchAtom) (t : ℕ) → 15 ≤ most → IsFill fill
    → atom.hydrogens ≤ most → hydrogens_of fill atom t ≤ most
hydrogens_of-le most Given atom t least valid few = few
hydrogens_of-le most Organic atom t least valid few =
    let le = by_case atom.lower _ _ (missing_aromatic-le _ t (organic-small atom.number))
    (missing-le _ t (organic-small atom.number)) in
    omega arith
hydrogens_of-le most (Table radicals) atom t least valid few =
    omega (arith, missing-le _ (t + radicals) (table-small atom.number atom.charge))
hydrogens_of-le most (Fixed valence) atom t least valid few = omega arith

-- one more atom has its hydrogens
pub fill-more : (sums : List ℕ) (xs ys : List SketchAtom) (i h : ℕ) (d : SketchAtom) → i < length xs
    → ys ≡ map (λ p. filled_atom (get_or sums p.0 0) p.1) (enumerate_from 0 (take i xs)) ++ drop i xs
    → h ≡ hydrogens_of (get_or ys i d).fill (get_or ys i d) (get_or sums i 0)
    → set ys i (record (get_or ys i d) { hydrogens = h }) ≡ map (λ p. filled_atom (get_or sums p.0 0) p.1)
    (enumerate_from 0 (take (i + 1) xs)) ++ drop (i + 1) xs
fill-more sums xs ys i h d within is counted =
    let f : ℕ × SketchAtom → SketchAtom = λ p. filled_atom (get_or sums p.0 0) p.1 in
    let same : get_or ys i d ≡ get_or xs i d = ap (λ zs. get_or zs i d) is ∙ written-at f xs i d within in
    let new : record (get_or ys i d) { hydrogens = h } ≡ f (i, get_or xs i d) =
    ap (λ n. record (get_or ys i d) { hydrogens = n }) counted ∙ ap (filled_atom (get_or sums i 0)) same in
    ap (λ zs. set zs i (record (get_or ys i d) { hydrogens = h })) is
    ∙ ap (λ v. set (map f (enumerate_from 0 (take i xs)) ++ drop i xs) i v) new ∙ written-more f xs i d within

length-filled : (s : SketchTerm) → length (filled s).atoms ≡ length s.atoms
length-filled s = length-map (enumerate_from 0 s.atoms) (λ p. filled_atom (bond_sum s p.0) p.1)
    ∙ length-enumerate_from 0 s.atoms

filled-at : (s : SketchTerm) (k : ℕ) (d : SketchAtom) → k < length s.atoms → get_or (filled s).atoms k d
    ≡ filled_atom (bond_sum s k) (get_or s.atoms k d)
filled-at s k d h =
    let f : ℕ × SketchAtom → SketchAtom = λ p. filled_atom (bond_sum s p.0) p.1 in
    let within : k < length (enumerate_from 0 s.atoms) = omega (arith, length-enumerate_from 0 s.atoms) in
    let z : 0 + k ≡ k = omega arith in
    get_or-map f (enumerate_from 0 s.atoms) k (0, d) d within ∙ ap f (get_or-enumerate_from 0 s.atoms k (0, d) h
    ∙ ap (λ n. (n, get_or s.atoms k d)) z)

pub filled-few : (s : SketchTerm) → IsSound s → All (λ a. a.hydrogens ≤ 9) s.atoms
    → All (λ a. a.hydrogens ≤ 15) (filled s).atoms
filled-few s sound few k d h =
    let within : k < length s.atoms = omega (arith, length-filled s) in
    let le = few k d within in
    rw (filled-at s k d within) (hydrogens_of-le 15 _ _ _ (omega arith) (sound.each k d within).fill (omega arith))

-- an atom stays one when its hydrogens change
pub with_hydrogens : (atom : SketchAtom) (n : ℕ) → IsSketchAtom atom → n ≤ 27
    → IsSketchAtom (record atom { hydrogens = n })
with_hydrogens atom n old few = record {
  number = old.number;
  isotope = old.isotope;
  lowest_charge = old.lowest_charge;
  highest_charge = old.highest_charge;
  fill = old.fill;
  hydrogens = few;
}

pub filled-sound : (s : SketchTerm) → IsSound s → IsSound (filled s)
filled-sound s sound = record {
  graph = subst (λ n. IsSimpleGraph n (sketch_ends s)) (sym (length-filled s)) sound.graph;
  each = λ k d h.
      let within : k < length s.atoms = omega (arith, length-filled s) in
      let old = sound.each k d within in
      let atom : SketchAtom = get_or s.atoms k d in
      let le = hydrogens_of-le 27 atom.fill atom (bond_sum s k) (omega arith) old.fill old.hydrogens in
      subst IsSketchAtom (sym (filled-at s k d within))
      (with_hydrogens atom (hydrogens_of atom.fill atom (bond_sum s k)) old le);
}
