-- The atoms that are made are sound, one more at a time.
use Rattle.std.proofs.Common.{◌≡◌, ℕ, ◌+◌, ◌<◌, ◌≤◌, ◌==◌, Bool, true, false, List, [], ◌∷◌, ◌++◌, length, get_or, map, take, Option, Some, None, refl, sym, ap, ◌∙◌, arith}
use Rattle.std.proofs.lemmas.Int.{ints}
use Rattle.std.proofs.lemmas.List.{length-map}
use Rattle.std.proofs.lemmas.List.FromFn.{length-enumerate_from}
use Rattle.std.proofs.lemmas.List.Elements.{All-from_recursion}
use Rattle.std.specs.List.{enumerate_from, AllByRecursion}
use Rattle.std.specs.Option.{IfSome}
use Rattle.std.specs.Prelude.{if◌then◌else◌, unwrap_or, ℤ, pos, negsuc, neg_ℤ, ◌≤ℤ◌}
use Rattle.chem_core.specs.Enumerated.{mapped-more}
use Rattle.chem_core.specs.declared.sketch.SketchAtom.{SketchAtom}
use Rattle.chem_core.specs.declared.sketch.Fill.{Fill}
use Rattle.chem_core.specs.declared.sketch.Fill.TheVariants.{Table, Fixed}
use Rattle.chem_core.specs.Sound.{IsFill, IsSketchAtom}
use Rattle.molfile_read.specs.declared.atom.AtomLine.{AtomLine}
use Rattle.molfile_read.specs.declared.setting.Value.{Value}
use Rattle.molfile_read.specs.declared.setting.Value.TheVariants.{Charge, Radical, Isotope}
use Rattle.molfile_read.specs.declared.setting.Setting.{Setting}
use Rattle.molfile_read.specs.Properties.{charge_of, radical_of, isotope_of, last_set, sets_charges}
use Rattle.molfile_read.specs.Reading.{field_charge, field_electrons, fill_of, made_atom, sketch_atom, sketch_atoms}
use Rattle.molfile_read.specs.Parts.{IsAtomLine, IsSetting, IsValue, AreAtoms}
use Rattle.molfile_read.proofs.LastSet.{last_set_holds}

abbrev IsCharge : ℤ → Type 0
IsCharge z = (neg_ℤ (pos 15) ≤ℤ z) × (z ≤ℤ pos 15)

charge_if : (b : Bool) (x y : ℤ) → IsCharge x → IsCharge y → IsCharge (if b then x else y)
charge_if true x y h k = h
charge_if false x y h k = k

least_charge : IsCharge (pos 0)
least_charge = (omega (arith, ints), omega (arith, ints))

field_charge-bound : (n : ℕ) → IsCharge (field_charge n)
field_charge-bound n =
    charge_if (n == 1) (pos 3) _ (omega (arith, ints), omega (arith, ints))
    (charge_if (n == 2) (pos 2) _ (omega (arith, ints), omega (arith, ints))
    (charge_if (n == 3) (pos 1) _ (omega (arith, ints), omega (arith, ints))
    (charge_if (n == 5) (negsuc 0) _ (omega (arith, ints), omega (arith, ints))
    (charge_if (n == 6) (negsuc 1) _ (omega (arith, ints), omega (arith, ints))
    (charge_if (n == 7) (negsuc 2) (pos 0) (omega (arith, ints), omega (arith, ints)) least_charge)))))

or_else_charge : (o : Option ℤ) → IfSome o IsCharge → IsCharge (unwrap_or o (pos 0))
or_else_charge None h = least_charge
or_else_charge (Some z) h = h

or_else_le : (o : Option ℕ) (d m : ℕ) → IfSome o (λ n. n ≤ m) → d ≤ m → unwrap_or o d ≤ m
or_else_le None d m h k = k
or_else_le (Some n) d m h k = h

le_if : (b : Bool) (x y m : ℕ) → x ≤ m → y ≤ m → (if b then x else y) ≤ m
le_if true x y m h k = h
le_if false x y m h k = k

fill_if : (b : Bool) (x y : Fill) → IsFill x → IsFill y → IsFill (if b then x else y)
fill_if true x y h k = h
fill_if false x y h k = k

fill_of-bound : (valence electrons : ℕ) → valence ≤ 15 → electrons ≤ 2 → IsFill (fill_of valence electrons)
fill_of-bound valence electrons v e = fill_if (valence == 0) (Table electrons) _ e
    (fill_if (valence == 15) (Fixed 0) (Fixed valence) (omega arith) v)

made-sound : (place : ℕ) (atom : AtomLine) (b : Bool) (c : Option ℤ) (r i : Option ℕ) → IsAtomLine atom
    → IfSome c IsCharge → IfSome r (λ n. n ≤ 2) → IfSome i (λ n. n ≤ 999) → IsSketchAtom (made_atom place atom b c r i)
made-sound place atom b c r i is hc hr hi =
    let charge = charge_if b (unwrap_or c (pos 0)) (field_charge atom.charge) (or_else_charge c hc)
    (field_charge-bound atom.charge) in
    let electrons = le_if b (unwrap_or r 0) (field_electrons atom.charge) 2 (or_else_le r 0 2 hr (omega arith))
    (le_if (atom.charge == 4) 1 0 2 (omega arith) (omega arith)) in
    let least = is.isotope in
    record {
      number = is.number;
      isotope = or_else_le i atom.isotope 999 hi (omega arith);
      lowest_charge = charge.0;
      highest_charge = charge.1;
      fill = fill_of-bound atom.valence (if b then unwrap_or r 0 else field_electrons atom.charge) is.valence electrons;
      hydrogens = omega arith;
    }

charge_within : (atoms : ℕ) (s : Setting) → IsSetting atoms s → IfSome (charge_of s.value) IsCharge
charge_within atoms s h = by_value s.value h.1
  where
    by_value : (v : Value) → IsValue v → IfSome (charge_of v) IsCharge
    by_value (Charge n) k = k
    by_value (Radical n) k = tt
    by_value (Isotope n) k = tt

radical_within : (atoms : ℕ) (s : Setting) → IsSetting atoms s → IfSome (radical_of s.value) (λ n. n ≤ 2)
radical_within atoms s h = by_value s.value h.1
  where
    by_value : (v : Value) → IsValue v → IfSome (radical_of v) (λ n. n ≤ 2)
    by_value (Charge n) k = tt
    by_value (Radical n) k = k
    by_value (Isotope n) k = tt

isotope_within : (atoms : ℕ) (s : Setting) → IsSetting atoms s → IfSome (isotope_of s.value) (λ n. n ≤ 999)
isotope_within atoms s h = by_value s.value h.1
  where
    by_value : (v : Value) → IsValue v → IfSome (isotope_of v) (λ n. n ≤ 999)
    by_value (Charge n) k = tt
    by_value (Radical n) k = tt
    by_value (Isotope n) k = k

sound_atom : (n place : ℕ) (settings : List Setting) (atom : AtomLine) → AllByRecursion (IsSetting n) settings
    → IsAtomLine atom → IsSketchAtom (sketch_atom settings place atom)
sound_atom n place settings atom within is =
    made-sound place atom (sets_charges settings) (last_set charge_of place settings)
    (last_set radical_of place settings) (last_set isotope_of place settings) is
    (last_set_holds IsCharge charge_of place (IsSetting n) (charge_within n) settings within)
    (last_set_holds (λ n. n ≤ 2) radical_of place (IsSetting n) (radical_within n) settings within)
    (last_set_holds (λ n. n ≤ 999) isotope_of place (IsSetting n) (isotope_within n) settings within)

abbrev atoms_from : List Setting → ℕ → List AtomLine → List SketchAtom
atoms_from settings k atoms = map (λ p. sketch_atom settings p.0 p.1) (enumerate_from k atoms)

sound_from : (n k : ℕ) (settings : List Setting) (atoms : List AtomLine) → AllByRecursion (IsSetting n) settings
    → AllByRecursion IsAtomLine atoms → AllByRecursion IsSketchAtom (atoms_from settings k atoms)
sound_from n k settings [] within h = tt
sound_from n k settings (a ∷ as') within h = (
  sound_atom n k settings a within h.0,
  sound_from n (k + 1) settings as' within h.1,
)

few_from : (k : ℕ) (settings : List Setting) (atoms : List AtomLine)
    → AllByRecursion (λ (a : SketchAtom). a.hydrogens ≤ 9) (atoms_from settings k atoms)
few_from k settings [] = tt
few_from k settings (a ∷ as') = (omega arith, few_from (k + 1) settings as')

upper_from : (k : ℕ) (settings : List Setting) (atoms : List AtomLine)
    → AllByRecursion (λ (a : SketchAtom). a.lower ≡ false) (atoms_from settings k atoms)
upper_from k settings [] = tt
upper_from k settings (a ∷ as') = (refl, upper_from (k + 1) settings as')

pub are_atoms : (n : ℕ) (settings : List Setting) (atoms : List AtomLine) → AllByRecursion (IsSetting n) settings
    → AllByRecursion IsAtomLine atoms → length atoms ≤ 999 → AreAtoms (sketch_atoms settings atoms)
are_atoms n settings atoms within h few = (
  All-from_recursion IsSketchAtom (sketch_atoms settings atoms) (sound_from n 0 settings atoms within h),
  All-from_recursion (λ a. a.hydrogens ≤ 9) (sketch_atoms settings atoms) (few_from 0 settings atoms),
  let l = length-map {B = SketchAtom} (enumerate_from 0 atoms) (λ (p : ℕ × AtomLine). sketch_atom settings p.0 p.1) in
      let m = length-enumerate_from 0 atoms in
      omega (arith, l, m),
  All-from_recursion (λ a. a.lower ≡ false) (sketch_atoms settings atoms) (upper_from 0 settings atoms),
)

pub length-sketch_atoms : (settings : List Setting) (atoms : List AtomLine) → length (sketch_atoms settings atoms)
    ≡ length atoms
length-sketch_atoms settings atoms = length-map {B = SketchAtom} (enumerate_from 0 atoms)
    (λ (p : ℕ × AtomLine). sketch_atom settings p.0 p.1) ∙ length-enumerate_from 0 atoms

-- one more atom
pub atoms_more : (settings : List Setting) (xs : List AtomLine) (i : ℕ) (d : AtomLine) (made next : List SketchAtom)
    (one : SketchAtom) → i < length xs → made ≡ sketch_atoms settings (take i xs)
    → one ≡ sketch_atom settings i (get_or xs i d) → next ≡ made ++ one ∷ []
    → next ≡ sketch_atoms settings (take (i + 1) xs)
atoms_more settings xs i d made next one within so_far is pushed =
    pushed ∙ ap (λ ys. ys ++ one ∷ []) so_far ∙ ap (λ y. sketch_atoms settings (take i xs) ++ y ∷ []) is
    ∙ sym (mapped-more (λ p. sketch_atom settings p.0 p.1) xs i d within)
