-- The structure of a SMILES has an atom, and so a bit in its print.
use Rattle.std.proofs.Common.{◌≡◌, ◌<◌, ◌≤◌, ◌==◌, ◌&&◌, ◌||◌, ◌∙◌, ap, arith, Bool, false, inl, inr, length, List, [], ◌∷◌, not, None, Ok, option_map, Option, refl, slice_get, slice_index, slice_index_or, Some, subst, sym, true, unwrap_or, ℕ}
use Rattle.std.specs.List.{enumerate_from, list_any}
use Rattle.std.proofs.lemmas.Bool.{and_parts, false≢true, or_cases}
use Rattle.std.proofs.lemmas.List.{length-map}
use Rattle.std.proofs.lemmas.Option.{slice_get_within}
use Rattle.std.proofs.lemmas.List.FromFn.{length-enumerate_from}
use Rattle.chem_core.specs.Bits.{set_bits}
use Rattle.chem_core.specs.Graph.{degree}
use Rattle.chem_core.specs.Molecule.{Molecule}
use Rattle.chem_core.specs.Sketch.{SketchTerm}
use Rattle.chem_core.specs.Sound.{sketch_ends}
use Rattle.chem_core.specs.declared.mol.Atom.{Atom}
use Rattle.chem_core.specs.declared.mol.Bond.{Bond}
use Rattle.chem_core.specs.declared.sketch.SketchAtom.{SketchAtom}
use Rattle.smiles_words.specs.Words.{smiles_words}
use Rattle.line_walk.specs.Places.{atoms_of}
use Rattle.smiles_read.specs.Reading as smiles
use Rattle.smiles_read.specs.Sketch.{numbered}
use Rattle.valence.specs.Filled.{filled, filled_atom}
use Rattle.valence.specs.Valence.{bond_sum}
use Rattle.valence.specs.Suppressed.{atom_is, gained, is_heavy, is_plain_hydrogen, is_single_kind, is_suppressed, leads_to_heavy, suppressed}
use Rattle.valence.proofs.Renumbering.{new_place-lt}
use Rattle.valence.proofs.Staying.{length-staying}
use Rattle.mol_finish.specs.Meant.{meant, meant_atom}
use Rattle.mol_finish.specs.Structure.{IsStructureOf, prepared}
use Rattle.path_print.specs.Path.{bit_of, plain}
use Rattle.path_print.specs.Prints.{IsPrint}
use Rattle.store_machine.specs.Structures.{HasPrintBit}
use Rattle.lookup.proofs.Scored.{some-bits}

abbrev is-some : {X : Type 0} → List X → Bool
is-some [] = false
is-some (x ∷ xs) = true

some : {X : Type 0} (xs : List X) → is-some xs ≡ true → 0 < length xs
some [] e = absurd (false≢true e)
some (x ∷ xs) e = omega arith

-- a SMILES has a first atom
smiles-some : (text : List ℕ) (s : SketchTerm) → smiles.IsReading text (Ok s) → 0 < length s.atoms
smiles-some text s h =
    subst (λ (l : List SketchAtom). 0 < length l) (sym h.3.atoms) (some (numbered (atoms_of smiles_words h.1)) refl)

no_and : (a b : Bool) → a ≡ false → (a && b) ≡ false
no_and true b e = absurd (false≢true (sym e))
no_and false b e = refl

not-true : (a : Bool) → not a ≡ true → a ≡ false
not-true true e = absurd (false≢true e)
not-true false e = refl

-- an atom that is no hydrogen stays
heavy-stays : (s : SketchTerm) (y : ℕ) → is_heavy s.atoms y ≡ true → (is_suppressed s y ≡ false) × (y < length s.atoms)
heavy-stays s y h =
    let k = by (slice_get s.atoms y) refl h in
    (no_and (atom_is is_plain_hydrogen s.atoms y) _ k.0, k.1)
  where
    by : (o : Option SketchAtom) → slice_get s.atoms y ≡ o
        → unwrap_or (option_map (λ (x : SketchAtom). not (x.number == 1)) o) false ≡ true
        → (unwrap_or (option_map is_plain_hydrogen o) false ≡ false) × (y < length s.atoms)
    by None at e = absurd (false≢true e)
    by (Some x) at e = (no_and (x.number == 1) _ (not-true (x.number == 1) e), slice_get_within s.atoms y x at)

any-one : {X : Type 0} (p : X → Bool) (xs : List X) → list_any p xs ≡ true → (x : X) × (p x ≡ true)
any-one p [] e = absurd (false≢true e)
any-one p (x ∷ xs) e = elim (or_cases (p x) (list_any p xs) e) [ inl h ↦ (x, h) | inr h ↦ any-one p xs h ]

-- some atom stays: a hydrogen that goes is joined to one
some-stays : (s : SketchTerm) → 0 < length s.atoms
    → (y : ℕ) × (is_suppressed s y ≡ false) × (y < length s.atoms)
some-stays s h = by (is_suppressed s 0) refl where
  by : (b : Bool) → is_suppressed s 0 ≡ b → (y : ℕ) × (is_suppressed s y ≡ false) × (y < length s.atoms)
  by false e = (0, e, h)
  by true e =
      let heavy : ℕ → Bool = λ y. is_heavy s.atoms y in
      let one : Bool = degree (sketch_ends s) 0 == 1 in
      let leads : Bool = list_any (leads_to_heavy s.atoms 0) s.bonds in
      let p = and_parts (atom_is is_plain_hydrogen s.atoms 0) (one && leads) e in
      let bond = any-one (leads_to_heavy s.atoms 0) s.bonds (and_parts one leads p.1).1 in
      let x : ℕ = bond.0.a in
      let y : ℕ = bond.0.b in
      let q = and_parts (is_single_kind bond.0.kind) (((x == 0) && heavy y) || ((y == 0) && heavy x)) bond.1 in
      elim (or_cases ((x == 0) && heavy y) ((y == 0) && heavy x) q.1) [
        | inl k ↦ let z = heavy-stays s y (and_parts (x == 0) (heavy y) k).1 in (y, z.0, z.1)
        | inr k ↦ let z = heavy-stays s x (and_parts (y == 0) (heavy x) k).1 in (x, z.0, z.1)
      ]

suppressed-some : (s : SketchTerm) → 0 < length s.atoms → 0 < length (suppressed s).atoms
suppressed-some s h =
    let k = some-stays s h in
    omega (
      arith,
      length-staying (is_suppressed s) (gained s) s.atoms,
      new_place-lt (is_suppressed s) k.0 (length s.atoms) k.1 k.2,
    )

filled-length : (s : SketchTerm) → length (filled s).atoms ≡ length s.atoms
filled-length s =
    length-map (enumerate_from 0 s.atoms) (λ p. filled_atom (bond_sum s p.0) p.1) ∙ length-enumerate_from 0 s.atoms

meant-length : (s : SketchTerm) (atoms bonds : List Bool) (valences : List ℕ)
    → length (meant s atoms bonds valences).atoms ≡ length s.atoms
meant-length s atoms bonds valences =
    length-map (enumerate_from 0 s.atoms)
    (λ p. meant_atom (slice_index_or atoms p.0 false) (slice_index valences p.0) p.1) ∙ length-enumerate_from 0 s.atoms

molecule-some : (text : List ℕ) (m : Molecule) → IsStructureOf text m → 0 < length m.atoms
molecule-some text m h =
    let s : SketchTerm = h.0 in
    let first : 0 < length (filled s).atoms = omega (arith, filled-length s, smiles-some text h.0 h.1) in
    omega (
      arith,
      suppressed-some (filled s) first,
      meant-length (prepared s) h.2.1 h.2.2 h.2.3,
      ap (λ (n : Molecule). length n.atoms) h.2.6,
    )

first-bit : (atoms : List Atom) (bonds : List Bond) → 0 < length atoms
    → (bit : ℕ) × HasPrintBit (record { atoms = atoms; bonds = bonds }) bit
first-bit [] bonds h = absurd (omega (arith, h))
first-bit (x ∷ xs) bonds h =
    let string : List ℕ = x.number ∷ 2 ∷ [] in (
      bit_of string string,
      (
        plain,
        (
          0 ∷ [],
          string,
          string,
          record {
            short = omega arith;
            distinct = λ i j d lo hi e. omega (arith, lo, hi);
            reads = refl;
            reads_back = refl;
          },
          refl,
        ),
      ),
    )

pub have-bits : (text : List ℕ) (m : Molecule) (print : List Bool) → IsStructureOf text m → IsPrint m print
    → 1 ≤ set_bits print
have-bits text m print h is =
    let b = first-bit m.atoms m.bonds (molecule-some text m h) in
    some-bits print b.0 ((is.bits b.0).1 b.1)
