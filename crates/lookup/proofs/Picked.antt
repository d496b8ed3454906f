-- Those of some records of whose texts something holds, with more records behind them.
use Rattle.std.proofs.Common.{◌≡◌, ◌++◌, ap, append-nil, ◌∙◌, inl, inr, List, [], ◌∷◌, refl, subst, sym, ℕ}
use Rattle.chem_core.specs.Molecule.{Molecule}
use Rattle.exact_find.specs.Key.{IsKey}
use Rattle.exact_find.specs.Same.{IsSame}
use Rattle.mol_finish.specs.Structure.{HasMolecule}
use Rattle.mol_finish.specs.declared.fault.Format.{Format}
use Rattle.store_core.specs.Records.{RecordTerm, found_of}
use Rattle.store_machine.specs.declared.machine.Found.{Found}
use Rattle.exact_find.specs.declared.key.Key.{Key}
use Rattle.lookup.specs.Asked.{ArePicked, IsSameAs}
use Rattle.lookup.specs.Walks.{HasPicked}

-- a text has one structure
abbrev pub OneStructure : Type 0
OneStructure = (format : Format) (text : List ℕ) (m n : Molecule) → HasMolecule format text m
    → HasMolecule format text n → m ≡ n

picked-append : (Asked : Format → List ℕ → Type 0) (xs ys : List Found) (hits more : List ℕ)
    → ArePicked Asked xs hits → ArePicked Asked ys more → ArePicked Asked (xs ++ ys) (hits ++ more)
picked-append Asked [] ys hits more m n = subst (λ (l : List ℕ). ArePicked Asked ys (l ++ more)) (sym m) n
picked-append Asked (x ∷ xs) ys hits more (inl m) n =
    inl (m.0, m.1 ++ more, ap (λ l. l ++ more) m.2, picked-append Asked xs ys m.1 more m.3 n)
picked-append Asked (x ∷ xs) ys hits more (inr m) n = inr (m.0, picked-append Asked xs ys hits more m.1 n)

-- one record more, which is the same
pub picked-on : (m : Molecule) (key key' : Key) (xs : List Found) (r : RecordTerm) (hits new : List ℕ) (id : ℕ)
    → HasMolecule r.format r.text r.mol → IsSame m r.mol → key' ≡ key → id ≡ r.id → new ≡ hits ++ id ∷ []
    → HasPicked m key xs hits → HasPicked m key' (xs ++ found_of r ∷ []) new
picked-on m key key' xs r hits new id structure same k e f p = record {
  molecule = p.molecule;
  key_is = subst (IsKey m) (sym k) p.key_is;
  hits_are =
      subst (λ (l : List ℕ). ArePicked (IsSameAs m) (xs ++ found_of r ∷ []) l) (sym f)
      (subst (λ (n : ℕ). ArePicked (IsSameAs m) (xs ++ found_of r ∷ []) (hits ++ n ∷ [])) (sym e)
      (picked-append (IsSameAs m) xs (found_of r ∷ []) hits (r.id ∷ []) p.hits_are
      (inl ((r.mol, structure, same), [], refl, refl))));
}

-- or which is not
pub passed-by : OneStructure → (m : Molecule) (key key' : Key) (xs : List Found) (r : RecordTerm) (hits new : List ℕ)
    → HasMolecule r.format r.text r.mol → (IsSame m r.mol → ⊥) → key' ≡ key → new ≡ hits → HasPicked m key xs hits
    → HasPicked m key' (xs ++ found_of r ∷ []) new
passed-by one m key key' xs r hits new structure other k e p =
    let none : IsSameAs m r.format r.text → ⊥ = λ s.
    other (subst (λ (n : Molecule). IsSame m n) (one r.format r.text s.0 r.mol s.1 structure) s.2) in
    record {
      molecule = p.molecule;
      key_is = subst (IsKey m) (sym k) p.key_is;
      hits_are =
          subst (λ (l : List ℕ). ArePicked (IsSameAs m) (xs ++ found_of r ∷ []) l) (append-nil hits ∙ sym e)
          (picked-append (IsSameAs m) xs (found_of r ∷ []) hits [] p.hits_are (inr (none, refl)));
    }
