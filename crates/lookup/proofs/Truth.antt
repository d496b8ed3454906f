-- What lookups list is what the history has.
use Rattle.std.proofs.Common.{◌≡◌, ◌≤◌, ◌↔◌, ◌∙◌, Bool, inl, inr, List, [], ◌∷◌, map, Some, subst, sym, ℕ}
use Rattle.std.proofs.lemmas.List.{length-map}
use Rattle.std.specs.FinMap.{get}
use Rattle.std.specs.List.Sorted.{IsStrictlyIncreasing}
use Rattle.chem_core.specs.Bits.{HasBit, set_bits}
use Rattle.chem_core.specs.Molecule.{IsMolecule, Molecule}
use Rattle.exact_find.specs.Same.{IsSame}
use Rattle.mol_finish.specs.Structure.{HasMolecule, IsStructureOf}
use Rattle.mol_finish.specs.declared.fault.Format.{Format}
use Rattle.path_print.specs.Prints.{IsPrint}
use Rattle.similar_find.specs.Board.{Offer}
use Rattle.store_machine.specs.Answers.{AreAnswers, AreFound, AreTried, ids}
use Rattle.store_machine.specs.History.{snapshot}
use Rattle.store_machine.specs.Searches.{fetched, records_of}
use Rattle.store_machine.specs.Structures.{HasPrintBit, IsScreened}
use Rattle.store_machine.specs.declared.machine.Found.{Found}
use Rattle.store_machine.specs.declared.machine.History.{History}
use Rattle.store_machine.specs.declared.machine.Status.TheVariants.{Live}
use Rattle.store_machine.proofs.Picks.{Picks, found-tried, picked-answers, rising-from}
use Rattle.lookup.specs.Asked.{ArePicked, AreScored, IsSameAs}
use Rattle.lookup.specs.Truths.{AreAllOffered, SamesAreAnswers, SimilarsAreAnswers}
use Rattle.lookup.proofs.Parting.{Laws, all_found}
use Rattle.lookup.proofs.Picked.{OneStructure}
use Rattle.lookup.proofs.Scored.{are-offers, scored-all, scored-ids, scored-length, scored-only}

-- structures of texts are molecules
abbrev pub AreMolecules : Type 0
AreMolecules = (format : Format) (text : List ℕ) (m : Molecule) → HasMolecule format text m → IsMolecule m

abbrev pub HaveEqualPrints : Type 0
HaveEqualPrints = (m n : Molecule) → IsMolecule m → IsMolecule n → IsSame m n
    → (bit : ℕ) → HasPrintBit m bit ↔ HasPrintBit n bit

abbrev pub HaveBits : Type 0
HaveBits = (text : List ℕ) (m : Molecule) (print : List Bool) → IsStructureOf text m → IsPrint m print
    → 1 ≤ set_bits print

picks : (Asked : Format → List ℕ → Type 0) (rs : List Found) (hits : List ℕ) → ArePicked Asked rs hits
    → Picks Asked rs hits
picks Asked [] hits m = m
picks Asked (r ∷ rs) hits (inl m) = inl (m.0, m.1, m.2, picks Asked rs m.1 m.3)
picks Asked (r ∷ rs) hits (inr m) = inr (m.0, picks Asked rs hits m.1)

pub sames-are-answers : Laws → AreMolecules → HaveEqualPrints → SamesAreAnswers
sames-are-answers laws molecules prints s t size slot version pages m print list run is_m print_is l =
    let rs = records_of (fetched slot pages) in
    let found = all_found laws s t size print slot version pages run in
    let screened : (format : Format) (text : List ℕ) → IsSameAs m format text → IsScreened print format text =
    λ format text same. (
      same.0,
      same.1,
      λ bit has. (prints m same.0 is_m (molecules format text same.0 same.1) same.2 bit).0 ((print_is bit).0 has),
    ) in
    record {
      are = subst (λ (v : ℕ). AreAnswers (IsSameAs m) t.history v list.hits.items) (sym l.version_is)
          (picked-answers (IsSameAs m) print t.history version rs list.hits.items screened found
          (picks (IsSameAs m) rs list.hits.items l.hits));
      screened = ids rs;
      all = subst (λ (v : ℕ). AreTried t.history v print (ids rs)) (sym l.version_is)
          (found-tried print t.history version rs found);
      count = l.tried ∙ sym (length-map rs (λ (r : Found). r.id));
    }

all-offered : OneStructure → (want print : List Bool) (h : History) (v : ℕ) (rs : List Found) (offers : List Offer)
    → ((bit : ℕ) → HasBit want bit → ⊥) → AreFound (IsScreened want) (snapshot h v) rs → AreScored print rs offers
    → AreAllOffered print h v offers
all-offered one want print h v rs offers empty f scored = record {
  ascending = subst IsStrictlyIncreasing (sym (scored-ids print rs offers scored)) f.ascending;
  only = λ o c.
      let w = scored-only print rs offers o scored c in
      let live = (f.only w.0 w.1).0 in
      record {
        version = live.0;
        format = w.0.format;
        text = w.0.text;
        state = subst (λ (k : ℕ). get (snapshot h v) k ≡ Some (Live live.0 w.0.format w.0.text)) w.2 live.1;
        scored = w.3;
      };
  all = λ o a.
      let r : Found = record { id = o.0; format = a.format; text = a.text } in
      let screened : IsScreened want r.format r.text =
      (a.scored.molecule, a.scored.structure, λ bit has. absurd (empty bit has)) in
      scored-all one print rs offers r o.1 o.2 scored (f.all r (a.version, a.state) screened) a.scored;
}

pub similars-are-answers : Laws → OneStructure → HaveBits → SimilarsAreAnswers
similars-are-answers laws one bits s t size slot version p q k pages want text m print list run empty structure
    print_is l =
    let rs = records_of (fetched slot pages) in
    let found = all_found laws s t size want slot version pages run in
    let up = subst IsStrictlyIncreasing (sym (scored-ids print rs l.offers l.are)) found.ascending in
    record {
      p_is = l.p_is;
      q_is = l.q_is;
      most_is = l.most_is;
      offers = l.offers;
      are = subst (λ (v : ℕ). AreAllOffered print t.history v l.offers) (sym l.version_is)
          (all-offered one want print t.history version rs l.offers empty.none found l.are);
      best = l.best (are-offers print (bits text m print structure print_is) print_is.size 0 rs l.offers l.are
          (rising-from (map (λ (o : Offer). o.0) l.offers) up));
      count = l.scored ∙ sym (scored-length print rs l.offers l.are);
    }
