-- For callers: the laws of a lookup's list. It is that of the history, whatever others did meanwhile.
use Rattle.std.specs.Prelude.{◌≡◌, ◌++◌, ℕ, Bool, Contains, List, length, map, Some}
use Rattle.std.specs.FinMap.{get}
use Rattle.std.specs.List.Sorted.{IsStrictlyIncreasing}
use Rattle.chem_core.specs.Molecule.{IsMolecule, Molecule}
use Rattle.lookup.specs.Asked.{IsEmptyPrint, IsSameAs, IsScored}
use Rattle.lookup.specs.Fetches.{AreFetches, Calls, lookup_calls}
use Rattle.lookup.specs.Lists.{IsSameList, IsSimilarList}
use Rattle.lookup.specs.declared.hits.HitList.{HitList}
use Rattle.lookup.specs.declared.similar.SimilarList.{SimilarList}
use Rattle.mol_finish.specs.Structure.{IsStructureOf}
use Rattle.mol_finish.specs.declared.fault.Format.{Format}
use Rattle.path_print.specs.Prints.{IsPrint}
use Rattle.similar_find.specs.Board.{IsBest, Offer}
use Rattle.store_machine.specs.Answers.{AreAnswers, AreTried}
use Rattle.store_machine.specs.History.{snapshot}
use Rattle.store_machine.specs.Laws.{IsSound}
use Rattle.store_machine.specs.Runs.{IsCalm, IsRun, calls_of}
use Rattle.store_machine.specs.Searches.{At, End, fetched, records_of}
use Rattle.store_machine.specs.Structures.{IsPrintOf}
use Rattle.store_machine.specs.declared.machine.History.{History}
use Rattle.store_machine.specs.declared.machine.State.{State}
use Rattle.store_machine.specs.declared.machine.Status.TheVariants.{Live}
use Rattle.store_machine.specs.declared.machine.Step.{Step}

-- The hits are the identifiers of the same structure at the list's version of the history, each once, ascending. The
-- number of tried records is that of the records that have the print in theirs
pub record AreAllSame (h : History) (m : Molecule) (print : List Bool) (list : HitList) : Type 0 where
  pub are : AreAnswers (IsSameAs m) h list.version list.hits.items
  pub screened : List ℕ
  pub all : AreTried h list.version print screened
  pub count : list.tried ≡ length screened

-- the identifier is live at the version, and its print gives the two counts with this one
pub record IsOffered (print : List Bool) (h : History) (v : ℕ) (offer : Offer) : Type 0 where
  pub version : ℕ
  pub format : Format
  pub text : List ℕ
  pub state : get (snapshot h v) offer.0 ≡ Some (Live version format text)
  pub scored : IsScored print format text offer.1 offer.2

-- all that are live at the version, each once
pub record AreAllOffered (print : List Bool) (h : History) (v : ℕ) (offers : List Offer) : Type 0 where
  pub ascending : IsStrictlyIncreasing (map (λ (o : Offer). o.0) offers)
  pub only : (offer : Offer) → Contains offers offer → IsOffered print h v offer
  pub all : (offer : Offer) → IsOffered print h v offer → Contains offers offer

-- the best are those of all that are live at the list's version of the history
pub record AreMostSimilar (h : History) (p q k : ℕ) (print : List Bool) (list : SimilarList) : Type 0 where
  pub p_is : list.best.p ≡ p
  pub q_is : list.best.q ≡ q
  pub most_is : list.best.most ≡ k
  pub offers : List Offer
  pub are : AreAllOffered print h list.version offers
  pub best : IsBest offers list.best
  pub count : list.scored ≡ length offers

-- A calm run in which these calls are a caller's own, among others: a pin, its pages to their end, and the pin is given
-- back
pub record InRun (s t : State) (size : ℕ) (want : List Bool) (slot version : ℕ) (pages : Calls) : Type 0 where
  pub steps : List Step
  pub own : ℕ → Bool
  pub before : Calls
  pub after : Calls
  pub sound : IsSound s
  pub run : IsRun s steps t
  pub calm : IsCalm steps
  pub made : calls_of own steps ≡ before ++ (lookup_calls slot version pages ++ after)
  pub fetches : AreFetches slot size want (At 0) pages End

-- the records that the pages of a structure's print list as the same are exactly those of the history
abbrev pub SamesAreAnswers : Type 0
SamesAreAnswers =
    (s t : State) (size slot version : ℕ) (pages : Calls) (m : Molecule) (print : List Bool) (list : HitList)
    → InRun s t size print slot version pages → IsMolecule m → IsPrintOf m print
    → IsSameList m version (records_of (fetched slot pages)) list → AreAllSame t.history m print list

-- the records listed as most similar to the structure of a SMILES, by the pages of an empty print, are so by the
-- history
abbrev pub SimilarsAreAnswers : Type 0
SimilarsAreAnswers =
    (s t : State) (size slot version p q k : ℕ) (pages : Calls) (want : List Bool)
    (text : List ℕ) (m : Molecule) (print : List Bool) (list : SimilarList)
    → InRun s t size want slot version pages → IsEmptyPrint want → IsStructureOf text m → IsPrint m print
    → IsSimilarList p q k print version (records_of (fetched slot pages)) list
    → AreMostSimilar t.history p q k print list
