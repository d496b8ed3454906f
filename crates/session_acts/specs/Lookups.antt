-- For callers: the calls of a lookup, and its results.
use Rattle.std.specs.Prelude.{◌≡◌, Bool, List, ℕ}
use Rattle.std.specs.List.Sorted.{IsStrictlyIncreasing}
use Rattle.chem_core.specs.Molecule.{Molecule}
use Rattle.lookup.specs.Asked.{IsEmptyPrint}
use Rattle.lookup.specs.Fetches.{AreFetches, lookup_calls}
use Rattle.lookup.specs.Lists.{IsSameList, IsSimilarList}
use Rattle.lookup.specs.declared.hits.HitList.{HitList}
use Rattle.lookup.specs.declared.similar.SimilarList.{SimilarList}
use Rattle.smarts_parse.specs.Pattern.{PatternTerm}
use Rattle.store_machine.specs.Answers.{AreMatched}
use Rattle.store_machine.specs.Structures.{IsNeedOf}
use Rattle.store_machine.specs.Searches.{At, End, Place, fetched, records_of}
use Rattle.session_acts.specs.Cursors.{Calls}

-- a pin, fetches of the wanted records by pages of a size, from the beginning to a place, and the pin is given back
pub record LooksUp (size : ℕ) (want : List Bool) (place : Place) (calls : Calls) : Type 0 where
  pub slot : ℕ
  pub version : ℕ
  pub pages : Calls
  pub made : calls ≡ lookup_calls slot version pages
  pub fetches : AreFetches slot size want (At 0) pages place

-- a lookup to its end, and the list of the records that are the same as a structure with this print
pub record FindsSame (size : ℕ) (m : Molecule) (print : List Bool) (calls : Calls) (list : HitList) : Type 0 where
  pub lookup : LooksUp size print End calls
  pub is : IsSameList m lookup.version (records_of (fetched lookup.slot lookup.pages)) list

-- a lookup of all live records, to its end, and the list of those most similar to a print
pub record FindsSimilar (size p q k : ℕ) (print : List Bool) (calls : Calls) (list : SimilarList) : Type 0 where
  pub want : List Bool
  pub none : IsEmptyPrint want
  pub lookup : LooksUp size want End calls
  pub is : IsSimilarList p q k print lookup.version (records_of (fetched lookup.slot lookup.pages)) list

-- a lookup by the bits that a pattern needs, to its end, and the hits, ascending
pub record FindsHits (size : ℕ) (pattern : PatternTerm) (calls : Calls) (version : ℕ) (hits : List ℕ) : Type 0 where
  pub want : List Bool
  pub need : IsNeedOf pattern want
  pub lookup : LooksUp size want End calls
  pub version_is : version ≡ lookup.version
  pub matched : AreMatched pattern (records_of (fetched lookup.slot lookup.pages)) hits
  pub ascending : IsStrictlyIncreasing hits
