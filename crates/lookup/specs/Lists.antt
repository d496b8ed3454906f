-- For callers: the lists that lookups answer, by the records of their pages.
use Rattle.std.specs.Prelude.{◌≡◌, Bool, List, length, ℕ}
use Rattle.std.specs.List.Sorted.{IsStrictlyIncreasing}
use Rattle.chem_core.specs.Molecule.{Molecule}
use Rattle.lookup.specs.Asked.{ArePicked, AreScored, IsSameAs}
use Rattle.lookup.specs.declared.hits.HitList.{HitList}
use Rattle.lookup.specs.declared.similar.SimilarList.{SimilarList}
use Rattle.similar_find.specs.Board.{AreOffers, IsBest, Offer}
use Rattle.smarts_parse.specs.Pattern.{PatternTerm}
use Rattle.store_machine.specs.Answers.{AreMatched}
use Rattle.store_machine.specs.declared.machine.Found.{Found}

-- the version, the number of records, and those of them that are the same structure
pub record IsSameList (m : Molecule) (version : ℕ) (records : List Found) (list : HitList) : Type 0 where
  pub version_is : list.version ≡ version
  pub tried : list.tried ≡ length records
  pub hits : ArePicked (IsSameAs m) records list.hits.items

-- the version, the number of records, and those of them that the pattern matches, ascending
pub record IsHitList (pattern : PatternTerm) (version : ℕ) (records : List Found) (list : HitList) : Type 0 where
  pub version_is : list.version ≡ version
  pub tried : list.tried ≡ length records
  pub hits : AreMatched pattern records list.hits.items
  pub ascending : IsStrictlyIncreasing list.hits.items

-- The version, the number of records, and the best of them: at most k that have at least p / q of the bits in common.
-- Records of one identifier, or without a bit, are no offers, and the store has none
pub record IsSimilarList (p q k : ℕ) (print : List Bool) (version : ℕ) (records : List Found) (list : SimilarList)
    : Type 0 where
  pub version_is : list.version ≡ version
  pub scored : list.scored ≡ length records
  pub p_is : list.best.p ≡ p
  pub q_is : list.best.q ≡ q
  pub most_is : list.best.most ≡ k
  pub offers : List Offer
  pub are : AreScored print records offers
  pub best : AreOffers offers → IsBest offers list.best
