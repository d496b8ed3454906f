-- For private clauses alone: the fetches of a lookup under way, and the facts that a visitor keeps of the records it
-- saw.
use Rattle.std.specs.Prelude.{◌≡◌, ◌++◌, [], Bool, List, Result, Ok, Err, ℕ}
use Rattle.chem_core.specs.Molecule.{IsMolecule, Molecule}
use Rattle.exact_find.specs.Key.{IsKey}
use Rattle.exact_find.specs.declared.key.Key.{Key}
use Rattle.lookup.specs.Asked.{ArePicked, AreScored, IsSameAs}
use Rattle.lookup.specs.Fetches.{AreFetches, Calls, HeldBesides, Makes, begun_calls}
use Rattle.similar_find.specs.Board.{AreOffers, Board, IsBest, Offer}
use Rattle.snap_registry.specs.declared.Pin.{Pin}
use Rattle.store_core.specs.Calls.{NotRaised, SameHeld}
use Rattle.store_core.specs.declared.service.Service as meaning
use Rattle.store_core.specs.declared.words.CallFault.{CallFault}
use Rattle.store_core.specs.declared.words.CallFault.TheVariants as call
use Rattle.store_machine.specs.Searches.{Place, At, End, fetched, records_of}
use Rattle.store_machine.specs.declared.machine.Found.{Found}

-- the head was pinned, in a slot that held no pin
pub record IsPinnedFrom {S : Type 0} (of : meaning.Ghosts S) (old new : S) (p : Pin) : Type 0 where
  pub made : Makes of old new (begun_calls p.slot p.version [])
  pub held : HeldBesides (of.holds old) p.slot p.version (of.holds new)
  pub free : (other : ℕ) → of.holds old p.slot other → ⊥
  pub bounds : NotRaised (of.bounds old) (of.bounds new)

-- fetches of a pin were made, from the beginning to a place; the same pins are held, and no bound is raised
pub record Walked {S : Type 0} (of : meaning.Ghosts S) (old new : S) (slot size : ℕ) (want : List Bool) (place : Place)
    : Type 0 where
  pub pages : Calls
  pub made : Makes of old new pages
  pub are : AreFetches slot size want (At 0) pages place
  pub held : SameHeld (of.holds old) (of.holds new)
  pub bounds : NotRaised (of.bounds old) (of.bounds new)

-- all pages were seen, and this is of their records; or memory ran out, or the service was worn
abbrev pub Walks : {S : Type 0} → meaning.Ghosts S → S → S → ℕ → ℕ → List Bool → (List Found → ℕ → Type 0)
    → Result ℕ CallFault → Type 0
Walks of old new slot size want Is (Ok n) =
    (w : Walked of old new slot size want End) × Is (records_of (fetched slot w.pages)) n
Walks of old new slot size want Is (Err call.NoMemory) = (place : Place) × Walked of old new slot size want place
Walks of old new slot size want Is (Err call.Worn) =
    (place : Place) × Walked of old new slot size want place × of.worn new

-- from one visitor to a later one these records were seen, after any others
abbrev pub Saw : {V G : Type 0} → (V → G → V → List Found → Type 0) → G → V → V → List Found → Type 0
Saw {V} has_seen given old new records = (start : V) (before : List Found) → has_seen start given old before
    → has_seen start given new (before ++ records)

-- those of these records that are the same as a molecule, whose key this is
pub record HasPicked (m : Molecule) (key : Key) (records : List Found) (hits : List ℕ) : Type 0 where
  pub molecule : IsMolecule m
  pub key_is : IsKey m key
  pub hits_are : ArePicked (IsSameAs m) records hits

-- the records were offered to a board at which nothing was before
pub record HasOffered (start : Board) (print : List Bool) (records : List Found) (board : Board) : Type 0 where
  pub p_is : board.p ≡ start.p
  pub q_is : board.q ≡ start.q
  pub most_is : board.most ≡ start.most
  pub offers : List Offer
  pub are : AreScored print records offers
  pub best : AreOffers offers → IsBest offers board
