-- Flags of records: for each, in order, whether a pattern matches it. Also the pieces into which records are cut, and
-- the room of workers.
use Rattle.std.specs.Prelude.{◌≡◌, ◌*◌, ◌↔◌, Bool, List, [], ◌∷◌, Some, drop, length, map, slice_get, take, true, ℕ}
use Rattle.std.specs.Arc.{arc_value}
use Rattle.std.specs.Int.{div_ceil}
use Rattle.smarts_parse.specs.Embedding.{Matches}
use Rattle.smarts_parse.specs.Pattern.{PatternTerm}
use Rattle.store_core.specs.Records.{Shared}

-- its flags, and the number that there is room for; the hits of its share, and the number that there is room for
pub record WorkerTerm : Type 0 where
  pub flags : List Bool
  pub room : ℕ
  pub hits : List ℕ
  pub share : ℕ

-- the number of flags, and that of hits, that each worker has room for
abbrev pub rooms : List WorkerTerm → List ℕ
rooms workers = map (λ w. w.room) workers

abbrev pub shares : List WorkerTerm → List ℕ
shares workers = map (λ w. w.share) workers

-- the room is as before, of one worker and of each of them
abbrev pub HasSameRoom : WorkerTerm → WorkerTerm → Type 0
HasSameRoom old new = (new.room ≡ old.room) × (new.share ≡ old.share)

abbrev pub HaveSameRoom : List WorkerTerm → List WorkerTerm → Type 0
HaveSameRoom old new = (rooms new ≡ rooms old) × (shares new ≡ shares old)

-- for each record, in order, whether the pattern matches it
abbrev pub AreFlags : PatternTerm → List Shared → List Bool → Type 0
AreFlags pattern [] flags = flags ≡ []
AreFlags pattern (r ∷ rs) [] = ⊥
AreFlags pattern (r ∷ rs) (flag ∷ flags) =
    ((flag ≡ true) ↔ Matches pattern (arc_value r).mol) × AreFlags pattern rs flags

-- the items of a piece: all pieces are of this size but the last, and those after it are empty
abbrev pub piece_of : {X : Type 0} → ℕ → ℕ → List X → List X
piece_of size k items = take size (drop (k * size) items)

-- each worker has the flags of its piece, if each takes an equal share of the records
abbrev pub AreFlagged : PatternTerm → List Shared → List WorkerTerm → Type 0
AreFlagged pattern records workers =
    (k : ℕ) (worker : WorkerTerm) → slice_get workers k ≡ Some worker
    → AreFlags pattern (piece_of (div_ceil (length records) (length workers)) k records) worker.flags
