-- A search by the fetches of one pin: its place, and the records of its pages. Calls of a fetch that found no memory
-- are no pages.
use Rattle.std.specs.Prelude.{drop, length, nat_le, take, ◌≡◌, ◌+◌, ◌++◌, ◌==◌, Bool, List, [], ◌∷◌, false, filter_map, if◌then◌else◌, None, Option, Some, ℕ}
use Rattle.store_machine.specs.Answers.{from_on}
use Rattle.store_machine.specs.declared.machine.Event.{Event}
use Rattle.store_machine.specs.declared.machine.Event.TheVariants.{Fetch, Unpin}
use Rattle.store_machine.specs.declared.machine.Found.{Found}
use Rattle.store_machine.specs.declared.machine.Reply.{Reply}
use Rattle.store_machine.specs.declared.machine.Reply.TheVariants.{Page}

-- a fetch that was answered by a page
pub record Fetched : Type 0 where
  pub want : List Bool
  pub from : ℕ
  pub limit : ℕ
  pub records : List Found
  pub last : Bool

abbrev pub page_in : ℕ → Event → Reply → Option Fetched
page_in slot (Fetch pin want from limit) (Page records last) =
    if pin == slot then Some (record { want = want; from = from; limit = limit; records = records; last = last })
    else None
page_in slot _ _ = None

abbrev pub fetched : ℕ → List (Event × Reply) → List Fetched
fetched slot calls = filter_map (λ c. page_in slot c.0 c.1) calls

-- the pages' records, one page after the other
abbrev pub records_of : List Fetched → List Found
records_of [] = []
records_of (f ∷ fs) = f.records ++ records_of fs

-- no call gives the pin back
abbrev pub unpins : ℕ → Event → Bool
unpins slot (Unpin pin) = pin == slot
unpins slot _ = false

abbrev pub KeepsPin : ℕ → List (Event × Reply) → Type 0
KeepsPin slot [] = Unit {0}
KeepsPin slot (c ∷ cs) = (unpins slot c.0 ≡ false) × KeepsPin slot cs

-- the place of a search: at the identifier that it fetches from next, or at its end
pub data Place : Type 0 where
  At : (from : ℕ) → Place
  End : Place

-- one past the last identifier
abbrev pub past : ℕ → List Found → ℕ
past from [] = from
past from (r ∷ rs) = past (r.id + 1) rs

abbrev pub place_after : Fetched → Place
place_after f = if f.last then End else At (past f.from f.records)

-- the pages are those of a search for the wanted bits, from one place to another: each begins where the one before it
-- ended
abbrev pub IsSearch : List Bool → Place → List Fetched → Place → Type 0
IsSearch want place [] place' = place' ≡ place
IsSearch want place (f ∷ fs) place' = (place ≡ At f.from) × (f.want ≡ want) × IsSearch want (place_after f) fs place'

-- the records that a search has yet to give
abbrev pub ahead : Place → List Found → List Found
ahead (At from) records = from_on from records
ahead End records = []

-- the pages are a list's pieces of one size, and the first that leaves nothing over says so
abbrev pub ArePieces : ℕ → List Found → List Fetched → Type 0
ArePieces size records [] = Unit {0}
ArePieces size records (f ∷ fs) = (f.records ≡ take size records) × (f.last ≡ nat_le (length records) size)
    × ArePieces size (drop size records) fs
