-- For private clauses alone: the watches with the room of their lists.
use Rattle.std.specs.Prelude.{◌<◌, Bool, length, List, map, nat_lt, Option, ℕ}
use Rattle.std.specs.List.{list_all, position_from}
use Rattle.watch_list.specs.Watches.{Watch, is_named}

-- a watch, and the number of hits for which there is room
pub record EntryTerm : Type 0 where
  pub watch : Watch
  pub room : ℕ

-- for one hit more
abbrev pub HasRoom : EntryTerm → Type 0
HasRoom e = length e.watch.hits < e.room

abbrev pub all_have_room : List EntryTerm → Bool
all_have_room entries = list_all (λ e. nat_lt (length e.watch.hits) e.room) entries

abbrev pub watches_in : List EntryTerm → List Watch
watches_in entries = map (λ e. e.watch) entries

-- the place of the watch of a name
abbrev pub place_of : List ℕ → List EntryTerm → Option ℕ
place_of name entries = position_from (λ e. is_named name e.watch) 0 entries
