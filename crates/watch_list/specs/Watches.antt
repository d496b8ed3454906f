-- For callers: the watches of a session, as contracts see them.
use Rattle.std.specs.Prelude.{◌≢◌, ◌≤◌, ◌+◌, ◌-◌, ◌^◌, AllPairs, Bool, find, if◌then◌else◌, length, List, map, min, not, Option, ℕ}
use Rattle.std.specs.Borrow.{Bor}
use Rattle.std.specs.Str.{bytes_eq}
use Rattle.smarts_parse.specs.declared.pattern.Pattern.{Pattern}
use Rattle.watch_list.specs.declared.list.TheConstants.{MOST_WATCHES}

-- a watch: its name, its pattern, the version of its list, the list of its hits, and the number of other lists that it
-- was given
pub record Watch : Type 0 where
  pub name : List ℕ
  pub pattern : Pattern
  pub version : ℕ
  pub hits : List ℕ
  pub fills : ℕ

-- the watches in the order in which they were added, and whether memory is reserved for one more change
pub record WatchesTerm : Type 0 where
  pub watches : List Watch
  pub reserved : Bool

-- at most MOST_WATCHES watches, with distinct names
pub record AreWatches (watches : List Watch) : Type 0 where
  pub few : length watches ≤ MOST_WATCHES
  pub distinct : AllPairs (λ x y. x ≢ y) (map (λ w. w.name) watches)

abbrev pub is_named : List ℕ → Watch → Bool
is_named name w = bytes_eq w.name name

abbrev pub is_other : List ℕ → Watch → Bool
is_other name w = not (is_named name w)

-- the watch of a name, if there is one
abbrev pub watch_of : List ℕ → List Watch → Option Watch
watch_of name watches = find (is_named name) watches

-- a watch with another list, of this version. The count of lists stays at the last number of 32 bits.
abbrev pub refilled : ℕ → List ℕ → Watch → Watch
refilled version hits w = record w { version = version; hits = hits; fills = min (w.fills + 1) (2 ^ 32 - 1) }

-- the watch of a name with this list of this version; any other as it is
abbrev pub filled : List ℕ → ℕ → List ℕ → Watch → Watch
filled name version hits w = if is_named name w then refilled version hits w else w

-- the version and the list of a watch, and an answer that has them
abbrev pub list_of : Watch → ℕ × List ℕ
list_of w = (w.version, w.hits)

abbrev pub answered : ℕ × Bor (List ℕ) → ℕ × List ℕ
answered r = (r.0, r.1.now)
