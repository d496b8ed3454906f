-- For private clauses alone: records that wait to be shared with a page.
use Rattle.std.specs.Prelude.{◌≡◌, ◌++◌, List, [], ◌∷◌, map, None, Option, Some}
use Rattle.std.specs.Arc.{arc_value}
use Rattle.std.specs.Borrow.{Bor}
use Rattle.store_core.specs.Records.{RecordTerm, Shared}

-- the records that are present
abbrev pub present : List (Option (Bor Shared)) → List Shared
present [] = []
present (None ∷ rs) = present rs
present (Some r ∷ rs) = r.now ∷ present rs

abbrev pub values : List Shared → List RecordTerm
values records = map (λ r. arc_value r) records

-- a page has the first of these, and after success all of them
pub record HasFirst (page : List Shared) (records : List Shared) : Type 0 where
  pub rest : List RecordTerm
  pub is : values page ++ rest ≡ values records
