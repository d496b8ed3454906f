-- For private clauses alone: the open cursors, read off their map in order of opening.
use Rattle.std.specs.Prelude.{◌≡◌, ℕ, List, get_or, map, Vec}
use Rattle.std.specs.List.{remove}
use Rattle.std.specs.declared.alloc.Global.{Global}
use Rattle.session_run.specs.Walks.{IsNamedAt}
use Rattle.session_run.specs.declared.cursors.Cursor as rust
use Rattle.session_run.specs.declared.cursors.Cursors.{Cursors}
use Rattle.session_run.specs.declared.listing.Walk.{Walk}

-- the cursor of an entry
abbrev pub named : Vec ℕ Global × Walk → rust.Cursor
named e = record { name = e.0; walk = e.1 }

abbrev pub opened : Cursors → List rust.Cursor
opened cursors = map named cursors.by_name.entries

-- the cursor of the name was removed, and the others keep their order
pub record IsTaken (name : List ℕ) (old : List rust.Cursor) (c : rust.Cursor) (new : List rust.Cursor) : Type 0 where
  pub place : ℕ
  pub named_at : IsNamedAt old name place
  pub is : c ≡ get_or old place c
  pub left : new ≡ remove old place
