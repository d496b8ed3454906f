-- A copy that runs, as contracts see it. For private clauses alone.
use Rattle.std.specs.Prelude.{◌++◌, ◌<◌, List, [], ◌∷◌, map, None, Option, Some, ℕ}
use Rattle.std.specs.VecDeque.{deque_capacity, deque_len}
use Rattle.store_disk.specs.OnDisk.{CopyTerm}
use Rattle.store_disk.specs.declared.copy.Copying.{Copying}

abbrev pub copy_of : Copying → CopyTerm
copy_of c = record
    { version = c.version; from = c.from; states = c.states; commits = map (λ v. v.items) c.commits.items }

-- there is memory for one commit more
abbrev pub HasRoom : Option Copying → Type 0
HasRoom None = Unit {0}
HasRoom (Some c) = deque_len c.commits < deque_capacity c.commits

-- one that runs lacks this commit too
abbrev pub queued : List ℕ → CopyTerm → CopyTerm
queued payload c = record c { commits = c.commits ++ payload ∷ [] }
