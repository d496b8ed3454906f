-- The bytes that a sink is given, and a sink in memory. For callers.
use Rattle.std.specs.Prelude.{◌≡◌, ℕ, Option, Result, Ok, Err, Bool, true, false, List, ◌++◌, ◌==◌}
use Rattle.std.specs.List.{list_any}
use Rattle.std.specs.Io.KnownBytes.{Appends}
use Rattle.io_edge.specs.Faults.{counted}
use Rattle.io_edge.specs.declared.sinks.PutFault.{PutFault}
use Rattle.io_edge.specs.declared.sinks.PutFault.TheVariants.{Failed, NoMemory}

-- true if the put failed
abbrev pub is_failed : Result (Unit {0}) PutFault → Bool
is_failed (Ok _) = false
is_failed (Err Failed) = true
is_failed (Err NoMemory) = false

-- P holds if the put failed
abbrev pub OnFailed : Result (Unit {0}) PutFault → Type 0 → Type 0
OnFailed (Ok _) P = Unit {0}
OnFailed (Err Failed) P = P
OnFailed (Err NoMemory) P = Unit {0}

-- P holds if the put found no memory
abbrev pub OnNoMemory : Result (Unit {0}) PutFault → Type 0 → Type 0
OnNoMemory (Ok _) P = Unit {0}
OnNoMemory (Err Failed) P = Unit {0}
OnNoMemory (Err NoMemory) P = P

-- a prefix of these bytes was appended to the written ones, if those are known
abbrev pub AppendsPrefix : Option (List ℕ) → Option (List ℕ) → List ℕ → Type 0
AppendsPrefix old new bytes = (done : List ℕ) × (rest : List ℕ) × (bytes ≡ done ++ rest) × Appends old new done

-- A sink in memory: the bytes that were put, the numbers of the puts that fail, the number of puts, and of those that
-- failed.
pub record Store : Type 0 where
  pub bytes : List ℕ
  pub fails : List ℕ
  pub puts : ℕ
  pub faults : ℕ

-- true if the next put fails
abbrev pub next_fails : Store → Bool
next_fails store = list_any (λ n. n == store.puts) store.fails

-- the sink after a put of these bytes, by its answer
abbrev pub after_put : Store → List ℕ → Result (Unit {0}) PutFault → Store
after_put store bytes (Ok _) = record store { bytes = store.bytes ++ bytes; puts = counted store.puts }
after_put store bytes (Err Failed) = record store { puts = counted store.puts; faults = counted store.faults }
after_put store bytes (Err NoMemory) = record store { puts = counted store.puts }
