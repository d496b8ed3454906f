-- The bytes that a source gives, and a source in memory. For callers.
use Rattle.std.specs.Prelude.{ℕ, Option, Bool, List, length, drop, min, ◌==◌, if◌then◌else◌}
use Rattle.std.specs.List.{list_any}
use Rattle.std.specs.Io.KnownBytes.{Consumes}
use Rattle.io_edge.specs.Faults.{counted}
use Rattle.io_edge.specs.declared.sources.Take.{Take}
use Rattle.io_edge.specs.declared.sources.Take.TheVariants.{Bytes, End, Failed}

-- The bytes that were left are these and then those left now, if they are known. Known bytes stay known.
abbrev pub Leaves : Option (List ℕ) → List ℕ → Option (List ℕ) → Type 0
Leaves old bytes new = Consumes old new bytes

-- the number of bytes that were moved
abbrev pub number_of : Take → ℕ
number_of (Bytes n) = n
number_of End = 0
number_of Failed = 0

-- P holds of the number of bytes, if bytes were moved
abbrev pub IfBytes : Take → (ℕ → Type 0) → Type 0
IfBytes (Bytes n) P = P n
IfBytes End P = Unit {0}
IfBytes Failed P = Unit {0}

-- P holds if the end was met
abbrev pub OnEnd : Take → Type 0 → Type 0
OnEnd (Bytes n) P = Unit {0}
OnEnd End P = P
OnEnd Failed P = Unit {0}

-- P holds if the take failed
abbrev pub OnFailed : Take → Type 0 → Type 0
OnFailed (Bytes n) P = Unit {0}
OnFailed End P = Unit {0}
OnFailed Failed P = P

-- A source in memory: the bytes that are left, the most that it gives at once, and the numbers of the takes that fail.
-- Then the number of takes, and of those that failed.
pub record Feed : Type 0 where
  pub left : List ℕ
  pub piece : ℕ
  pub fails : List ℕ
  pub takes : ℕ
  pub faults : ℕ

-- true if the next take fails
abbrev pub next_fails : Feed → Bool
next_fails feed = list_any (λ n. n == feed.takes) feed.fails

-- the answer of the next take, given this room
abbrev pub answer_of : Feed → ℕ → Take
answer_of feed room = if next_fails feed then Failed else
    (if length feed.left == 0 then End else Bytes (min (min feed.piece room) (length feed.left)))

-- the source after a take, by its answer
abbrev pub after_take : Feed → Take → Feed
after_take feed (Bytes n) = record feed { left = drop n feed.left; takes = counted feed.takes }
after_take feed End = record feed { takes = counted feed.takes }
after_take feed Failed = record feed { takes = counted feed.takes; faults = counted feed.faults }
