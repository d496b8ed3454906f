-- For callers: ends that were served in one part of a hall's history.
use Rattle.std.specs.Prelude.{◌≡◌, ◌⊎◌, ◌+◌, ◌<◌, ◌≤◌, List, [], ◌∷◌, ◌++◌, length, slice_index_or, zero, suc, ℕ}
use Rattle.io_edge.specs.declared.sinks.Sink as put
use Rattle.io_edge.specs.declared.sources.Source as taken
use Rattle.session_run.specs.declared.settings.Settings.{Settings}
use Rattle.store_machine.specs.Runs.{IsCalm, IsRun, calls_of}
use Rattle.store_machine.specs.declared.machine.State.{State}
use Rattle.store_machine.specs.declared.machine.Step.{Step}
use Rattle.turn_gate.specs.Numbers.{has, own}
use Rattle.hall.specs.Desks.{IsAt, IsWorn}
use Rattle.hall.specs.Passes.{by, known}
use Rattle.hall.specs.declared.hall.HallPass.{HallPass}
use Rattle.serve_ends.specs.Ends.{EndServed}
use Rattle.serve_ends.specs.declared.end.End.{End}
use Rattle.serve_ends.specs.declared.status.TheConstants.{WORN}

-- numbers one after another, from one on
abbrev pub numbers_from : ℕ → ℕ → List ℕ
numbers_from first zero = []
numbers_from first (suc count) = numbers_from first count ++ (first + count) ∷ []

-- The events that the pass has seen since are one part of the run of its hall, without a crash. The pass gained a
-- number for each end, in their order, and each end was served by the calls of its number in that part. Each step is of
-- an end's number. An end is worn only if the hall's turns were all taken
pub record Serving {D S K : Type 0} (source : taken.Ghosts S) (sink : put.Ghosts K) (settings : Settings)
    (old new : HallPass D) (before after : List (End S K)) : Type 0 where
  pub steps : List Step
  pub seen : (known new).seen ≡ (known old).seen ++ steps
  pub from : State
  pub to : State
  pub begins : IsAt old from
  pub ends : IsAt new to
  pub run : IsRun from steps to
  pub calm : IsCalm steps
  pub origin : (known new).origin ≡ (known old).origin
  pub numbers : (known new).numbers ≡ (known old).numbers ++ numbers_from (known old).given (length before)
  pub given : (known new).given ≡ (known old).given + length before
  pub turns : (known new).turns ≡ (known old).turns
  pub count : length after ≡ length before
  pub each : (i : ℕ) (d : End S K) → i < length before
      → EndServed source sink settings (slice_index_or before i d) (slice_index_or after i d)
      (calls_of (has (((known old).given + i) ∷ [])) steps)
  pub worn : (i : ℕ) (d : End S K) → i < length before → (slice_index_or after i d).status ≡ WORN → IsWorn new
  pub others : (n : ℕ) → (n < (known old).given) ⊎ ((known old).given + length before ≤ n) → own by (n ∷ []) steps ≡ []
