-- For callers: the disk faults that a drill's lines allow. Reopenings cut a drill into parts, in each of which failures
-- are set anew.
use Rattle.std.specs.Prelude.{◌≡◌, ◌⊎◌, ◌≤◌, ◌+◌, ℕ, Option, None, Some, count_by}
use Rattle.session_acts.specs.Cursors.{Calls}
use Rattle.drill_core.specs.Faults.{is_disk_fault}
use Rattle.drill_run.specs.Lines.{DrillLine, Empty, Session, Stop, Fail, Reopen}

-- the counts of a part of a drill so far: lines `stop` and `stop-b`, lines `fail` and `fail-b`, and events that were
-- answered by a disk fault
pub record Tally : Type 0 where
  pub stops : ℕ
  pub fails : ℕ
  pub faults : ℕ

abbrev pub nothing_set : Tally
nothing_set = record { stops = 0; fails = 0; faults = 0 }

abbrev pub faults_in : Calls → ℕ
faults_in calls = count_by (λ c. is_disk_fault c.1) calls

-- the counts after a line
abbrev pub tally_after : Tally → Option DrillLine → Calls → Tally
tally_after t (Some Empty) calls = t
tally_after t (Some (Session number line)) calls = record t { faults = t.faults + faults_in calls }
tally_after t (Some (Stop disk calls_left)) calls = record t { stops = t.stops + 1 }
tally_after t (Some (Fail disk call)) calls = record t { fails = t.fails + 1 }
tally_after t (Some (Reopen image)) calls = nothing_set
tally_after t None calls = t

-- `more` further events may be answered by a disk fault: 0, any number after a stop, or a number with which the faults
-- do not exceed the failures set
abbrev pub MayFail : Tally → ℕ → Type 0
MayFail t more = (more ≡ 0) ⊎ ((1 ≤ t.stops) ⊎ (t.faults + more ≤ t.fails))
