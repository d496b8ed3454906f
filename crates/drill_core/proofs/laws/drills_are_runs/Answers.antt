use Rattle.drill_core.proofs.Drills.{drills-begin, drills-call, drills-fail, drills-reopen, drills-stop, faults-are-set}
use Rattle.drill_core.proofs.laws.drills_are_runs.Goals as goal

pub returns : goal.returns
returns c = record {
  begins = drills-begin;
  calls = drills-call c.runs_join.ensures.runs c.disk_faults_are_counted.ensures;
  fails = drills-fail;
  stops = drills-stop;
  reopens = drills-reopen c.runs_join.ensures.runs;
  faults = faults-are-set;
}
