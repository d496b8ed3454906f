use Rattle.session_run.proofs.Joined.{close_worn, unreturned_pin, uses-kept}
use Rattle.session_run.proofs.search.give_back.Goals as goal

pub returns-in-Ok : goal.returns-in-Ok
returns-in-Ok g c = record {
  makes = record { made = c.in-Ok.ensures.call };
  pins = record { now = c.in-Ok.ensures.held; apart = (tt, tt) };
  bounds = c.in-Ok.ensures.bounds;
}

pub returns-in-Err : goal.returns-in-Err
returns-in-Err g c = (
  uses-kept _ c.in-Err.ensures.call tt (unreturned_pin _ _ c.in-Err.ensures.held) c.in-Err.ensures.bounds,
  c.in-Err.ensures.worn.1 (close_worn _ c.in-Err.ensures.only_worn),
)
