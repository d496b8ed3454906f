use Rattle.std.proofs.Common.{◌≡◌, ◌++◌, length}
use Rattle.session_acts.specs.Cursors.{Calls, unpins}
use Rattle.session_acts.specs.Pins.{AreHeld}
use Rattle.session_run.specs.Made.{Uses}
use Rattle.session_run.specs.Opened.{opened}
use Rattle.session_run.specs.Walks.{cursors_of}
use Rattle.session_run.proofs.cursors.Cursors.close_all.Given as goal

abbrev pub invariant-loop-cursor : goal.invariant-loop-cursor
invariant-loop-cursor g l = record {
  made : (calls : Calls) × Uses g.S.Service l.fn.service l.service calls
      × (unpins (cursors_of (opened l.fn.self)) ≡ calls ++ unpins (cursors_of (opened l.self)));
  held : AreHeld (g.S.Service.holds l.service) (cursors_of (opened l.self));
}

abbrev pub decreases-loop-cursor : goal.decreases-loop-cursor
decreases-loop-cursor g l = length (opened l.self)
