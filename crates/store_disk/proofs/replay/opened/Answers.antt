use Rattle.store_core.specs.Stored.{served}
use Rattle.store_machine.specs.declared.machine.State.{State}
use Rattle.store_disk.proofs.Opened.{at-rest, keeps-none, opened-after, rested}
use Rattle.store_disk.proofs.replay.opened.Goals as goal
use Rattle.std.proofs.Common.{refl}

pub returns : goal.returns
returns c = λ s h none pins.
    let p = c.prune_but.ensures.pruned s h.stands (keeps-none s none) in
    let t : State = record s { kept = p.left } in (
      rested t c.args.commits 0 s.faults,
      at-rest _ t c.args.commits 0 s.faults (c.limit_to.ensures.stands (served t) p.stands),
      refl,
      opened-after c.prune_but.new.self s c.args.commits c.prune_but.result none pins p,
    )
