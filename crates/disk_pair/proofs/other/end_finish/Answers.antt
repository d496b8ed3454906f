use Rattle.std.proofs.Common.{◌≡◌, true}
use Rattle.disk_pair.specs.declared.other.Other.TheVariants.{Idle}
use Rattle.disk_pair.proofs.other.end_finish.Goals as goal

pub returns-in-Idle-default-true : goal.returns-in-Idle-default-true
returns-in-Idle-default-true g c =
    let e : c.args.other ≡ Idle c.in-Idle-default-true.disk true =
    cc (c.in-Idle-default-true.is, c.in-Idle-default-true.doubtful-test) in
    rw e c.end_doubt.ensures
