use Rattle.std.proofs.Common.{refl}
use Rattle.io_edge.specs.Lines.{TooLong}
use Rattle.session_run.proofs.Talked.{adds, part_open}
use Rattle.session_run.proofs.talker.TalkerTalk.add_long.Goals as goal

pub add_long-requires : goal.add_long-requires
add_long-requires g c = let r = c.requires in (r.2, rw c.deref.ensures.value r.4.holds, part_open r.2 r.5)

pub returns : goal.returns
returns g c = adds g.S.Service c.args.self.now _ (TooLong c.args.size) c.add_long.result refl refl
    (rw c.deref.ensures.value at c.add_long.ensures)
