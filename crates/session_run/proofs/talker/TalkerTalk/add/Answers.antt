use Rattle.std.proofs.Common.{refl}
use Rattle.io_edge.specs.Lines.{Whole}
use Rattle.session_run.proofs.Talked.{adds, part_open}
use Rattle.session_run.proofs.talker.TalkerTalk.add.Goals as goal

pub add-requires : goal.add-requires
add-requires g c = let r = c.requires in (r.2, r.4.holds, part_open r.2 r.5)

pub returns : goal.returns
returns g c = adds g.S.Service c.args.self.now _ (Whole c.args.line.now) c.add.result refl refl c.add.ensures
