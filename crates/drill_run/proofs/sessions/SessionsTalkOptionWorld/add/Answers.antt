use Rattle.std.proofs.Common.{false, refl}
use Rattle.io_edge.specs.Lines.{Whole}
use Rattle.drill_run.proofs.Asked.{adds}
use Rattle.drill_run.proofs.sessions.SessionsTalkOptionWorld.add.Goals as goal

pub returns : goal.returns
returns c = adds c.args.self.now (Whole c.args.arg2.now) false refl
