use Rattle.std.proofs.Common.{refl, true}
use Rattle.io_edge.specs.Lines.{TooLong}
use Rattle.drill_run.proofs.Asked.{adds}
use Rattle.drill_run.proofs.sessions.SessionsTalkOptionWorld.add_long.Goals as goal

pub returns : goal.returns
returns c = adds c.args.self.now (TooLong c.args.arg2) true refl
