use Rattle.std.proofs.Common.{List, subst}
use Rattle.session_acts.specs.Cursors.{Cursor}
use Rattle.session_acts.specs.Pins.{AreHeld}
use Rattle.session_run.proofs.Talked.{closes}
use Rattle.session_run.proofs.talker.TalkerTalk.close.Goals as goal

pub close_all-requires : goal.close_all-requires
close_all-requires g c =
    let can = c.requires.1 in
    subst (λ (l : List Cursor). AreHeld (g.S.Service.holds c.args.service.now) l) can.cursors_are can.held

pub returns : goal.returns
returns g c = λ kept can. closes g.S.Service c.args.self.now c.args.service.now c.close_all.new.service kept can
    c.close_all.result c.close_all.ensures
