use Rattle.std.proofs.Common.{length}
use Rattle.smarts_parse.specs.Embedding.{PartsHold}
use Rattle.path_print.proofs.Carries.{path_carried}
use Rattle.path_print.proofs.law.screen_law.Goals as goal

pub returns : goal.returns
returns c = λ p m need print molecule needs prints matches bit has.
    let q = (needs.bits bit).0 has in
    let path = path_carried (PartsHold p.recs m (length p.recs)) q.0 p.top m matches.0 molecule matches.1 q.1.0 q.1.1
    q.1.2 q.1.3 in
    (prints.bits bit).1 (q.0, (_, q.1.1, q.1.2, path, q.1.4))
