use Rattle.disk_pair.proofs.Calls.{was}
use Rattle.disk_pair.proofs.pair.Pair.end_finish.Goals as goal

pub returns-clause-ends : goal.returns-clause-ends
returns-clause-ends g c =
    let inside = c.self.inside in
    rw (was c.args.self.now inside.journal inside.second inside.other c.in-Some.other c.self.view_is
    (cc (c.take.ensures.value, c.in-Some.is))) c.end_finish-other.ensures
