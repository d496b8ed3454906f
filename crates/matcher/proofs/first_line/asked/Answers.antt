use Rattle.std.proofs.Common.{length}
use Rattle.smarts_parse.specs.Embedding.{PartsHold}
use Rattle.smarts_parse.specs.Pattern.{pattern_of}
use Rattle.matcher.proofs.Counted.{graph_reaches}
use Rattle.matcher.proofs.first_line.asked.Goals as goal

pub returns : goal.returns
returns c m have are w = λ lacks.
    let p = pattern_of c.args.pattern.now in
    graph_reaches (PartsHold p.recs m (length p.recs)) p.top m c.top.result.now w.0 have c.graph_asks.result
    c.top.ensures c.graph_asks.ensures are w.1 lacks
