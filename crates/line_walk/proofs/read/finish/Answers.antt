use Rattle.line_walk.proofs.Closing.{graph_read, no_graph}
use Rattle.line_walk.proofs.read.finish.Goals as goal

pub returns-then-not-are_paired : goal.returns-then-not-are_paired
returns-then-not-are_paired g c placed holds =
    no_graph g.N.Notation.words placed c.args.reader holds (λ h. let k = c.are_paired.ensures.1 h in let f =
    c.if-not-are_paired.true in cc)

pub returns : goal.returns
returns g c placed holds =
    let paired = c.are_paired.ensures.0 c.if-not-are_paired.false in (
      graph_read g.N.Notation.words placed c.args.reader c.graph_of.result holds paired.0 paired.1
          c.graph_of.ensures.atoms c.graph_of.ensures.links,
      c.graph_of.ensures.depth,
    )
