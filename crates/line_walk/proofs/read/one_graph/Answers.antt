use Rattle.line_walk.proofs.Graphs as graphs
use Rattle.line_walk.proofs.read.one_graph.Goals as goal

pub returns : goal.returns
returns g c entries xs ys p q = graphs.one_graph g.N.Notation.words.agreed entries xs ys p q
