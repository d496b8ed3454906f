use Rattle.smarts_parse.specs.Pattern.{term_of}
use Rattle.smarts_parse.specs.Sound.{NamesBelow}
use Rattle.matcher.proofs.Joins.{All-image}
use Rattle.matcher.proofs.Places.{get_map}
use Rattle.matcher.proofs.Truths.{truth_whole}
use Rattle.matcher.proofs.candidates.place_truth.Goals as goal

pub truth-requires-clause-names : goal.truth-requires-clause-names
truth-requires-clause-names c = All-image (NamesBelow 64) term_of c.args.task.now.graph.now.atoms.items
    c.args.place c.index-expr.result.now c.requires.place c.index-expr.ensures c.requires.ready.searchable.names

pub returns : goal.returns
returns c =
    let task = c.args.task.now in
    truth_whole task c.args.block c.args.place c.all_in-within.result c.truth.result (term_of c.index-expr.result.now)
    (λ i l r. (c.all_in-within.ensures i l).1 r)
    (get_map term_of task.graph.now.atoms.items c.args.place c.index-expr.result.now c.requires.place c.index-expr.ensures)
    c.truth.ensures
