use Rattle.std.proofs.Common.{◌<◌, arith, subst, sym}
use Rattle.std.proofs.lemmas.List.{length-map}
use Rattle.smarts_parse.specs.Pattern.{graph_of, term_of}
use Rattle.matcher.proofs.Leans.{none_used, single_read}
use Rattle.matcher.proofs.Near.{no_first}
use Rattle.matcher.proofs.lean.place_from.Goals as goal

pub extend_at-requires-clause-first : goal.extend_at-requires-clause-first
extend_at-requires-clause-first c = λ d lt.
    absurd (no_first (graph_of c.args.task.now.graph.now) c.args.task.now.steps.now c.requires.ready
    (subst (λ n. 0 < n) (sym (length-map c.args.task.now.graph.now.atoms.items term_of)) c.requires.some) lt)

pub place_at-requires-clause-first : goal.place_at-requires-clause-first
place_at-requires-clause-first c = λ d lt.
    absurd (no_first (graph_of c.args.task.now.graph.now) c.args.task.now.steps.now c.requires.ready
    (subst (λ n. 0 < n) (sym (length-map c.args.task.now.graph.now.atoms.items term_of)) c.requires.some) lt)

pub place_at-requires-clause-used : goal.place_at-requires-clause-used
place_at-requires-clause-used c = none_used

pub place_at-requires-clause-single : goal.place_at-requires-clause-single
place_at-requires-clause-single c = single_read c.args.task.now 0 c.index-group.result.now c.requires.ready c.requires.some
    c.index-group.ensures (omega arith)
