use Rattle.std.proofs.Common.{◌-◌, ◌<◌, ◌∙◌, Some, ap, arith, get_or, length, subst, sym}
use Rattle.std.proofs.lemmas.List.{length-map}
use Rattle.std.proofs.lemmas.Option.{slice_get-get_or}
use Rattle.smarts_parse.specs.declared.pattern.AtomPrim.{AtomPrim}
use Rattle.smarts_parse.specs.declared.pattern.AtomPrim.TheVariants as atoms
use Rattle.smarts_parse.specs.Pattern.{Prim, Term, graph_of, term_of}
use Rattle.matcher.proofs.Truths.{truth_same}
use Rattle.matcher.proofs.candidates.word_at.Goals as goal

pub returns-then-step : goal.returns-then-step
returns-then-step c =
    let task = c.args.task.now in
    let exprs = (graph_of task.graph.now).atoms in
    let place = c.args.place in
    let any : Term AtomPrim = Prim atoms.Any in
    let inside : place < length exprs = subst (λ n. place < n) (sym (length-map task.graph.now.atoms.items term_of))
    c.requires.place in
    let repeat = c.requires.ready.repeats place inside c.if-step.true in
    let some : 0 < place = repeat.0 in
    truth_same task c.args.block (place - 1) place _ (get_or exprs place any)
    (slice_get-get_or exprs (place - 1) any (omega arith) ∙ ap Some (repeat.1 any))
    (slice_get-get_or exprs place any inside) (c.requires.before (place - 1) (omega arith))
