use Rattle.std.proofs.Common.{◌≡◌, ◌<◌, ◌++◌, arith, ap, length, refl, slice_index, subst, sym}
use Rattle.std.proofs.lemmas.List.{length-map}
use Rattle.smarts_parse.specs.Pattern.{graph_of, term_of}
use Rattle.matcher.proofs.refusal.stays_within.Goals as goal

pub returns : goal.returns
returns c = λ _ rest e.
    let few : c.args.place < length (graph_of c.args.task.now.graph.now).atoms = subst (λ n. c.args.place < n)
    (sym (length-map c.args.task.now.graph.now.atoms.items term_of)) c.requires.place in
    let size : length (c.args.front.now ++ rest) ≡ length (graph_of c.args.task.now.graph.now).atoms = e.one_each in
    let within : slice_index (c.args.front.now ++ rest) c.args.place < length c.args.task.now.mol.now.atoms = e.in_range
    c.args.place 0 (omega arith) in
    c.loop-atom.invariant (slice_index (c.args.front.now ++ rest) c.args.place)
    (omega (arith, within, ap length c.atoms.ensures.value, c.loop-atom-test.false)) rest e refl
