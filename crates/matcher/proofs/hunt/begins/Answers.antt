use Rattle.std.proofs.Common.{ap, arith, length}
use Rattle.std.proofs.lemmas.List.{length-map}
use Rattle.smarts_parse.specs.Pattern.{term_of}
use Rattle.matcher.proofs.hunt.begins.Goals as goal

pub has-requires : goal.has-requires
has-requires c =
    let few = c.requires.ready.searchable.few in
    omega (arith, few, c.requires.few, length-map c.args.task.now.graph.now.atoms.items term_of)

pub fits-requires-clause-holds : goal.fits-requires-clause-holds
fits-requires-clause-holds c = c.requires.candidates.held _ _ c.requires.few
    (omega (arith, ap length c.atoms.ensures.value))
    (c.has.ensures.0 c.if-not-has.false)
