use Rattle.std.proofs.Common.{◌∙◌, sym}
use Rattle.chem_core.proofs.Sorts.{class-there, no_atom}
use Rattle.chem_core.proofs.sort_counts.class_in.Goals as goal

pub returns-clause-value : goal.returns-clause-value
returns-clause-value c =
    let class = rw (c.from-2.ensures, c.from.ensures) at c.class.ensures.value in
    class ∙ sym (class-there c.args.atoms.now c.args.place no_atom c.requires)
