use Rattle.std.proofs.Common.{sym, ap, ◌∙◌}
use Rattle.chem_core.specs.Element.{symbols}
use Rattle.molfile_read.specs.Symbol.{element_or, hydrogen_isotope}
use Rattle.molfile_read.proofs.Symbols.{place-found, place-none}
use Rattle.molfile_read.proofs.symbol.element_of.Goals as goal

pub returns-in-Some-clause-value : goal.returns-in-Some-clause-value
returns-in-Some-clause-value c =
    sym (ap (element_or (hydrogen_isotope c.args.symbol.now)) (place-found c.args.symbol.now c.in-Some.number
    c.in-Some.ensures.some))

pub returns-in-None-clause-value : goal.returns-in-None-clause-value
returns-in-None-clause-value c =
    c.hydrogen_isotope.ensures.value
    ∙ sym (ap (element_or (hydrogen_isotope c.args.symbol.now)) (place-none symbols c.args.symbol.now 0
    c.in-None.ensures.none))
