use Rattle.std.proofs.Common.{◌≡◌, ◌∙◌, length, sym}
use Rattle.chem_core.proofs.Prints.{length-bits_of}
use Rattle.chem_core.proofs.Shared.{united}
use Rattle.chem_core.proofs.print.Print.unite.Goals as goal

pub returns-clause-value : goal.returns-clause-value
returns-clause-value c =
    let same : length c.self.inside.words ≡ length c.other.inside.words = c.self.told ∙ sym c.other.told in
    rw (← c.self.view_is, ← c.other.view_is)
    (united c.self.inside.words c.unite.new.words c.other.inside.words c.unite.ensures.length same c.unite.ensures.value)

pub returns-clause-length : goal.returns-clause-length
returns-clause-length c = rw (length-bits_of, c.unite.ensures.length, c.self.told)
