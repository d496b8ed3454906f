use Rattle.std.proofs.Common.{◌∙◌, sym, replicate}
use Rattle.std.proofs.lemmas.Bool.{false≢true}
use Rattle.chem_core.proofs.Prints.{length-bits_of, no_bit}
use Rattle.chem_core.proofs.print.Print.empty.Goals as goal

pub returns-clause-length : goal.returns-clause-length
returns-clause-length c = length-bits_of (replicate 16 0)

pub returns-clause-none : goal.returns-clause-none
returns-clause-none c = λ bit h. false≢true (sym (no_bit 16 bit) ∙ h)
