use Rattle.chem_core.proofs.Prints.{length-bits_of, bits_from_words, words_from_bits}
use Rattle.chem_core.proofs.print.Print.holds.Goals as goal

pub returns-clause-value : goal.returns-clause-value
returns-clause-value c =
    rw (← c.self.view_is, ← c.need.view_is) (
      λ h. bits_from_words _ _ (c.covers.ensures.value.0 h),
      λ h. c.covers.ensures.value.1 (words_from_bits _ _ c.covers.ensures.range h),
    )

pub returns-clause-length : goal.returns-clause-length
returns-clause-length c = rw (← c.self.view_is, length-bits_of, c.self.told)
