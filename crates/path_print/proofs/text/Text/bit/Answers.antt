use Rattle.std.proofs.Common.{◌∙◌}
use Rattle.path_print.proofs.Digits.{bit-there, bit-back}
use Rattle.path_print.proofs.text.Text.bit.Goals as goal

pub returns-then-self-clause-value : goal.returns-then-self-clause-value
returns-then-self-clause-value c =
    let i = c.self.inside in
    let inside = c.self.invariant in
    rw (← c.self.view_is) (c.bit_from.ensures.value
    ∙ bit-back i.length i.there i.back i.back_sum inside.there_fits inside.back_fits inside.back_hash c.if-self.true)

pub returns-else-self-clause-value : goal.returns-else-self-clause-value
returns-else-self-clause-value c =
    let i = c.self.inside in
    let inside = c.self.invariant in
    rw (← c.self.view_is) (c.bit_from-else-self.ensures.value
    ∙ bit-there i.length i.there i.back i.there_sum inside.there_fits inside.back_fits inside.there_hash
    c.if-self.false)
