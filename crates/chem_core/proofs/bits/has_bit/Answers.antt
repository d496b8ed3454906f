use Rattle.std.proofs.Common.{◌≡◌, ◌≤◌, ◌/◌, length, get_or, sym, ◌∙◌}
use Rattle.std.proofs.lemmas.Bool.{false≢true}
use Rattle.chem_core.proofs.Prints.{bit_read, bit_past}
use Rattle.chem_core.proofs.bits.has_bit.Goals as goal

pub returns-in-Some : goal.returns-in-Some
returns-in-Some c =
    let found = c.in-Some.ensures.lookup in
    let is : c.in-Some.word.now ≡ get_or c.args.words.now (c.args.bit / 64) 0 = rw c.from.ensures at (found.3.1 0) in
    let read = bit_read c.args.words.now c.args.bit c.in-Some.word.now is in
    (λ h. sym read ∙ h, λ h. read ∙ h)

pub returns-in-None : goal.returns-in-None
returns-in-None c =
    let none = c.in-None.ensures.lookup in
    let past : length c.args.words.now ≤ c.args.bit / 64 = rw c.from.ensures at (none.3) in
    (λ h. absurd (false≢true h), λ h. absurd (false≢true (sym (bit_past _ _ past) ∙ h)))
