use Rattle.std.proofs.Common.{◌∙◌, sym, slice_get}
use Rattle.chem_core.proofs.Codes.{has-symbol}
use Rattle.chem_core.proofs.symbols.Symbols.word.Goals as goal

pub returns : goal.returns
returns c atoms _ are i low =
    let equal = c.equal_to.ensures i low in
    let read = are.codes i low in
    let symbol = has-symbol (slice_get atoms i) c.args.number c.args.aromatic c.if-number-gt-MOST_NUMBER.false in (
      λ set. symbol.0 (sym read ∙ equal.0 set ∙ c.code.ensures),
      λ has. equal.1 (read ∙ symbol.1 has ∙ sym c.code.ensures),
    )
