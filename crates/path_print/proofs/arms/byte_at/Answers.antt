use Rattle.std.proofs.Common.{Some, get_or, sym, ap, ◌∙◌}
use Rattle.chem_core.specs.declared.mol.Bond.{Bond}
use Rattle.chem_core.specs.declared.mol.BondKind.TheVariants.{Single}
use Rattle.path_print.specs.Prints.{kind_byte}
use Rattle.path_print.proofs.Molecules.{joined_byte}
use Rattle.path_print.proofs.arms.byte_at.Goals as goal

pub returns : goal.returns
returns c family x y joins =
    let d : Bond = record { a = 0; b = 0; kind = Single } in
    joined_byte c.args.mol.now family c.args.bond x y d c.bonds.ensures.valid joins
    ∙ ap Some (ap (λ k. kind_byte (get_or c.args.mol.now.bonds k d).kind) (sym c.from.ensures)
    ∙ ap (λ xs. kind_byte (get_or xs c.from.result d).kind) (sym c.bonds.ensures.value)
    ∙ sym c.byte_of.ensures)
