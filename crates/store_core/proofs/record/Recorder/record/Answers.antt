use Rattle.std.proofs.Common.{List, Ok, ℕ}
use Rattle.chem_core.specs.Molecule.{Molecule}
use Rattle.mol_finish.specs.Structure.{HasMolecule, IsAnswer}
use Rattle.mol_finish.specs.declared.fault.Format.{Format}
use Rattle.mol_finish.specs.declared.fault.Format.TheVariants as formats
use Rattle.store_core.proofs.record.Recorder.record.Goals as goal

-- an answer that is a molecule is the text's
has_molecule : (format : Format) (text : List ℕ) (m : Molecule) → IsAnswer format text (Ok m)
    → HasMolecule format text m
has_molecule formats.Smiles text m is = is
has_molecule formats.Molfile text m is = is

pub invariant_of-record : goal.invariant_of-record
invariant_of-record c = (
  record {
    id = c.requires;
    structure = rw c.in_ok-text.ensures.ok (has_molecule c.args.format c.args.text.now c.in_ok-mol.mol
        c.in_ok-mol.ensures);
    molecule = c.print_of-print.ensures.molecule;
    print = c.print_of-print.ensures.print;
  },
  c.bits_of.ensures,
)
