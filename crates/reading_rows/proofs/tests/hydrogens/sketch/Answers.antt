use Rattle.std.proofs.Common.{◌≡◌, arith, subst, sym}
use Rattle.std.proofs.lemmas.Grind.{common_steps}
use Rattle.chem_core.specs.Sound.{IsSound}
use Rattle.reading_rows.proofs.Examples.{small-sound}
use Rattle.valence.proofs.Staying.{same_sketch}
use Rattle.reading_rows.proofs.tests.hydrogens.sketch.Goals as goal

pub returns-clause-sound : goal.returns-clause-sound
returns-clause-sound c =
    let atoms : c.in_ok-to_vec.field-0.items ≡ c.args.atoms.now = grind (arith, common_steps) in
    let bonds : c.in_ok-to_vec-2.field-0.items ≡ c.args.bonds.now = grind (arith, common_steps) in
    subst IsSound (sym (same_sketch _ _ _ _ atoms bonds))
    (small-sound (record { atoms = c.args.atoms.now; bonds = c.args.bonds.now }) c.requires).0
