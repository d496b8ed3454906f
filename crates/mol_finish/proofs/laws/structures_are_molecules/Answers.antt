use Rattle.mol_finish.proofs.Molecules.{structures-molecules}
use Rattle.mol_finish.proofs.laws.structures_are_molecules.Goals as goal

pub returns : goal.returns
returns c =
    structures-molecules
    (record {
      smiles = c.readings_are_sound.ensures.sound;
      smiles_few = c.readings_are_sound.ensures.few_hydrogens;
      molfile = c.readings_are_sound-2.ensures.sound;
      molfile_few = c.readings_are_sound-2.ensures.few_hydrogens;
      fills = c.sound_stays.ensures.filled;
      fills_few = c.sound_stays.ensures.few;
      suppresses = c.sound_stays.ensures.suppressed;
    })
