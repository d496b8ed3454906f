use Rattle.std.proofs.Common.{◌≡◌, false, length}
use Rattle.std.specs.List.{AllByRecursion}
use Rattle.molfile_read.specs.Properties.{settings_read, property_lines, is_ended}
use Rattle.molfile_read.specs.Parts.{IsSetting}
use Rattle.molfile_read.proofs.Steps.{with_front}
use Rattle.molfile_read.proofs.property.read_properties.Given as goal

abbrev pub invariant-loop-at : goal.invariant-loop-at
invariant-loop-at l = record {
  read : with_front l.settings.items (settings_read l.atoms (property_lines false l.lines))
      ≡ settings_read l.atoms (property_lines false l.fn.lines);
  ended : is_ended false l.lines ≡ is_ended false l.fn.lines;
  range : AllByRecursion (IsSetting l.atoms) l.settings.items;
}

abbrev pub decreases-loop-at : goal.decreases-loop-at
decreases-loop-at l = length l.lines
